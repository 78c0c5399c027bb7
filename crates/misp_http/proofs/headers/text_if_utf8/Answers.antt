use Rattle.std.proofs.Common.{refl}
use Rattle.misp_http.proofs.Texts.{no_text}
use Rattle.misp_http.proofs.headers.text_if_utf8.Goals as goal

pub returns-in-Err : goal.returns-in-Err
returns-in-Err c = rw (no_text c.args.bytes.now c.in-Err.ensures.cases.0) refl
