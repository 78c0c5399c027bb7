use Rattle.std.proofs.Common.{refl}
use Rattle.misp_admin_rows.proofs.Texts.{no_key}
use Rattle.misp_admin_rows.proofs.reader.api_key.Goals as goal

pub returns-in-Err : goal.returns-in-Err
returns-in-Err c = rw (no_key c.args.bytes.now _ refl c.in-Err.ensures.cases.0) refl
