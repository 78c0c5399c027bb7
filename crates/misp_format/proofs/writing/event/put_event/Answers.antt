use Rattle.misp_format.specs.Written.{body_data}
use Rattle.misp_format.proofs.Texts.{printed}
use Rattle.misp_format.proofs.writing.event.put_event.Goals as goal

pub returns : goal.returns
returns c = rw (c.into_text.ensures, c.in_ok-put.ensures, c.behind-out.ensures, c.replace.ensures.value) (printed c.args.text.now.items (body_data c.args.event.now))
