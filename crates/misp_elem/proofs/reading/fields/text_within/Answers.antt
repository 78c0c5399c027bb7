use Rattle.misp_elem.proofs.Texts.{is_text-true, is_text-false}
use Rattle.misp_elem.proofs.reading.fields.text_within.Goals as goal

pub returns-in-Ok : goal.returns-in-Ok
returns-in-Ok c =
    (c.in-Ok.ensures.cases.0, is_text-true c.args.least c.args.most c.args.bytes.now c.if-bytes-least.false c.if-most-bytes.false c.in-Ok.ensures.cases.1)

pub returns-in-Err : goal.returns-in-Err
returns-in-Err c = is_text-false c.args.least c.args.most c.args.bytes.now c.in-Err.ensures.cases.0
