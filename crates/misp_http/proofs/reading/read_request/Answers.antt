use Rattle.std.proofs.Common.{◌∙◌}
use Rattle.misp_http.proofs.Prompt.{body_there}
use Rattle.misp_http.proofs.Bodies.{request_then, end_then}
use Rattle.misp_http.proofs.reading.read_request.Goals as goal

pub returns-in-Ok-clause-read : goal.returns-in-Ok-clause-read
returns-in-Ok-clause-read g c =
    request_then _ _ _ _ c.in-Ok-Ok.head _ c.in-Ok-Ok.is c.in-Ok-Ok.field-0-is _ c.in-Ok.request c.in-Ok.is c.read_head.ensures.found c.in-Ok-Ok.ensures.keeps c.read_body.ensures.read

pub returns-in-Err-read_body-clause-read : goal.returns-in-Err-read_body-clause-read
returns-in-Err-read_body-clause-read g c =
    end_then _ _ _ _ c.in-Ok-Ok.head _ c.in-Ok-Ok.is c.in-Ok-Ok.field-0-is _ c.in-Err-read_body.end c.in-Err-read_body.is c.read_head.ensures.found c.in-Ok-Ok.ensures.keeps c.read_body.ensures.read

pub returns-in-Ok-Err-clause-unasked : goal.returns-in-Ok-Err-clause-unasked
returns-in-Ok-Err-clause-unasked g c = λ whole. (c.read_head.ensures.unasked whole.head whole.framed.head).0

pub returns-in-Err-clause-unasked : goal.returns-in-Err-clause-unasked
returns-in-Err-clause-unasked g c = λ whole. (c.read_head.ensures.unasked whole.head whole.framed.head).0

pub returns-in-Ok-clause-unasked : goal.returns-in-Ok-clause-unasked
returns-in-Ok-clause-unasked g c = λ whole.
    let still = c.read_head.ensures.unasked whole.head whole.framed.head in
    c.read_body.ensures.unasked (body_there c.args.rest.now.items c.read_head.new.rest.items _ _ c.in-Ok-Ok.head c.in-Ok-Ok.is c.in-Ok-Ok.field-0-is still.1 c.read_head.ensures.here whole) ∙ still.0

pub returns-in-Err-read_body-clause-unasked : goal.returns-in-Err-read_body-clause-unasked
returns-in-Err-read_body-clause-unasked g c = λ whole.
    let still = c.read_head.ensures.unasked whole.head whole.framed.head in
    c.read_body.ensures.unasked (body_there c.args.rest.now.items c.read_head.new.rest.items _ _ c.in-Ok-Ok.head c.in-Ok-Ok.is c.in-Ok-Ok.field-0-is still.1 c.read_head.ensures.here whole) ∙ still.0
