use Rattle.std.proofs.Common.{Err, ap, ◌∙◌, arith}
use Rattle.misp_http.proofs.Growing.{keeps_all}
use Rattle.misp_http.proofs.Bodies.{request_read, body_ends}
use Rattle.misp_http.proofs.reading.read_body.Goals as goal

pub returns-in-Err-clause-read : goal.returns-in-Err-clause-read
returns-in-Err-clause-read g c =
    body_ends _ c.read_at_least.new.rest.items _ _ c.args.head c.in-Err.end (λ is. c.read_at_least.ensures.cut (c.in-Err.is ∙ ap Err is)) c.in-Err.ensures.ends

pub returns-in_ok-take_request-in-Ok-clause-read : goal.returns-in_ok-take_request-in-Ok-clause-read
returns-in_ok-take_request-in-Ok-clause-read g c =
    request_read _ c.read_at_least.new.rest.items _ c.args.head c.in_ok-take_request-in-Ok.field-0 c.take_request-in-Ok.new.rest.items c.in-Ok.ensures.ok.0 c.in-Ok.ensures.ok.1 c.in_ok-take_request-in-Ok.ensures.request c.in_ok-take_request-in-Ok.ensures.rest

pub returns-then-len-size-clause-read : goal.returns-then-len-size-clause-read
returns-then-len-size-clause-read g c =
    request_read _ c.args.rest.now.items _ c.args.head c.in_ok-take_request.field-0 c.take_request.new.rest.items (keeps_all _) (omega (arith, c.if-len-size.true, c.len.ensures, c.args.rest.now.ok.0)) c.in_ok-take_request.ensures.request c.in_ok-take_request.ensures.rest
