use Rattle.misp_app.proofs.Connections.{given_some, served, stopped}
use Rattle.misp_app.proofs.serving.serve_one.Goals as goal

pub returns-in-Ok-write_line-clause-served : goal.returns-in-Ok-write_line-clause-served
returns-in-Ok-write_line-clause-served g c = λ time s coming time_is at coming_is told.
    let one = served time c.args.before s coming _ _ _ _ _ _ _ _ _ _ _ _ c.session-end.result at coming_is told (given_some _ _ _ _ c.in-Some.is c.in-Ok.ensures.given) c.close.ensures.coming c.next.ensures.back c.close.ensures.back (λ p here. c.session-end.ensures.session time p time_is here) c.session-end.ensures.read c.session-end.ensures.write in
    (one.0, one.1, one.2, one.3, one.4, one.5, rw one.6 c.in-Ok-write_line.ensures.ok)

pub returns-in-Err-clause-served : goal.returns-in-Err-clause-served
returns-in-Err-clause-served g c = λ time s coming time_is at coming_is told.
    let one = served time c.args.before s coming _ _ _ _ _ _ _ _ _ _ _ _ c.session-end.result at coming_is told (given_some _ _ _ _ c.in-Some.is c.in-Ok.ensures.given) c.close.ensures.coming c.next.ensures.back c.close.ensures.back (λ p here. c.session-end.ensures.session time p time_is here) c.session-end.ensures.read c.session-end.ensures.write in
    stopped time c.args.before s one.0 coming one.1 one.2 _ _ _ _ _ _ c.in-Err.fault c.in-Err.ensures.line one.3 one.4 one.5 (rw one.6 c.in-Err.ensures.err)
