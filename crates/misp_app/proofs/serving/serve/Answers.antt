use Rattle.std.proofs.Common.{[], Ok, refl, ap, ◌∙◌, inl, arith}
use Rattle.misp_http.proofs.Sending.{appends_none}
use Rattle.misp_app.proofs.Connections.{served_more, served_out, served_until}
use Rattle.misp_app.proofs.serving.serve.Goals as goal

pub loop-served-init : goal.loop-served-init
loop-served-init g c = record {
  done = λ time s coming time_is at coming_is told. (s, coming, [], (refl, refl, refl), at, coming_is, told, appends_none _);
  few = omega arith;
  time_is = refl;
  door_later = omega arith;
  write_later = omega arith;
}

pub loop-served-preserved : goal.loop-served-preserved
loop-served-preserved g c = record {
  done = λ time s coming time_is at coming_is told.
      let done = c.loop-served.invariant.done time s coming time_is at coming_is told in
      let one = c.serve_one.ensures.served time done.0 done.1 (c.loop-served.invariant.time_is ∙ time_is) done.4 done.5 done.6 in
      served_more time c.loop-served.served s done.0 coming done.1 done.2 done.3 done.6 _ _ _ done.7 _ _ _ _ c.serve_one.result (c.in-Ok-true.is ∙ ap Ok c.in-Ok-true.field-0-test) one;
  few = omega (arith, c.loop-served-test.true);
  time_is = c.serve_one.ensures.time ∙ c.loop-served.invariant.time_is;
  door_later = omega (arith, c.serve_one.ensures.door.later, c.loop-served.invariant.door_later);
  write_later = omega (arith, c.serve_one.ensures.write.later, c.loop-served.invariant.write_later);
}

pub returns-in-Ok-false-clause-served : goal.returns-in-Ok-false-clause-served
returns-in-Ok-false-clause-served g c = λ time s coming time_is at coming_is told.
    let done = c.loop-served.invariant.done time s coming time_is at coming_is told in
    let one = c.serve_one.ensures.served time done.0 done.1 (c.loop-served.invariant.time_is ∙ time_is) done.4 done.5 done.6 in
    served_out time c.loop-served.served s done.0 coming done.1 done.2 done.3 done.6 _ _ _ done.7 _ _ _ _ {U = Unit {0}} c.args.count tt c.serve_one.result c.loop-served.invariant.few (c.in-Ok-false.is ∙ ap Ok c.in-Ok-false.field-0-test) one

pub returns-in-Err-clause-served : goal.returns-in-Err-clause-served
returns-in-Err-clause-served g c = λ time s coming time_is at coming_is told.
    let done = c.loop-served.invariant.done time s coming time_is at coming_is told in
    let one = c.serve_one.ensures.served time done.0 done.1 (c.loop-served.invariant.time_is ∙ time_is) done.4 done.5 done.6 in
    served_until time c.loop-served.served s done.0 coming done.1 done.2 done.3 done.6 _ _ _ done.7 _ _ _ _ (Unit {0}) c.args.count c.in-Err.fault c.serve_one.result c.loop-served-test.true c.in-Err.is one

pub returns-clause-served : goal.returns-clause-served
returns-clause-served g c = λ time s coming time_is at coming_is told.
    let done = c.loop-served.invariant.done time s coming time_is at coming_is told in
    (c.loop-served.served, done.0, done.1, done.2, c.loop-served.invariant.few, done.3, done.4, done.5, done.7, inl (omega (arith, c.loop-served-test.false, c.loop-served.invariant.few)))
