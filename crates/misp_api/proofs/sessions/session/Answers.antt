use Rattle.std.proofs.Common.{◌∙◌, refl, arith}
use Rattle.misp_api.proofs.Runs.{starts, none_of, one_more, ends_by, ends_full}
use Rattle.misp_api.proofs.sessions.session.Goals as goal

pub loop-requests-init : goal.loop-requests-init
loop-requests-init g c = record {
  ran = λ time p time_is at. (p, refl, starts _ c.buffers-buffers.result.rest.items _ _ _ p c.buffers-buffers.ensures at);
  few = omega arith;
  time_is = refl;
  read_later = omega arith;
  write_later = omega arith;
}

pub loop-requests-preserved : goal.loop-requests-preserved
loop-requests-preserved g c = record {
  ran = λ time p time_is at.
      let ran = c.loop-requests.invariant.ran time p time_is at in
      one_more time c.loop-requests.requests p ran.0 ran.1 _ _ _ _ c.is_last-last.result c.take_turn-turn.result c.end_after.result c.is_last-last.ensures c.end_after.ensures
      (c.take_turn-turn.ensures.turned time ran.0 (c.loop-requests.invariant.time_is ∙ time_is) ran.2) (none_of _ c.in_default.not-Some);
  few = omega (arith, c.loop-requests-test.true);
  time_is = c.take_turn-turn.ensures.time ∙ c.loop-requests.invariant.time_is;
  read_later = omega (arith, c.take_turn-turn.ensures.read.later, c.loop-requests.invariant.read_later);
  write_later = omega (arith, c.take_turn-turn.ensures.write.later, c.loop-requests.invariant.write_later);
}

pub returns-in-Some-clause-session : goal.returns-in-Some-clause-session
returns-in-Some-clause-session g c = λ time p time_is at.
    let ran = c.loop-requests.invariant.ran time p time_is at in (
      c.take_turn-turn.new.buffers.rest.items,
      ends_by time c.loop-requests.requests p ran.0 ran.1 _ _ _ _ c.is_last-last.result c.take_turn-turn.result c.end_after.result c.is_last-last.ensures c.end_after.ensures
          (c.take_turn-turn.ensures.turned time ran.0 (c.loop-requests.invariant.time_is ∙ time_is) ran.2) c.in-Some.end c.loop-requests-test.true c.in-Some.is,
    )

pub returns-clause-session : goal.returns-clause-session
returns-clause-session g c = λ time p time_is at.
    let ran = c.loop-requests.invariant.ran time p time_is at in
    (c.loop-requests.buffers.rest.items, ends_full time c.loop-requests.requests p ran.0 ran.1 _ _ _ _ (omega (arith, c.loop-requests-test.false)) c.loop-requests.invariant.few ran.2)
