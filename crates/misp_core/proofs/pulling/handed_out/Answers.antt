use Rattle.std.proofs.Common.{inr, sym, ◌∙◌}
use Rattle.misp_core.proofs.pulling.handed_out.Goals as goal

pub returns-clause-part : goal.returns-clause-part
returns-clause-part c = λ table. c.take-part.ensures.taken ∙ sym (c.in_ok-ahead.ensures.parts table c.args.number)

pub returns-clause-kept : goal.returns-clause-kept
returns-clause-kept c = λ table. inr (record {
  caller = c.take-part.ensures.left.caller ∙ c.in_ok-ahead.ensures.caller;
  event = c.take-part.ensures.left.event ∙ c.in_ok-ahead.ensures.event;
  parts = λ n p k. c.in_ok-ahead.ensures.parts table n ∙ c.take-part.ensures.left.parts n p k;
})
