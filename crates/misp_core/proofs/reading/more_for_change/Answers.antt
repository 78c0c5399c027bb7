use Rattle.std.proofs.Common.{Some, ap, sym, ◌∙◌}
use Rattle.misp_core.proofs.LooksThen.{change_then}
use Rattle.misp_core.proofs.reading.more_for_change.Goals as goal

pub returns-then-has_copy-clause-value : goal.returns-then-has_copy-clause-value
returns-then-has_copy-clause-value c = λ s by. change_then s c.args.org.now c.args.rows.now c.args.looks _ by (sym c.has_copy.ensures ∙ c.if-has_copy.true)

pub returns-clause-value : goal.returns-clause-value
returns-clause-value c = λ s by. ap Some (c.in_ok-beside.ensures.value) ∙ change_then s c.args.org.now c.args.rows.now c.args.looks _ by (sym c.has_copy.ensures ∙ c.if-has_copy.false)
