use Rattle.misp_edit.specs.Changing.{ruling}
use Rattle.misp_copies.proofs.Barred.{or_first, or_second}
use Rattle.misp_edit.proofs.barring.admitted_row.Goals as goal

pub returns-in-Err-clause-rule : goal.returns-in-Err-clause-rule
unfolding ruling
returns-in-Err-clause-rule c = or_first _ _ _ c.in-Err.ensures.err c.in-Err.ensures.rule

pub returns-in-Err-clause-names : goal.returns-in-Err-clause-names
returns-in-Err-clause-names c = c.in-Err.ensures.names c.args.label

pub returns-in-Err-late_fault-clause-rule : goal.returns-in-Err-late_fault-clause-rule
unfolding ruling
returns-in-Err-late_fault-clause-rule c = or_second _ _ _ c.in-Ok.ensures.rule c.in-Err-late_fault.ensures.rule

pub returns-in-Ok-late_fault-clause-rule : goal.returns-in-Ok-late_fault-clause-rule
unfolding ruling
returns-in-Ok-late_fault-clause-rule c = or_second _ _ _ c.in-Ok.ensures.rule c.in-Ok-late_fault.ensures.rule
