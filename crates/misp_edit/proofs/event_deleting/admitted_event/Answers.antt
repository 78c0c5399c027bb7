use Rattle.std.proofs.Common.{ap, ◌∙◌, Option, None}
use Rattle.misp_model.specs.Prelude.{Row, Rule, first_rule}
use Rattle.misp_edit.specs.Changing.{event_deleting, late_rules}
use Rattle.misp_copies.proofs.Barred.{or_first, or_second}
use Rattle.misp_edit.proofs.RowEdits.{lacking_names}
use Rattle.misp_edit.proofs.event_deleting.admitted_event.Goals as goal

pub returns-in-Err-clause-rule : goal.returns-in-Err-clause-rule
unfolding event_deleting
returns-in-Err-clause-rule c = or_first _ _ _ c.in-Err.ensures.err c.in-Err.ensures.rule

pub returns-in-Err-late_fault-clause-rule : goal.returns-in-Err-late_fault-clause-rule
unfolding event_deleting
returns-in-Err-late_fault-clause-rule c =
    let late : Option Row → Option Rule = λ o. first_rule (late_rules c.args.who.now.groups.now c.args.who.now.here c.args.who.now.org o None None) in
    or_second _ _ _ c.in-Ok.ensures.rule (c.in-Err-late_fault.ensures.rule ∙ ap late c.own_row-own.ensures)

pub returns-in-Ok-late_fault-clause-rule : goal.returns-in-Ok-late_fault-clause-rule
unfolding event_deleting
returns-in-Ok-late_fault-clause-rule c =
    let late : Option Row → Option Rule = λ o. first_rule (late_rules c.args.who.now.groups.now c.args.who.now.here c.args.who.now.org o None None) in
    or_second _ _ _ c.in-Ok.ensures.rule (c.in-Ok-late_fault.ensures.rule ∙ ap late c.own_row-own.ensures)

pub returns-in-Err-clause-names : goal.returns-in-Err-clause-names
returns-in-Err-clause-names c = lacking_names None _ _ c.in-Err.fault c.in-Err.ensures.rule
