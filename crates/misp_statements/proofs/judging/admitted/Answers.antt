use Rattle.std.proofs.Common.{Bool, Option, ap, ◌∙◌}
use Rattle.misp_model.specs.Prelude.{Rule, event_key, granted_somewhere, has_copy, has_home}
use Rattle.misp_copies.specs.Barring.{barring}
use Rattle.misp_statements.specs.Judging.{ruling}
use Rattle.misp_copies.proofs.Barred.{or_first, or_second}
use Rattle.misp_statements.proofs.judging.admitted.Goals as goal

pub returns-in-Err-clause-rule : goal.returns-in-Err-clause-rule
unfolding ruling
returns-in-Err-clause-rule c =
    let may : Bool → Option Rule =
    λ fits. barring (has_home c.args.rows.now c.args.who.now.org c.args.event.now) (has_copy c.args.rows.now c.args.who.now.org c.args.event.now)
    (granted_somewhere c.args.rows.now c.args.who.now.groups.now c.args.who.now.here c.args.who.now.org (event_key c.args.event.now)) fits in
    or_first _ _ _ c.in-Err.ensures.err (c.in-Err.ensures.rule ∙ ap may c.may_judge-fits.ensures)

pub returns-in-Err-clause-names : goal.returns-in-Err-clause-names
returns-in-Err-clause-names c = c.in-Err.ensures.uuid c.args.proposal.now.uuid

pub returns-in-Ok-clause-rule : goal.returns-in-Ok-clause-rule
unfolding ruling
returns-in-Ok-clause-rule c =
    let may : Bool → Option Rule =
    λ fits. barring (has_home c.args.rows.now c.args.who.now.org c.args.event.now) (has_copy c.args.rows.now c.args.who.now.org c.args.event.now)
    (granted_somewhere c.args.rows.now c.args.who.now.groups.now c.args.who.now.here c.args.who.now.org (event_key c.args.event.now)) fits in
    or_second _ _ _ (c.in-Ok.ensures.rule ∙ ap may c.may_judge-fits.ensures) c.admitted_row.ensures.rule
