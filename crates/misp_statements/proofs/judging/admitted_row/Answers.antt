use Rattle.std.proofs.Common.{refl, ap, sym, ◌∙◌, Option, Bool, true, false, eqb}
use Rattle.misp_model.specs.Prelude.{Row, last_stamp, row_passes}
use Rattle.misp_copies.specs.Barring.{rule_of}
use Rattle.misp_statements.proofs.Judged.{late_is}
use Rattle.misp_statements.proofs.judging.admitted_row.Goals as goal

-- the row has the last stamp
abbrev last : Option Row → Bool
last own = row_passes (λ row. eqb row.stamp last_stamp) own

pub returns-then-is_there-clause-rule : goal.returns-then-is_there-clause-rule
unfolding rule_of
returns-then-is_there-clause-rule c =
    late_is c.args.rows.now c.args.who.now.here c.args.who.now.org c.args.event.now c.args.proposal.now c.args.accept true _ _ (sym c.if-is_there.ensures) refl refl

pub returns-then-is_last-clause-rule : goal.returns-then-is_last-clause-rule
unfolding rule_of
returns-then-is_last-clause-rule c =
    late_is c.args.rows.now c.args.who.now.here c.args.who.now.org c.args.event.now c.args.proposal.now c.args.accept false true _ (sym c.if-is_there.ensures)
    (ap last (sym c.own_accepted-own.ensures) ∙ sym c.if-is_last.ensures) refl

pub returns-then-has_verdict-clause-rule : goal.returns-then-has_verdict-clause-rule
unfolding rule_of
returns-then-has_verdict-clause-rule c =
    late_is c.args.rows.now c.args.who.now.here c.args.who.now.org c.args.event.now c.args.proposal.now c.args.accept false false true (sym c.if-is_there.ensures)
    (ap last (sym c.own_accepted-own.ensures) ∙ sym c.if-is_last.ensures) (sym c.if-has_verdict.ensures)

pub returns-clause-rule : goal.returns-clause-rule
returns-clause-rule c =
    late_is c.args.rows.now c.args.who.now.here c.args.who.now.org c.args.event.now c.args.proposal.now c.args.accept false false false (sym c.if-is_there.ensures)
    (ap last (sym c.own_accepted-own.ensures) ∙ sym c.if-is_last.ensures) (sym c.if-has_verdict.ensures)
