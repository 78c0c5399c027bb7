use Rattle.std.proofs.Common.{refl, ap, ◌∙◌}
use Rattle.misp_model.proofs.Prelude.{is_row_of, list_any}
use Rattle.misp_model.specs.Prelude.{holds_tombstone, propose_rules, proposal_key}
use Rattle.misp_model.specs.Scene as rule
use Rattle.misp_copies.specs.Barring.{rule_of}
use Rattle.misp_statements.proofs.StatementLemmas.{same_rules}
use Rattle.misp_statements.proofs.proposing.may_propose.Goals as goal

pub returns-clause-rule : goal.returns-clause-rule
unfolding rule_of propose_rules holds_tombstone proposal_key
returns-clause-rule c = λ act name today now.
    c.admitted.ensures.rule rule.ProposalExists refl
    ∙ same_rules rule.NotGranted rule.EventGone rule.ProposalExists _ _ _ _ _ _ (c.sees_target-seen.ensures act name today now) c.has_gone-gone.ensures
    (c.has_own-made.ensures ∙ ap (λ k. list_any (is_row_of c.args.who.now.org k) c.args.rows.now) c.proposal_key.ensures)

pub returns-clause-names : goal.returns-clause-names
returns-clause-names c = c.admitted.ensures.names c.args.draft.now.uuid tt
