use Rattle.std.proofs.Common.{refl, ap, ◌∙◌}
use Rattle.misp_model.proofs.Prelude.{is_row_of, list_any}
use Rattle.misp_model.specs.Prelude.{holds_tombstone, sight_rules, sighting_key}
use Rattle.misp_model.specs.Scene as rule
use Rattle.misp_copies.specs.Barring.{rule_of}
use Rattle.misp_statements.proofs.StatementLemmas.{same_rules}
use Rattle.misp_statements.proofs.sighting.may_sight.Goals as goal

pub returns-clause-rule : goal.returns-clause-rule
unfolding rule_of sight_rules holds_tombstone sighting_key
returns-clause-rule c = λ act name today now.
    c.admitted.ensures.rule rule.ElementExists refl
    ∙ same_rules rule.NotGranted rule.EventGone rule.ElementExists _ _ _ _ _ _ (c.sees_live-seen.ensures act name today now) c.has_gone-gone.ensures
    (c.has_own-made.ensures ∙ ap (λ k. list_any (is_row_of c.args.who.now.org k) c.args.rows.now) c.sighting_key.ensures)
