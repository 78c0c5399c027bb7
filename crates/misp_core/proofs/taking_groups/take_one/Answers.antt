use Rattle.std.proofs.Common.{◌≡◌, ◌∙◌, ◌++◌, List, [], ◌∷◌, OnOk, ap, append-nil, subst, sym}
use Rattle.misp_effects.specs.Prelude.{put_group}
use Rattle.misp_core.specs.Prelude.{Group}
use Rattle.misp_core.proofs.TakenGroups.{added_where, not_over, not_put, put_where}
use Rattle.misp_core.proofs.taking_groups.take_one.Goals as goal

pub returns-then-not-is_taken-clause-known : goal.returns-then-not-is_taken-clause-known
returns-then-not-is_taken-clause-known c = λ all over. not_over all _ _ c.args.group over (sym (c.is_taken.ensures all over) ∙ c.if-not-is_taken.true)

pub returns-then-not-is_taken-clause-taken : goal.returns-then-not-is_taken-clause-taken
returns-then-not-is_taken-clause-taken c = λ all over.
    sym (ap (λ (gs : List Group). c.args.taken.now.items ++ gs) (not_put all _ _ c.args.group over (sym (c.is_taken.ensures all over) ∙ c.if-not-is_taken.true)) ∙ append-nil c.args.taken.now.items)

pub returns-clause-known : goal.returns-clause-known
returns-clause-known c =
    put_where c.add.result _ _ c.args.group c.is_taken.result _ c.is_taken.ensures c.if-not-is_taken.false
    (subst (λ (g : Group). OnOk c.add.result (c.add.new.latest ≡ put_group g c.args.latest.now)) c.carried.ensures c.add.ensures.latest)

pub returns-clause-taken : goal.returns-clause-taken
returns-clause-taken c =
    added_where c.add.result _ _ c.args.group c.is_taken.result _ _ c.is_taken.ensures c.if-not-is_taken.false
    (subst (λ (g : Group). OnOk c.add.result (c.add.new.taken.items ≡ c.args.taken.now.items ++ g ∷ [])) c.carried.ensures c.add.ensures.taken)
