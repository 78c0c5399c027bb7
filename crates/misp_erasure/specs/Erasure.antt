-- The same acts without what an organisation was never granted.
use Rattle.std.specs.Prelude.{Bool, cond, Some, None, ℕ, suc, List, [], ◌∷◌, true, not, ◌||◌, ◌≡◌}
use Rattle.misp_model.specs.Prelude.{Inst, Key, OrgId, Scene, cut, is_accepted, list_all, same_org}
use Rattle.misp_model.specs.Closed.{erased_ask, HasPair}
use Rattle.misp_model.specs.declared.ask.Ask.{Ask}
use Rattle.misp_history.specs.Acts.{World, Command, Asks, Nothing, Caller, Act, Misfits, Syncs, Takes_groups, Administers, Shares, Makes, scene, Net, step, known_at}

-- the state without what is not kept
unfoldable pub cut_world : (Key → Bool) → World → World
cut_world keep w = record w { log = cut keep w.log }

-- what is left of a request
unfoldable pub erased_request : OrgId → (Key → Bool) → Scene → Caller → Ask → Command
erased_request o keep s c a =
    cond (same_org c.org o) (Asks c a)
    (cond (is_accepted s a)
    (elim (erased_ask keep s a) [ None ↦ Nothing | Some b ↦ Asks c b ]) Nothing)

-- what is left of a command
unfoldable pub erased_command : OrgId → (Key → Bool) → ℕ → World → Act → Command
erased_command o keep n w act =
    elim act.command [
      | Asks c a ↦ erased_request o keep (scene n w act c) c a
      | Misfits c ↦ cond (same_org c.org o) (Misfits c) Nothing
      | Syncs direction link ↦ Syncs direction link
      | Takes_groups c gs ↦ Takes_groups c gs
      | Administers by add g ↦ Administers by add g
      | Shares c add g ↦ Shares c add g
      | Makes c item ↦ Makes c item
      | Nothing ↦ Nothing
    ]

unfoldable pub erased_act : OrgId → (Key → Bool) → ℕ → World → Act → Act
erased_act o keep n w act = record act { command = erased_command o keep n w act }

-- the acts without what is not kept
unfoldable pub erase : OrgId → (Key → Bool) → Net → ℕ → World → List Act → List Act
erase o keep net n w [] = []
erase o keep net n w (act ∷ acts) =
    erased_act o keep n w act ∷ erase o keep net (suc n) (step net n w act) acts

-- the set has all that the organisation knows at this moment: what is granted to it, and each
-- version of its own
pub record HasKnown (o : OrgId) (keep : Key → Bool) (w : World) : Type 0 where
  pub granted : (i : Inst) → list_all (λ row. keep row.key) (known_at w i o) ≡ true
  pub own : list_all (λ v. not (same_org v.owner o) || keep v.key) w.log ≡ true

unfoldable pub HasPairs : (Key → Bool) → ℕ → World → Act → Type 0
HasPairs keep n w act =
    elim act.command [
      | Asks c a ↦ HasPair keep (scene n w act c) a
      | Misfits c ↦ Unit {0}
      | Syncs direction link ↦ Unit {0}
      | Takes_groups c gs ↦ Unit {0}
      | Administers by add g ↦ Unit {0}
      | Shares c add g ↦ Unit {0}
      | Makes c item ↦ Unit {0}
      | Nothing ↦ Unit {0}
    ]

-- the set has, all along the acts, what the organisation knows and both of each accepted pair
unfoldable pub IsKept : OrgId → (Key → Bool) → Net → ℕ → World → List Act → Type 0
IsKept o keep net n w [] = HasKnown o keep w
IsKept o keep net n w (act ∷ acts) =
    HasKnown o keep w × HasPairs keep n w act × IsKept o keep net (suc n) (step net n w act) acts
