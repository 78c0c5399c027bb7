-- A run in which nothing failed is the run.
use Rattle.std.proofs.Common.{Bool, true, false, ◌≡◌, ℕ, refl, List, [], ◌∷◌, ap, ◌∙◌, suc}
use Rattle.misp_lists.proofs.Prelude.{and_parts, false≢true, list_all}
use Rattle.misp_history.specs.Outcomes.{Outcome, Whole, step_partly, run_partly}
use Rattle.misp_history.proofs.Prelude.{Act, Net, World, run, step}

-- the act was applied whole
unfoldable pub is_whole : Outcome → Bool
is_whole Whole = true
is_whole _ = false

step_whole : (net : Net) (n : ℕ) (w : World) (act : Act) (x : Outcome) → is_whole x ≡ true → step_partly net n w act x ≡ step net n w act
unfolding step_partly is_whole
step_whole net n w act Whole h = refl
step_whole net n w act _ h = absurd (false≢true h)

pub run_whole : (net : Net) (n : ℕ) (w : World) (acts : List Act) (xs : List Outcome) → list_all is_whole xs ≡ true → run_partly net n w acts xs ≡ run net n w acts
unfolding run_partly run
run_whole net n w [] xs h = refl
run_whole net n w (act ∷ acts) [] h = run_whole net (suc n) (step net n w act) acts [] h
run_whole net n w (act ∷ acts) (x ∷ xs) h =
    ap (λ v. run_partly net (suc n) v acts xs) (step_whole net n w act x (and_parts _ _ h).0)
    ∙ run_whole net (suc n) (step net n w act) acts xs (and_parts _ _ h).1
