-- Runs in which something may fail: for each act, what of it was applied.
use Rattle.std.specs.Prelude.{ℕ, Bool, List, map, [], cond, ◌++◌, filter, ltb, ◌||◌, Some, None, suc, ◌∷◌}
use Rattle.misp_model.specs.Prelude.{Group, Row, Version, is_row_of, list_any}
use Rattle.misp_history.specs.Merging.{packages, arriving_rows, is_taken, brought, bringing}
use Rattle.misp_history.specs.Passing.{Route, passing, moved}
use Rattle.misp_history.specs.Acts.{World, synced_groups, Act, Asks, Misfits, Syncs, Takes_groups, Administers, Shares, Makes, Nothing, Net, step}
use Rattle.misp_history.specs.History.{tables}

-- what became of an act: all of it was applied; nothing was; or of a synchronisation the groups or
-- not, and so many batches, each a package that brings a row (the one whose answer a push lost
-- included)
pub data Outcome : Type 0 where
  Whole : Outcome
  Failed : Outcome
  Stopped : (groups : Bool) → (packages : ℕ) → Outcome

-- what comes by a synchronisation
unfoldable pub coming : World → Route → List Version
coming w r = map (moved r) (passing w.log (w.groups r.from) r)

-- what arrives of the sender's rows
unfoldable pub arriving : World → Route → List Row
arriving w r = arriving_rows (tables w.log r.from) (w.groups r.from) r

-- the row is taken, where these are the receiver's groups
unfoldable pub takes : World → Route → List Group → Row → Bool
takes w r groups = is_taken r.into (tables w.log r.into) groups (arriving w r)

-- the rows that the first p batches bring
unfoldable pub first_brought : ℕ → World → Route → List Group → List Row
first_brought p w r groups =
    brought (takes w r groups) []
    (bringing p (takes w r groups) [] (packages (arriving w r)))

-- a synchronisation that stopped after its groups or not, and after p batches
unfoldable pub synced_partly : World → Route → Bool → ℕ → World
synced_partly w r g p =
    record {
      log = w.log ++ filter (λ v. list_any (is_row_of v.owner v.key)
          (first_brought p w r (cond g (synced_groups w.groups r) w.groups r.into))) (coming w r);
      groups = cond g (synced_groups w.groups r) w.groups;
      made = w.made;
    }

-- the state after an act of which only a part was applied; where a batch was, the groups were
unfoldable pub step_partly : Net → ℕ → World → Act → Outcome → World
step_partly net n w act Whole = step net n w act
step_partly net n w act Failed = w
step_partly net n w act (Stopped g p) =
    elim act.command [
      | Syncs direction link ↦ elim (net direction act.at link w.groups w.made) [
        | None ↦ w
        | Some r ↦ synced_partly w r (g || ltb 0 p) p
      ]
      | Asks c a ↦ w
      | Misfits c ↦ w
      | Takes_groups c gs ↦ w
      | Administers o add g ↦ w
      | Shares c add g ↦ w
      | Makes c item ↦ w
      | Nothing ↦ w
    ]

-- the state after these acts with these outcomes; an act beyond the outcomes is whole
unfoldable pub run_partly : Net → ℕ → World → List Act → List Outcome → World
run_partly net n w [] xs = w
run_partly net n w (act ∷ acts) [] = run_partly net (suc n) (step net n w act) acts []
run_partly net n w (act ∷ acts) (x ∷ xs) =
    run_partly net (suc n) (step_partly net n w act x) acts xs
