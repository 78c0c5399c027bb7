-- Keepers as a run sees them.
use Rattle.std.specs.Prelude.{◌≡◌, ◌⊎◌, ℕ, ◌≤◌, List, ◌∷◌, map, slice_index, slice_index_or, slice_set, Option, None, Some}
use Rattle.std.specs.List.{AllZip}
use Rattle.misp_outside.specs.Causes.{Rose}
use Rattle.misp_outside.specs.Held.{Held, nothing_held}
use Rattle.misp_outside.specs.KeeperState.{KeeperState, state}
use Rattle.misp_outside.specs.Reporting.{StaysHeld}

-- what is held at each place
abbrev pub Tables : Type 0
Tables = List Held

-- what is held at a place
abbrev pub held_at : ℕ → Tables → Held
held_at place tables = slice_index_or tables place nothing_held

-- what each reports
abbrev pub told : List KeeperState → List (Option Held)
told old = map (λ (state : KeeperState). state.held) old

-- all of them report what they hold, and this
abbrev pub Tell : List KeeperState → Tables → Type 0
Tell old tables = told old ≡ map Some tables

-- all of them report what they hold
abbrev pub AllReport : List KeeperState → Type 0
AllReport states = (tables : Tables) × Tell states tables

-- Where all of them report what they hold afterwards, they did before, and this holds of the two.
abbrev pub WhereTold : List KeeperState → List KeeperState → (Tables → Tables → Type 0) → Type 0
WhereTold old new P =
    (after : Tables) → Tell new after → (before : Tables) × Tell old before × P before after

-- how often the keeper of a place has failed
abbrev pub count_at : ℕ → List KeeperState → ℕ
count_at place old = slice_index (map (λ (state : KeeperState). state.faults) old) place

-- the keeper of a place
abbrev pub state_at : ℕ → List KeeperState → KeeperState
state_at place old = slice_index_or old place (state None 0)

-- what it holds stays, and its count of faults did not fall
pub record IsKept (old new : KeeperState) : Type 0 where
  pub held : StaysHeld old.held new.held
  pub later : old.faults ≤ new.faults

-- that is so of each
abbrev pub AreKept : List KeeperState → List KeeperState → Type 0
AreKept old new = AllZip IsKept old new

-- the count of faults of one of them rose
abbrev pub OneFailed : List KeeperState → List KeeperState → Type 0
OneFailed (before ∷ old) (after ∷ new) = Rose before.faults after.faults ⊎ OneFailed old new
OneFailed old new = ⊥

-- Two of them met: what each was and is, and the others are as they were.
pub record Lends (at peer : ℕ) (old new : List KeeperState)
    (Meet : KeeperState → KeeperState → KeeperState → KeeperState → Type 0) : Type 0 where
  pub here : KeeperState
  pub there : KeeperState
  pub new_is : new ≡ slice_set (slice_set old at here) peer there
  pub met : Meet (state_at at old) here (state_at peer old) there
