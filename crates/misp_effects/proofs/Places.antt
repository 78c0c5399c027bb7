-- What is reported, held and counted at a place.
use Rattle.std.proofs.Common.{◌≡◌, ◌≢◌, ℕ, zero, suc, ◌<◌, ◌≤◌, List, [], ◌∷◌, ◌++◌, length, take, drop, get_or, set, Option, Some, refl, ◌∙◌, ap, arith, length-set, None}
use Rattle.std.proofs.lemmas.Bool.Decides.{nat_tests}
use Rattle.misp_outside.specs.Causes.{Rose}
use Rattle.misp_effects.specs.Prelude.{Held, Here, KeeperState, Meaning, RoseBy, Stop, Tables, Tell, There}
use Rattle.misp_effects.specs.KeeperStates.{held_at, count_at, Lends}
use Rattle.misp_effects.specs.Run.{fault_of}

-- a keeper of those that report the tables holds that of its place
pub tell_at : (old : List KeeperState) (tables : Tables) (place : ℕ) (none : KeeperState) → place < length old → Tell old tables → (get_or old place none).held ≡ Some (held_at place tables)
tell_at [] tables place none lt tell = absurd (omega arith)
tell_at (s ∷ old) [] place none lt tell = cc
tell_at (s ∷ old) (t ∷ tables) zero none lt tell = cc
tell_at (s ∷ old) (t ∷ tables) (suc place) none lt tell =
    let rest : Tell old tables = cc in tell_at old tables place none (omega arith) rest

-- with another keeper and another table at a place they still report
pub tell_set : (old : List KeeperState) (tables : Tables) (place : ℕ) (new : KeeperState) (held : Held) → Tell old tables → new.held ≡ Some held → Tell (set old place new) (set tables place held)
tell_set [] [] place new held tell is = refl
tell_set [] (t ∷ tables) place new held tell is = cc
tell_set (s ∷ old) [] place new held tell is = cc
tell_set (s ∷ old) (t ∷ tables) zero new held tell is = cc
tell_set (s ∷ old) (t ∷ tables) (suc place) new held tell is =
    let rest : Tell old tables = cc in let more = tell_set old tables place new held rest is in cc

-- the count at the place of a keeper that was put is its own
pub count_same : (old : List KeeperState) (place : ℕ) (new : KeeperState) → place < length old → count_at place (set old place new) ≡ new.faults
count_same [] place new lt = absurd (omega arith)
count_same (s ∷ old) zero new lt = refl
count_same (s ∷ old) (suc place) new lt = count_same old place new (omega arith)

-- and so is that of the keeper that stands there
pub count_is : (old : List KeeperState) (place : ℕ) (none : KeeperState) → place < length old → count_at place old ≡ (get_or old place none).faults
count_is [] place none lt = absurd (omega arith)
count_is (s ∷ old) zero none lt = refl
count_is (s ∷ old) (suc place) none lt = count_is old place none (omega arith)

-- at other places it is as it was
pub count_other : (old : List KeeperState) (place other : ℕ) (new : KeeperState) → other ≢ place → count_at other (set old place new) ≡ count_at other old
count_other [] place other new ne = refl
count_other (s ∷ old) zero zero new ne = absurd (ne refl)
count_other (s ∷ old) zero (suc other) new ne = refl
count_other (s ∷ old) (suc place) zero new ne = refl
count_other (s ∷ old) (suc place) (suc other) new ne = count_other old place other new (λ e. ne (ap suc e))

-- a stop is counted at the keeper that it names
pub fault_rose : {S A : Type 0} (m : Meaning S A) (stop : Option Stop) (place before now : ℕ)
    → (stop ≡ Some (Stop.Keeper Here) → m.at ≡ place → Rose before now)
    → (stop ≡ Some (Stop.Keeper There) → m.peer ≡ place → Rose before now)
    → before ≤ now → RoseBy (fault_of place m stop) before now
fault_rose m None place before now here there later = omega (arith, later)
fault_rose m (Some (Stop.Memory side)) place before now here there later = omega (arith, later)
fault_rose m (Some Stop.Carry) place before now here there later = omega (arith, later)
fault_rose m (Some (Stop.Keeper Here)) place before now here there later =
    let rose = here refl in grind (arith, nat_tests)
fault_rose m (Some (Stop.Keeper There)) place before now here there later =
    let rose = there refl in grind (arith, nat_tests)

-- one that is written through the second part of a list
set_back : {X : Type 0} (xs : List X) (j : ℕ) (b : X) → take j xs ++ set (drop j xs) 0 b ≡ set xs j b
set_back [] zero b = refl
set_back [] (suc j) b = refl
set_back (x ∷ xs) zero b = refl
set_back (x ∷ xs) (suc j) b = ap (λ rest. x ∷ rest) (set_back xs j b)

-- two that are written through the two parts of a list
pub set_parts : {X : Type 0} (xs : List X) (i j : ℕ) (a b : X) → i < j → set (take j xs) i a ++ set (drop j xs) 0 b ≡ set (set xs i a) j b
set_parts [] i zero a b lt = refl
set_parts [] i (suc j) a b lt = refl
set_parts (x ∷ xs) i zero a b lt = absurd (omega arith)
set_parts (x ∷ xs) zero (suc j) a b lt = ap (λ rest. a ∷ rest) (set_back xs j b)
set_parts (x ∷ xs) (suc i) (suc j) a b lt = ap (λ rest. x ∷ rest) (set_parts xs i j a b (omega arith))

-- two places are written in either order
pub set_swap : {X : Type 0} (xs : List X) (i j : ℕ) (a b : X) → i ≢ j → set (set xs i a) j b ≡ set (set xs j b) i a
set_swap [] i j a b ne = refl
set_swap (x ∷ xs) zero zero a b ne = absurd (ne refl)
set_swap (x ∷ xs) zero (suc j) a b ne = refl
set_swap (x ∷ xs) (suc i) zero a b ne = refl
set_swap (x ∷ xs) (suc i) (suc j) a b ne = ap (λ rest. x ∷ rest) (set_swap xs i j a b (λ e. ne (ap suc e)))

-- what is in the first part of a list
in_front : {X : Type 0} (xs : List X) (i mid : ℕ) (none d : X) → i < mid → i < length xs → get_or (take mid xs) i none ≡ get_or xs i d
in_front [] i mid none d lt inside = absurd (omega arith)
in_front (y ∷ xs) i zero none d lt inside = absurd (omega arith)
in_front (y ∷ xs) zero (suc mid) none d lt inside = refl
in_front (y ∷ xs) (suc i) (suc mid) none d lt inside = in_front xs i mid none d (omega arith) (omega arith)

-- what stands first in the second part
in_back : {X : Type 0} (xs : List X) (mid : ℕ) (none d : X) → mid < length xs → get_or (drop mid xs) 0 none ≡ get_or xs mid d
in_back [] mid none d inside = absurd (omega arith)
in_back (y ∷ xs) zero none d inside = refl
in_back (y ∷ xs) (suc mid) none d inside = in_back xs mid none d (omega arith)

-- the same of a list that is the first part
pub front_at : {X : Type 0} (xs front : List X) (i mid : ℕ) (none d : X) → i < mid → i < length xs → front ≡ take mid xs → get_or front i none ≡ get_or xs i d
front_at xs front i mid none d lt inside is = rw is (in_front xs i mid none d lt inside)

-- the same of a list that is the second part
pub back_at : {X : Type 0} (xs back : List X) (mid : ℕ) (none d : X) → mid < length xs → back ≡ drop mid xs → get_or back 0 none ≡ get_or xs mid d
back_at xs back mid none d inside is = rw is (in_back xs mid none d inside)

-- where two met, there are as many as before
pub lends_length : (at peer : ℕ) (old new : List KeeperState) (Meet : KeeperState → KeeperState → KeeperState → KeeperState → Type 0) → Lends at peer old new Meet → length new ≡ length old
lends_length at peer old new Meet lends =
    ap length lends.new_is ∙ length-set (set old at lends.here) peer lends.there ∙ length-set old at lends.here
