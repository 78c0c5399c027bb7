-- Groups that were taken once change nothing when they come again.
use Rattle.std.proofs.Common.{Bool, leb, ◌≡◌, ℕ, arith, true, false, refl, ltb, List, [], ◌∷◌, ◌∙◌, ◌&&◌, ◌||◌, not}
use Rattle.std.proofs.lemmas.Bool.Decides.{nat_tests}
use Rattle.misp_groups.specs.Prelude.{Group, list_any, same_group}
use Rattle.misp_groups.specs.Changes.{takes_group}

-- a group of the same name stands against its being taken: one of this instance, or one that is as new
abbrev pub bars : Group → Group → Bool
bars g h = same_group h.id g.id && (not h.carried || leb g.modified h.modified)

takes_one : (s c : Bool) (m n : ℕ) → (not s || c && ltb m n) ≡ not (s && (not c || leb n m))
takes_one false c m n = refl
takes_one true false m n = refl
takes_one true true m n = other
  where
    other : ltb m n ≡ not (leb n m)
    other = grind (arith, nat_tests)

not_or : (a b : Bool) → (not a && not b) ≡ not (a || b)
not_or true b = refl
not_or false b = refl

pub takes_is : (groups : List Group) (g : Group) → takes_group groups g ≡ not (list_any (bars g) groups)
unfolding takes_group
takes_is [] g = refl
takes_is (h ∷ groups) g =
    (λ i. takes_one (same_group h.id g.id) h.carried h.modified g.modified i && takes_is groups g i)
    ∙ not_or (bars g h) (list_any (bars g) groups)
