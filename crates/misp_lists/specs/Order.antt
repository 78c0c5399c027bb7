-- Lists in order.
use Rattle.std.specs.Prelude.{ℕ, Bool, true, false, not, eqb, ltb, ◌&&◌, ◌||◌, cond, List, [], ◌∷◌}
use Rattle.std.specs.declared.cmp.Ordering.{Ordering}
use Rattle.std.specs.Ordering.{is_lt}
use Rattle.std.specs.List.{list_all}

-- one more in its place: before the first that it goes before
unfoldable pub put : {A : Type 0} → (A → A → Bool) → A → List A → List A
put before x [] = x ∷ []
put before x (y ∷ ys) = cond (before x y) (x ∷ y ∷ ys) (y ∷ put before x ys)

-- the list in order
unfoldable pub in_order : {A : Type 0} → (A → A → Bool) → List A → List A
in_order before [] = []
in_order before (x ∷ xs) = put before x (in_order before xs)

-- the list in order, where those that are equal stay as they stood
abbrev pub sorted_by : {A : Type 0} → (A → A → Ordering) → List A → List A
sorted_by order xs = in_order (λ a b. not (is_lt (order b a))) xs

-- each comes before all that stand after it
unfoldable pub ascend : {A : Type 0} → (A → A → Bool) → List A → Bool
ascend before [] = true
ascend before (x ∷ xs) = list_all (before x) xs && ascend before xs

-- one list of numbers stands before another
unfoldable pub is_less : List ℕ → List ℕ → Bool
is_less [] [] = false
is_less [] (y ∷ ys) = true
is_less (x ∷ xs) [] = false
is_less (x ∷ xs) (y ∷ ys) = ltb x y || eqb x y && is_less xs ys
