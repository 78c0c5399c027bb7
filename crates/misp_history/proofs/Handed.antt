-- What arrives at nobody, handed to a holder, is what arrives at the holder, package by package.
use Rattle.std.proofs.Common.{◌≡◌, ◌||◌, ◌&&◌, arith, eqb, ltb, ℕ, zero, suc, true, List, [], ◌∷◌, ◌++◌, refl, sym, ap, ◌∙◌, filter, flat_map, map}
use Rattle.std.proofs.lemmas.Bool.Decides.{nat_tests}
use Rattle.std.proofs.lemmas.List.{map-append}
use Rattle.std.proofs.lemmas.List.Folds.{flat_map-map}
use Rattle.misp_lists.specs.Order.{in_order, is_less}
use Rattle.misp_lists.proofs.Lists.{filter-map, map_twice}
use Rattle.misp_lists.proofs.Ordering.{in_order_map, in_order_same}
use Rattle.misp_model.proofs.Prelude.{Element, EventId, Group, Inst, Key, OrgId, Proposal, Reference, Row, Sighting, Verdict, event_of, event_rows, known, list_all}
use Rattle.misp_model.proofs.Prelude.{same_event, same_org, same_org-sound, spell, stands_before}
use Rattle.misp_model.specs.Package.{nobody}
use Rattle.misp_model.specs.Packing.{arrived, cut, is_own, onto, others_with, packages}
use Rattle.misp_history.specs.Answered.{to_nobody}
use Rattle.misp_history.specs.Merging.{arriving_rows, handed, passing_rows}
use Rattle.misp_history.specs.Passing.{Route, element_passes, lets_out, passes, passes_at, passes_by, sent_copy}

-- ---- routes

-- the route to another instance, where nobody holds what comes
abbrev pub nobodys_to : Inst → Route → Route
nobodys_to into r = record r { holder = nobody; into = into }

module _ (rows : List Row) (groups : List Group) (r : Route) (into : Inst) where
  -- what passes is the same whoever holds it then
  held_by : (row : Row) (k : Key) → passes_by rows groups (nobodys_to into r) row k ≡ passes_by rows groups r row k
  unfolding passes_by element_passes passes_at lets_out sent_copy
  held_by row (Element e p) = refl
  held_by row (Reference e x t u) = refl
  held_by row (Proposal e n) = refl
  held_by row (Verdict e n i v) = refl
  held_by row (Sighting e t i v u) = refl

pub arriving_so : (rows : List Row) (groups : List Group) (r : Route) (into : Inst) → map (handed r.holder) (arriving_rows rows groups (nobodys_to into r)) ≡ arriving_rows rows groups r
unfolding arriving_rows passing_rows passes arrived handed
arriving_so rows groups r into =
    map_twice (arrived (nobodys_to into r)) (handed r.holder) (arrived r) (λ row. refl) (passing_rows rows groups (nobodys_to into r))
    ∙ (λ i. map (arrived r) (filter (λ row. held_by (known rows groups r.from r.«for») groups r into row row.key i) (known rows groups r.from r.«for»)))

pub arriving_handed : (rows : List Row) (groups : List Group) (r : Route) → map (handed r.holder) (arriving_rows rows groups (to_nobody r)) ≡ arriving_rows rows groups r
arriving_handed rows groups r = arriving_so rows groups r r.into

-- ---- lists

module _ {X Y : Type 0} (f : X → Y) where
  onto_map : (x : X) (cs : List (List X)) → map (map f) (onto x cs) ≡ onto (f x) (map (map f) cs)
  onto_map x [] = refl
  onto_map x (c ∷ cs) = refl

  cut_map : (n : ℕ) (xs : List X) → map (map f) (cut n xs) ≡ cut n (map f xs)
  unfolding cut
  cut_map n [] = refl
  cut_map zero (x ∷ xs) = ap (λ cs. [] ∷ cs) (onto_map x (cut 63 xs) ∙ ap (onto (f x)) (cut_map 63 xs))
  cut_map (suc n) (x ∷ xs) = onto_map x (cut n xs) ∙ ap (onto (f x)) (cut_map n xs)

map_flat : {X Y Z : Type 0} (f : Y → Z) (g : X → List Y) (xs : List X) → map f (flat_map g xs) ≡ flat_map (λ x. map f (g x)) xs
map_flat f g [] = refl
map_flat f g (x ∷ xs) = map-append f (g x) (flat_map g xs) ∙ ap (λ ys. map f (g x) ++ ys) (map_flat f g xs)

flat_alike : {X Y : Type 0} (f g : X → List Y) → ((x : X) → f x ≡ g x) → (xs : List X) → flat_map f xs ≡ flat_map g xs
flat_alike f g h [] = refl
flat_alike f g h (x ∷ xs) = λ i. h x i ++ flat_alike f g h xs i

-- ---- packages

-- heads that are the same decide nothing
heads : (n m : ℕ) (xs ys : List ℕ) (a b : ℕ) → is_less (a ∷ n ∷ xs) (b ∷ n ∷ ys) ≡ is_less (a ∷ m ∷ xs) (b ∷ m ∷ ys)
unfolding is_less
heads n m xs ys a b = ap (λ t. ltb a b || eqb a b && t) (one n ∙ sym (one m))
  where
    one : (k : ℕ) → (ltb k k || eqb k k && is_less xs ys) ≡ is_less xs ys
    one k = grind (arith, nat_tests)

module _ (v w : OrgId) where
  -- handed to one holder, rows of one holder stand as before
  order_handed : (a b : Row) → same_org a.owner v ≡ true → same_org b.owner v ≡ true → stands_before (handed w a) (handed w b) ≡ stands_before a b
  unfolding stands_before handed
  order_handed a b h k =
      heads w.0.0 v.0.0 (spell a.key) (spell b.key) (event_of a.key).0.0 (event_of b.key).0.0
      ∙ (λ i. is_less ((event_of a.key).0.0 ∷ (sym (same_org-sound a.owner v h) i).0.0 ∷ spell a.key) ((event_of b.key).0.0 ∷ (sym (same_org-sound b.owner v k) i).0.0 ∷ spell b.key))

  pub sorted_handed : (rows : List Row) → list_all (λ row. same_org row.owner v) rows ≡ true → map (handed w) (in_order stands_before rows) ≡ in_order stands_before (map (handed w) rows)
  sorted_handed rows own =
      ap (map (handed w)) (sym (in_order_same (λ a b. stands_before (handed w a) (handed w b)) stands_before (λ row. same_org row.owner v) order_handed rows own))
      ∙ in_order_map (handed w) stands_before rows

  pub own_handed : (rows : List Row) → map (handed w) (filter is_own rows) ≡ filter is_own (map (handed w) rows)
  unfolding is_own handed
  own_handed rows = sym (filter-map (handed w) is_own rows)

  others_handed : (rows : List Row) (x : Row) → map (handed w) (others_with rows x) ≡ others_with (map (handed w) rows) (handed w x)
  unfolding others_with is_own handed
  others_handed rows x = sym (filter-map (handed w) _ rows)

  one_handed : (rows : List Row) (x : Row)
      → map (map (handed w)) (map (λ c. x ∷ c) (cut 64 (others_with rows x))) ≡ map (λ c. handed w x ∷ c) (cut 64 (others_with (map (handed w) rows) (handed w x)))
  one_handed rows x =
      map_twice (λ c. x ∷ c) (map (handed w)) (λ c. handed w x ∷ map (handed w) c) (λ c. refl) (cut 64 (others_with rows x))
      ∙ sym (map_twice (map (handed w)) (λ c. handed w x ∷ c) (λ c. handed w x ∷ map (handed w) c) (λ c. refl) (cut 64 (others_with rows x)))
      ∙ ap (map (λ c. handed w x ∷ c)) (cut_map (handed w) 64 (others_with rows x) ∙ ap (cut 64) (others_handed rows x))

  -- the packages of rows of one holder, handed to one
  pub packages_handed : (rows : List Row) → list_all (λ row. same_org row.owner v) rows ≡ true → map (map (handed w)) (packages rows) ≡ packages (map (handed w) rows)
  unfolding packages
  packages_handed rows own =
      let sorted : List Row = in_order stands_before rows in
      map_flat (map (handed w)) (λ x. map (λ c. x ∷ c) (cut 64 (others_with sorted x))) (filter is_own sorted)
      ∙ flat_alike _ (λ x. map (λ c. handed w x ∷ c) (cut 64 (others_with (map (handed w) sorted) (handed w x)))) (one_handed sorted) (filter is_own sorted)
      ∙ sym (flat_map-map (λ y. map (λ c. y ∷ c) (cut 64 (others_with (map (handed w) sorted) y))) (handed w) (filter is_own sorted))
      ∙ ap (flat_map (λ y. map (λ c. y ∷ c) (cut 64 (others_with (map (handed w) sorted) y)))) (own_handed sorted)
      ∙ ap (λ rs. flat_map (λ y. map (λ c. y ∷ c) (cut 64 (others_with rs y))) (filter is_own rs)) (sorted_handed rows own)

-- the rows of an event
pub event_handed : (w : OrgId) (e : EventId) (rows : List Row) → map (handed w) (event_rows e rows) ≡ event_rows e (map (handed w) rows)
unfolding handed
event_handed w e rows = sym (filter-map (handed w) (λ row. same_event (event_of row.key) e) rows)
