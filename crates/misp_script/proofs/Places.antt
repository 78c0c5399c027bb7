-- The places of names, and organisations that ascend.
use Rattle.std.proofs.Common.{◌≡◌, ℕ, suc, ◌+◌, ◌<◌, ltb, Bool, true, false, cond, List, [], ◌∷◌, ◌++◌, length, map, position, Option, Some, None, option_map, is_some, IfSome, refl, sym, ap, ◌∙◌, inl, inr, arith, Vec, Ordering, Less}
use Rattle.std.proofs.Common.{is_eq, nat_cmp, Global, bytes_eq, BTreeMap}
use Rattle.std.specs.Cmp.{eq_by_cmp_equiv}
use Rattle.std.specs.List.{position_or_len}
use Rattle.std.specs.BTreeMap.{UpdatesBy}
use Rattle.std.specs.Map.{IsKeyTest, AreApart, KeepsOthers}
use Rattle.std.proofs.lemmas.List.{map-append}
use Rattle.std.proofs.lemmas.List.Quantifiers.{position-Some}
use Rattle.misp_lists.proofs.Prelude.{IsStrictlySortedBy, cases_Bool, is_eq-slice_cmp, lookup, nat_list_cmp_total, nat_tests, slice_cmp}
use Rattle.misp_lists.proofs.All.{all_map}
use Rattle.misp_script.specs.Directory.{Roster, place_of, roster_names, place_in, HasPlaces}
use Rattle.misp_script.proofs.Lookups.{bytes_eq-true}
use Rattle.misp_script.proofs.Parts.{bytes_eq-refl}

-- ---- organisations

pub ascend_map : {A B : Type 0} (f : A → B) (order : B → B → Ordering) (xs : List A) → IsStrictlySortedBy (λ a b. order (f a) (f b)) xs → IsStrictlySortedBy order (map f xs)
unfolding IsStrictlySortedBy
ascend_map f order [] up = tt
ascend_map f order (x ∷ xs) up = (all_map f (λ y. order (f x) (f y) ≡ Less) (λ y. order (f x) y ≡ Less) (λ y h. h) xs up.0, ascend_map f order xs up.1)

-- ---- places

here_place : (n : ℕ) → cond {A = Option ℕ} (ltb 0 (suc n)) (Some 0) None ≡ Some 0
here_place n = let up : ltb 0 (suc n) ≡ true = grind (arith, nat_tests) in rw up refl

later_place : (k n : ℕ) → cond {A = Option ℕ} (ltb (1 + k) (suc n)) (Some (1 + k)) None ≡ option_map suc (cond (ltb k n) (Some k) None)
later_place k n = elim (cases_Bool (ltb k n)) [
  | inl hit ↦
      let up : ltb (1 + k) (suc n) ≡ true = grind (arith, nat_tests) in
      let one : 1 + k ≡ suc k = omega arith in
      rw (up, hit) (ap Some one)
  | inr miss ↦ let up : ltb (1 + k) (suc n) ≡ false = grind (arith, nat_tests) in rw (up, miss) refl
]

-- the place in a list is known by its first item
pub first_place : {A : Type 0} (p : A → Bool) (x : A) (xs : List A) → position p (x ∷ xs) ≡ cond (p x) (Some 0) (option_map suc (position p xs))
first_place p x xs = elim (cases_Bool (p x)) [
  | inl hit ↦ rw hit (here_place (length xs))
  | inr miss ↦ rw miss (later_place (position_or_len p xs) (length xs))
]

-- the place with one more at the end: what was found stays
abbrev after : Option ℕ → Bool → ℕ → Option ℕ
after (Some i) hit n = Some i
after None hit n = cond hit (Some n) None

shifted : (here : Bool) (o : Option ℕ) (hit : Bool) (n : ℕ) → cond here (Some 0) (option_map suc (after o hit n)) ≡ after (cond here (Some 0) (option_map suc o)) hit (suc n)
shifted true o hit n = refl
shifted false (Some i) hit n = refl
shifted false None true n = refl
shifted false None false n = refl

place_last : {A : Type 0} (p : A → Bool) (xs : List A) (x : A) → position p (xs ++ x ∷ []) ≡ after (position p xs) (p x) (length xs)
place_last p [] x = elim (cases_Bool (p x)) [
  | inl hit ↦ rw hit refl
  | inr miss ↦ rw miss refl
]
place_last p (y ∷ ys) x =
    first_place p y (ys ++ x ∷ [])
    ∙ ap (λ o. cond (p y) (Some 0) (option_map suc o)) (place_last p ys x)
    ∙ shifted (p y) (position p ys) (p x) (length ys)
    ∙ ap (λ o. after o (p x) (suc (length ys))) (sym (first_place p y ys))

after_known : (o : Option ℕ) (hit : Bool) (n : ℕ) → (hit ≡ true → is_some o ≡ true) → o ≡ after o hit n
after_known (Some i) hit n known = refl
after_known None true n known = absurd (let e : false ≡ true = known refl in cc)
after_known None false n known = refl

after_new : (o : Option ℕ) (hit : Bool) (n : ℕ) → (hit ≡ true → is_some o ≡ false) → cond hit (Some n) o ≡ after o hit n
after_new (Some i) true n fresh = absurd (let e : true ≡ false = fresh refl in cc)
after_new (Some i) false n fresh = refl
after_new None hit n fresh = refl

length_names : (rosters : List Roster) → length (roster_names rosters) ≡ length rosters
length_names [] = refl
length_names (roster ∷ rosters) = ap suc (length_names rosters)

-- the place of a name, with one more instance at the end
place_more : (rosters : List Roster) (next : Roster) (text : List ℕ) → place_of (roster_names (rosters ++ next ∷ [])) text ≡ after (place_of (roster_names rosters) text) (bytes_eq next.name text) (length rosters)
place_more rosters next text =
    ap (λ names. place_of names text) (map-append (λ (roster : Roster). roster.name) rosters (next ∷ []))
    ∙ place_last (λ name. bytes_eq name text) (roster_names rosters) next.name
    ∙ ap (after (place_of (roster_names rosters) text) (bytes_eq next.name text)) (length_names rosters)

module _ (rosters : List Roster) (next : Roster) (places : BTreeMap (Vec ℕ Global) ℕ) (has : HasPlaces rosters places) where
  known_as : (text : List ℕ) (b : Bool) → is_some (place_in places next.name) ≡ b → bytes_eq next.name text ≡ true → is_some (place_of (roster_names rosters) text) ≡ b
  known_as text b is hit =
      ap is_some (sym (has text)) ∙ ap (λ t. is_some (place_in places t)) (sym (bytes_eq-true next.name text hit)) ∙ is

  -- a name that is known keeps its place
  pub places_old : is_some (place_in places next.name) ≡ true → HasPlaces (rosters ++ next ∷ []) places
  places_old is text =
      has text ∙ after_known (place_of (roster_names rosters) text) (bytes_eq next.name text) (length rosters) (known_as text true is) ∙ sym (place_more rosters next text)

  -- a new one has the place at the end
  pub places_new : (got : BTreeMap (Vec ℕ Global) ℕ) → is_some (place_in places next.name) ≡ false
      → ((text : List ℕ) → place_in got text ≡ cond (bytes_eq next.name text) (Some (length rosters)) (place_in places text)) → HasPlaces (rosters ++ next ∷ []) got
  places_new got is puts text =
      puts text ∙ ap (cond (bytes_eq next.name text) (Some (length rosters))) (has text)
      ∙ after_new (place_of (roster_names rosters) text) (bytes_eq next.name text) (length rosters) (known_as text false is) ∙ sym (place_more rosters next text)

-- ---- the map

module _ {K X : Type 0} (eq : K → K → Bool) (test : K → Bool) where
  other_entries : (old new : List (K × X)) → KeepsOthers eq test old new → (other : K → Bool) → IsKeyTest eq other → AreApart test other → lookup other new ≡ lookup other old
  unfolding KeepsOthers
  other_entries old new h = h

apart_in_order : (name text key : List ℕ) → bytes_eq name text ≡ false → is_eq (slice_cmp nat_cmp name key) ≡ true → is_eq (slice_cmp nat_cmp text key) ≡ false
apart_in_order name text key other same = elim (cases_Bool (bytes_eq text key)) [
  | inr miss ↦ is_eq-slice_cmp text key ∙ miss
  | inl hit ↦
      let to_key : name ≡ key = bytes_eq-true name key (sym (is_eq-slice_cmp name key) ∙ same) in
      let both : name ≡ text = to_key ∙ sym (bytes_eq-true text key hit) in
      absurd (let e : true ≡ false = sym (bytes_eq-refl text) ∙ (rw both at other) in cc)
]

-- what a map has for a text after a place was put at a name
pub place_put : (name : List ℕ) (places got : BTreeMap (Vec ℕ Global) ℕ) (at : ℕ)
    → UpdatesBy (λ x y. slice_cmp nat_cmp x.items y.items) (λ key. slice_cmp nat_cmp name key.items) places got (Some at)
    → (text : List ℕ) → place_in got text ≡ cond (bytes_eq name text) (Some at) (place_in places text)
place_put name places got at h text = elim (cases_Bool (bytes_eq name text)) [
  | inl hit ↦ rw hit (ap (place_in got) (sym (bytes_eq-true name text hit)) ∙ h.1)
  | inr miss ↦ rw miss (other_entries _ _ _ _ h.3 _ (λ x y. (eq_by_cmp_equiv nat_list_cmp_total).congr text x.items y.items) (λ key. apart_in_order name text key.items miss))
]

-- ---- what is found

-- the place of a name is one of the instances
pub placed_within : (rosters : List Roster) (text : List ℕ) (o : Option ℕ) → o ≡ place_of (roster_names rosters) text → IfSome o (λ at. at < length rosters)
placed_within rosters text None is = tt
placed_within rosters text (Some at) is =
    omega (arith, length_names rosters, (position-Some (λ name. bytes_eq name text) (roster_names rosters) at [] (sym is)).0)
