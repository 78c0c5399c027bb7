-- What is found after one more was put.
use Rattle.std.proofs.Common.{◌≡◌, ℕ, Bool, true, false, cond, ◌&&◌, ◌||◌, List, [], ◌∷◌, ◌++◌, Option, Some, None, option_map, find, is_some, refl, sym, ap, ◌∙◌, inl, inr, Ordering, Less, Equal, Greater, is_eq, nat_cmp, bytes_eq}
use Rattle.std.proofs.lemmas.List.Folds.{list_any-append}
use Rattle.misp_lists.proofs.Prelude.{bytes_eq-Decides, cases_Bool, is_eq-slice_cmp, list_any, ordering_then, slice_cmp}
use Rattle.misp_script.specs.Known.{pair_order}

both_equal : (a b : Ordering) → is_eq (ordering_then a b) ≡ (is_eq b && is_eq a)
both_equal Less Less = refl
both_equal Less Equal = refl
both_equal Less Greater = refl
both_equal Equal Less = refl
both_equal Equal Equal = refl
both_equal Equal Greater = refl
both_equal Greater Less = refl
both_equal Greater Equal = refl
both_equal Greater Greater = refl

pairs_equal : (first second a b : List ℕ) → is_eq (pair_order (first, second) (a, b)) ≡ (bytes_eq second b && bytes_eq first a)
pairs_equal first second a b =
    both_equal (slice_cmp nat_cmp first a) (slice_cmp nat_cmp second b)
    ∙ ap (λ t. t && is_eq (slice_cmp nat_cmp first a)) (is_eq-slice_cmp second b)
    ∙ ap (λ t. bytes_eq second b && t) (is_eq-slice_cmp first a)

or_hit : (hit had : Bool) → cond hit true had ≡ (had || hit)
or_hit true true = refl
or_hit true false = refl
or_hit false true = refl
or_hit false false = refl

pub bytes_eq-true : (xs ys : List ℕ) → bytes_eq xs ys ≡ true → xs ≡ ys
bytes_eq-true xs ys h = (bytes_eq-Decides xs ys).0 h

-- a set after a pair was put
pub pair_put : (first second a b : List ℕ) (had : Bool) → cond (is_eq (pair_order (first, second) (a, b))) true had ≡ (had || (bytes_eq second b && bytes_eq first a))
pair_put first second a b had = or_hit (is_eq (pair_order (first, second) (a, b))) had ∙ ap (λ t. had || t) (pairs_equal first second a b)

or_false : (a : Bool) → (a || false) ≡ a
or_false true = refl
or_false false = refl

-- a test of some item, with one more at the end
pub any_last : {A : Type 0} (p : A → Bool) (xs : List A) (x : A) → list_any p (xs ++ x ∷ []) ≡ (list_any p xs || p x)
any_last p xs x = list_any-append p xs (x ∷ []) ∙ ap (λ t. list_any p xs || t) (or_false (p x))

-- ---- what a name stands for, in a list and in a map

module _ {X V : Type 0} (name : X → List ℕ) (value : X → V) where
  -- the value of the first item of a name
  abbrev looked : List X → List ℕ → Option V
  looked xs text = option_map value (find (λ x. bytes_eq (name x) text) xs)

  -- the one that was found stays
  named_hit : (xs : List X) (o : X) (text : List ℕ) (u : V) → looked xs text ≡ Some u → looked (xs ++ o ∷ []) text ≡ Some u
  named_hit [] o text u h = absurd cc
  named_hit (x ∷ xs) o text u h = elim (cases_Bool (bytes_eq (name x) text)) [
    | inl hit ↦ rw hit (rw hit at h)
    | inr miss ↦ rw miss (named_hit xs o text u (rw miss at h))
  ]

  -- where none was found it is the last, if it has the name
  named_miss : (xs : List X) (o : X) (text : List ℕ) → looked xs text ≡ None → looked (xs ++ o ∷ []) text ≡ cond (bytes_eq (name o) text) (Some (value o)) None
  named_miss [] o text h = elim (cases_Bool (bytes_eq (name o) text)) [
    | inl hit ↦ rw hit refl
    | inr miss ↦ rw miss refl
  ]
  named_miss (x ∷ xs) o text h = elim (cases_Bool (bytes_eq (name x) text)) [
    | inl hit ↦ absurd (let e : Some (value x) ≡ None = rw hit at h in cc)
    | inr miss ↦ rw miss (named_miss xs o text (rw miss at h))
  ]

  named_by : (xs : List X) (o : X) (text : List ℕ) (was : Option V) → looked xs text ≡ was → (bytes_eq (name o) text ≡ true → was ≡ None)
      → looked (xs ++ o ∷ []) text ≡ cond (bytes_eq (name o) text) (Some (value o)) was
  named_by xs o text None is fresh = named_miss xs o text is
  named_by xs o text (Some u) is fresh = elim (cases_Bool (bytes_eq (name o) text)) [
    | inl hit ↦ absurd (let e : Some u ≡ None = fresh hit in cc)
    | inr miss ↦ rw miss (named_hit xs o text u is)
  ]

  -- one whose name is new is found by it
  named_new : (xs : List X) (o : X) → looked xs (name o) ≡ None → (text : List ℕ) → looked (xs ++ o ∷ []) text ≡ cond (bytes_eq (name o) text) (Some (value o)) (looked xs text)
  named_new xs o new text = named_by xs o text (looked xs text) refl (λ hit. ap (looked xs) (sym (bytes_eq-true (name o) text hit)) ∙ new)

  named_as : (xs : List X) (o : X) (text : List ℕ) (was : Option V) → looked xs text ≡ was → (bytes_eq (name o) text ≡ true → is_some was ≡ true)
      → looked (xs ++ o ∷ []) text ≡ was
  named_as xs o text (Some u) is known = named_hit xs o text u is
  named_as xs o text None is known = elim (cases_Bool (bytes_eq (name o) text)) [
    | inl hit ↦ absurd (let e : false ≡ true = known hit in cc)
    | inr miss ↦ named_miss xs o text is ∙ rw miss refl
  ]

  -- one whose name is known changes nothing
  named_old : (xs : List X) (o : X) → is_some (looked xs (name o)) ≡ true → (text : List ℕ) → looked (xs ++ o ∷ []) text ≡ looked xs text
  named_old xs o known text = named_as xs o text (looked xs text) refl (λ hit. ap (λ t. is_some (looked xs t)) (sym (bytes_eq-true (name o) text hit)) ∙ known)

  none_from : (o : Option V) → is_some o ≡ false → o ≡ None
  none_from None h = refl
  none_from (Some x) h = absurd cc

  -- a map of names, where the item's is in it
  pub names_old : (get : List ℕ → Option V) (xs : List X) (o : X) → ((t : List ℕ) → get t ≡ looked xs t) → is_some (get (name o)) ≡ true
      → (text : List ℕ) → get text ≡ looked (xs ++ o ∷ []) text
  names_old get xs o known is text = known text ∙ sym (named_old xs o (ap is_some (sym (known (name o))) ∙ is) text)

  -- and after it was put there
  pub names_new : (get got : List ℕ → Option V) (xs : List X) (o : X) → ((t : List ℕ) → get t ≡ looked xs t) → is_some (get (name o)) ≡ false
      → ((t : List ℕ) → got t ≡ cond (bytes_eq (name o) t) (Some (value o)) (get t)) → (text : List ℕ) → got text ≡ looked (xs ++ o ∷ []) text
  names_new get got xs o known is puts text =
      puts text ∙ ap (λ was. cond (bytes_eq (name o) text) (Some (value o)) was) (known text)
      ∙ sym (named_new xs o (none_from _ (ap is_some (sym (known (name o))) ∙ is)) text)
