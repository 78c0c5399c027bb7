-- Uuids that stand twice.
use Rattle.std.proofs.Common.{◌≡◌, ◌∙◌, ℕ, ◌+◌, ◌<◌, Bool, true, false, eqb, not, ◌&&◌, ◌||◌, cond, List, [], ◌∷◌, ◌++◌, length, drop, get_or, map, Option, Some, None, option_map, ap, sym, refl, arith, find, filter, filter_map, is_some}
use Rattle.std.proofs.lemmas.List.{at_drop_more}
use Rattle.misp_lists.proofs.Lists.{map_twice}
use Rattle.misp_lists.proofs.Ordering.{any_put as placed, any_in_order as ordered}
use Rattle.misp_model.proofs.Prelude.{Draft, ElemId, Place, ReferenceDraft, Scene, Submission, any_map, are_distinct, cons_option, has_target, in_order, list_any, map-append, nat_tests, put, target_of, uuid_at, uuids_of}
use Rattle.misp_edit.specs.Uuids.{part_uuid, reference_uuid, numbered_in, clash_in}
use Rattle.misp_edit.specs.Adding.{numbered_uuids, with_those_before}
use Rattle.misp_edit.proofs.ListLemmas.{any_or}

-- what is used alike clashes alike
pub clash_same : (f g : ℕ → Bool) (us : List ℕ) → ((u : ℕ) → f u ≡ g u) → clash_in f us ≡ clash_in g us
unfolding clash_in
clash_same f g [] h = refl
clash_same f g (u ∷ us) h = grind (arith, h u, clash_same (λ v. eqb u v || f v) (λ v. eqb u v || g v) us (λ v. ap (λ b. eqb u v || b) (h v)))

-- the others, where it is not
pub clash_next : (used more : ℕ → Bool) (u : ℕ) (us : List ℕ) → used u ≡ false → ((q : ℕ) → more q ≡ (eqb u q || used q)) →
    clash_in used (u ∷ us) ≡ clash_in more us
unfolding clash_in
clash_next used more u us h k = rw h (sym (clash_same more (λ q. eqb u q || used q) us k))

-- the next uuid is before the others
pub clash_at : (used : ℕ → Bool) (pairs : List (ℕ × ℕ)) (i : ℕ) (d : ℕ × ℕ) → i < length pairs →
    clash_in used (map (λ p. p.1) (drop i pairs)) ≡ clash_in used ((get_or pairs i d).1 ∷ map (λ p. p.1) (drop (i + 1) pairs))
clash_at used pairs i d l = at_drop_more (λ ps. clash_in used (map (λ p. p.1) ps)) pairs i d l

-- there is a clash where a uuid stands twice or is used
pub is_clash_in : (used : ℕ → Bool) (us : List ℕ) → is_some (clash_in used us) ≡ (not (are_distinct us) || list_any used us)
unfolding clash_in are_distinct
is_clash_in used [] = refl
is_clash_in used (u ∷ us) = grind (arith, is_clash_in (λ v. eqb u v || used v) us, any_or (eqb u) used us)

-- the clash of the definition, among those before which these stand
pub first_clash_is : (used : ℕ → Bool) (before us : List ℕ) →
    option_map (λ p. p.1) (find (λ (p : List ℕ × ℕ). used p.1 || list_any (eqb p.1) p.0) (with_those_before before us))
    ≡ clash_in (λ v. list_any (eqb v) before || used v) us
unfolding clash_in with_those_before
first_clash_is used before [] = refl
first_clash_is used before (u ∷ us) =
    grind (arith, first_clash_is used (u ∷ before) us, clash_same (λ v. list_any (eqb v) (u ∷ before) || used v) (λ v. eqb u v || (list_any (eqb v) before || used v)) us (λ v. grind arith))

module _ {X : Type 0} (before : X → X → Bool) (f : X → ℕ) where
  any_put : (p : ℕ → Bool) (x : X) (ys : List X) → list_any p (map f (put before x ys)) ≡ (p (f x) || list_any p (map f ys))
  any_put p x ys = any_map f p (put before x ys) ∙ placed before (λ y. p (f y)) x ys ∙ ap (λ t. p (f x) || t) (sym (any_map f p ys))

  -- the order of a list does not matter to a search
  pub any_in_order : (p : ℕ → Bool) (xs : List X) → list_any p (map f (in_order before xs)) ≡ list_any p (map f xs)
  any_in_order p xs = any_map f p (in_order before xs) ∙ ordered before (λ y. p (f y)) xs ∙ sym (any_map f p xs)

  distinct_put : (x : X) (ys : List X) → are_distinct (map f (put before x ys)) ≡ (not (list_any (eqb (f x)) (map f ys)) && are_distinct (map f ys))
  unfolding put are_distinct
  distinct_put x [] = refl
  distinct_put x (y ∷ ys) = one (before x y) (distinct_put x ys)
    where
      swap : (e g a b d : Bool) → e ≡ g → (not (e || b) && (not a && d)) ≡ (not (g || a) && (not b && d))
      swap true true a b d h = refl
      swap true false a b d h = grind (arith, h)
      swap false true a b d h = grind (arith, h)
      swap false false true true d h = refl
      swap false false true false d h = refl
      swap false false false true d h = refl
      swap false false false false d h = refl

      turned : (m n : ℕ) → eqb m n ≡ eqb n m
      turned m n = grind (arith, nat_tests)

      one : (b : Bool) → are_distinct (map f (put before x ys)) ≡ (not (list_any (eqb (f x)) (map f ys)) && are_distinct (map f ys)) →
          are_distinct (map f (cond b (x ∷ y ∷ ys) (y ∷ put before x ys))) ≡ (not (list_any (eqb (f x)) (map f (y ∷ ys))) && are_distinct (map f (y ∷ ys)))
      one true ih = refl
      one false ih =
          (λ i. not (any_put (eqb (f y)) x ys i) && ih i)
          ∙ swap (eqb (f y) (f x)) (eqb (f x) (f y)) (list_any (eqb (f x)) (map f ys)) (list_any (eqb (f y)) (map f ys)) (are_distinct (map f ys)) (turned (f y) (f x))

  -- nor to whether a number stands twice
  pub distinct_in_order : (xs : List X) → are_distinct (map f (in_order before xs)) ≡ are_distinct (map f xs)
  unfolding in_order are_distinct
  distinct_in_order [] = refl
  distinct_in_order (x ∷ xs) = distinct_put x (in_order before xs) ∙ (λ i. not (any_in_order (eqb (f x)) xs i) && distinct_in_order xs i)

module _ (s : Scene) (b : Submission) where
  -- without their places they are the uuids of the definition
  pub unnumbered : map (λ p. p.1) (numbered_uuids s b) ≡ uuids_of s b
  unfolding numbered_uuids uuids_of
  unnumbered =
      map-append (λ (p : ℕ × ℕ). p.1) (map (λ d. (d.number, uuid_at b.event d.place)) b.parts) (map (λ r. (r.number, r.uuid.0.0)) (filter (has_target s b) b.references))
      ∙ (λ i. map_twice (λ (d : Draft). (d.number, uuid_at b.event d.place)) (λ (p : ℕ × ℕ). p.1) (λ d. uuid_at b.event d.place) (λ d. refl) b.parts i
      ++ map_twice (λ (r : ReferenceDraft). (r.number, r.uuid.0.0)) (λ (p : ℕ × ℕ). p.1) (λ r. r.uuid.0.0) (λ r. refl) (filter (has_target s b) b.references) i)

  module _ (target : ElemId → Option Place) (is : (u : ElemId) → target u ≡ target_of s b.event b.parts u) where
    references_numbered : (rs : List ReferenceDraft) → map (λ r. (r.number, r.uuid.0.0)) (filter (has_target s b) rs) ≡ filter_map (reference_uuid target) rs
    unfolding has_target reference_uuid
    references_numbered [] = refl
    references_numbered (r ∷ rs) = rw (is r.referenced) (one (target_of s b.event b.parts r.referenced) (references_numbered rs))
      where
        one : (t : Option Place) → map (λ (r : ReferenceDraft). (r.number, r.uuid.0.0)) (filter (has_target s b) rs) ≡ filter_map (reference_uuid target) rs →
            map (λ (r : ReferenceDraft). (r.number, r.uuid.0.0)) (cond (elim t [ Some p ↦ true | None ↦ false ]) (r ∷ filter (has_target s b) rs) (filter (has_target s b) rs))
            ≡ cons_option (option_map (λ p. (r.number, r.uuid.0.0)) t) (filter_map (reference_uuid target) rs)
        one None ih = ih
        one (Some p) ih = ap (λ ps. (r.number, r.uuid.0.0) ∷ ps) ih

    -- those of the definition, by what the references name
    pub numbered_is : numbered_uuids s b ≡ numbered_in target b
    unfolding numbered_uuids numbered_in part_uuid
    numbered_is = ap (λ ps. map (λ d. (d.number, uuid_at b.event d.place)) b.parts ++ ps) (references_numbered b.references)
