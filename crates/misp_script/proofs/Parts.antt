-- Lists in which no two items are equal, and their parts.
use Rattle.std.proofs.Common.{◌≡◌, ℕ, Bool, true, false, ◌&&◌, List, [], ◌∷◌, map, refl, sym, ap, ◌∙◌, inl, inr, bytes_eq, filter}
use Rattle.misp_lists.proofs.Prelude.{AllByRecursion, IsDistinct, bytes_eq-Decides, cases_Bool}
use Rattle.misp_script.proofs.Lookups.{bytes_eq-true}

pub bytes_eq-refl : (text : List ℕ) → bytes_eq text text ≡ true
bytes_eq-refl text = (bytes_eq-Decides text text).1 refl

and_miss : (a b : Bool) → (a && b) ≡ false → b ≡ true → a ≡ false
and_miss false b h hit = refl
and_miss true b h hit = absurd (let e : true ≡ false = sym hit ∙ h in cc)

-- ---- the part of one name

module _ {A B : Type 0} (at : A → List ℕ) (part : A → B) (name : List ℕ) where
  abbrev own : A → Bool
  own x = bytes_eq (at x) name

  abbrev parts_of : List A → List B
  parts_of xs = map part (filter own xs)

  -- what holds of each item of that name holds of each part
  pub all_own : (P : B → Type 0) (Q : A → Type 0) → ((x : A) → at x ≡ name → Q x → P (part x)) → (xs : List A) → AllByRecursion Q xs → AllByRecursion P (parts_of xs)
  all_own P Q gives [] all = tt
  all_own P Q gives (x ∷ xs) all = elim (cases_Bool (own x)) [
    | inl hit ↦ rw hit (gives x (bytes_eq-true (at x) name hit) all.0, all_own P Q gives xs all.1)
    | inr miss ↦ rw miss (all_own P Q gives xs all.1)
  ]

  -- items that differ in their part or their name have different parts where the name is the same
  pub distinct_own : (same : B → B → Bool) (xs : List A) → IsDistinct (λ x y. same (part x) (part y) && bytes_eq (at x) (at y)) xs → IsDistinct same (parts_of xs)
  unfolding IsDistinct
  distinct_own same [] apart = tt
  distinct_own same (x ∷ xs) apart = elim (cases_Bool (own x)) [
    | inl hit ↦
        let here : at x ≡ name = bytes_eq-true (at x) name hit in
        rw hit (
          all_own (λ b. same (part x) b ≡ false) (λ y. (same (part x) (part y) && bytes_eq (at x) (at y)) ≡ false)
              (λ y there other. and_miss (same (part x) (part y)) (bytes_eq (at x) (at y)) other (ap (bytes_eq (at x)) (there ∙ sym here) ∙ bytes_eq-refl (at x))) xs apart.0,
          distinct_own same xs apart.1,
        )
    | inr miss ↦ rw miss (distinct_own same xs apart.1)
  ]
