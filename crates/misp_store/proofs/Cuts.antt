-- Parts of a list in order, and what is behind the first that a search finds in it.
use Rattle.std.proofs.Common.{◌≡◌, List, [], ◌∷◌, ◌++◌, Bool, true, false, refl, ap, sym, subst, ◌∙◌, cond, find, Some, None, inl, inr, ◌||◌, filter}
use Rattle.misp_lists.specs.Order.{ascend}
use Rattle.misp_lists.proofs.Lists.{alike, filter_agree, filter_never, some_same}
use Rattle.misp_lists.proofs.Prelude.{and_parts, cases_Bool, false_from_ne_true, false≢true, list_all}

module _ {X : Type 0} (before : X → X → Bool) where
  -- nothing behind an element passes
  none_behind : (p : X → Bool) (x : X) → ((b : X) → before x b ≡ true → p b ≡ true → ⊥) → (xs : List X) → list_all (before x) xs ≡ true → filter p xs ≡ []
  none_behind p x never xs all = filter_agree p (λ b. false) (before x) (λ b h. false_from_ne_true _ (never b h)) xs all ∙ filter_never (λ b. false) (λ b. refl) xs

  -- what passes one of two tests is what passes the first, and then what passes the second
  pub parts : (p q : X → Bool) → ((a b : X) → before a b ≡ true → q a ≡ true → p b ≡ true → ⊥) → ((a : X) → p a ≡ true → q a ≡ true → ⊥)
      → (xs : List X) → ascend before xs ≡ true → filter (λ x. p x || q x) xs ≡ filter p xs ++ filter q xs
  unfolding ascend
  parts p q after apart [] up = refl
  parts p q after apart (x ∷ xs) up =
      let two : (list_all (before x) xs ≡ true) × (ascend before xs ≡ true) = and_parts _ _ up in
      let rest = parts p q after apart xs two.1 in
      elim (cases_Bool (p x)) [
        | inl hit ↦
            let not_second : q x ≡ false = false_from_ne_true _ (apart x hit) in
            rw (hit, not_second) (ap (λ t. x ∷ t) rest)
        | inr miss ↦ elim (cases_Bool (q x)) [
          | inl second ↦
              let none : filter p xs ≡ [] = none_behind p x (λ b h. after x b h second) xs two.0 in
              rw (miss, second) (ap (λ t. x ∷ t) (rest ∙ ap (λ t. t ++ filter q xs) none) ∙ sym (ap (λ t. t ++ (x ∷ filter q xs)) none))
          | inr neither ↦ rw (miss, neither) rest
        ]
      ]

  module _ (t p : X → Bool) (into : (x : X) → p x ≡ true → t x ≡ true) where
    -- where nothing is found, nothing passes a stricter test
    pub none_found : (xs : List X) → find t xs ≡ None → filter p xs ≡ []
    none_found [] e = refl
    none_found (x ∷ xs) e = elim (cases_Bool (t x)) [
      | inl hit ↦ absurd (let bad : Some x ≡ None = sym (rw hit refl) ∙ e in cc)
      | inr miss ↦
          let rest : find t xs ≡ None = sym (rw miss refl) ∙ e in
          let fails : p x ≡ false = false_from_ne_true _ (λ h. false≢true (sym miss ∙ into x h)) in
          rw fails (none_found xs rest)
    ]

    -- a stricter test that none behind the first passes finds no other
    pub one_found : (f : X) → ((b : X) → before f b ≡ true → p b ≡ true → ⊥) → (xs : List X) → ascend before xs ≡ true → find t xs ≡ Some f → filter p xs ≡ filter p (f ∷ [])
    unfolding ascend
    one_found f never [] up e = absurd cc
    one_found f never (x ∷ xs) up e =
        let two : (list_all (before x) xs ≡ true) × (ascend before xs ≡ true) = and_parts _ _ up in
        elim (cases_Bool (t x)) [
          | inl hit ↦
              let is : x ≡ f = some_same x f (sym (rw hit refl) ∙ e) in
              let none : filter p xs ≡ [] = none_behind p f never xs (subst (λ y. list_all (before y) xs ≡ true) is two.0) in
              λ i. cond (p (is i)) (is i ∷ none i) (none i)
          | inr miss ↦
              let rest : find t xs ≡ Some f = sym (rw miss refl) ∙ e in
              let fails : p x ≡ false = false_from_ne_true _ (λ h. false≢true (sym miss ∙ into x h)) in
              rw fails (one_found f never xs two.1 rest)
        ]

    -- what is found first and passes a stricter test is the first that passes it
    pub found_too : (f : X) → p f ≡ true → (xs : List X) → find t xs ≡ Some f → find p xs ≡ Some f
    found_too f passes [] e = absurd cc
    found_too f passes (x ∷ xs) e = elim (cases_Bool (t x)) [
      | inl hit ↦
          let is : x ≡ f = some_same x f (sym (rw hit refl) ∙ e) in
          let here : p x ≡ true = ap p is ∙ passes in
          rw here (ap Some is)
      | inr miss ↦
          let rest : find t xs ≡ Some f = sym (rw miss refl) ∙ e in
          let fails : p x ≡ false = false_from_ne_true _ (λ h. false≢true (sym miss ∙ into x h)) in
          rw fails (found_too f passes xs rest)
    ]

    -- of what passes a stricter test nothing is before the first
    pub from_found : (r : X → Bool) → ((x : X) → r x ≡ true → p x ≡ true) → (f : X) → (p f ≡ true → r f ≡ true) → ((b : X) → before f b ≡ true → p b ≡ true → r b ≡ true)
        → (xs : List X) → ascend before xs ≡ true → find t xs ≡ Some f → filter p xs ≡ filter r xs
    unfolding ascend
    from_found r back f here onward [] up e = refl
    from_found r back f here onward (x ∷ xs) up e =
        let two : (list_all (before x) xs ≡ true) × (ascend before xs ≡ true) = and_parts _ _ up in
        elim (cases_Bool (t x)) [
          | inl hit ↦
              let is : x ≡ f = some_same x f (sym (rw hit refl) ∙ e) in
              let first : p x ≡ r x = alike (p x) (r x) (λ h. subst (λ y. r y ≡ true) (sym is) (here (subst (λ y. p y ≡ true) is h))) (back x) in
              let rest : filter p xs ≡ filter r xs = filter_agree p r (before x) (λ b h. alike (p b) (r b) (onward b (subst (λ y. before y b ≡ true) is h)) (back b)) xs two.0 in
              λ i. cond (first i) (x ∷ rest i) (rest i)
          | inr miss ↦
              let rest : find t xs ≡ Some f = sym (rw miss refl) ∙ e in
              let fails : p x ≡ false = false_from_ne_true _ (λ h. false≢true (sym miss ∙ into x h)) in
              let fails_too : r x ≡ false = false_from_ne_true _ (λ h. false≢true (sym miss ∙ into x (back x h))) in
              rw (fails, fails_too) (from_found r back f here onward xs two.1 rest)
        ]
