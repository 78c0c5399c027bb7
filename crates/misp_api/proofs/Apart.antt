-- Tokens that differ take no path in common.
use Rattle.std.proofs.Common.{◌≡◌, ℕ, Bool, true, false, not, ◌==◌, List, [], ◌∷◌, sym, ◌∙◌, refl, inl, inr}
use Rattle.std.proofs.lemmas.Bool.{cases_Bool, and_parts, eqb-true, eq-eqb, false≢true}
use Rattle.misp_api.proofs.Tokens.{fits, differs}

no_test : (c : Bool) → not c ≡ true → c ≡ false
no_test true h = absurd (false≢true h)
no_test false h = refl

unequal : (x y : ℕ) → x ≡ y → (x == y) ≡ false → ⊥
unequal x y same ne = false≢true (sym ne ∙ eq-eqb x y same)

pub apart_sound : (w : Bool) (t u p : List ℕ) → differs t u ≡ true → fits w t p ≡ true → fits w u p ≡ true → ⊥
apart_sound w [] [] p a f g = false≢true a
apart_sound w [] (y ∷ u) [] a f g = false≢true g
apart_sound w (x ∷ t) u [] a f g = false≢true f
apart_sound false [] (y ∷ u) (b ∷ p) a f g = false≢true f
apart_sound false (x ∷ t) [] (b ∷ p) a f g = false≢true g
apart_sound false (x ∷ t) (y ∷ u) (b ∷ p) a f g = elim (cases_Bool (x == 256)) [
  | inl xp ↦ elim (cases_Bool (y == 256)) [
    | inl yp ↦ apart_sound true t u p (rw (xp, yp) at a) (and_parts _ _ (rw xp at f)).1 (and_parts _ _ (rw yp at g)).1
    | inr yl ↦ false≢true (rw (xp, yl) at a)
  ]
  | inr xl ↦ elim (cases_Bool (y == 256)) [
    | inl yp ↦ false≢true (rw (xl, yp) at a)
    | inr yl ↦ let fp = and_parts (x == b) (fits false t p) (rw xl at f) in
        let gp = and_parts (y == b) (fits false u p) (rw yl at g) in
        let same : x ≡ y = eqb-true x b fp.0 ∙ sym (eqb-true y b gp.0) in
        elim (cases_Bool (x == y)) [
          | inl eq ↦ apart_sound false t u p (rw (xl, yl, eq) at a) fp.1 gp.1
          | inr ne ↦ unequal x y same ne
        ]
  ]
]
apart_sound true [] (y ∷ u) (b ∷ p) a f g =
    let fp = and_parts (not (b == 47)) (fits true [] p) f in
    apart_sound true [] (y ∷ u) p a fp.1 (rw (no_test (b == 47) fp.0) at g)
apart_sound true (x ∷ t) [] (b ∷ p) a f g =
    let gp = and_parts (not (b == 47)) (fits true [] p) g in
    apart_sound true (x ∷ t) [] p a (rw (no_test (b == 47) gp.0) at f) gp.1
apart_sound true (x ∷ t) (y ∷ u) (b ∷ p) a f g = elim (cases_Bool (b == 47)) [
  | inr on ↦ apart_sound true (x ∷ t) (y ∷ u) p a (rw on at f) (rw on at g)
  | inl slash ↦
      let fp = and_parts (x == 47) (fits false t p) (rw slash at f) in
      let gp = and_parts (y == 47) (fits false u p) (rw slash at g) in
      apart_sound false t u p (rest x y t u (eqb-true x 47 fp.0) (eqb-true y 47 gp.0) a) fp.1 gp.1
]
  where
    rest : (x y : ℕ) (t u : List ℕ) → x ≡ 47 → y ≡ 47 → differs (x ∷ t) (y ∷ u) ≡ true → differs t u ≡ true
    rest x y t u xs ys a = rw (xs, ys) at a
