-- Texts that are written piece after piece.
use Rattle.std.proofs.Common.{◌≡◌, ℕ, zero, suc, ◌+◌, flat_map, List, [], ◌∷◌, ◌++◌, sym, ap, ◌∙◌, append_assoc, arith}
use Rattle.std.specs.List.{range_with_len}
use Rattle.std.proofs.lemmas.List.{flat_map_more}

-- a further piece after those that were put
pub further : (old done piece : List ℕ) {now new : List ℕ} → now ≡ old ++ done → new ≡ now ++ piece → new ≡ old ++ (done ++ piece)
further old done piece before then = then ∙ ap (λ text. text ++ piece) before ∙ append_assoc old done piece

-- a line whose front was put, and then what it asks for in one piece or in two
module _ (old now end : List ℕ) (line : List ℕ → List ℕ) (front : (request : List ℕ) → (now ++ request) ++ end ≡ old ++ line request) where
  pub asked : (request : List ℕ) {new : List ℕ} → new ≡ now ++ (request ++ end) → new ≡ old ++ line request
  asked request is = is ∙ sym (append_assoc now request end) ∙ front request

  pub asked_for : (ask what x y : List ℕ) {new : List ℕ} → x ≡ now ++ ask → y ≡ x ++ what → new ≡ y ++ end → new ≡ old ++ line (ask ++ what)
  asked_for ask what x y first second is = is ∙ ap (λ text. text ++ end) (further now ask what first second) ∙ front (ask ++ what)

-- ---- a range that grows

range_more : (a n : ℕ) → range_with_len a (suc n) ≡ range_with_len a n ++ (a + n) ∷ []
range_more a zero = ap (λ k. k ∷ []) (omega arith)
range_more a (suc n) = ap (λ ks. a ∷ ks) (range_more (a + 1) n ∙ ap (λ k. range_with_len (a + 1) n ++ k ∷ []) (omega arith))

-- the texts of one number more
pub one_more : (text : ℕ → List ℕ) (old : List ℕ) (a n k m : ℕ) {now new : List ℕ} → now ≡ old ++ flat_map text (range_with_len a n) → new ≡ now ++ text k → k ≡ a + n → m ≡ suc n → new ≡ old ++ flat_map text (range_with_len a m)
one_more text old a n k m before is this more =
    rw more ((rw this at is) ∙ ap (λ all. all ++ text (a + n)) before ∙ flat_map_more text old (range_with_len a n) (a + n) ∙ ap (λ ks. old ++ flat_map text ks) (sym (range_more a n)))
