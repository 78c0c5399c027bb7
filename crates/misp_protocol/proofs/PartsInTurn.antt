-- Parts are numbered one after another.
use Rattle.std.proofs.Common.{arith, ◌≡◌, ℕ, ◌+◌, suc, List, [], ◌∷◌, ◌++◌, length, ap, subst}
use Rattle.std.proofs.lemmas.Grind.{common_steps}
use Rattle.misp_elem.specs.Prelude.{EventId}
use Rattle.misp_manifest.specs.declared.manifest.KeyStamp.{KeyStamp}
use Rattle.misp_protocol.specs.Parts.{parts_from}
use Rattle.misp_protocol.specs.declared.part_keys.PartKeysFields.{PartKeysFields}

-- one more has the number of those before it
pub parts_from_more : (e : EventId) (n : ℕ) (xs : List (List KeyStamp)) (k : List KeyStamp)
    → parts_from e n (xs ++ k ∷ [])
    ≡ parts_from e n xs ++ record { event = e; part = n + length xs; keys = k } ∷ []
parts_from_more e n [] k =
    let same : n ≡ n + length {A = List KeyStamp} [] = omega arith in
    ap (λ m. record { event = e; part = m; keys = k } ∷ []) same
parts_from_more e n (x ∷ xs) k =
    let same : suc n + length xs ≡ n + length (x ∷ xs) = omega arith in
    subst (λ m. parts_from e n ((x ∷ xs) ++ k ∷ []) ≡ parts_from e n (x ∷ xs) ++ record { event = e; part = m; keys = k } ∷ [])
    same (ap (λ l. record { event = e; part = n; keys = x } ∷ l) (parts_from_more e (suc n) xs k))

-- and so it is added
pub is_added : (e : EventId) (before all new : List PartKeysFields) (xs : List (List KeyStamp)) (k : List KeyStamp)
    (p : PartKeysFields) (n : ℕ) → new ≡ all ++ p ∷ [] → p ≡ record { event = e; part = n; keys = k }
    → all ≡ before ++ parts_from e 0 xs → n ≡ length xs → new ≡ before ++ parts_from e 0 (xs ++ k ∷ [])
is_added e before all new xs k p n pushed is added count =
    let number : n ≡ 0 + length xs = omega (arith, count) in
    rw (parts_from_more e 0 xs k) (grind (arith, common_steps, pushed, is, added, number))
