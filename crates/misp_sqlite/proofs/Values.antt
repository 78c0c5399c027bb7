-- When SQL finds values equal.
use Rattle.std.proofs.Common.{◌≡◌, ◌⊎◌, ℤ, ◌||◌, Bool, true, false, cond, List, ℕ, refl, sym, ap, ◌∙◌, inl, inr, Ordering, Less, Equal, Greater, is_eq, Some}
use Rattle.std.specs.Float.{Float}
use Rattle.std.specs.Ordering.{is_ne}
use Rattle.std.specs.Prelude.{bytes_eq}
use Rattle.std.proofs.lemmas.Bool.{or_parts}
use Rattle.std.proofs.lemmas.Cmp.{tied_back}
use Rattle.std.proofs.lemmas.Map.Lookups.{exact_signed}
use Rattle.sqlite_value.specs.declared.value.Value.{Value}
use Rattle.sqlite_value.specs.declared.value.Value.TheVariants.{Null, Int, Real, Text, Blob}
use Rattle.sqlite_value.specs.declared.keys.Collation.TheVariants.{Binary}
use Rattle.sqlite_value.specs.Order.{bytes, value_cmp}
use Rattle.sqlite_value.proofs.OrderLemmas.{value_cmp_total, value_cmp-Int, value_cmp-Null, value_cmp-apart}
use Rattle.sqlite_sql.specs.Ops.{binary, is_null, is_true, from_truth}
use Rattle.sqlite_schema.specs.Rules.{equal, differ}
use Rattle.misp_lists.proofs.Prelude.{and_parts, ordering_reverse}
use Rattle.misp_sqlite.specs.Stored.{is_blob}
use Rattle.misp_sqlite.proofs.Stored.{equal_blob, same_bytes}

compared_parts : (null test : Bool) → is_true (cond null Null (from_truth (Some test))) ≡ true → (null ≡ false) × (test ≡ true)
compared_parts true test h = absurd cc
compared_parts false true h = (refl, refl)
compared_parts false false h = absurd cc

pub tied : (o : Ordering) → is_eq o ≡ true → o ≡ Equal
tied Less h = absurd cc
tied Equal h = refl
tied Greater h = absurd cc

pub equal_parts : (a b : Value) → equal Binary a b ≡ true → (is_null a ≡ false) × (is_null b ≡ false) × (value_cmp a b ≡ Equal)
unfolding binary
equal_parts a b h =
    let parts = compared_parts (is_null a || is_null b) (is_eq (value_cmp a b)) h in
    let nulls = or_parts (is_null a) (is_null b) parts.0 in
    (nulls.0, nulls.1, tied _ parts.1)

pub equal_from : (a b : Value) → is_null a ≡ false → is_null b ≡ false → value_cmp a b ≡ Equal → equal Binary a b ≡ true
unfolding binary
equal_from a b p q same = rw (p, q, same)

pub same_value : (v : Value) → value_cmp v v ≡ Equal
same_value v = go (value_cmp v v) (value_cmp_total.antisymm v v)
  where
    go : (o : Ordering) → o ≡ ordering_reverse o → o ≡ Equal
    go Less h = absurd cc
    go Equal h = refl
    go Greater h = absurd cc

pub equal_itself : (v : Value) → is_null v ≡ false → equal Binary v v ≡ true
equal_itself v some = equal_from v v some some (same_value v)

-- values that are tied with a third are equal
pub equal_through : (a b c : Value) → is_null a ≡ false → is_null b ≡ false → value_cmp a c ≡ Equal → value_cmp b c ≡ Equal → equal Binary a b ≡ true
equal_through a b c some others h k = equal_from a b some others (value_cmp_total.congr a c b h ∙ tied_back value_cmp_total b c k)

pub is_the_blob : (v : Value) (e : List ℕ) → equal Binary v (Blob e) ≡ true → v ≡ Blob e
is_the_blob v e h = go v (and_parts (is_blob v) (bytes_eq (bytes v) e) (sym (equal_blob v e) ∙ h))
  where
    go : (w : Value) → (is_blob w ≡ true) × (bytes_eq (bytes w) e ≡ true) → w ≡ Blob e
    go Null p = absurd (let bad = p.0 in cc)
    go (Int n) p = absurd (let bad = p.0 in cc)
    go (Real x) p = absurd (let bad = p.0 in cc)
    go (Text t) p = absurd (let bad = p.0 in cc)
    go (Blob b) p = ap (λ x. Blob x) (same_bytes b e p.1)

-- a value that is equal to a number is that number, or a floating one
pub is_the_number : (v : Value) (k : ℤ) → equal Binary v (Int k) ≡ true → (v ≡ Int k) ⊎ ((x : Float) × (v ≡ Real x))
is_the_number v k h = go v (equal_parts v (Int k) h)
  where
    go : (w : Value) → (is_null w ≡ false) × (is_null (Int k) ≡ false) × (value_cmp w (Int k) ≡ Equal) → (w ≡ Int k) ⊎ ((x : Float) × (w ≡ Real x))
    go Null p = absurd (let bad = p.0 in cc)
    go (Int n) p = inl (ap (λ m. Int m) (exact_signed n k (sym (value_cmp-Int n k) ∙ p.2)))
    go (Real x) p = inr (x, refl)
    go (Text t) p = absurd (let bad = sym (value_cmp-apart (Text t) (Int k) (λ same. absurd cc)) ∙ p.2 in cc)
    go (Blob b) p = absurd (let bad = sym (value_cmp-apart (Blob b) (Int k) (λ same. absurd cc)) ∙ p.2 in cc)

unequal : (o : Ordering) → is_eq o ≡ false → is_ne o ≡ true
unequal Less h = refl
unequal Equal h = absurd cc
unequal Greater h = refl

-- a value that is not tied with a number, and does not differ from it, is NULL
pub is_nothing : (v : Value) (k : ℤ) → is_eq (value_cmp v (Int k)) ≡ false → differ v (Int k) ≡ false → is_null v ≡ true
unfolding binary
is_nothing v k apart same = go (is_null v) refl
  where
    go : (b : Bool) → is_null v ≡ b → b ≡ true
    go true e = refl
    go false e = let bad : false ≡ true = sym same ∙ rw (e, unequal (value_cmp v (Int k)) apart) refl in cc

-- a value that is tied with a number is not NULL
pub tied_some : (v : Value) (k : ℤ) → value_cmp v (Int k) ≡ Equal → is_null v ≡ false
tied_some Null k h = absurd (let bad = sym (value_cmp-Null (Int k)) ∙ h in cc)
tied_some (Int n) k h = refl
tied_some (Real x) k h = refl
tied_some (Text t) k h = refl
tied_some (Blob b) k h = refl
