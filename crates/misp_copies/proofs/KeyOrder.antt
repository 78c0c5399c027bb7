-- The order of keys tells them apart.
use Rattle.std.proofs.Common.{◌≡◌, Bool, true, false, refl, ap, sym, ◌∙◌, Bor, Ordering, Less, Equal, Greater, nat_cmp, is_lt, is_eq}
use Rattle.std.specs.Cmp.{IsTotalOrder, IsStrictWeakOrder}
use Rattle.std.proofs.lemmas.Cmp.{nat_cmp_total, nat_list_cmp_total, on_total, then_total}
use Rattle.std.proofs.lemmas.List.Sorted.{ranks_by}
use Rattle.misp_elem.specs.Key.{IsKey}
use Rattle.misp_model.proofs.Prelude.{Key, Row, bytes_eq-Decides, is_eq-slice_cmp, less_is, ordering_reverse, same_key, same_key-refl, same_key-sound, slice_cmp, spell, spells}
use Rattle.misp_model.proofs.NameOrder.{keys_in_bytes}
use Rattle.misp_copies.specs.Keys.{key_cmp, target_of}
use Rattle.misp_copies.specs.StatementsByKey.{statement_cmp}
use Rattle.misp_elem.specs.Spelling as spelling

-- an answer is known by whether it is less, and whether it is so turned round
by_less : (o p : Ordering) → is_lt o ≡ is_lt p → is_lt (ordering_reverse o) ≡ is_lt (ordering_reverse p) → o ≡ p
by_less Less Less h k = refl
by_less Equal Equal h k = refl
by_less Greater Greater h k = refl
by_less _ _ h k = absurd cc

-- the order of their bytes is that of their numbers
pub in_numbers : (a b : Key) → IsKey a → IsKey b → slice_cmp nat_cmp (spelling.key a) (spelling.key b) ≡ key_cmp a b
in_numbers a b h k =
    by_less _ _ (less a b h k)
    (sym (ap is_lt (nat_list_cmp_total.antisymm (spelling.key b) (spelling.key a))) ∙ less b a k h ∙ ap is_lt (nat_list_cmp_total.antisymm (spell b) (spell a)))
  where
    less : (j m : Key) → IsKey j → IsKey m → is_lt (slice_cmp nat_cmp (spelling.key j) (spelling.key m)) ≡ is_lt (key_cmp j m)
    less j m p q = sym (keys_in_bytes j m p q) ∙ less_is (spell j) (spell m)

-- keys are level where they are the same
pub level_is : (j k : Key) → is_eq (key_cmp j k) ≡ same_key j k
level_is j k = one (is_eq (key_cmp j k)) (same_key j k) refl refl
  where
    one : (s t : Bool) → is_eq (key_cmp j k) ≡ s → same_key j k ≡ t → s ≡ t
    one true true e f = refl
    one false false e f = refl
    one true false e f =
        let same : spell j ≡ spell k = (bytes_eq-Decides (spell j) (spell k)).0 (sym (is_eq-slice_cmp (spell j) (spell k)) ∙ e) in
        sym (ap (λ q. same_key q k) (spells j k same) ∙ same_key-refl k) ∙ f
    one false true e f =
        sym e ∙ ap (λ q. is_eq (key_cmp q k)) (same_key-sound j k f)
        ∙ is_eq-slice_cmp (spell k) (spell k) ∙ (bytes_eq-Decides (spell k) (spell k)).1 refl

pub same_turned : (j k : Key) → same_key j k ≡ same_key k j
same_turned j k = sym (level_is j k) ∙ ap is_eq (nat_list_cmp_total.antisymm (spell j) (spell k)) ∙ one (key_cmp k j) ∙ level_is k j
  where
    one : (o : Ordering) → is_eq (ordering_reverse o) ≡ is_eq o
    one Less = refl
    one Equal = refl
    one Greater = refl

-- the orders of rows
pub target_weak : IsStrictWeakOrder {X = Bor Row} (λ a b. is_lt (key_cmp (target_of a.now.key) (target_of b.now.key)))
target_weak = ranks_by nat_list_cmp_total (λ (r : Bor Row). spell (target_of r.now.key))

pub statement_total : IsTotalOrder statement_cmp
statement_total = then_total (on_total (λ (r : Row). spell r.key) nat_list_cmp_total) (on_total (λ (r : Row). r.owner.0.0) nat_cmp_total)

pub statement_weak : IsStrictWeakOrder {X = Bor Row} (λ a b. is_lt (statement_cmp a.now b.now))
statement_weak = ranks_by statement_total (λ (r : Bor Row). r.now)
