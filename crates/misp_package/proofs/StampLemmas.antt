-- Stamps by their keys, with one more.
use Rattle.std.proofs.Common.{◌≡◌, Bool, true, false, cond, refl, ap, sym, ◌∙◌, ◌&&◌, ◌||◌, not, leb, arith, is_eq, Option, Some, None, BTreeMap}
use Rattle.std.specs.BTreeMap.{IsEmpty}
use Rattle.misp_lists.proofs.Prelude.{lookup, nat_tests}
use Rattle.misp_elem.specs.contracts.key.KeyOrd.TheImpl as key_order
use Rattle.misp_model.proofs.Prelude.{Key, OrgId, Row, and_parts, false≢true, is_row_of, not-true, same_key, same_key-sound, same_org}
use Rattle.misp_model.specs.Prelude.{Stamp}
use Rattle.misp_package.specs.Stamps.{is_as_new, stamp_at}
use Rattle.misp_package.proofs.SameKeys.{key_is}

-- what the order of keys finds
pub found_by_order : (stamps : BTreeMap Key Stamp) (k : Key) → lookup (λ j. is_eq (key_order.cmp-value.it k j)) stamps.entries ≡ stamp_at stamps k
unfolding stamp_at
found_by_order stamps k = λ i. lookup (λ j. key_is k j i) stamps.entries

-- a stamp more
pub put_at : (old new : BTreeMap Key Stamp) (k : Key) (s : Stamp) →
    ((j : Key) → lookup (λ m. is_eq (key_order.cmp-value.it j m)) new.entries ≡ cond (is_eq (key_order.cmp-value.it k j)) (Some s) (lookup (λ m. is_eq (key_order.cmp-value.it j m)) old.entries))
    → (j : Key) → stamp_at new j ≡ cond (same_key k j) (Some s) (stamp_at old j)
put_at old new k s put j = sym (found_by_order new j) ∙ put j ∙ (λ i. cond (key_is k j i) (Some s) (found_by_order old j i))

-- what is as new after it
new_where : (b : Bool) (t s : Stamp) (o : Option Stamp) → is_as_new (cond b (Some t) o) s ≡ cond b (leb s t) (is_as_new o s)
new_where true t s o = refl
new_where false t s o = refl

module _ (w : OrgId) (row : Row) (old new : Key → Option Stamp) where
  -- the owner's row in the place of what was there
  pub replaced : same_org row.owner w ≡ true → ((k : Key) → new k ≡ cond (same_key row.key k) (Some row.stamp) (old k)) →
      (k : Key) (s : Stamp) → is_as_new (new k) s ≡ cond (is_row_of w k row) (leb s row.stamp) (is_as_new (old k) s)
  unfolding is_row_of
  replaced own put k s =
      ap (λ o. is_as_new o s) (put k) ∙ new_where (same_key row.key k) row.stamp s (old k)
      ∙ ap (λ b. cond (b && same_key row.key k) (leb s row.stamp) (is_as_new (old k) s)) (sym own)

  -- another's row changes nothing
  pub not_replaced : same_org row.owner w ≡ false → (k : Key) (s : Stamp) → is_as_new (old k) s ≡ cond (is_row_of w k row) (leb s row.stamp) (is_as_new (old k) s)
  unfolding is_row_of
  not_replaced other k s = ap (λ b. cond (b && same_key row.key k) (leb s row.stamp) (is_as_new (old k) s)) (sym other)

  -- the newest is as new as what was there or comes
  newer : (o : Option Stamp) (s : Stamp) → is_as_new o row.stamp ≡ false → leb s row.stamp ≡ (is_as_new o s || leb s row.stamp)
  newer None s h = refl
  newer (Some t) s h = grind (arith, nat_tests)

  older : (o : Option Stamp) (s : Stamp) → is_as_new o row.stamp ≡ true → is_as_new o s ≡ (is_as_new o s || leb s row.stamp)
  older None s h = absurd (false≢true h)
  older (Some t) s h = grind (arith, nat_tests)

  -- at the row's key and elsewhere
  at_key : (k : Key) (s : Stamp) (b : Bool) → same_key row.key k ≡ b → is_as_new (old row.key) row.stamp ≡ false →
      cond b (leb s row.stamp) (is_as_new (old k) s) ≡ (is_as_new (old k) s || b && leb s row.stamp)
  at_key k s true e h = newer (old k) s (ap (λ j. is_as_new (old j) row.stamp) (sym (same_key-sound row.key k e)) ∙ h)
  at_key k s false e h = grind arith

  pub added : (same_org row.owner w && not (is_as_new (old row.key) row.stamp)) ≡ true → ((k : Key) → new k ≡ cond (same_key row.key k) (Some row.stamp) (old k)) →
      (k : Key) (s : Stamp) → is_as_new (new k) s ≡ (is_as_new (old k) s || is_row_of w k row && leb s row.stamp)
  unfolding is_row_of
  added h put k s =
      let two : (same_org row.owner w ≡ true) × (not (is_as_new (old row.key) row.stamp) ≡ true) = and_parts _ _ h in
      ap (λ o. is_as_new o s) (put k) ∙ new_where (same_key row.key k) row.stamp s (old k) ∙ at_key k s (same_key row.key k) refl (not-true _ two.1)
      ∙ ap (λ b. is_as_new (old k) s || b && same_key row.key k && leb s row.stamp) (sym two.0)

  -- where the row is another's, or what is there is as new, nothing is added
  pub not_added : (same_org row.owner w && not (is_as_new (old row.key) row.stamp)) ≡ false →
      (k : Key) (s : Stamp) → is_as_new (old k) s ≡ (is_as_new (old k) s || is_row_of w k row && leb s row.stamp)
  unfolding is_row_of
  not_added h k s = one (same_org row.owner w) (is_as_new (old row.key) row.stamp) (same_key row.key k) refl refl h
    where
      one : (own new same : Bool) → is_as_new (old row.key) row.stamp ≡ new → same_key row.key k ≡ same → (own && not new) ≡ false →
          is_as_new (old k) s ≡ (is_as_new (old k) s || own && same && leb s row.stamp)
      one false new same e f g = grind arith
      one true new false e f g = grind arith
      one true true true e f g = older (old k) s (ap (λ j. is_as_new (old j) row.stamp) (sym (same_key-sound row.key k f)) ∙ e)
      one true false true e f g = absurd (false≢true (sym g))

-- where no stamps are, none is as new
pub none_at : (stamps : BTreeMap Key Stamp) (k : Key) (s : Stamp) → IsEmpty stamps → is_as_new (stamp_at stamps k) s ≡ false
unfolding stamp_at
none_at stamps k s h = ap (λ es. is_as_new (lookup (same_key k) es) s) h
