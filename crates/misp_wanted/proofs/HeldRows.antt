-- What is found among rows that ascend by their keys.
use Rattle.std.proofs.Common.{◌≡◌, Bool, true, false, not, cond, ◌&&◌, refl, ap, sym, ◌∙◌, List, filter, map, Option, Some, None, find, nat_cmp}
use Rattle.std.specs.List.Sorted.{IsStrictlySortedBy}
use Rattle.std.proofs.lemmas.Cmp.{nat_list_cmp_total}
use Rattle.misp_lists.specs.Prelude.{option_map_or}
use Rattle.misp_lists.proofs.Searching.{any_of_one}
use Rattle.misp_model.proofs.Prelude.{EventId, Inst, Key, OrgId, Row, event_key, has_copy, has_gone, has_home, is_row_of, is_tombstone, list_any, same_key, same_org, slice_cmp, spell}
use Rattle.misp_copies.specs.Copies.{copy_state, state_by}
use Rattle.misp_copies.specs.declared.states.CopyState.{CopyState}
use Rattle.misp_copies.proofs.KeyOrder.{level_is}
use Rattle.misp_manifest.specs.declared.manifest.KeyStamp.{KeyStamp}
use Rattle.misp_package.specs.Landing.{state_by_row}
use Rattle.misp_package.specs.Packing.{key_order}
use Rattle.misp_wanted.specs.Wanting.{is_wanted, is_wanted_at, wanted_keys}

key_first : (a b c : Bool) → ((a && b) && c) ≡ (b && (a && c))
key_first true b c = refl
key_first false true c = refl
key_first false false c = refl

module _ (w : OrgId) (k : Key) (held : List Row) (up : IsStrictlySortedBy key_order held) (also : Row → Bool) where
  -- the one row of the key says it of all the owner's rows of the key
  by_key : list_any (λ row. is_row_of w k row && also row) held ≡ option_map_or (λ row. same_org row.owner w && also row) (find (λ row. same_key row.key k) held) false
  unfolding is_row_of key_order
  by_key =
      (λ i. list_any (λ row. key_first (same_org row.owner w) (same_key row.key k) (also row) i) held)
      ∙ any_of_one (λ row. spell row.key) (slice_cmp nat_cmp) nat_list_cmp_total (spell k) (λ row. same_key row.key k) (λ row. level_is row.key k) (λ row. same_org row.owner w && also row) held up

  pub of_found : (row : Row) (b : Bool) → Some row ≡ find (λ row. same_key row.key k) held → same_org row.owner w ≡ b → list_any (λ row. is_row_of w k row && also row) held ≡ (b && also row)
  of_found row b found owner = by_key ∙ ap (λ o. option_map_or (λ row. same_org row.owner w && also row) o false) (sym found) ∙ ap (λ c. c && also row) owner

  pub of_none : None ≡ find (λ row. same_key row.key k) held → list_any (λ row. is_row_of w k row && also row) held ≡ false
  of_none none = by_key ∙ ap (λ o. option_map_or (λ row. same_org row.owner w && also row) o false) (sym none)

-- ---- the owner's copy

by_own : (row : Row) → state_by_row row ≡ state_by (is_tombstone row) (not (is_tombstone row) && not row.carried) (not (is_tombstone row))
unfolding state_by_row state_by
by_own row = one (is_tombstone row) row.carried
  where
    one : (gone carried : Bool) → cond gone CopyState.Gone (cond carried CopyState.Carried CopyState.Home)
        ≡ cond gone CopyState.Gone (cond (not gone && not carried) CopyState.Home (cond (not gone) CopyState.Carried CopyState.None))
    one true carried = refl
    one false true = refl
    one false false = refl

-- where what tells of the owner's row of the event itself tells of all
module _ (w : OrgId) (e : EventId) (held : List Row) (own : Option Row)
    (says : (also : Row → Bool) → list_any (λ row. is_row_of w (event_key e) row && also row) held ≡ option_map_or also own false) where
  pub state_some : (row : Row) → own ≡ Some row → state_by_row row ≡ copy_state held w e
  unfolding copy_state has_gone has_home has_copy
  state_some row is =
      let said : (also : Row → Bool) → list_any (λ row. is_row_of w (event_key e) row && also row) held ≡ also row = λ also. says also ∙ ap (λ o. option_map_or also o false) is in
      by_own row
      ∙ (λ i. state_by (sym (said is_tombstone) i) (sym (said (λ row. not (is_tombstone row) && not row.carried)) i) (sym (said (λ row. not (is_tombstone row))) i))

  pub state_none : own ≡ None → CopyState.None ≡ copy_state held w e
  unfolding copy_state has_gone has_home has_copy state_by
  state_none is =
      let said : (also : Row → Bool) → list_any (λ row. is_row_of w (event_key e) row && also row) held ≡ false = λ also. says also ∙ ap (λ o. option_map_or also o false) is in
      (λ i. state_by (sym (said is_tombstone) i) (sym (said (λ row. not (is_tombstone row) && not row.carried)) i) (sym (said (λ row. not (is_tombstone row))) i))

-- ---- what is wanted

-- what is wanted where the owner's copy has its state
pub wanted_same : (i : Inst) (held : List Row) (w : OrgId) (e : EventId) (state : CopyState) → state ≡ copy_state held w e → (keys : List KeyStamp)
    → map (λ k. k.key) (filter (is_wanted_at i state held w) keys) ≡ wanted_keys i held w e keys
unfolding is_wanted_at is_wanted
wanted_same i held w e state is keys = ap (λ s. map (λ k. k.key) (filter (is_wanted_at i s held w) keys)) is
