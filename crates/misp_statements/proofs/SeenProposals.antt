-- The proposal as its judge sees it.
use Rattle.std.proofs.Common.{◌≡◌, ℕ, List, Bool, true, false, refl, ap, sym, ◌∙◌, ltb, ◌&&◌, not, Option, Some, find}
use Rattle.misp_model.proofs.Prelude.{Group, Inst, Key, OrgId, Row, and_parts, find_passes, granted, is_least, list_any, same_key, same_key-sound}
use Rattle.misp_statements.specs.Judging.{IsLeastOwner, is_below, is_granted_of, is_lesser, is_seen}

module _ (rows : List Row) (groups : List Group) (here : Inst) (o : OrgId) (k : Key) where
  -- it is of the least owner, where no number of one is lesser
  pub seen_is : (least : Option ℕ) (row : Row) → IsLeastOwner least rows groups here o k rows →
      (is_granted_of rows groups here o k row && not (is_below least row.owner.0.0)) ≡ is_seen rows groups here o k row
  unfolding is_seen is_granted_of is_least is_lesser
  seen_is least row h = one (same_key row.key k) refl
    where
      none_below : Bool → Key → Bool
      none_below b j = b && not (list_any (λ r. same_key r.key j && ltb r.owner.0.0 row.owner.0.0 && granted rows groups here o r) rows)

      one : (b : Bool) → same_key row.key k ≡ b →
          (b && granted rows groups here o row && not (is_below least row.owner.0.0))
          ≡ (b && (granted rows groups here o row && not (list_any (λ r. same_key r.key row.key && ltb r.owner.0.0 row.owner.0.0 && granted rows groups here o r) rows)))
      one true e = (λ i. granted rows groups here o row && not (h row.owner.0.0 i)) ∙ ap (none_below (granted rows groups here o row)) (sym (same_key-sound row.key k e))
      one false e = refl

  -- and it is of the key
  pub seen_key : (row : Row) → Some row ≡ find (is_seen rows groups here o k) rows → row.key ≡ k
  unfolding is_seen
  seen_key row h = same_key-sound row.key k (and_parts _ _ (find_passes (is_seen rows groups here o k) rows row (sym h))).0
