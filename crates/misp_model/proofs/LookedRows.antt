-- What is granted, and what an organisation knows, is the same over the rows that are looked at.
use Rattle.std.proofs.Common.{◌≡◌, List, Bool, true, false, refl, ap, ◌∙◌, sym, subst, ◌&&◌, not, ◌||◌, ltb, filter}
use Rattle.std.proofs.lemmas.Bool.{and_parts, false≢true}
use Rattle.misp_ids.proofs.Same.{same_org-sound}
use Rattle.misp_lists.proofs.Lists.{and_where, any_cut, any_within, first_part, all_same, filter_cut}
use Rattle.misp_elem.proofs.Same.{same_key-sound, target_kept}
use Rattle.misp_model.specs.Prelude.{Element, EventId, Group, Inst, Key, OrgId, Place, Proposal, Reference, Row, Sighting, Verdict, above, element_granted, event_key, event_of, granted, granted_by, granted_somewhere, has_copy, has_gone}
use Rattle.misp_model.specs.Prelude.{has_home, has_open, is_deleted, is_known, is_least, is_live, is_row_of, is_statement, is_tombstone, known, list_all, list_any, parents, row_is_open, same_key, same_org, up_to}

-- the rows that are looked at, by their owners and keys
unfoldable pub looked_rows : (OrgId → Key → Bool) → List Row → List Row
looked_rows keep rows = filter (λ row. keep row.owner row.key) rows

-- the key is a reference's
unfoldable pub is_reference : Key → Bool
is_reference (Reference e x t u) = true
is_reference (Element e p) = false
is_reference (Proposal e n) = false
is_reference (Verdict e n i o) = false
is_reference (Sighting e t i o u) = false

-- with each key of an owner, but an own reference, its parents are looked at, and with a statement of another than the organisation those of every owner
pub record IsClosedFor (o : OrgId) (keep : OrgId → Key → Bool) : Type 0 where
  pub above : (w : OrgId) (k : Key) → (is_reference k ≡ true → same_org w o ≡ false) → keep w k ≡ true → list_all (keep w) (parents k) ≡ true
  pub targets : (w v : OrgId) (k : Key) → same_org o w ≡ false → is_statement k ≡ true → keep w k ≡ true → list_all (keep v) (parents k) ≡ true

-- the owner's row of the key is looked at, with its parents
abbrev pub IsLooked : (OrgId → Key → Bool) → OrgId → Key → Type 0
IsLooked keep w k = (keep w k ≡ true) × (list_all (keep w) (parents k) ≡ true)

-- where the first holds, or else the two others agree
or_where : (a b c : Bool) → (a ≡ false → b ≡ c) → (a || b) ≡ (a || c)
or_where true b c h = refl
or_where false b c h = h refl

module _ (keep : Key → Bool) where
  -- the event stands first on the way to a place
  pub event_first : (e : EventId) (p : Place) → list_all keep (up_to e p) ≡ true → keep (event_key e) ≡ true
  unfolding up_to above event_key
  event_first e Place.Event h = first_part _ _ h
  event_first e (Place.Object x) h = first_part _ _ h
  event_first e (Place.Attribute x) h = first_part _ _ h
  event_first e (Place.ObjectAttribute x a) h = first_part _ _ h

  -- the event of a kept place, and of a kept key, is kept
  pub event_of_place_from : (e : EventId) (p : Place) → list_all keep (above e p) ≡ true → keep (Element e p) ≡ true → keep (event_key e) ≡ true
  unfolding event_key above
  event_of_place_from e Place.Event g h = h
  event_of_place_from e (Place.Object x) g h = first_part _ _ g
  event_of_place_from e (Place.Attribute x) g h = first_part _ _ g
  event_of_place_from e (Place.ObjectAttribute x a) g h = first_part _ _ g

  pub event_from : (k : Key) → list_all keep (parents k) ≡ true → keep k ≡ true → keep (event_key (event_of k)) ≡ true
  unfolding event_of parents
  event_from (Element e p) g h = event_of_place_from e p g h
  event_from (Reference e x t u) g h = event_first e t (and_parts _ _ g).1
  event_from (Proposal e n) g h = event_first e n.target g
  event_from (Verdict e n i o) g h = event_first e n.target g
  event_from (Sighting e t i o u) g h = event_first e t g

module _ (keep : OrgId → Key → Bool) where
  -- the owner's row of a key that is looked at is looked at
  pub cell_looked : (w : OrgId) (k : Key) (row : Row) → is_row_of w k row ≡ true → keep w k ≡ true → keep row.owner row.key ≡ true
  unfolding is_row_of
  cell_looked w k row e h =
      ap (λ v. keep v row.key) (same_org-sound row.owner w (and_parts _ _ e).0) ∙ ap (keep w) (same_key-sound row.key k (and_parts _ _ e).1) ∙ h

  -- what is said of the owner's rows of such a key is said of the rows that are looked at
  pub own_rows_looked : (w : OrgId) (k : Key) (test : Row → Bool) (rows : List Row) → keep w k ≡ true →
      list_any (λ row. is_row_of w k row && test row) (looked_rows keep rows) ≡ list_any (λ row. is_row_of w k row && test row) rows
  unfolding looked_rows
  own_rows_looked w k test rows h =
      any_cut (λ row. is_row_of w k row && test row) (λ row. keep row.owner row.key) (λ row e. cell_looked w k row (and_parts _ _ e).0 h) rows

  pub has_copy_looked : (w : OrgId) (e : EventId) (rows : List Row) → keep w (event_key e) ≡ true → has_copy (looked_rows keep rows) w e ≡ has_copy rows w e
  unfolding has_copy
  has_copy_looked w e rows h = own_rows_looked w (event_key e) (λ row. not (is_tombstone row)) rows h

  pub has_home_looked : (w : OrgId) (e : EventId) (rows : List Row) → keep w (event_key e) ≡ true → has_home (looked_rows keep rows) w e ≡ has_home rows w e
  unfolding has_home
  has_home_looked w e rows h = own_rows_looked w (event_key e) (λ row. not (is_tombstone row) && not row.carried) rows h

  pub has_gone_looked : (w : OrgId) (e : EventId) (rows : List Row) → keep w (event_key e) ≡ true → has_gone (looked_rows keep rows) w e ≡ has_gone rows w e
  unfolding has_gone
  has_gone_looked w e rows h = own_rows_looked w (event_key e) is_tombstone rows h

  pub has_open_looked : (groups : List Group) (i : Inst) (o w : OrgId) (rows : List Row) (k : Key) → keep w k ≡ true →
      has_open (looked_rows keep rows) groups i o w k ≡ has_open rows groups i o w k
  unfolding has_open
  has_open_looked groups i o w rows k h = own_rows_looked w k (row_is_open groups i o) rows h

  -- the same of keys with their parents
  pub key_looked : (w : OrgId) (j k : Key) → same_key j k ≡ true → IsLooked keep w k → IsLooked keep w j
  key_looked w j k e h = subst (IsLooked keep w) (sym (same_key-sound j k e)) h

  pub row_looked : (w : OrgId) (k : Key) (row : Row) → is_row_of w k row ≡ true → IsLooked keep w k → IsLooked keep row.owner row.key
  unfolding is_row_of
  row_looked w k row e h =
      subst (λ v. IsLooked keep v row.key) (sym (same_org-sound row.owner w (and_parts _ _ e).0)) (key_looked w row.key k (and_parts _ _ e).1 h)

  -- ---- elements

  module _ (rows : List Row) where
    abbrev near : List Row
    near = looked_rows keep rows

    event_looked : (row : Row) → IsLooked keep row.owner row.key → keep row.owner (event_key (event_of row.key)) ≡ true
    event_looked row h = event_from (keep row.owner) row.key h.1 h.0

    pub is_live_looked : (row : Row) → IsLooked keep row.owner row.key → is_live near row ≡ is_live rows row
    unfolding is_live
    is_live_looked row h =
        rw (
          has_gone_looked row.owner (event_of row.key) rows (event_looked row h),
          all_same _ _ (keep row.owner) (λ k e. ap not (own_rows_looked row.owner k is_deleted rows e)) (parents row.key) h.1,
        ) refl

    module _ (groups : List Group) (i : Inst) (v : OrgId) where
      pub element_granted_looked : (row : Row) → IsLooked keep row.owner row.key → element_granted near groups i v row ≡ element_granted rows groups i v row
      unfolding element_granted
      element_granted_looked row h =
          rw (
            has_copy_looked row.owner (event_of row.key) rows (event_looked row h),
            all_same _ _ (keep row.owner) (λ k e. has_open_looked groups i v row.owner rows k e) (parents row.key) h.1,
          ) refl

      pub granted_somewhere_looked : (k : Key) → ((w : OrgId) → IsLooked keep w k) → granted_somewhere near groups i v k ≡ granted_somewhere rows groups i v k
      unfolding granted_somewhere looked_rows
      granted_somewhere_looked k h =
          any_within (λ row. same_key row.key k && element_granted (looked_rows keep rows) groups i v row) (λ row. same_key row.key k && element_granted rows groups i v row)
          (λ row. keep row.owner row.key)
          (λ row e. and_where (same_key row.key k) _ _ (λ same. element_granted_looked row (key_looked row.owner row.key k same (h row.owner))))
          (λ row e. (key_looked row.owner row.key k (and_parts _ _ e).0 (h row.owner)).0) rows

-- ---- what is closed for an organisation

module _ (o : OrgId) (keep : OrgId → Key → Bool) (c : IsClosedFor o keep) where
  -- all but an own reference are looked at with their parents
  pub no_reference_looked : (w : OrgId) (k : Key) → is_reference k ≡ false → keep w k ≡ true → IsLooked keep w k
  no_reference_looked w k n h = (h, c.above w k (λ r. absurd (false≢true (sym n ∙ r))) h)

  pub element_looked : (w : OrgId) (e : EventId) (p : Place) → keep w (Element e p) ≡ true → IsLooked keep w (Element e p)
  unfolding is_reference
  element_looked w e p h = no_reference_looked w (Element e p) refl h

  -- the event of a place is looked at with the place
  pub event_of_place_looked : (w : OrgId) (e : EventId) (p : Place) → keep w (Element e p) ≡ true → keep w (event_key e) ≡ true
  unfolding parents
  event_of_place_looked w e p h = event_of_place_from (keep w) e p (element_looked w e p h).1 h

  module _ (rows : List Row) (groups : List Group) (i : Inst) where
    abbrev left : List Row
    left = looked_rows keep rows

    -- the target of another's statement is looked at in each copy
    target_looked : (w v : OrgId) (k : Key) (e : EventId) (p : Place) → parents k ≡ up_to e p → same_org o w ≡ false → is_statement k ≡ true → keep w k ≡ true → keep v (Element e p) ≡ true
    target_looked w v k e p h other said g = target_kept (keep v) e p (ap (list_all (keep v)) (sym h) ∙ c.targets w v k other said g)

    target_granted : (w : OrgId) (k : Key) (e : EventId) (p : Place) → parents k ≡ up_to e p → same_org o w ≡ false → is_statement k ≡ true → keep w k ≡ true →
        granted_somewhere left groups i o (Element e p) ≡ granted_somewhere rows groups i o (Element e p)
    target_granted w k e p h other said g = granted_somewhere_looked keep rows groups i o (Element e p) (λ v. element_looked v e p (target_looked w v k e p h other said g))

    pub granted_looked : (row : Row) → IsLooked keep row.owner row.key → granted left groups i o row ≡ granted rows groups i o row
    unfolding granted granted_by event_of parents is_statement
    granted_looked row h = by_key row.key h.0 ∙ ap (λ b. granted_by rows groups i o row.owner b row.key) (element_granted_looked keep rows groups i o row h)
      where
        by_key : (k : Key) → keep row.owner k ≡ true
            → granted_by left groups i o row.owner (element_granted left groups i o row) k ≡ granted_by rows groups i o row.owner (element_granted left groups i o row) k
        by_key (Element e p) g = refl
        by_key (Reference e x t u) g = refl
        by_key (Proposal e n) g = or_where (same_org o row.owner) _ _ (λ other. target_granted row.owner _ e n.target refl other refl g)
        by_key (Verdict e n j u) g = or_where (same_org o row.owner) _ _ (λ other. target_granted row.owner _ e n.target refl other refl g)
        by_key (Sighting e t j u x) g =
            or_where (same_org o row.owner) _ _ (λ other. rw (
              has_copy_looked keep o e rows (event_first (keep o) e t (c.targets row.owner o (Sighting e t j u x) other refl g)),
              target_granted row.owner (Sighting e t j u x) e t refl other refl g,
            ) refl)

    -- what an organisation knows of the rows that are looked at is what is looked at of what it knows
    pub known_looked : known left groups i o ≡ looked_rows keep (known rows groups i o)
    unfolding known is_known looked_rows
    known_looked =
        filter_cut (λ row. same_org row.owner o || granted (looked_rows keep rows) groups i o row) (λ row. same_org row.owner o || granted rows groups i o row) (λ row. keep row.owner row.key)
        (λ row e. or_where (same_org row.owner o) _ _ (λ other. granted_looked row (e, c.above row.owner row.key (λ r. other) e))) rows

    pub is_least_looked : (row : Row) → ((w : OrgId) → IsLooked keep w row.key) → is_least left groups i o row ≡ is_least rows groups i o row
    unfolding is_least looked_rows
    is_least_looked row h =
        rw (
          granted_looked row (h row.owner),
          any_within (λ r. same_key r.key row.key && ltb r.owner.0.0 row.owner.0.0 && granted (looked_rows keep rows) groups i o r)
              (λ r. same_key r.key row.key && ltb r.owner.0.0 row.owner.0.0 && granted rows groups i o r) (λ r. keep r.owner r.key)
              (λ r e. and_where (same_key r.key row.key && ltb r.owner.0.0 row.owner.0.0) _ _ (λ g. granted_looked r (as_key r (and_parts _ _ g).0)))
              (λ r e. (as_key r (and_parts _ _ (and_parts _ _ e).0).0).0) rows,
        ) refl
      where
        as_key : (r : Row) → same_key r.key row.key ≡ true → IsLooked keep r.owner r.key
        as_key r e = key_looked keep r.owner r.key row.key e (h r.owner)
