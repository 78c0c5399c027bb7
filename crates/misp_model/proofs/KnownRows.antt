-- What an organisation knows of a table answers for it whether a row is granted, live and chosen, as the whole table does.
use Rattle.std.proofs.Common.{◌≡◌, Bool, true, [], ◌∷◌, refl, List, false, ap, sym, ◌∙◌, inl, inr, filter, Contains, ◌&&◌, ◌||◌, not}
use Rattle.std.proofs.lemmas.Bool.{and_parts, and_from, or_left, or_right, or_cases, false≢true}
use Rattle.misp_lists.proofs.Elements.{any_has, of_part, filter_among, any_among}
use Rattle.misp_lists.proofs.Lists.{any_cut, any_none_cut, any_implies, alike, any_of_part, all_implies, all_alike}
use Rattle.misp_ids.proofs.Same.{same_org-refl}
use Rattle.misp_elem.proofs.Same.{same_key-sound, same_key-refl}
use Rattle.misp_model.specs.Prelude.{AllByRecursion, Element, EventId, Group, Inst, IsTable, Key, OrgId, Place, Proposal, Reference, Row, Sighting, Verdict, above, element_granted, event_key, event_of, first_of_all, granted, granted_by}
use Rattle.misp_model.specs.Prelude.{granted_somewhere, has_copy, has_gone, has_open, is_deleted, is_known, is_live, is_row_of, is_statement, is_tombstone, known, list_all, list_any, parents, row_is_open, same_key, same_org, up_to}
use Rattle.misp_model.specs.View.{chosen}
use Rattle.misp_model.proofs.OneRow.{row_of_name, found_together, is_unmixed}

-- ---- the parents of a key

-- the event stands first on the way to a place
first_up_to : (f : Key → Bool) (e : EventId) (p : Place) → list_all f (up_to e p) ≡ true → f (event_key e) ≡ true
unfolding up_to above event_key
first_up_to f e Place.Event h = (and_parts _ _ h).0
first_up_to f e (Place.Object x) h = (and_parts _ _ h).0
first_up_to f e (Place.Attribute a) h = (and_parts _ _ h).0
first_up_to f e (Place.ObjectAttribute x a) h = (and_parts _ _ h).0

-- a fact of each place that passes together with what stands above it
module _ (f : Key → Bool) (P : Key → Type 0) (e : EventId) (step : (p : Place) → list_all f (above e p) ≡ true → f (Element e p) ≡ true → P (Element e p)) where
  each_above : (p : Place) → list_all f (above e p) ≡ true → AllByRecursion P (above e p)
  unfolding above
  each_above Place.Event h = tt
  each_above (Place.Object x) h = (step Place.Event refl (and_parts _ _ h).0, tt)
  each_above (Place.Attribute a) h = (step Place.Event refl (and_parts _ _ h).0, tt)
  each_above (Place.ObjectAttribute x a) h = (step Place.Event refl (and_parts _ _ h).0, (step (Place.Object x) (and_from _ _ (and_parts _ _ h).0 refl) (and_parts _ _ (and_parts _ _ h).1).0, tt))

  each_up_to : (p : Place) → list_all f (up_to e p) ≡ true → AllByRecursion P (up_to e p)
  unfolding above up_to
  each_up_to Place.Event h = (step Place.Event refl (and_parts _ _ h).0, tt)
  each_up_to (Place.Object x) h = (step Place.Event refl (and_parts _ _ h).0, (step (Place.Object x) (and_from _ _ (and_parts _ _ h).0 refl) (and_parts _ _ (and_parts _ _ h).1).0, tt))
  each_up_to (Place.Attribute a) h = (step Place.Event refl (and_parts _ _ h).0, (step (Place.Attribute a) (and_from _ _ (and_parts _ _ h).0 refl) (and_parts _ _ (and_parts _ _ h).1).0, tt))
  each_up_to (Place.ObjectAttribute x a) h =
      let first : f (Element e Place.Event) ≡ true = (and_parts _ _ h).0 in
      let rest : list_all f (Element e (Place.Object x) ∷ Element e (Place.ObjectAttribute x a) ∷ []) ≡ true = (and_parts _ _ h).1 in
      let object : f (Element e (Place.Object x)) ≡ true = (and_parts _ _ rest).0 in
      (step Place.Event refl first, (step (Place.Object x) (and_from _ _ first refl) object, (step (Place.ObjectAttribute x a) (and_from _ _ first (and_from _ _ object refl)) (and_parts _ _ (and_parts _ _ rest).1).0, tt)))

each_parent : (f : Key → Bool) (P : Key → Type 0) (k : Key) →
    ((p : Place) → list_all f (above (event_of k) p) ≡ true → f (Element (event_of k) p) ≡ true → P (Element (event_of k) p)) →
    list_all f (parents k) ≡ true → AllByRecursion P (parents k)
unfolding event_of parents above event_key
each_parent f P (Element e p) step h = each_above f P e step p h
each_parent f P (Reference e x t u) step h = (step (Place.Object x) (object (first_up_to f e t (and_parts _ _ h).1)) (and_parts _ _ h).0, each_up_to f P e step t (and_parts _ _ h).1)
  where
    object : f (event_key e) ≡ true → list_all f (above e (Place.Object x)) ≡ true
    object g = and_from _ _ g refl
each_parent f P (Proposal e n) step h = each_up_to f P e step n.target h
each_parent f P (Verdict e n i o) step h = each_up_to f P e step n.target h
each_parent f P (Sighting e t i o u) step h = each_up_to f P e step t h

-- ---- what is granted
module _ (rows : List Row) (groups : List Group) (i : Inst) (o : OrgId) where
  -- the organisation knows the row
  abbrev knows : Row → Bool
  knows row = is_known rows groups i o row

  abbrev opens : OrgId → Key → Bool
  opens w k = has_open rows groups i o w k

  pub granted_is_known : (row : Row) → granted rows groups i o row ≡ true → knows row ≡ true
  unfolding is_known
  granted_is_known row h = or_right _ _ h

  element_is_granted : (row : Row) → is_statement row.key ≡ false → granted rows groups i o row ≡ element_granted rows groups i o row
  unfolding granted granted_by is_statement
  element_is_granted row n = by_key row.key n
    where
      by_key : (k : Key) → is_statement k ≡ false → granted_by rows groups i o row.owner (element_granted rows groups i o row) k ≡ element_granted rows groups i o row
      by_key (Element e p) n = refl
      by_key (Reference e x t u) n = refl
      by_key (Proposal e m) n = absurd (false≢true (sym n))
      by_key (Verdict e m j v) n = absurd (false≢true (sym n))
      by_key (Sighting e t j v u) n = absurd (false≢true (sym n))

  element_is_known : (row : Row) → is_statement row.key ≡ false → element_granted rows groups i o row ≡ true → knows row ≡ true
  element_is_known row n h = granted_is_known row (element_is_granted row n ∙ h)

  -- an open row of a place is known where all above it is open in a copy
  open_is_known : (w : OrgId) (e : EventId) (p : Place) → has_copy rows w e ≡ true → list_all (opens w) (above e p) ≡ true →
      (row : Row) → is_row_of w (Element e p) row ≡ true → row_is_open groups i o row ≡ true → knows row ≡ true
  unfolding element_granted event_of parents is_statement
  open_is_known w e p c a row h g =
      let n : (row.owner ≡ w) × (row.key ≡ Element e p) = row_of_name w (Element e p) row h in
      element_is_known row (ap is_statement n.1)
      (and_from _ _ (and_from _ _ ((λ j. has_copy rows (n.0 j) (event_of (n.1 j))) ∙ c) g) ((λ j. list_all (has_open rows groups i o (n.0 j)) (parents (n.1 j))) ∙ a))

  -- what is said of the organisation's own rows is said of those that it knows
  pub own_any : (w : OrgId) → same_org w o ≡ true → (k : Key) (test : Row → Bool) →
      list_any (λ row. is_row_of w k row && test row) (known rows groups i o) ≡ list_any (λ row. is_row_of w k row && test row) rows
  unfolding known is_known
  own_any w mine k test =
      any_cut (λ row. is_row_of w k row && test row) (is_known rows groups i o)
      (λ row h. or_left _ _ (ap (λ v. same_org v o) (row_of_name w k row (and_parts _ _ h).0).0 ∙ mine)) rows

  -- of the rows of a place that are open, those that pass a test are known
  open_any : (w : OrgId) (e : EventId) (p : Place) → has_copy rows w e ≡ true → list_all (opens w) (above e p) ≡ true → (test : Row → Bool) →
      list_any (λ row. is_row_of w (Element e p) row && (test row && row_is_open groups i o row)) (known rows groups i o)
      ≡ list_any (λ row. is_row_of w (Element e p) row && (test row && row_is_open groups i o row)) rows
  unfolding known
  open_any w e p c a test =
      any_cut (λ row. is_row_of w (Element e p) row && (test row && row_is_open groups i o row)) (is_known rows groups i o)
      (λ row h. open_is_known w e p c a row (and_parts _ _ h).0 (and_parts _ _ (and_parts _ _ h).1).1) rows

  has_open_known : (w : OrgId) (e : EventId) (p : Place) → has_copy rows w e ≡ true → list_all (opens w) (above e p) ≡ true →
      has_open (known rows groups i o) groups i o w (Element e p) ≡ opens w (Element e p)
  unfolding has_open
  has_open_known w e p c a = open_any w e p c a (λ row. true)

  module _ (table : IsTable rows) where
    -- a test that some row of the place passes, where the place is open, is passed by a known row
    passes_known : (w : OrgId) (e : EventId) (p : Place) → has_copy rows w e ≡ true → list_all (opens w) (above e p) ≡ true → opens w (Element e p) ≡ true →
        (test : Row → Bool) → list_any (λ row. is_row_of w (Element e p) row && test row) rows ≡ true →
        list_any (λ row. is_row_of w (Element e p) row && test row) (known rows groups i o) ≡ true
    unfolding has_open
    passes_known w e p c a b test h =
        any_implies (λ row. is_row_of w (Element e p) row && (test row && row_is_open groups i o row)) (λ row. is_row_of w (Element e p) row && test row)
        (λ row g.
        let two : (is_row_of w (Element e p) row ≡ true) × ((test row && row_is_open groups i o row) ≡ true) = and_parts _ _ g in
        and_from (is_row_of w (Element e p) row) (test row) two.0 (and_parts (test row) (row_is_open groups i o row) two.1).0) (known rows groups i o)
        (open_any w e p c a test ∙ found_together w (Element e p) test (row_is_open groups i o) rows table h b)

    copy_known : (w : OrgId) (e : EventId) → has_copy rows w e ≡ true → opens w (event_key e) ≡ true → has_copy (known rows groups i o) w e ≡ true
    unfolding has_copy event_key above
    copy_known w e c b = passes_known w e Place.Event c refl b (λ row. not (is_tombstone row)) c

    opens_known : (w : OrgId) (k : Key) → has_copy rows w (event_of k) ≡ true → list_all (opens w) (parents k) ≡ true →
        list_all (has_open (known rows groups i o) groups i o w) (parents k) ≡ true
    opens_known w k c a =
        all_alike (has_open (known rows groups i o) groups i o w) (opens w) (parents k)
        (each_parent (opens w) (λ j. has_open (known rows groups i o) groups i o w j ≡ opens w j) k (λ p b h. has_open_known w (event_of k) p c b) a) ∙ a

    -- the owner's event is open where an element of it is granted
    event_opens : (row : Row) → Contains rows row → row_is_open groups i o row ≡ true → list_all (opens row.owner) (parents row.key) ≡ true → opens row.owner (event_key (event_of row.key)) ≡ true
    unfolding has_open is_row_of parents above event_of event_key
    event_opens row m g a = by_key row.key refl a
      where
        its_own : (k : Key) → row.key ≡ k → opens row.owner k ≡ true
        its_own k n = any_has _ rows row m (and_from _ _ (and_from _ _ (same_org-refl row.owner) (ap (λ j. same_key j k) n ∙ same_key-refl k)) g)

        by_key : (k : Key) → row.key ≡ k → list_all (opens row.owner) (parents k) ≡ true → opens row.owner (event_key (event_of k)) ≡ true
        by_key (Element e Place.Event) n a = its_own (Element e Place.Event) n
        by_key (Element e (Place.Object x)) n a = (and_parts _ _ a).0
        by_key (Element e (Place.Attribute x)) n a = (and_parts _ _ a).0
        by_key (Element e (Place.ObjectAttribute x y)) n a = (and_parts _ _ a).0
        by_key (Reference e x t u) n a = first_up_to (opens row.owner) e t (and_parts _ _ a).1
        by_key (Proposal e s) n a = first_up_to (opens row.owner) e s.target a
        by_key (Verdict e s j v) n a = first_up_to (opens row.owner) e s.target a
        by_key (Sighting e t j v u) n a = first_up_to (opens row.owner) e t a

    element_known : (row : Row) → Contains rows row → element_granted (known rows groups i o) groups i o row ≡ element_granted rows groups i o row
    unfolding element_granted has_copy has_open known
    element_known row m = alike _ _ back forth
      where
        back : (has_copy (known rows groups i o) row.owner (event_of row.key) && row_is_open groups i o row && list_all (has_open (known rows groups i o) groups i o row.owner) (parents row.key)) ≡ true →
            (has_copy rows row.owner (event_of row.key) && row_is_open groups i o row && list_all (opens row.owner) (parents row.key)) ≡ true
        back h =
            let two : ((has_copy (known rows groups i o) row.owner (event_of row.key) && row_is_open groups i o row) ≡ true) × (list_all (has_open (known rows groups i o) groups i o row.owner) (parents row.key) ≡ true) = and_parts _ _ h in
            let one : (has_copy (known rows groups i o) row.owner (event_of row.key) ≡ true) × (row_is_open groups i o row ≡ true) = and_parts _ _ two.0 in
            and_from _ _ (and_from _ _ (any_of_part _ _ rows one.0) one.1) (all_implies _ _ (λ k g. any_of_part _ _ rows g) (parents row.key) two.1)

        forth : (has_copy rows row.owner (event_of row.key) && row_is_open groups i o row && list_all (opens row.owner) (parents row.key)) ≡ true →
            (has_copy (known rows groups i o) row.owner (event_of row.key) && row_is_open groups i o row && list_all (has_open (known rows groups i o) groups i o row.owner) (parents row.key)) ≡ true
        forth h =
            let two : ((has_copy rows row.owner (event_of row.key) && row_is_open groups i o row) ≡ true) × (list_all (opens row.owner) (parents row.key) ≡ true) = and_parts _ _ h in
            let one : (has_copy rows row.owner (event_of row.key) ≡ true) × (row_is_open groups i o row ≡ true) = and_parts _ _ two.0 in
            and_from _ _ (and_from _ _ (copy_known row.owner (event_of row.key) one.0 (event_opens row m one.1 two.1)) one.1) (opens_known row.owner row.key one.0 two.1)

    somewhere_known : (e : EventId) (t : Place) → granted_somewhere (known rows groups i o) groups i o (Element e t) ≡ granted_somewhere rows groups i o (Element e t)
    unfolding granted_somewhere known is_statement
    somewhere_known e t =
        any_among (λ row. same_key row.key (Element e t) && element_granted (filter (is_known rows groups i o) rows) groups i o row) (λ row. same_key row.key (Element e t) && element_granted rows groups i o row)
        (is_known rows groups i o) rows
        (λ row m q j. same_key row.key (Element e t) && element_known row m j)
        (λ row m h. element_is_known row (ap is_statement (same_key-sound row.key (Element e t) (and_parts _ _ h).0)) (and_parts _ _ h).1)

    own_copy : (e : EventId) → has_copy (known rows groups i o) o e ≡ has_copy rows o e
    unfolding has_copy
    own_copy e = own_any o (same_org-refl o) (event_key e) (λ row. not (is_tombstone row))

    -- whether a row is granted is seen in what is known
    pub granted_known : (row : Row) → Contains rows row → granted (known rows groups i o) groups i o row ≡ granted rows groups i o row
    unfolding granted granted_by
    granted_known row m = by_key row.key
      where
        by_key : (k : Key) → granted_by (known rows groups i o) groups i o row.owner (element_granted (known rows groups i o) groups i o row) k ≡ granted_by rows groups i o row.owner (element_granted rows groups i o row) k
        by_key (Element e p) = element_known row m
        by_key (Reference e x t u) = element_known row m
        by_key (Proposal e n) = ap (λ b. same_org o row.owner || b) (somewhere_known e n.target)
        by_key (Verdict e n j v) = ap (λ b. same_org o row.owner || b) (somewhere_known e n.target)
        by_key (Sighting e t j v u) = λ l. same_org o row.owner || own_copy e l && somewhere_known e t l

    pub chosen_known : (e : EventId) → chosen (known rows groups i o) groups i o e ≡ chosen rows groups i o e
    unfolding chosen known
    chosen_known e =
        ap first_of_all
        (filter_among (λ row. same_key row.key (event_key e) && granted (filter (is_known rows groups i o) rows) groups i o row) (λ row. same_key row.key (event_key e) && granted rows groups i o row)
        (is_known rows groups i o) rows
        (λ row m q j. same_key row.key (event_key e) && granted_known row m j)
        (λ row m h. granted_is_known row (and_parts _ _ h).1))

    -- ---- what is live
    -- the owner's rows of a key of which some are deleted
    abbrev deletes : List Row → OrgId → Key → Bool
    deletes rs w k = list_any (λ r. is_row_of w k r && is_deleted r) rs

    deleted_known : (w : OrgId) (e : EventId) (p : Place) → has_copy rows w e ≡ true → list_all (opens w) (above e p) ≡ true → opens w (Element e p) ≡ true →
        deletes (known rows groups i o) w (Element e p) ≡ deletes rows w (Element e p)
    unfolding known
    deleted_known w e p c a b = alike _ _ back (passes_known w e p c a b is_deleted)
      where
        back : deletes (known rows groups i o) w (Element e p) ≡ true → deletes rows w (Element e p) ≡ true
        back h = any_of_part _ _ rows h

    gone_known : (w : OrgId) (e : EventId) → has_copy rows w e ≡ true → has_gone (known rows groups i o) w e ≡ has_gone rows w e
    unfolding has_gone known
    gone_known w e c = none (is_unmixed rows w e table c) ∙ sym (is_unmixed rows w e table c)
      where
        none : has_gone rows w e ≡ false → has_gone (known rows groups i o) w e ≡ false
        none h = any_none_cut _ (is_known rows groups i o) rows h

    -- whether a known element is live is seen in what is known
    pub live_known : (row : Row) → knows row ≡ true → is_statement row.key ≡ false → is_live (known rows groups i o) row ≡ is_live rows row
    unfolding is_live is_known element_granted has_gone
    live_known row q n = elim (or_cases _ _ q) [ inl mine ↦ own mine | inr g ↦ given (sym (element_is_granted row n) ∙ g) ]
      where
        own_gone : same_org row.owner o ≡ true → has_gone (known rows groups i o) row.owner (event_of row.key) ≡ has_gone rows row.owner (event_of row.key)
        own_gone mine = own_any row.owner mine (event_key (event_of row.key)) is_tombstone

        own : same_org row.owner o ≡ true → is_live (known rows groups i o) row ≡ is_live rows row
        own mine = λ j. not (is_deleted row) && not (own_gone mine j) && list_all (λ k. not (own_any row.owner mine k is_deleted j)) (parents row.key)

        given : element_granted rows groups i o row ≡ true → is_live (known rows groups i o) row ≡ is_live rows row
        given h =
            let two : ((has_copy rows row.owner (event_of row.key) && row_is_open groups i o row) ≡ true) × (list_all (opens row.owner) (parents row.key) ≡ true) = and_parts _ _ h in
            let copy : has_copy rows row.owner (event_of row.key) ≡ true = (and_parts _ _ two.0).0 in
            λ j. not (is_deleted row) && not (gone_known row.owner (event_of row.key) copy j) && all_alike (λ k. not (deletes (known rows groups i o) row.owner k)) (λ k. not (deletes rows row.owner k)) (parents row.key)
            (each_parent (opens row.owner) (λ k. not (deletes (known rows groups i o) row.owner k) ≡ not (deletes rows row.owner k)) row.key
            (λ p b g. ap not (deleted_known row.owner (event_of row.key) p copy b g)) two.1) j

    pub live_known_row : (row : Row) → Contains (known rows groups i o) row → is_statement row.key ≡ false → is_live (known rows groups i o) row ≡ is_live rows row
    unfolding known
    live_known_row row m n = live_known row (of_part (is_known rows groups i o) rows row m).0 n
