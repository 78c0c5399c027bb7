-- What is shown of an event is whole.
use Rattle.std.proofs.Common.{◌≡◌, Bool, true, false, refl, ap, sym, ◌∙◌, List, [], ◌∷◌, subst, ◌&&◌, ◌||◌, Option, Some, None}
use Rattle.misp_lists.proofs.All.{all_filter, all_found, all_both, all_map, all_implied}
use Rattle.misp_ids.proofs.Same.{same_elem-sound}
use Rattle.misp_elem.specs.Visible.{IsAttributeOf, IsReferenceOf, IsObjectOf, IsWhole}
use Rattle.misp_model.proofs.Prelude.{AllByRecursion, AreRows, Attribute, Content, Element, ElemId, Event, EventId, Group, Inst, IsRow, IsTable, Key, Object, ObjectAttribute, OrgId, Proposal, Reference, Row, Scene, Sighting, Verdict}
use Rattle.misp_model.proofs.Prelude.{all_in_order, and_from, and_parts, chosen, content_kind, creator, event_key, event_row, false≢true, find_passes, first_of_all, fits, form_of, granted, has_copy, has_gone, is_attribute_of, is_gone}
use Rattle.misp_model.proofs.Prelude.{is_object, is_plain_attribute, is_reference_of, is_row_of, is_shown, is_tombstone, label_kind, list_any, object_of, same_elem, same_event, same_event-sound, same_key, same_key-sound, same_org-refl}
use Rattle.misp_model.proofs.Prelude.{shown_at, shown_attribute, shown_object, sorted, uuid_at}
use Rattle.misp_model.proofs.OneRow.{is_unmixed}
use Rattle.misp_view.specs.View.{scene_of}
use Rattle.misp_view.proofs.Candidates.{granted_at}

module _ {X : Type 0} where
  -- each passes a test that it passes of itself
  each_of : (t : X → X → Bool) (pre : X → Bool) → ((x : X) → pre x ≡ true → t x x ≡ true) → (xs ys : List X) → ((x : X) → list_any (t x) ys ≡ true → list_any (t x) xs ≡ true) →
      AllByRecursion (λ x. pre x ≡ true → list_any (t x) xs ≡ true) ys
  each_of t pre h xs [] k = tt
  each_of t pre h xs (y ∷ ys) k = ((λ e. k y (ap (λ b. b || list_any (t y) ys) (h y e))), each_of t pre h xs ys (λ x e. k x (ap (λ b. t x y || b) e ∙ two (t x y))))
    where
      two : (b : Bool) → (b || true) ≡ true
      two true = refl
      two false = refl

each_row : (rows : List Row) → AreRows rows → AllByRecursion IsRow rows
each_row [] h = tt
each_row (r ∷ rows) h = (h.0, each_row rows h.1)

-- ---- the keys of each kind

plain : (e : EventId) (k : Key) → is_plain_attribute e k ≡ true → (u : ElemId) × (k ≡ Element e (Attribute u))
unfolding is_plain_attribute
plain e (Element f (Attribute a)) h = (a, ap (λ g. Element g (Attribute a)) (same_event-sound f e (and_parts _ _ h).0))
plain e (Element f Event) h = absurd (false≢true (and_parts _ _ h).1)
plain e (Element f (Object x)) h = absurd (false≢true (and_parts _ _ h).1)
plain e (Element f (ObjectAttribute x a)) h = absurd (false≢true (and_parts _ _ h).1)
plain e (Reference f x t u) h = absurd (false≢true h)
plain e (Proposal f n) h = absurd (false≢true h)
plain e (Verdict f n i o) h = absurd (false≢true h)
plain e (Sighting f t i o u) h = absurd (false≢true h)

inner : (e : EventId) (y : ElemId) (k : Key) → is_attribute_of e y k ≡ true → (u : ElemId) × (k ≡ Element e (ObjectAttribute y u))
unfolding is_attribute_of
inner e y (Element f (ObjectAttribute x a)) h = (a, λ j. Element (same_event-sound f e (and_parts _ _ h).0 j) (ObjectAttribute (same_elem-sound x y (and_parts _ _ h).1 j) a))
inner e y (Element f Event) h = absurd (false≢true (and_parts _ _ h).1)
inner e y (Element f (Object x)) h = absurd (false≢true (and_parts _ _ h).1)
inner e y (Element f (Attribute a)) h = absurd (false≢true (and_parts _ _ h).1)
inner e y (Reference f x t u) h = absurd (false≢true h)
inner e y (Proposal f n) h = absurd (false≢true h)
inner e y (Verdict f n i o) h = absurd (false≢true h)
inner e y (Sighting f t i o u) h = absurd (false≢true h)

object_key : (e : EventId) (k : Key) → is_object e k ≡ true → k ≡ Element e (Object (object_of k))
unfolding is_object object_of uuid_at
object_key e (Element f (Object x)) h = ap (λ g. Element g (Object x)) (same_event-sound f e (and_parts _ _ h).0)
object_key e (Element f Event) h = absurd (false≢true (and_parts _ _ h).1)
object_key e (Element f (Attribute a)) h = absurd (false≢true (and_parts _ _ h).1)
object_key e (Element f (ObjectAttribute x a)) h = absurd (false≢true (and_parts _ _ h).1)
object_key e (Reference f x t u) h = absurd (false≢true h)
object_key e (Proposal f n) h = absurd (false≢true h)
object_key e (Verdict f n i o) h = absurd (false≢true h)
object_key e (Sighting f t i o u) h = absurd (false≢true h)

reference_of : (s : Scene) (w : OrgId) (e : EventId) (y : ElemId) (r : Row) → IsRow r × (is_reference_of s w e y r.key ≡ true) → IsReferenceOf e y r
unfolding is_reference_of
reference_of s w e y r h = one r.key refl h.1
  where
    one : (k : Key) → r.key ≡ k → is_reference_of s w e y k ≡ true → IsReferenceOf e y r
    one (Reference f x t u) g m =
        let ends : (same_event f e && same_elem x y) ≡ true = (and_parts _ _ m).0 in
        record { row = h.0; target = t; uuid = u; key = g ∙ (λ j. Reference (same_event-sound f e (and_parts _ _ ends).0 j) (same_elem-sound x y (and_parts _ _ ends).1 j) t u) }
    one (Element f p) g m = absurd (false≢true m)
    one (Proposal f n) g m = absurd (false≢true m)
    one (Verdict f n i o) g m = absurd (false≢true m)
    one (Sighting f t i o u) g m = absurd (false≢true m)

-- ---- what each list has

module _ (s : Scene) (w : OrgId) (are : AreRows s.rows) where
  at_of : (test : Key → Bool) → AllByRecursion (λ (r : Row). IsRow r × (test r.key ≡ true)) (shown_at s w test)
  unfolding shown_at sorted
  at_of test =
      all_in_order _ _ _
      (all_implied _ _ (λ r h. (h.0, (and_parts _ _ h.1).1)) _
      (all_filter IsRow (λ (row : Row). is_shown s w row && test row.key) s.rows (each_row s.rows are)))

  attribute_of : (e : EventId) (orgc : OrgId) (r : Row) → IsRow r × (is_plain_attribute e r.key ≡ true) → IsAttributeOf e None (shown_attribute s orgc r)
  unfolding shown_attribute
  attribute_of e orgc r h = let m : (u : ElemId) × (r.key ≡ Element e (Attribute u)) = plain e r.key h.1 in record { row = h.0; uuid = m.0; key = m.1 }

  inner_of : (e : EventId) (x : ElemId) (orgc : OrgId) (r : Row) → IsRow r × (is_attribute_of e x r.key ≡ true) → IsAttributeOf e (Some x) (shown_attribute s orgc r)
  unfolding shown_attribute
  inner_of e x orgc r h = let m : (u : ElemId) × (r.key ≡ Element e (ObjectAttribute x u)) = inner e x r.key h.1 in record { row = h.0; uuid = m.0; key = m.1 }

  object_at : (e : EventId) (orgc : OrgId) (r : Row) → IsRow r × (is_object e r.key ≡ true) → IsObjectOf e (shown_object s orgc w e r)
  unfolding shown_object
  object_at e orgc r h = record {
    row = h.0;
    uuid = object_of r.key;
    key = object_key e r.key h.1;
    attributes = all_map _ _ _ (inner_of e (object_of r.key) orgc) _ (at_of (is_attribute_of e (object_of r.key)));
    references = all_implied _ _ (reference_of s w e (object_of r.key)) _ (at_of (is_reference_of s w e (object_of r.key)));
  }

-- a row of the event itself that is no tombstone has an event's content
no_tombstone : (r : Row) (e : EventId) → IsRow r → r.key ≡ event_key e → is_tombstone r ≡ false → content_kind r.content ≡ 0
unfolding is_tombstone is_gone event_key
no_tombstone r e is k m = one r.content refl m (subst (λ q. fits q (label_kind r.label) (r.held, r.carried) (content_kind r.content) ≡ true) k is.1.1.1.1.1.0)
  where
    one : (c : Content) → r.content ≡ c → is_tombstone r ≡ false → fits (Element e Event) (label_kind r.label) (r.held, r.carried) (content_kind r.content) ≡ true → content_kind r.content ≡ 0
    one c g n f = two c (subst (λ d. is_tombstone (record r { content = d }) ≡ false) g n) (subst (λ d. fits (Element e Event) (label_kind r.label) (r.held, r.carried) (content_kind d) ≡ true) g f) g
      where
        two : (d : Content) → is_tombstone (record r { content = d }) ≡ false → fits (Element e Event) (label_kind r.label) (r.held, r.carried) (content_kind d) ≡ true → r.content ≡ d → content_kind r.content ≡ 0
        two (Content.Event b) x y z = ap content_kind z
        two (Content.Object b) x y z = absurd (false≢true y)
        two (Content.Attribute b) x y z = absurd (false≢true y)
        two (Content.Reference b) x y z = absurd (false≢true y)
        two (Content.Proposal b) x y z = absurd (false≢true y)
        two (Content.Verdict b) x y z = absurd (false≢true y)
        two (Content.Sighting b) x y z = absurd (false≢true y)
        two Content.Gone x y z = absurd (false≢true (sym x))

-- the row of the event itself that is looked at
module _ (groups : List Group) (i : Inst) (o : OrgId) (rows : List Row) (e : EventId) (are : AreRows rows) (table : IsTable rows) where
  abbrev Known : Row → Type 0
  Known r = IsRow r × ((same_key r.key (event_key e) && is_tombstone r) ≡ true → has_gone rows r.owner e ≡ true)

  all_known : AllByRecursion Known rows
  unfolding has_gone is_row_of
  all_known = all_both _ _ rows (each_row rows are)
      (each_of (λ x row. is_row_of x.owner (event_key e) row && is_tombstone row) (λ (r : Row). same_key r.key (event_key e) && is_tombstone r)
      (λ x h. and_from _ _ (and_from _ _ (same_org-refl x.owner) (and_parts _ _ h).0) (and_parts _ _ h).1) rows rows (λ x h. h))

  whole_row : (r : Row) → Known r → same_key r.key (event_key e) ≡ true → granted rows groups i o r ≡ true → content_kind r.content ≡ 0
  whole_row r k m g = no_tombstone r e k.0 (same_key-sound r.key (event_key e) m) (one (is_tombstone r) refl)
    where
      copied : has_copy rows r.owner e ≡ true
      copied = (and_parts _ _ (sym (granted_at rows groups i o r e m) ∙ g)).0

      one : (b : Bool) → is_tombstone r ≡ b → b ≡ false
      one true h = absurd (false≢true (sym (is_unmixed rows r.owner e table copied) ∙ k.1 (and_from _ _ m h)))
      one false h = refl

  make : (r : Row) → Known r → same_key r.key (event_key e) ≡ true → granted rows groups i o r ≡ true → IsWhole (form_of (scene_of groups i o rows) e r)
  unfolding form_of event_key
  make r k m g = record {
    row = k.0;
    event = e;
    key = same_key-sound r.key (event_key e) m;
    content = whole_row r k m g;
    attributes = all_map _ _ _ (attribute_of (scene_of groups i o rows) r.owner are e (creator r)) _ (at_of (scene_of groups i o rows) r.owner are (is_plain_attribute e));
    objects = all_map _ _ _ (object_at (scene_of groups i o rows) r.owner are e (creator r)) _ (at_of (scene_of groups i o rows) r.owner are (is_object e));
  }

  pub whole_is : (owner : Option OrgId) (r : Row) → event_row (scene_of groups i o rows) e owner ≡ Some r → IsWhole (form_of (scene_of groups i o rows) e r)
  unfolding event_row chosen first_of_all is_row_of
  whole_is None r h =
      let both : Known r × ((same_key r.key (event_key e) && granted rows groups i o r) ≡ true) = all_found _ _ _ r (all_filter Known (λ (row : Row). same_key row.key (event_key e) && granted rows groups i o row) rows all_known) h in
      make r both.0 (and_parts _ _ both.1).0 (and_parts _ _ both.1).1
  whole_is (Some w) r h =
      let passed : (is_row_of w (event_key e) r && granted rows groups i o r) ≡ true = find_passes (λ row. is_row_of w (event_key e) row && granted rows groups i o row) rows r h in
      make r (all_found Known _ rows r all_known h) (and_parts _ _ (and_parts _ _ passed).0).1 (and_parts _ _ passed).1
