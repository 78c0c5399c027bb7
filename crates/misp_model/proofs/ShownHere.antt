-- The form in which an event is seen is computed from the event's own rows.
use Rattle.std.proofs.Common.{◌≡◌, true, [], Bool, refl, ap, ◌∙◌, map, ltb, ◌&&◌, not, Option, Some, None, option_map, filter}
use Rattle.misp_lists.proofs.Lists.{all_of_kept, map_where}
use Rattle.misp_lists.proofs.Ordering.{tests_in_order}
use Rattle.misp_model.proofs.Prelude.{Element, ElemId, EventId, Key, OrgId, Proposal, Reference, Row, Scene, Sighting, Verdict, and_parts, any_within, chosen, creator, cut_rows, cut_scene, event_is_closed, event_key, event_of, event_row}
use Rattle.misp_model.proofs.Prelude.{false≢true, filter_within, find_within, first_of_all, form_of, granted, is_attribute_of, is_closed, is_least, is_live_cut, is_object, is_plain_attribute, is_reference_of, is_row_of, is_shown}
use Rattle.misp_model.proofs.Prelude.{is_verdict_on, list_all, list_any, object_of, of_event, proposals_on, same_elem, same_event, same_event-refl, same_key, same_key-keeps, same_org, shown, shown_at, shown_attribute, shown_object}
use Rattle.misp_model.proofs.Prelude.{sightings_on, sorted}
use Rattle.misp_model.specs.Shown.{is_proposal_on, is_sighting_on}
use Rattle.misp_model.proofs.Local.{granted_here}

-- what stands on a key, or in an event, is of its event
module _ (e : EventId) where
  pub key_here : of_event e (event_key e) ≡ true
  unfolding of_event event_of event_key
  key_here = same_event-refl e

  pub plain_here : (k : Key) → is_plain_attribute e k ≡ true → of_event e k ≡ true
  unfolding is_plain_attribute of_event event_of
  plain_here (Element f p) h = (and_parts _ _ h).0
  plain_here (Reference f x t u) h = absurd (false≢true h)
  plain_here (Proposal f n) h = absurd (false≢true h)
  plain_here (Verdict f n i o) h = absurd (false≢true h)
  plain_here (Sighting f t i o u) h = absurd (false≢true h)

  pub inner_here : (y : ElemId) (k : Key) → is_attribute_of e y k ≡ true → of_event e k ≡ true
  unfolding is_attribute_of of_event event_of
  inner_here y (Element f p) h = (and_parts _ _ h).0
  inner_here y (Reference f x t u) h = absurd (false≢true h)
  inner_here y (Proposal f n) h = absurd (false≢true h)
  inner_here y (Verdict f n i o) h = absurd (false≢true h)
  inner_here y (Sighting f t i o u) h = absurd (false≢true h)

  pub object_here : (k : Key) → is_object e k ≡ true → of_event e k ≡ true
  unfolding is_object of_event event_of
  object_here (Element f p) h = (and_parts _ _ h).0
  object_here (Reference f x t u) h = absurd (false≢true h)
  object_here (Proposal f n) h = absurd (false≢true h)
  object_here (Verdict f n i o) h = absurd (false≢true h)
  object_here (Sighting f t i o u) h = absurd (false≢true h)

  proposal_here : (k j : Key) → of_event e k ≡ true → is_proposal_on k j ≡ true → of_event e j ≡ true
  unfolding is_proposal_on of_event event_of
  proposal_here k (Proposal f n) g h = same_key-keeps (of_event e) (Element f n.target) k h g
  proposal_here k (Element f p) g h = absurd (false≢true h)
  proposal_here k (Reference f x t u) g h = absurd (false≢true h)
  proposal_here k (Verdict f n i o) g h = absurd (false≢true h)
  proposal_here k (Sighting f t i o u) g h = absurd (false≢true h)

  sighting_here : (k j : Key) → of_event e k ≡ true → is_sighting_on k j ≡ true → of_event e j ≡ true
  unfolding is_sighting_on of_event event_of
  sighting_here k (Sighting f t i o u) g h = same_key-keeps (of_event e) (Element f t) k h g
  sighting_here k (Element f p) g h = absurd (false≢true h)
  sighting_here k (Reference f x t u) g h = absurd (false≢true h)
  sighting_here k (Proposal f n) g h = absurd (false≢true h)
  sighting_here k (Verdict f n i o) g h = absurd (false≢true h)

  verdict_here : (k j : Key) (judge : OrgId) → of_event e k ≡ true → is_verdict_on k judge j ≡ true → of_event e j ≡ true
  unfolding is_verdict_on of_event event_of
  verdict_here k (Verdict f n i o) judge g h = same_key-keeps (of_event e) (Proposal f n) k (and_parts _ _ h).0 g
  verdict_here k (Element f p) judge g h = absurd (false≢true h)
  verdict_here k (Reference f x t u) judge g h = absurd (false≢true h)
  verdict_here k (Proposal f n) judge g h = absurd (false≢true h)
  verdict_here k (Sighting f t i o u) judge g h = absurd (false≢true h)

module _ (e : EventId) (s : Scene) where
  -- the row is of the event
  abbrev is_here : Row → Bool
  is_here row = of_event e row.key

  -- the same surroundings with the event's rows alone
  abbrev here : Scene
  here = cut_scene (of_event e) s

  shown_same : (w : OrgId) (row : Row) → is_here row ≡ true → is_shown here w row ≡ is_shown s w row
  unfolding is_shown cut_scene
  shown_same w row h = λ i. same_org row.owner w && granted_here e s.rows s.groups s.at s.by row h i && is_live_cut (of_event e) (event_is_closed e) s.rows row h i

  shown_at_same : (w : OrgId) (p q : Key → Bool) → ((k : Key) → of_event e k ≡ true → p k ≡ q k) → ((k : Key) → q k ≡ true → of_event e k ≡ true) → shown_at here w p ≡ shown_at s w q
  unfolding shown_at cut_scene cut_rows
  shown_at_same w p q h k =
      ap sorted
      (filter_within (λ row. is_shown here w row && p row.key) (λ row. is_shown s w row && q row.key) is_here
      (λ row g i. shown_same w row g i && h row.key g i) (λ row g. k row.key (and_parts _ _ g).1) s.rows)

  all_here : (w : OrgId) (q : Key → Bool) → ((k : Key) → q k ≡ true → of_event e k ≡ true) → list_all is_here (shown_at s w q) ≡ true
  unfolding shown_at sorted
  all_here w q k = tests_in_order _ is_here (filter (λ row. is_shown s w row && q row.key) s.rows) (all_of_kept is_here (λ row. is_shown s w row && q row.key) (λ row g. k row.key (and_parts _ _ g).1) s.rows)

  least_same : (row : Row) → is_here row ≡ true → is_least (cut_rows (of_event e) s.rows) s.groups s.at s.by row ≡ is_least s.rows s.groups s.at s.by row
  unfolding is_least cut_rows
  least_same row h = λ i. granted_here e s.rows s.groups s.at s.by row h i && not (lesser i)
    where
      lesser : list_any (λ r. same_key r.key row.key && ltb r.owner.0.0 row.owner.0.0 && granted (cut_rows (of_event e) s.rows) s.groups s.at s.by r) (filter is_here s.rows)
          ≡ list_any (λ r. same_key r.key row.key && ltb r.owner.0.0 row.owner.0.0 && granted s.rows s.groups s.at s.by r) s.rows
      lesser =
          any_within (λ r. same_key r.key row.key && ltb r.owner.0.0 row.owner.0.0 && granted (cut_rows (of_event e) s.rows) s.groups s.at s.by r)
          (λ r. same_key r.key row.key && ltb r.owner.0.0 row.owner.0.0 && granted s.rows s.groups s.at s.by r) is_here
          (λ r g i. same_key r.key row.key && ltb r.owner.0.0 row.owner.0.0 && granted_here e s.rows s.groups s.at s.by r g i)
          (λ r g. same_key-keeps (of_event e) r.key row.key (and_parts _ _ (and_parts _ _ g).0).0 h) s.rows

  closed_same : (orgc : OrgId) (k : Key) → of_event e k ≡ true → is_closed here orgc k ≡ is_closed s orgc k
  unfolding is_closed cut_scene cut_rows
  closed_same orgc k h =
      any_within (λ row. is_verdict_on k orgc row.key && granted (cut_rows (of_event e) s.rows) s.groups s.at s.by row) (λ row. is_verdict_on k orgc row.key && granted s.rows s.groups s.at s.by row) is_here
      (λ row g i. is_verdict_on k orgc row.key && granted_here e s.rows s.groups s.at s.by row g i)
      (λ row g. verdict_here e k row.key orgc h (and_parts _ _ g).0) s.rows

  proposals_same : (orgc : OrgId) (k : Key) → of_event e k ≡ true → proposals_on here orgc k ≡ proposals_on s orgc k
  unfolding proposals_on cut_scene cut_rows
  proposals_same orgc k h =
      ap sorted
      (filter_within (λ row. is_proposal_on k row.key && is_least (cut_rows (of_event e) s.rows) s.groups s.at s.by row && not (is_closed here orgc row.key))
      (λ row. is_proposal_on k row.key && is_least s.rows s.groups s.at s.by row && not (is_closed s orgc row.key)) is_here
      (λ row g i. is_proposal_on k row.key && least_same row g i && not (closed_same orgc row.key g i))
      (λ row g. proposal_here e k row.key h (and_parts _ _ (and_parts _ _ g).0).0) s.rows)

  sightings_same : (k : Key) → of_event e k ≡ true → sightings_on here k ≡ sightings_on s k
  unfolding sightings_on cut_scene cut_rows
  sightings_same k h =
      ap sorted
      (filter_within (λ row. is_sighting_on k row.key && is_least (cut_rows (of_event e) s.rows) s.groups s.at s.by row) (λ row. is_sighting_on k row.key && is_least s.rows s.groups s.at s.by row) is_here
      (λ row g i. is_sighting_on k row.key && least_same row g i) (λ row g. sighting_here e k row.key h (and_parts _ _ g).0) s.rows)

  attribute_same : (orgc : OrgId) (row : Row) → is_here row ≡ true → shown_attribute here orgc row ≡ shown_attribute s orgc row
  unfolding shown_attribute
  attribute_same orgc row h = λ i. record { row = row; proposals = proposals_same orgc row.key h i; sightings = sightings_same row.key h i }

  attributes_same : (orgc w : OrgId) (q : Key → Bool) → ((k : Key) → q k ≡ true → of_event e k ≡ true) →
      map (shown_attribute here orgc) (shown_at here w q) ≡ map (shown_attribute s orgc) (shown_at s w q)
  attributes_same orgc w q k =
      ap (map (shown_attribute here orgc)) (shown_at_same w q q (λ j h. refl) k)
      ∙ map_where (shown_attribute here orgc) (shown_attribute s orgc) is_here (attribute_same orgc) (shown_at s w q) (all_here w q k)

  reference_same : (w : OrgId) (y : ElemId) (k : Key) → of_event e k ≡ true → is_reference_of here w e y k ≡ is_reference_of s w e y k
  unfolding is_reference_of cut_scene cut_rows of_event event_of is_row_of
  reference_same w y (Reference f x t u) h = ap (λ b. same_event f e && same_elem x y && b)
      (any_within (λ row. is_row_of w (Element e t) row && is_shown here w row) (λ row. is_row_of w (Element e t) row && is_shown s w row) is_here
      (λ row g i. is_row_of w (Element e t) row && shown_same w row g i)
      (λ row g. same_key-keeps (of_event e) row.key (Element e t) (and_parts _ _ (and_parts _ _ g).0).1 (same_event-refl e)) s.rows)
  reference_same w y (Element f p) h = refl
  reference_same w y (Proposal f n) h = refl
  reference_same w y (Verdict f n i o) h = refl
  reference_same w y (Sighting f t i o u) h = refl

  pub reference_here : (w : OrgId) (y : ElemId) (k : Key) → is_reference_of s w e y k ≡ true → of_event e k ≡ true
  unfolding is_reference_of of_event event_of
  reference_here w y (Reference f x t u) h = (and_parts _ _ (and_parts _ _ h).0).0
  reference_here w y (Element f p) h = absurd (false≢true h)
  reference_here w y (Proposal f n) h = absurd (false≢true h)
  reference_here w y (Verdict f n i o) h = absurd (false≢true h)
  reference_here w y (Sighting f t i o u) h = absurd (false≢true h)

  object_same : (orgc w : OrgId) (row : Row) → shown_object here orgc w e row ≡ shown_object s orgc w e row
  unfolding shown_object
  object_same orgc w row = λ i. record {
    row = row;
    attributes = attributes_same orgc w (is_attribute_of e (object_of row.key)) (inner_here e (object_of row.key)) i;
    references = shown_at_same w (is_reference_of here w e (object_of row.key)) (is_reference_of s w e (object_of row.key)) (reference_same w (object_of row.key)) (reference_here w (object_of row.key)) i;
  }

  form_same : (row : Row) → form_of here e row ≡ form_of s e row
  unfolding form_of
  form_same row = λ i. record {
    row = row;
    org_name = [];
    attributes = attributes_same (creator row) row.owner (is_plain_attribute e) (plain_here e) i;
    objects = objects i;
    proposals = proposals_same (creator row) (event_key e) (key_here e) i;
    group_names = [];
  }
    where
      objects : map (shown_object here (creator row) row.owner e) (shown_at here row.owner (is_object e)) ≡ map (shown_object s (creator row) row.owner e) (shown_at s row.owner (is_object e))
      objects = λ i. map (λ x. object_same (creator row) row.owner x i) (shown_at_same row.owner (is_object e) (is_object e) (λ k h. refl) (object_here e) i)

  event_row_same : (owner : Option OrgId) → event_row here e owner ≡ event_row s e owner
  unfolding event_row chosen cut_scene cut_rows is_row_of
  event_row_same None =
      ap first_of_all
      (filter_within (λ row. same_key row.key (event_key e) && granted (cut_rows (of_event e) s.rows) s.groups s.at s.by row) (λ row. same_key row.key (event_key e) && granted s.rows s.groups s.at s.by row) is_here
      (λ row g i. same_key row.key (event_key e) && granted_here e s.rows s.groups s.at s.by row g i)
      (λ row g. same_key-keeps (of_event e) row.key (event_key e) (and_parts _ _ g).0 (key_here e)) s.rows)
  event_row_same (Some w) =
      find_within (λ row. is_row_of w (event_key e) row && granted (cut_rows (of_event e) s.rows) s.groups s.at s.by row) (λ row. is_row_of w (event_key e) row && granted s.rows s.groups s.at s.by row) is_here
      (λ row g i. is_row_of w (event_key e) row && granted_here e s.rows s.groups s.at s.by row g i)
      (λ row g. same_key-keeps (of_event e) row.key (event_key e) (and_parts _ _ (and_parts _ _ g).0).1 (key_here e)) s.rows

  -- the event is seen in the same form
  pub shown_from_here : (owner : Option OrgId) → shown here e owner ≡ shown s e owner
  unfolding shown
  shown_from_here owner = λ i. option_map (λ row. form_same row i) (event_row_same owner i)
