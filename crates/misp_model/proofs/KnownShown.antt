-- An event is seen in what an organisation knows of a table in the form in which it is seen in the whole table.
use Rattle.std.proofs.Common.{◌≡◌, true, false, refl, List, [], Bool, ap, ◌∙◌, map, ltb, ◌&&◌, not, Option, Some, None, option_map, filter, Contains}
use Rattle.misp_lists.proofs.Elements.{found_among, filter_among, any_among, find_among}
use Rattle.misp_lists.proofs.Lists.{and_where, and_where_last}
use Rattle.misp_model.proofs.Prelude.{Element, ElemId, EventId, IsTable, Key, OrgId, Proposal, Reference, Row, Scene, Sighting, Verdict, and_from, and_parts, chosen, creator, event_key, event_of, event_row, false≢true, first_of_all}
use Rattle.misp_model.proofs.Prelude.{form_of, granted, granted_known, is_attribute_of, is_closed, is_known, is_least, is_object, is_plain_attribute, is_reference_of, is_row_of, is_shown, is_statement, is_verdict_on, known, list_any}
use Rattle.misp_model.proofs.Prelude.{object_of, of_part, pass_alike, proposals_on, row_of_name, same_elem, same_event, same_key, same_org, same_org-refl, seeing, shown, shown_at, shown_attribute, shown_object, sightings_on, sorted}
use Rattle.misp_model.specs.Shown.{is_proposal_on, is_sighting_on, is_chosen, index}
use Rattle.misp_model.proofs.KnownRows.{granted_is_known, chosen_known, live_known}

-- attributes, objects and references are no statements
pub plain_is_none : (e : EventId) (k : Key) → is_plain_attribute e k ≡ true → is_statement k ≡ false
unfolding is_plain_attribute is_statement
plain_is_none e (Element f p) h = refl
plain_is_none e (Reference f x t u) h = refl
plain_is_none e (Proposal f n) h = absurd (false≢true h)
plain_is_none e (Verdict f n i o) h = absurd (false≢true h)
plain_is_none e (Sighting f t i o u) h = absurd (false≢true h)

pub inner_is_none : (e : EventId) (y : ElemId) (k : Key) → is_attribute_of e y k ≡ true → is_statement k ≡ false
unfolding is_attribute_of is_statement
inner_is_none e y (Element f p) h = refl
inner_is_none e y (Reference f x t u) h = refl
inner_is_none e y (Proposal f n) h = absurd (false≢true h)
inner_is_none e y (Verdict f n i o) h = absurd (false≢true h)
inner_is_none e y (Sighting f t i o u) h = absurd (false≢true h)

pub object_is_none : (e : EventId) (k : Key) → is_object e k ≡ true → is_statement k ≡ false
unfolding is_object is_statement
object_is_none e (Element f p) h = refl
object_is_none e (Reference f x t u) h = refl
object_is_none e (Proposal f n) h = absurd (false≢true h)
object_is_none e (Verdict f n i o) h = absurd (false≢true h)
object_is_none e (Sighting f t i o u) h = absurd (false≢true h)

pub reference_is_none : (s : Scene) (w : OrgId) (e : EventId) (y : ElemId) (k : Key) → is_reference_of s w e y k ≡ true → is_statement k ≡ false
unfolding is_reference_of is_statement
reference_is_none s w e y (Element f p) h = refl
reference_is_none s w e y (Reference f x t u) h = refl
reference_is_none s w e y (Proposal f n) h = absurd (false≢true h)
reference_is_none s w e y (Verdict f n i o) h = absurd (false≢true h)
reference_is_none s w e y (Sighting f t i o u) h = absurd (false≢true h)

module _ (rows : List Row) (s : Scene) (table : IsTable rows) where
  -- the surroundings with the whole table, and with what the caller knows of it
  abbrev whole : Scene
  whole = record s { rows = rows }

  abbrev seen : Scene
  seen = seeing s rows

  abbrev is_seen : Row → Bool
  is_seen row = is_known rows s.groups s.at s.by row

  -- the row is granted to the caller, by what it knows and by all rows
  abbrev by_seen : Row → Bool
  by_seen row = granted (known rows s.groups s.at s.by) s.groups s.at s.by row

  abbrev by_all : Row → Bool
  by_all row = granted rows s.groups s.at s.by row

  granted_same : (row : Row) → Contains rows row → by_seen row ≡ by_all row
  granted_same row m = granted_known rows s.groups s.at s.by table row m

  granted_seen : (row : Row) → by_all row ≡ true → is_seen row ≡ true
  granted_seen row h = granted_is_known rows s.groups s.at s.by row h

  shown_same : (w : OrgId) (row : Row) → Contains rows row → is_seen row ≡ true → is_statement row.key ≡ false → is_shown seen w row ≡ is_shown whole w row
  unfolding is_shown
  shown_same w row m q n = λ j. same_org row.owner w && granted_same row m j && live_known rows s.groups s.at s.by table row q n j

  shown_seen : (w : OrgId) (row : Row) → is_shown whole w row ≡ true → is_seen row ≡ true
  unfolding is_shown
  shown_seen w row h = granted_seen row (and_parts _ _ (and_parts _ _ h).0).1

  shown_at_same : (w : OrgId) (p q : Key → Bool) → ((k : Key) → p k ≡ q k) → ((k : Key) → q k ≡ true → is_statement k ≡ false) → shown_at seen w p ≡ shown_at whole w q
  unfolding shown_at known
  shown_at_same w p q h n =
      ap sorted
      (filter_among (λ row. is_shown seen w row && p row.key) (λ row. is_shown whole w row && q row.key) is_seen rows
      (λ row m g. (λ j. is_shown seen w row && h row.key j) ∙ and_where_last (is_shown seen w row) (is_shown whole w row) (q row.key) (λ e. shown_same w row m g (n row.key e)))
      (λ row m g. shown_seen w row (and_parts _ _ g).0))

  least_same : (row : Row) → Contains rows row → is_least (known rows s.groups s.at s.by) s.groups s.at s.by row ≡ is_least rows s.groups s.at s.by row
  unfolding is_least known
  least_same row m = λ j. granted_same row m j && not (lesser j)
    where
      lesser : list_any (λ r. same_key r.key row.key && ltb r.owner.0.0 row.owner.0.0 && by_seen r) (known rows s.groups s.at s.by)
          ≡ list_any (λ r. same_key r.key row.key && ltb r.owner.0.0 row.owner.0.0 && by_all r) rows
      lesser =
          any_among (λ r. same_key r.key row.key && ltb r.owner.0.0 row.owner.0.0 && by_seen r) (λ r. same_key r.key row.key && ltb r.owner.0.0 row.owner.0.0 && by_all r) is_seen rows
          (λ r n q j. same_key r.key row.key && ltb r.owner.0.0 row.owner.0.0 && granted_same r n j) (λ r n h. granted_seen r (and_parts (same_key r.key row.key && ltb r.owner.0.0 row.owner.0.0) (by_all r) h).1)

  least_seen : (row : Row) → is_least rows s.groups s.at s.by row ≡ true → is_seen row ≡ true
  unfolding is_least
  least_seen row h = granted_seen row (and_parts _ _ h).0

  closed_same : (orgc : OrgId) (k : Key) → is_closed seen orgc k ≡ is_closed whole orgc k
  unfolding is_closed known
  closed_same orgc k =
      any_among (λ row. is_verdict_on k orgc row.key && by_seen row) (λ row. is_verdict_on k orgc row.key && by_all row) is_seen rows
      (λ row m q j. is_verdict_on k orgc row.key && granted_same row m j) (λ row m h. granted_seen row (and_parts _ _ h).1)

  proposals_same : (orgc : OrgId) (k : Key) → proposals_on seen orgc k ≡ proposals_on whole orgc k
  unfolding proposals_on known
  proposals_same orgc k =
      ap sorted
      (filter_among (λ row. is_proposal_on k row.key && is_least (known rows s.groups s.at s.by) s.groups s.at s.by row && not (is_closed seen orgc row.key))
      (λ row. is_proposal_on k row.key && is_least rows s.groups s.at s.by row && not (is_closed whole orgc row.key)) is_seen rows
      (λ row m q j. is_proposal_on k row.key && least_same row m j && not (closed_same orgc row.key j))
      (λ row m h. least_seen row (and_parts _ _ (and_parts _ _ h).0).1))

  sightings_same : (k : Key) → sightings_on seen k ≡ sightings_on whole k
  unfolding sightings_on known
  sightings_same k =
      ap sorted
      (filter_among (λ row. is_sighting_on k row.key && is_least (known rows s.groups s.at s.by) s.groups s.at s.by row) (λ row. is_sighting_on k row.key && is_least rows s.groups s.at s.by row) is_seen rows
      (λ row m q j. is_sighting_on k row.key && least_same row m j) (λ row m h. least_seen row (and_parts _ _ h).1))

  attribute_same : (orgc : OrgId) (row : Row) → shown_attribute seen orgc row ≡ shown_attribute whole orgc row
  unfolding shown_attribute
  attribute_same orgc row = λ i. record { row = row; proposals = proposals_same orgc row.key i; sightings = sightings_same row.key i }

  attributes_same : (orgc w : OrgId) (q : Key → Bool) → ((k : Key) → q k ≡ true → is_statement k ≡ false) →
      map (shown_attribute seen orgc) (shown_at seen w q) ≡ map (shown_attribute whole orgc) (shown_at whole w q)
  attributes_same orgc w q n = λ i. map (λ row. attribute_same orgc row i) (shown_at_same w q q (λ k. refl) n i)

  reference_same : (w : OrgId) (e : EventId) (y : ElemId) (k : Key) → is_reference_of seen w e y k ≡ is_reference_of whole w e y k
  unfolding is_reference_of known is_statement
  reference_same w e y (Reference f x t u) = ap (λ b. same_event f e && same_elem x y && b)
      (any_among (λ row. is_row_of w (Element e t) row && is_shown seen w row) (λ row. is_row_of w (Element e t) row && is_shown whole w row) is_seen rows
      (λ row m q. and_where (is_row_of w (Element e t) row) _ _ (λ g. shown_same w row m q (ap is_statement (row_of_name w (Element e t) row g).1)))
      (λ row m h. shown_seen w row (and_parts _ _ h).1))
  reference_same w e y (Element f p) = refl
  reference_same w e y (Proposal f n) = refl
  reference_same w e y (Verdict f n i o) = refl
  reference_same w e y (Sighting f t i o u) = refl

  object_same : (orgc w : OrgId) (e : EventId) (row : Row) → shown_object seen orgc w e row ≡ shown_object whole orgc w e row
  unfolding shown_object
  object_same orgc w e row = λ i. record {
    row = row;
    attributes = attributes_same orgc w (is_attribute_of e (object_of row.key)) (inner_is_none e (object_of row.key)) i;
    references = shown_at_same w (is_reference_of seen w e (object_of row.key)) (is_reference_of whole w e (object_of row.key)) (reference_same w e (object_of row.key)) (reference_is_none whole w e (object_of row.key)) i;
  }

  form_same : (e : EventId) (row : Row) → form_of seen e row ≡ form_of whole e row
  unfolding form_of
  form_same e row = λ i. record {
    row = row;
    org_name = [];
    attributes = attributes_same (creator row) row.owner (is_plain_attribute e) (plain_is_none e) i;
    objects = objects i;
    proposals = proposals_same (creator row) (event_key e) i;
    group_names = [];
  }
    where
      objects : map (shown_object seen (creator row) row.owner e) (shown_at seen row.owner (is_object e)) ≡ map (shown_object whole (creator row) row.owner e) (shown_at whole row.owner (is_object e))
      objects = λ i. map (λ x. object_same (creator row) row.owner e x i) (shown_at_same row.owner (is_object e) (is_object e) (λ k. refl) (object_is_none e) i)

  event_row_same : (e : EventId) (owner : Option OrgId) → event_row seen e owner ≡ event_row whole e owner
  unfolding event_row known
  event_row_same e None = chosen_known rows s.groups s.at s.by table e
  event_row_same e (Some w) =
      find_among (λ row. is_row_of w (event_key e) row && by_seen row) (λ row. is_row_of w (event_key e) row && by_all row) is_seen rows
      (λ row m q j. is_row_of w (event_key e) row && granted_same row m j) (λ row m h. granted_seen row (and_parts _ _ h).1)

  -- the event is seen in the same form
  pub shown_known : (e : EventId) (owner : Option OrgId) → shown seen e owner ≡ shown whole e owner
  unfolding shown
  shown_known e owner = λ i. option_map (λ row. form_same e row i) (event_row_same e owner i)

  -- ---- the index
  chosen_same : (row : Row) → is_chosen seen row ≡ is_chosen whole row
  unfolding is_chosen
  chosen_same row = λ i. same_key row.key (event_key (event_of row.key)) && elim (chosen_known rows s.groups s.at s.by table (event_of row.key) i) as (λ x. Bool) [
    | None ↦ false
    | Some best ↦ same_org best.owner row.owner
  ]

  chosen_row : (e : EventId) (best : Row) → chosen rows s.groups s.at s.by e ≡ Some best → ((same_key best.key (event_key e) && by_all best) ≡ true) × Contains rows best
  unfolding chosen first_of_all
  chosen_row e best h = of_part _ rows best (found_among _ _ best h)

  -- where an owner has the chosen copy, its row of the event is granted
  chosen_seen : (row : Row) → Contains rows row → is_chosen whole row ≡ true → is_seen row ≡ true
  unfolding is_chosen is_row_of
  chosen_seen row m h = one (chosen rows s.groups s.at s.by (event_of row.key)) refl (and_parts _ _ h).1
    where
      named : (a : Row) → same_org a.owner row.owner ≡ true → same_key a.key (event_key (event_of row.key)) ≡ true → is_row_of row.owner (event_key (event_of row.key)) a ≡ true
      named a o k = and_from _ _ o k

      one : (o : Option Row) → chosen rows s.groups s.at s.by (event_of row.key) ≡ o → (elim o as (λ x. Bool) [ None ↦ false | Some best ↦ same_org best.owner row.owner ]) ≡ true → is_seen row ≡ true
      one None e g = absurd (false≢true g)
      one (Some best) e g =
          let is : ((same_key best.key (event_key (event_of row.key)) && by_all best) ≡ true) × Contains rows best = chosen_row (event_of row.key) best e in
          granted_seen row
          (pass_alike row.owner (event_key (event_of row.key)) by_all rows table best row is.1 m (named best g (and_parts _ _ is.0).0) (named row (same_org-refl row.owner) (and_parts _ _ h).0) (and_parts _ _ is.0).1)

  index_rows : filter (is_chosen seen) (known rows s.groups s.at s.by) ≡ filter (is_chosen whole) rows
  unfolding known
  index_rows = filter_among (is_chosen seen) (is_chosen whole) is_seen rows (λ row m q. chosen_same row) chosen_seen

  -- the same events are listed
  pub index_known : index seen ≡ index whole
  unfolding index
  index_known = λ i. map (λ row. form_same (event_of row.key) row i) (sorted (index_rows i))
