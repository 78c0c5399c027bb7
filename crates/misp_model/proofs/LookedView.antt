-- A view is the same over the rows of the copy that is shown, with the event rows and the statements of all copies.
use Rattle.std.proofs.Common.{◌≡◌, [], ◌∷◌, List, Bool, true, false, refl, ap, sym, ◌∙◌, cond, map, ◌&&◌, ◌||◌, Option, Some, None, option_map, filter, Contains}
use Rattle.std.proofs.lemmas.Bool.{and_from, and_parts, or_left, or_right}
use Rattle.misp_ids.proofs.Same.{same_event-refl, same_event-sound, same_org-refl, same_org-sound}
use Rattle.misp_lists.proofs.Elements.{any_has, here, kept_has, of_part, there}
use Rattle.misp_lists.proofs.Lists.{all_implies, and_where, and_where_last, any_within, filter_within}
use Rattle.misp_lists.proofs.Ordering.{from_in_order}
use Rattle.misp_elem.proofs.Same.{of_event, same_key-refl}
use Rattle.misp_model.proofs.Prelude.{Element, ElemId, EventId, IsTable, Key, OrgId, Proposal, Reference, Row, Scene, Sighting, Verdict, creator, element_granted, event_is_closed, event_key, event_of, event_row, form_of}
use Rattle.misp_model.proofs.Prelude.{granted, granted_somewhere, is_attribute_of, is_object, is_plain_attribute, is_reference_of, is_row_of, is_shown, is_statement}
use Rattle.misp_model.proofs.Prelude.{list_any, object_of, parents, part_is_table, row_of_name, same_elem, same_event, same_key, same_org, seeing, shown, shown_at, shown_attribute, shown_object, sorted}
use Rattle.misp_model.proofs.LookedRows.{looked_rows}
use Rattle.misp_model.proofs.LookedScenes.{looked_scene}
use Rattle.misp_model.proofs.KnownShown.{inner_is_none, object_is_none, plain_is_none, reference_is_none, shown_known}
use Rattle.misp_model.proofs.ShownHere.{inner_here, key_here, object_here, plain_here, reference_here}
use Rattle.misp_model.proofs.SameAnswers.{IsSame, accepted_from, from_rules}
use Rattle.misp_model.proofs.LookedTold.{HasAbove, HasEvents, HasStatements, IsAlike, both_where, element_same, event_alike, event_row_same, live_same, plain_by, plain_same, proposals_same, sightings_same}
use Rattle.misp_model.specs.Looking.{at_event, at_shown, is_in_look, last_looks, looks_at, more_looks, over, rows_seen_by}
use Rattle.misp_model.specs.declared.looks.Looks.{Looks}
use Rattle.misp_model.specs.Prelude.{NotGranted, Reply, View, ask_rules, brings, ok_answer}
use Rattle.misp_model.specs.Answers.{Other, Seen}

-- two maps that agree on each element of the list
map_among : {X Y : Type 0} (f g : X → Y) (xs : List X) → ((x : X) → Contains xs x → f x ≡ g x) → map f xs ≡ map g xs
map_among f g [] h = refl
map_among f g (x ∷ xs) h = λ i. h x (here x xs) i ∷ map_among f g xs (λ y m. h y (there x xs y m)) i

-- what is sorted has what it was made of
from_sorted : (rows : List Row) (row : Row) → Contains (sorted rows) row → Contains rows row
unfolding sorted
from_sorted rows row m = from_in_order _ rows row m

module _ (keep : OrgId → Key → Bool) (e : EventId) (s : Scene) (events : HasEvents keep e) (statements : HasStatements keep e) where
  abbrev near : Scene
  near = looked_scene keep s

  abbrev is_near : Row → Bool
  is_near row = keep row.owner row.key

  -- each of the owner's rows of the event is looked at
  module _ (w : OrgId) (copy : (k : Key) → of_event e k ≡ true → keep w k ≡ true) where
    own_near : (v : OrgId) (k : Key) → same_org v w ≡ true → of_event e k ≡ true → keep v k ≡ true
    own_near v k h g = ap (λ x. keep x k) (same_org-sound v w h) ∙ copy k g

    own_above : (row : Row) → same_org row.owner w ≡ true → of_event e row.key ≡ true → HasAbove keep e s events row
    unfolding of_event
    own_above row h g = (
      ap (λ f. keep row.owner (event_key f)) (same_event-sound (event_of row.key) e g) ∙ events row.owner,
      all_implies (of_event e) (keep row.owner) (λ k c. own_near row.owner k h c) (parents row.key) ((event_is_closed e).above row.key g),
    )

    shown_same : (row : Row) → of_event e row.key ≡ true → is_statement row.key ≡ false → is_shown near w row ≡ is_shown s w row
    unfolding is_shown looked_scene
    shown_same row g n = both_where (same_org row.owner w) _ _ _ _ (λ h. plain_same keep e s events row n (own_above row h g)) (λ h. live_same keep e s events row (own_above row h g))

    shown_near : (row : Row) → is_shown s w row ≡ true → of_event e row.key ≡ true → is_near row ≡ true
    unfolding is_shown
    shown_near row h g = own_near row.owner row.key (and_parts _ _ (and_parts _ _ h).0).0 g

    -- rows that pass a test which only elements of the event pass
    module _ (q : Key → Bool) (plain : (k : Key) → q k ≡ true → is_statement k ≡ false) (within : (k : Key) → q k ≡ true → of_event e k ≡ true) where
      shown_at_same : (p : Key → Bool) → ((k : Key) → p k ≡ q k) → shown_at near w p ≡ shown_at s w q
      unfolding shown_at looked_scene looked_rows
      shown_at_same p h =
          ap sorted
          (filter_within (λ row. is_shown near w row && p row.key) (λ row. is_shown s w row && q row.key) is_near
          (λ row g. (λ i. is_shown near w row && h row.key i) ∙ and_where_last (is_shown near w row) (is_shown s w row) (q row.key) (λ c. shown_same row (within row.key c) (plain row.key c)))
          (λ row g. shown_near row (and_parts _ _ g).0 (within row.key (and_parts _ _ g).1)) s.rows)

      -- such a row is granted, by the rows that are looked at too
      row_alike : (row : Row) → Contains s.rows row → is_shown s w row ≡ true → q row.key ≡ true → IsAlike keep e s events row.key
      unfolding granted_somewhere is_shown looked_rows
      row_alike row m h c = in_part ∙ sym in_whole
        where
          own : (same_org row.owner w ≡ true) × (granted s.rows s.groups s.at s.by row ≡ true)
          own = and_parts _ _ (and_parts _ _ h).0

          up : HasAbove keep e s events row
          up = own_above row own.0 (within row.key c)

          given : element_granted s.rows s.groups s.at s.by row ≡ true
          given = sym (plain_by keep e s events row (plain row.key c)) ∙ own.1

          is_left : Contains (filter is_near s.rows) row
          is_left = kept_has is_near s.rows row m (shown_near row h (within row.key c))

          in_part : granted_somewhere (looked_rows keep s.rows) s.groups s.at s.by row.key ≡ true
          in_part = any_has _ (filter is_near s.rows) row is_left (and_from _ _ (same_key-refl row.key) (element_same keep e s events row up ∙ given))

          in_whole : granted_somewhere s.rows s.groups s.at s.by row.key ≡ true
          in_whole = any_has _ s.rows row m (and_from _ _ (same_key-refl row.key) given)

      attribute_same : (judge : OrgId) (row : Row) → Contains (shown_at s w q) row → shown_attribute near judge row ≡ shown_attribute s judge row
      unfolding shown_attribute shown_at
      attribute_same judge row m = λ i. record { row = row; proposals = proposals_same keep e s events statements row.key of alike judge i; sightings = sightings_same keep e s events statements row.key of alike i }
        where
          at : ((is_shown s w row && q row.key) ≡ true) × Contains s.rows row
          at = of_part (λ r. is_shown s w r && q r.key) s.rows row (from_sorted (filter (λ r. is_shown s w r && q r.key) s.rows) row m)

          both : (is_shown s w row ≡ true) × (q row.key ≡ true)
          both = and_parts (is_shown s w row) (q row.key) at.0

          of : of_event e row.key ≡ true
          of = within row.key both.1

          alike : IsAlike keep e s events row.key
          alike = row_alike row at.1 both.0 both.1

      attributes_same : (judge : OrgId) → map (shown_attribute near judge) (shown_at near w q) ≡ map (shown_attribute s judge) (shown_at s w q)
      attributes_same judge = ap (map (shown_attribute near judge)) (shown_at_same q (λ k. refl)) ∙ map_among _ _ (shown_at s w q) (attribute_same judge)

    reference_same : (y : ElemId) (k : Key) → is_reference_of near w e y k ≡ is_reference_of s w e y k
    unfolding is_reference_of looked_scene looked_rows of_event event_of is_statement
    reference_same y (Reference f x t u) = ap (λ b. same_event f e && same_elem x y && b)
        (any_within (λ row. is_row_of w (Element e t) row && is_shown near w row) (λ row. is_row_of w (Element e t) row && is_shown s w row) is_near
        (λ row g. and_where (is_row_of w (Element e t) row) _ _ (λ h. shown_same row (target_here row h) (target_plain row h)))
        (λ row g. shown_near row (and_parts _ _ g).1 (target_here row (and_parts _ _ g).0)) s.rows)
      where
        target_here : (row : Row) → is_row_of w (Element e t) row ≡ true → of_event e row.key ≡ true
        target_here row h = ap (of_event e) (row_of_name w (Element e t) row h).1 ∙ same_event-refl e

        target_plain : (row : Row) → is_row_of w (Element e t) row ≡ true → is_statement row.key ≡ false
        target_plain row h = ap is_statement (row_of_name w (Element e t) row h).1
    reference_same y (Element f p) = refl
    reference_same y (Proposal f n) = refl
    reference_same y (Verdict f n i o) = refl
    reference_same y (Sighting f t i o u) = refl

    object_same : (judge : OrgId) (row : Row) → shown_object near judge w e row ≡ shown_object s judge w e row
    unfolding shown_object
    object_same judge row = λ i. record {
      row = row;
      attributes = attributes_same (is_attribute_of e (object_of row.key)) (inner_is_none e (object_of row.key)) (inner_here e (object_of row.key)) judge i;
      references = shown_at_same (is_reference_of s w e (object_of row.key)) (reference_is_none s w e (object_of row.key)) (reference_here e s w (object_of row.key)) (is_reference_of near w e (object_of row.key)) (reference_same (object_of row.key)) i;
    }

    objects_same : (judge : OrgId) → map (shown_object near judge w e) (shown_at near w (is_object e)) ≡ map (shown_object s judge w e) (shown_at s w (is_object e))
    objects_same judge = λ i. map (λ row. object_same judge row i) (shown_at_same (is_object e) (object_is_none e) (object_here e) (is_object e) (λ k. refl) i)

  pub form_same : (row : Row) → ((k : Key) → of_event e k ≡ true → keep row.owner k ≡ true) → form_of near e row ≡ form_of s e row
  unfolding form_of
  form_same row copy = λ i. record {
    row = row;
    org_name = [];
    attributes = attributes_same row.owner copy (is_plain_attribute e) (plain_is_none e) (plain_here e) (creator row) i;
    objects = objects_same row.owner copy (creator row) i;
    proposals = proposals_same keep e s events statements (event_key e) (key_here e) (event_alike keep e s events) (creator row) i;
    group_names = [];
  }

-- ---- which rows are looked at

both_ways : (b x y : Bool) → x ≡ true → y ≡ true → cond b x y ≡ true
both_ways true x y h k = h
both_ways false x y h k = k

-- first the event's row in each copy
event_at : (by : OrgId) (e : EventId) (v : OrgId) → looks_at (at_event by e) v (event_key e) ≡ true
unfolding is_in_look looks_at
event_at by e v = both_ways (same_org v by) _ _ its_own its_own
  where
    its_own : list_any (same_key (event_key e)) (event_key e ∷ []) ≡ true
    its_own = any_has (same_key (event_key e)) (event_key e ∷ []) (event_key e) (here (event_key e) []) (same_key-refl (event_key e))

-- then those of the copy that is shown, and of all others the event's row and the statements
module _ (w : OrgId) (e : EventId) where
  event_shown : (v : OrgId) → looks_at (at_shown w e) v (event_key e) ≡ true
  unfolding is_in_look looks_at of_event
  event_shown v = both_ways (same_org v w) _ _ (key_here e) (and_from _ _ (key_here e) (or_right (is_statement (event_key e)) _ (same_key-refl (event_key e))))

  said_shown : (v : OrgId) (k : Key) → is_statement k ≡ true → of_event e k ≡ true → looks_at (at_shown w e) v k ≡ true
  unfolding is_in_look looks_at of_event
  said_shown v k said h = both_ways (same_org v w) _ _ h (and_from _ _ h (or_left _ (same_key k (event_key e)) said))

  copy_shown : (k : Key) → of_event e k ≡ true → looks_at (at_shown w e) w k ≡ true
  unfolding is_in_look looks_at of_event
  copy_shown k h = ap (λ b. cond b (same_event (event_of k) e) (same_event (event_of k) e && (is_statement k || same_key k (event_key e)))) (same_org-refl w) ∙ h

-- ---- a view

view_alike : (s t : Scene) (e : EventId) (owner : Option OrgId) → shown s e owner ≡ shown t e owner → IsSame s t (View e owner)
unfolding ask_rules ok_answer brings
view_alike s t e owner h = record {
  rules = rules;
  accepted = accepted_from s t (View e owner) rules;
  answers = from_rules s t (View e owner) rules (λ i. elim (h i) as (λ x. Reply) [ None ↦ Other | Some v ↦ Seen v ]);
  brought = refl;
}
  where
    rules : ask_rules s (View e owner) ≡ ask_rules t (View e owner)
    rules = λ i. (elim (h i) as (λ x. Bool) [ None ↦ true | Some v ↦ false ], NotGranted) ∷ []

module _ (s : Scene) (rows : List Row) (e : EventId) (owner : Option OrgId) where
  -- the surroundings with all rows, and with those that are looked at
  abbrev all : Scene
  all = over s rows

  abbrev part : Looks → Scene
  part l = over s (rows_seen_by l rows)

  row_first : event_row (part (at_event s.by e)) e owner ≡ event_row all e owner
  unfolding looked_scene looked_rows rows_seen_by
  row_first = event_row_same (looks_at (at_event s.by e)) e all (event_at s.by e) owner

  row_then : (w : OrgId) → event_row (part (at_shown w e)) e owner ≡ event_row all e owner
  unfolding looked_scene looked_rows rows_seen_by
  row_then w = event_row_same (looks_at (at_shown w e)) e all (event_shown w e) owner

  form_then : (row : Row) → form_of (part (at_shown row.owner e)) e row ≡ form_of all e row
  unfolding looked_scene looked_rows rows_seen_by
  form_then row = form_same (looks_at (at_shown row.owner e)) e all (event_shown row.owner e) (said_shown row.owner e) row (copy_shown row.owner e)

  -- whose copy is shown is seen in the event's row of each
  pub view_row_looked : more_looks (part (at_event s.by e)) (View e owner) ≡ more_looks all (View e owner)
  view_row_looked = ap (option_map (λ row. at_shown row.owner e)) row_first

  -- and what is shown in that copy, with what others say of it
  view_looked : shown (part (last_looks (at_event s.by e) (more_looks all (View e owner)))) e owner ≡ shown all e owner
  unfolding shown
  view_looked = by_row (event_row all e owner) refl
    where
      by_row : (found : Option Row) → event_row all e owner ≡ found → shown (part (last_looks (at_event s.by e) (option_map (λ row. at_shown row.owner e) found))) e owner ≡ shown all e owner
      by_row None h = ap (option_map (form_of (part (at_event s.by e)) e)) (row_first ∙ h) ∙ sym (ap (option_map (form_of all e)) h)
      by_row (Some row) h = ap (option_map (form_of (part (at_shown row.owner e)) e)) (row_then row.owner ∙ h) ∙ ap Some (form_then row) ∙ sym (ap (option_map (form_of all e)) h)

  pub view_same : IsTable rows → IsSame (seeing s (rows_seen_by (last_looks (at_event s.by e) (more_looks all (View e owner))) rows)) (seeing s rows) (View e owner)
  unfolding rows_seen_by
  view_same table = view_alike (seeing s (rows_seen_by last rows)) (seeing s rows) e owner (shown_known (rows_seen_by last rows) s left e owner ∙ view_looked ∙ sym (shown_known rows s table e owner))
    where
      last : Looks
      last = last_looks (at_event s.by e) (more_looks all (View e owner))

      left : IsTable (rows_seen_by last rows)
      left = part_is_table (λ row. looks_at last row.owner row.key) rows table
