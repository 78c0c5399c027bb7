-- The form of one copy, by the lists of what shows there.
use Rattle.std.proofs.Common.{◌≡◌, ℕ, Bool, true, false, refl, ap, sym, ◌∙◌, arith, List, [], map, eqb, ltb, ◌&&◌, not, Option, Some, None, option_map, filter, BTreeSet}
use Rattle.misp_lists.proofs.Lists.{all_of_kept, any_of_kept, filter_twice, map_where}
use Rattle.misp_elem.specs.declared.visible.VisibleAttribute.{VisibleAttribute}
use Rattle.misp_model.proofs.Prelude.{Attribute, Element, Event, EventId, Group, GroupId, Inst, Key, Object, ObjectAttribute, OrgId, Proposal, Reference, Row, Scene, Sighting, Verdict, VisibleEvent, and_parts, and_right, any_agree}
use Rattle.misp_model.proofs.Prelude.{creator, event_key, event_row, false≢true, filter_agree, form_of, granted, in_order, is_attribute_of, is_closed, is_least, is_object, is_plain_attribute, is_reference_of, is_shown, is_statement}
use Rattle.misp_model.proofs.Prelude.{is_verdict_on, list_all, list_any, nat_tests, object_of, proposals_on, same_elem, same_event, same_key, shown, shown_at, shown_attribute, shown_object, sightings_on, sorted, uuid_at}
use Rattle.misp_copies.specs.declared.copy_view.CopyView.{CopyView}
use Rattle.misp_copies.specs.Kinds.{is_link}
use Rattle.misp_copies.specs.ElementSet.{Numbers}
use Rattle.misp_copies.specs.Grants.{granted_in}
use Rattle.misp_copies.specs.CopyView.{IsCopyView, IsSeen}
use Rattle.misp_copies.specs.Keys.{is_about}
use Rattle.misp_copies.specs.StatementsByTarget.{IsByTarget}
use Rattle.misp_copies.specs.StatementsByKey.{is_lesser}
use Rattle.misp_copies.proofs.Granted.{of_these, all_of_these, granted_is}
use Rattle.misp_view.specs.declared.inside.Inside.{Inside}
use Rattle.misp_view.specs.declared.kinds.Kind.{Kind}
use Rattle.misp_view.specs.View.{scene_of}
use Rattle.misp_view.specs.Order.{goes_before}
use Rattle.misp_view.specs.Kinds.{is_inner}
use Rattle.misp_view.specs.Parts.{around}
use Rattle.misp_view.specs.Statements.{is_told, is_least_of, is_closed_by, is_open_proposal, is_least_sighting, is_proposal, is_sighting}
use Rattle.misp_view.specs.Form.{attribute_in, beside, object_in}
use Rattle.misp_view.specs.Inside.{in_list, IsInside}
use Rattle.misp_view.proofs.StatementKeys.{lesser_told, proposal_told, sighting_told, verdict_told, proposal_class, sighting_class, on_is, of_is}
use Rattle.misp_view.proofs.Showing.{of_class, sorted_class, sorted_cut, is_reference, list_is, all_sorted}

-- ---- statements

module _ (groups : List Group) (i : Inst) (o : OrgId) (e : EventId) (w : OrgId) (rows : List Row) (v : CopyView) (s : IsCopyView v groups i o e w rows) where
  given_is : (row : Row) → of_these rows row ≡ true → granted_in v.grants v.who.now.groups.now v.who.now.here v.who.now.org row ≡ granted rows groups i o row
  given_is row h = ap {A = List Group × Inst × OrgId} (λ m. granted_in v.grants m.0 m.1 m.2 row) (λ k. (s.known k, s.here k, s.org k)) ∙ granted_is groups i o rows v.grants s.grants row h

  told : List Row
  told = filter (is_told v) rows

  lesser_row : (row : Row) → is_statement row.key ≡ true → (r : Row) → of_these rows r ≡ true →
      (is_lesser row r && is_told v r) ≡ (same_key r.key row.key && ltb r.owner.0.0 row.owner.0.0 && granted rows groups i o r)
  unfolding is_told
  lesser_row row k r h = rw (given_is r h) (one (ltb r.owner.0.0 row.owner.0.0) (same_key r.key row.key) refl (granted rows groups i o r))
    where
      one : (a b : Bool) → same_key r.key row.key ≡ b → (t : Bool) → ((a && b) && (is_statement r.key && t)) ≡ (b && a && t)
      one a true g t = rw (lesser_told row r g k) (two a t)
        where
          two : (a t : Bool) → ((a && true) && (true && t)) ≡ (true && a && t)
          two true t = refl
          two false t = refl
      one true false g t = refl
      one false false g t = refl

  least_is : (row : Row) → of_these rows row ≡ true → is_statement row.key ≡ true → (granted_in v.grants v.who.now.groups.now v.who.now.here v.who.now.org row && is_least_of told row) ≡ is_least rows groups i o row
  unfolding is_least is_least_of told
  least_is row h k = λ j. given_is row h j && not ((any_of_kept (is_lesser row) (is_told v) rows ∙ any_agree _ _ (of_these rows) (lesser_row row k) rows (all_of_these rows)) j)

  closed_is : (orgc : OrgId) (k : Key) → is_closed_by told orgc k ≡ is_closed (scene_of groups i o rows) orgc k
  unfolding is_closed_by is_closed told is_told
  closed_is orgc k =
      any_of_kept (λ (row : Row). is_verdict_on k orgc row.key) (is_told v) rows
      ∙ any_agree _ _ (of_these rows) (λ (r : Row) h. verdict_told k r.key orgc (granted_in v.grants v.who.now.groups.now v.who.now.here v.who.now.org r) ∙ ap (λ b. is_verdict_on k orgc r.key && b) (given_is r h)) rows (all_of_these rows)

  proposal_row : (orgc : OrgId) (test : Key → Bool) (row : Row) → of_these rows row ≡ true →
      ((is_told v row && is_open_proposal told orgc row) && test row.key) ≡ ((is_proposal row.key && test row.key) && is_least rows groups i o row && not (is_closed (scene_of groups i o rows) orgc row.key))
  unfolding is_told is_open_proposal
  proposal_row orgc test row h = one (is_proposal row.key) refl
    where
      one : (b : Bool) → is_proposal row.key ≡ b →
          (((is_statement row.key && granted_in v.grants v.who.now.groups.now v.who.now.here v.who.now.org row) && (b && is_least_of told row && not (is_closed_by told orgc row.key))) && test row.key)
          ≡ ((b && test row.key) && is_least rows groups i o row && not (is_closed (scene_of groups i o rows) orgc row.key))
      one true k =
          rw (proposal_told row.key k, ← least_is row h (proposal_told row.key k), closed_is orgc row.key)
          (two (granted_in v.grants v.who.now.groups.now v.who.now.here v.who.now.org row) (is_least_of told row) (not (is_closed (scene_of groups i o rows) orgc row.key)) (test row.key))
        where
          two : (a b c d : Bool) → (((true && a) && (true && b && c)) && d) ≡ ((true && d) && (a && b) && c)
          two a b c d = grind arith
      one false k = three (is_statement row.key && granted_in v.grants v.who.now.groups.now v.who.now.here v.who.now.org row) (test row.key)
        where
          three : (a d : Bool) → ((a && false) && d) ≡ false
          three true d = refl
          three false d = refl

  sighting_row : (test : Key → Bool) (row : Row) → of_these rows row ≡ true →
      ((is_told v row && is_least_sighting told row) && test row.key) ≡ ((is_sighting row.key && test row.key) && is_least rows groups i o row)
  unfolding is_told is_least_sighting
  sighting_row test row h = one (is_sighting row.key) refl
    where
      one : (b : Bool) → is_sighting row.key ≡ b →
          (((is_statement row.key && granted_in v.grants v.who.now.groups.now v.who.now.here v.who.now.org row) && (b && is_least_of told row)) && test row.key) ≡ ((b && test row.key) && is_least rows groups i o row)
      one true k =
          rw (sighting_told row.key k, ← least_is row h (sighting_told row.key k))
          (two (granted_in v.grants v.who.now.groups.now v.who.now.here v.who.now.org row) (is_least_of told row) (test row.key))
        where
          two : (a b d : Bool) → (((true && a) && (true && b)) && d) ≡ ((true && d) && (a && b))
          two a b d = grind arith
      one false k = three (is_statement row.key && granted_in v.grants v.who.now.groups.now v.who.now.here v.who.now.org row) (test row.key)
        where
          three : (a d : Bool) → ((a && false) && d) ≡ false
          three true d = refl
          three false d = refl

  -- what is cut out of all that show
  proposals_cut : (orgc : OrgId) (test : Key → Bool) →
      filter (λ (r : Row). test r.key) (in_order goes_before (filter (is_open_proposal told orgc) told))
      ≡ sorted (filter (λ (row : Row). (is_proposal row.key && test row.key) && is_least rows groups i o row && not (is_closed (scene_of groups i o rows) orgc row.key)) rows)
  unfolding is_open_proposal told
  proposals_cut orgc test =
      ap (filter (λ (r : Row). test r.key)) (sorted_class 1 refl _ (all_of_kept (of_class 1) (is_open_proposal told orgc) (λ row h. proposal_class row.key (and_parts _ _ (and_parts _ _ h).0).0) told))
      ∙ sorted_cut (λ (r : Row). test r.key) (filter (is_open_proposal told orgc) told)
      ∙ ap sorted (ap (filter (λ (r : Row). test r.key)) (filter_twice (is_told v) (is_open_proposal told orgc) rows)
      ∙ filter_twice (λ r. is_told v r && is_open_proposal told orgc r) (λ (r : Row). test r.key) rows
      ∙ filter_agree _ _ (of_these rows) (proposal_row orgc test) rows (all_of_these rows))

  sightings_cut : (test : Key → Bool) →
      filter (λ (r : Row). test r.key) (in_order goes_before (filter (is_least_sighting told) told))
      ≡ sorted (filter (λ (row : Row). (is_sighting row.key && test row.key) && is_least rows groups i o row) rows)
  unfolding is_least_sighting told
  sightings_cut test =
      ap (filter (λ (r : Row). test r.key)) (sorted_class 3 refl _ (all_of_kept (of_class 3) (is_least_sighting told) (λ row h. sighting_class row.key (and_parts _ _ h).0) told))
      ∙ sorted_cut (λ (r : Row). test r.key) (filter (is_least_sighting told) told)
      ∙ ap sorted (ap (filter (λ (r : Row). test r.key)) (filter_twice (is_told v) (is_least_sighting told) rows)
      ∙ filter_twice (λ r. is_told v r && is_least_sighting told r) (λ (r : Row). test r.key) rows
      ∙ filter_agree _ _ (of_these rows) (sighting_row test) rows (all_of_these rows))

  module _ (orgc : OrgId) where
    P : List Row
    P = in_order goes_before (filter (is_open_proposal told orgc) told)

    S : List Row
    S = in_order goes_before (filter (is_least_sighting told) told)

    -- each key has those that are about it, by what they are about
    module _ (proposals sightings : List Row) (are_proposals : IsByTarget proposals P) (are_sightings : IsByTarget sightings S) where
      proposals_are : (k : Key) → filter (λ (r : Row). is_about k r.key) proposals ≡ proposals_on (scene_of groups i o rows) orgc k
      unfolding proposals_on P
      proposals_are k =
          are_proposals k ∙ proposals_cut orgc (is_about k)
          ∙ ap (λ (f : Row → Bool). sorted (filter (λ (row : Row). f row && is_least rows groups i o row && not (is_closed (scene_of groups i o rows) orgc row.key)) rows)) (λ j row. sym (on_is k row.key) j)

      sightings_are : (k : Key) → filter (λ (r : Row). is_about k r.key) sightings ≡ sightings_on (scene_of groups i o rows) k
      unfolding sightings_on S
      sightings_are k =
          are_sightings k ∙ sightings_cut (is_about k)
          ∙ ap (λ (f : Row → Bool). sorted (filter (λ (row : Row). f row && is_least rows groups i o row) rows)) (λ j row. sym (of_is k row.key) j)

      attribute_is : (row : Row) → attribute_in proposals sightings row ≡ shown_attribute (scene_of groups i o rows) orgc row
      unfolding attribute_in shown_attribute
      attribute_is row = λ j. record { row = row; proposals = proposals_are row.key j; sightings = sightings_are row.key j }

      all_attributes : (list : List Row) → map (attribute_in proposals sightings) list ≡ map (shown_attribute (scene_of groups i o rows) orgc) list
      all_attributes list = ap {A = Row → VisibleAttribute} (λ f. map f list) (λ j row. attribute_is row j)

      -- ---- objects

      module _ (seen : BTreeSet Numbers) (are_seen : IsSeen seen v (list_any (λ row. is_link row.key) rows) rows) where
        turned : (a b : ℕ) → eqb a b ≡ eqb b a
        turned a b = grind (arith, nat_tests)

        inner_row : (r k : Key) → is_object e r ≡ true → (is_inner e k && eqb (around r) (around k)) ≡ is_attribute_of e (object_of r) k
        unfolding is_object is_inner around is_attribute_of object_of uuid_at same_elem
        inner_row (Element f (Object y)) (Element g (ObjectAttribute x a)) h = ap (λ b. same_event g e && b) (turned y.0.0 x.0.0)
        inner_row (Element f (Object y)) (Element g Event) h = sym (and_right (same_event g e) false refl)
        inner_row (Element f (Object y)) (Element g (Object x)) h = sym (and_right (same_event g e) false refl)
        inner_row (Element f (Object y)) (Element g (Attribute a)) h = sym (and_right (same_event g e) false refl)
        inner_row (Element f (Object y)) (Reference g x t u) h = refl
        inner_row (Element f (Object y)) (Proposal g n) h = refl
        inner_row (Element f (Object y)) (Verdict g n j z) h = refl
        inner_row (Element f (Object y)) (Sighting g t j z u) h = refl
        inner_row (Element f Event) k h = absurd (false≢true (and_parts _ _ h).1)
        inner_row (Element f (Attribute a)) k h = absurd (false≢true (and_parts _ _ h).1)
        inner_row (Element f (ObjectAttribute x a)) k h = absurd (false≢true (and_parts _ _ h).1)
        inner_row (Reference f x t u) k h = absurd (false≢true h)
        inner_row (Proposal f n) k h = absurd (false≢true h)
        inner_row (Verdict f n j z) k h = absurd (false≢true h)
        inner_row (Sighting f t j z u) k h = absurd (false≢true h)

        reference_row : (r k : Key) → is_object e r ≡ true → (is_reference groups i o e w rows v s seen are_seen k && eqb (around r) (around k)) ≡ is_reference_of (scene_of groups i o rows) w e (object_of r) k
        unfolding is_object around is_reference_of object_of uuid_at same_elem
        reference_row (Element f (Object y)) (Reference g x t u) h = rw (turned y.0.0 x.0.0) (one (same_event g e) (list_any _ rows) (eqb x.0.0 y.0.0))
          where
            one : (a b c : Bool) → ((a && b) && c) ≡ ((a && c) && b)
            one a b c = grind arith
        reference_row (Element f (Object y)) (Element g p) h = refl
        reference_row (Element f (Object y)) (Proposal g n) h = refl
        reference_row (Element f (Object y)) (Verdict g n j z) h = refl
        reference_row (Element f (Object y)) (Sighting g t j z u) h = refl
        reference_row (Element f Event) k h = absurd (false≢true (and_parts _ _ h).1)
        reference_row (Element f (Attribute a)) k h = absurd (false≢true (and_parts _ _ h).1)
        reference_row (Element f (ObjectAttribute x a)) k h = absurd (false≢true (and_parts _ _ h).1)
        reference_row (Reference f x t u) k h = absurd (false≢true h)
        reference_row (Proposal f n) k h = absurd (false≢true h)
        reference_row (Verdict f n j z) k h = absurd (false≢true h)
        reference_row (Sighting f t j z u) k h = absurd (false≢true h)

        -- those of a list that are in the object
        beside_is : (r : Row) (a b : Key → Bool) → ((k : Key) → (a k && eqb (around r.key) (around k)) ≡ b k) → beside r (shown_at (scene_of groups i o rows) w a) ≡ shown_at (scene_of groups i o rows) w b
        unfolding shown_at
        beside_is r a b h =
            sorted_cut (λ (x : Row). eqb (around r.key) (around x.key)) (filter (λ (row : Row). is_shown (scene_of groups i o rows) w row && a row.key) rows)
            ∙ ap sorted (filter_twice (λ (row : Row). is_shown (scene_of groups i o rows) w row && a row.key) (λ (x : Row). eqb (around r.key) (around x.key)) rows)
            ∙ ap (λ (f : Row → Bool). sorted (filter f rows))
            (λ j row. (one (is_shown (scene_of groups i o rows) w row) (a row.key) (eqb (around r.key) (around row.key)) ∙ ap (λ t. is_shown (scene_of groups i o rows) w row && t) (h row.key)) j)
          where
            one : (x y z : Bool) → ((x && y) && z) ≡ (x && (y && z))
            one true y z = refl
            one false y z = refl

        object_is : (r : Row) → is_object e r.key ≡ true →
            object_in (in_list Kind.Inner v seen rows) (in_list Kind.Reference v seen rows) proposals sightings r ≡ shown_object (scene_of groups i o rows) orgc w e r
        unfolding object_in shown_object
        object_is r h = λ j. record {
          row = r;
          attributes = (all_attributes (beside r (in_list Kind.Inner v seen rows))
              ∙ ap (λ l. map (shown_attribute (scene_of groups i o rows) orgc) (beside r l)) (list_is groups i o e w rows v s seen are_seen Kind.Inner)
              ∙ ap (map (shown_attribute (scene_of groups i o rows) orgc)) (beside_is r (is_inner e) (is_attribute_of e (object_of r.key)) (λ k. inner_row r.key k h))) j;
          references = (ap (beside r) (list_is groups i o e w rows v s seen are_seen Kind.Reference)
              ∙ beside_is r (is_reference groups i o e w rows v s seen are_seen) (is_reference_of (scene_of groups i o rows) w e (object_of r.key)) (λ k. reference_row r.key k h)) j;
        }

        all_of_sorted : (q : Row → Bool) (xs : List Row) → list_all q xs ≡ true → list_all q (sorted xs) ≡ true
        all_of_sorted q xs h = all_sorted q xs h

        objects_are : map (object_in (in_list Kind.Inner v seen rows) (in_list Kind.Reference v seen rows) proposals sightings) (in_list Kind.Object v seen rows)
            ≡ map (shown_object (scene_of groups i o rows) orgc w e) (shown_at (scene_of groups i o rows) w (is_object e))
        unfolding shown_at
        objects_are =
            ap (map (object_in (in_list Kind.Inner v seen rows) (in_list Kind.Reference v seen rows) proposals sightings)) (list_is groups i o e w rows v s seen are_seen Kind.Object)
            ∙ map_where _ _ (λ (r : Row). is_object e r.key) object_is (sorted (filter (λ (row : Row). is_shown (scene_of groups i o rows) w row && is_object e row.key) rows))
            (all_of_sorted _ _ (all_of_kept (λ (r : Row). is_object e r.key) _ (λ row h. (and_parts _ _ h).1) rows))

        attributes_are : map (attribute_in proposals sightings) (in_list Kind.Attribute v seen rows) ≡ map (shown_attribute (scene_of groups i o rows) orgc) (shown_at (scene_of groups i o rows) w (is_plain_attribute e))
        attributes_are = all_attributes _ ∙ ap (map (shown_attribute (scene_of groups i o rows) orgc)) (list_is groups i o e w rows v s seen are_seen Kind.Attribute)

-- what shows of an event, by its row
pub shown_some : (s : Scene) (e : EventId) (owner : Option OrgId) (row : Row) (form : VisibleEvent) → event_row s e owner ≡ Some row → form ≡ form_of s e row → Some form ≡ shown s e owner
unfolding shown
shown_some s e owner row form h k = ap Some k ∙ sym (ap (option_map (form_of s e)) h)

pub shown_none : (s : Scene) (e : EventId) (owner : Option OrgId) → event_row s e owner ≡ None → None ≡ shown s e owner
unfolding shown
shown_none s e owner h = sym (ap (option_map (form_of s e)) h)

-- the form of one copy
pub form_is : (groups : List Group) (i : Inst) (o : OrgId) (e : EventId) (row copy : Row) (rows : List Row) (v : CopyView) (s : IsCopyView v groups i o e row.owner rows) (n : Inside) (proposals sightings on_event all : List Row)
    (orgc : OrgId) (name : List ℕ) (names : List (GroupId × List ℕ)) → copy ≡ row → orgc ≡ creator row → all ≡ filter (is_told v) rows →
    IsByTarget proposals (in_order goes_before (filter (is_open_proposal all orgc) all)) → IsByTarget sightings (in_order goes_before (filter (is_least_sighting all) all)) →
    IsInside n v proposals sightings rows → on_event ≡ filter (λ (r : Row). is_about (event_key e) r.key) proposals → name ≡ [] → names ≡ [] →
    ◌≡◌ {A = VisibleEvent} (record { row = copy; org_name = name; attributes = n.attributes; objects = n.objects; proposals = on_event; group_names = names }) (form_of (scene_of groups i o rows) e row)
unfolding form_of told P S
form_is groups i o e row copy rows v s n proposals sightings on_event all orgc name names a b c d f g h k l =
    let p : IsByTarget proposals (P groups i o e row.owner rows v s (creator row)) = λ q. d q ∙ (λ j. filter (λ (r : Row). is_about q r.key) (in_order goes_before (filter (is_open_proposal (c j) (b j)) (c j)))) in
    let q : IsByTarget sightings (S groups i o e row.owner rows v s (creator row)) = λ q. f q ∙ (λ j. filter (λ (r : Row). is_about q r.key) (in_order goes_before (filter (is_least_sighting (c j)) (c j)))) in
    λ j. record {
      row = a j;
      org_name = k j;
      attributes = (g.attributes ∙ attributes_are groups i o e row.owner rows v s (creator row) proposals sightings p q g.seen g.are_seen) j;
      objects = (g.objects ∙ objects_are groups i o e row.owner rows v s (creator row) proposals sightings p q g.seen g.are_seen) j;
      proposals = (h ∙ proposals_are groups i o e row.owner rows v s (creator row) proposals sightings p q (event_key e)) j;
      group_names = l j;
    }
