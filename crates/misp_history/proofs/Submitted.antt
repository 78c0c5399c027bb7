-- What adds an event, or parts of one, writes keys of which the caller had none, no two of them the same.
use Rattle.std.proofs.Common.{◌≡◌, List, Bool, true, false, sym, ◌∙◌, ℕ, eqb, ap, [], ◌∷◌, ◌++◌, refl, map, leb, filter, filter_map, eq-eqb, not, ◌&&◌, ◌||◌, cond, Option, Some, None, option_map, option_to_list}
use Rattle.misp_history.proofs.Prelude.{AddEvent, AllByRecursion, Ask, Content, Draft, Element, EventDraft, EventId, Inst, IsDistinct, Key, Label, OrgId, Place, Reference, ReferenceDraft, Scene, Submission, Version, all_among, all_implied}
use Rattle.misp_history.proofs.Prelude.{and_from, and_parts, any_has, any_implies, any_map, are_distinct, ask_rules, change_rules, change_writes, clashes, cons_option, event_key, event_of, event_written, false_from_ne_true, false≢true}
use Rattle.misp_history.proofs.Prelude.{has_copy, has_gone, has_target, has_unusable, holds_copy, holds_tombstone, is_accepted, is_row_of, is_taken, is_tombstone, known, list_any, map-append, new_event, none_either, none_refuses, not-false}
use Rattle.misp_history.proofs.Prelude.{not-true, or_left, or_parts, part_version, parts_written, reference_key, reference_version, refuses, same_cell, same_event, same_event-refl, same_key-sound, same_org, tables, takes_uuid}
use Rattle.misp_history.proofs.Prelude.{target_of, uuid_at, uuids_of, written}
use Rattle.misp_history.proofs.Adding.{IsNew, AreWritten, are_newer}
use Rattle.misp_history.proofs.AsNew.{none_as_new}

none_implies : {X : Type 0} (p q : X → Bool) → ((x : X) → q x ≡ true → p x ≡ true) → (xs : List X) → list_any p xs ≡ false → list_any q xs ≡ false
none_implies p q h xs e = false_from_ne_true _ (λ k. false≢true (sym e ∙ any_implies q p h xs k))

all_joined : {X : Type 0} (P : X → Type 0) (xs ys : List X) → AllByRecursion P xs → AllByRecursion P ys → AllByRecursion P (xs ++ ys)
all_joined P [] ys a b = b
all_joined P (x ∷ xs) ys a b = (a.0, all_joined P xs ys a.1 b)

-- the uuid that a key takes
unfoldable uuid_of : Key → ℕ
uuid_of (Element e p) = uuid_at e p
uuid_of (Reference e x t v) = v.0.0
uuid_of _ = 0

-- a version that the n-th act wrote there for this organisation, of an element or reference of this event
record IsPart (n : ℕ) (i : Inst) (o : OrgId) (e : EventId) (v : Version) : Type 0 where
  is_new : IsNew n i v
  owner : v.owner ≡ o
  event : same_event (event_of v.key) e ≡ true
  uuid : takes_uuid (uuid_of v.key) v.key ≡ true

abbrev uuids : List Version → List ℕ
uuids vs = map (λ v. uuid_of v.key) vs

-- versions of different uuids are of different cells
one_apart : (v : Version) (vs : List Version) → list_any (eqb (uuid_of v.key)) (uuids vs) ≡ false → AllByRecursion (λ w. same_cell v w ≡ false) vs
unfolding same_cell
one_apart v vs h = all_among (λ w. same_cell v w ≡ false) vs (λ w m. false_from_ne_true _ (λ k.
    false≢true (sym h ∙ any_map (λ (w : Version). uuid_of w.key) (eqb (uuid_of v.key)) vs
    ∙ any_has (λ w. eqb (uuid_of v.key) (uuid_of w.key)) vs w m (eq-eqb _ _ (ap uuid_of (same_key-sound v.key w.key (and_parts _ _ k).1))))))

all_apart : (vs : List Version) → are_distinct (uuids vs) ≡ true → IsDistinct same_cell vs
unfolding are_distinct IsDistinct
all_apart [] h = tt
all_apart (v ∷ vs) h = (one_apart v vs (not-true _ (and_parts _ _ h).0), all_apart vs (and_parts _ _ h).1)

module _ (s : Scene) (e : EventId) where
  -- a key whose uuid is free is none of the caller's rows
  pub no_own_row : (u : ℕ) (k : Key) → same_event (event_of k) e ≡ true → takes_uuid u k ≡ true → is_taken s e u ≡ false →
      list_any (is_row_of s.by k) s.rows ≡ false
  unfolding is_taken is_row_of
  no_own_row u k f t h =
      none_implies (λ row. same_org row.owner s.by && (same_event (event_of row.key) e && takes_uuid u row.key)) (is_row_of s.by k)
      (λ row l.
      let key : row.key ≡ k = same_key-sound row.key k (and_parts _ _ l).1 in
      and_from _ _ (and_parts _ _ l).0
      (and_from _ _ (ap (λ x. same_event (event_of x) e) key ∙ f) (ap (takes_uuid u) key ∙ t)))
      s.rows (or_parts _ _ h).1

module _ (s : Scene) (log : List Version) (sees : s.rows ≡ known (tables log s.at) s.groups s.at s.by) where
  -- of a key of which the caller has no row the log has no version as new
  pub one_free : (v : Version) → v.at ≡ s.at → v.owner ≡ s.by → list_any (is_row_of s.by v.key) s.rows ≡ false → list_any (λ a. same_cell a v && leb v.stamp a.stamp) log ≡ false
  one_free v at owner h =
      none_as_new log s.groups v
      ((λ i. list_any (is_row_of (owner i) v.key) (known (tables log (at i)) s.groups (at i) (owner i))) ∙ sym (ap (list_any (is_row_of s.by v.key)) sees) ∙ h)

module _ (s : Scene) (b : Submission) where
  abbrev event_version : EventDraft → Version
  event_version d = written s (event_key b.event) s.now b.label (Content.Event (new_event s d))

  -- these versions are parts, and have these uuids
  abbrev have : List ℕ → List Version → Type 0
  have us vs = AllByRecursion (IsPart s.act s.at s.by b.event) vs × (uuids vs ≡ us)

  -- each part has the uuid of its place
  parts_have : (ds : List Draft) → have (map (λ d. uuid_at b.event d.place) ds) (map (part_version s b.event) ds)
  unfolding written part_version takes_uuid event_of uuid_of
  parts_have [] = (tt, refl)
  parts_have (d ∷ ds) =
      let rest = parts_have ds in
      ((record { is_new = record { at = refl; path = refl; came = refl; act = refl }; owner = refl; event = same_event-refl b.event; uuid = eq-eqb _ _ refl }, rest.0), λ i. uuid_at b.event d.place ∷ rest.1 i)

  -- each reference that has a target has its uuid
  references_have : (rs : List ReferenceDraft) → have (map (λ r. r.uuid.0.0) (filter (has_target s b) rs)) (filter_map (reference_version s b.event b.parts) rs)
  unfolding written reference_version reference_key has_target takes_uuid event_of uuid_of
  references_have [] = (tt, refl)
  references_have (r ∷ rs) = one (target_of s b.event b.parts r.referenced) (references_have rs)
    where
      one : (t : Option Place) → have (map (λ r. r.uuid.0.0) (filter (has_target s b) rs)) (filter_map (reference_version s b.event b.parts) rs) →
          have (map (λ r. r.uuid.0.0) (cond (elim t [ Some p ↦ true | None ↦ false ]) (r ∷ filter (has_target s b) rs) (filter (has_target s b) rs)))
          (cons_option (option_map (λ k. written s k s.now Label.Inherit (Content.Reference r.body)) (option_map (λ p. Reference b.event r.object p r.uuid) t)) (filter_map (reference_version s b.event b.parts) rs))
      one None ih = ih
      one (Some p) ih =
          ((record { is_new = record { at = refl; path = refl; came = refl; act = refl }; owner = refl; event = same_event-refl b.event; uuid = eq-eqb _ _ refl }, ih.0), λ i. r.uuid.0.0 ∷ ih.1 i)

  written_have : have (uuids_of s b) (parts_written s b)
  unfolding uuids_of parts_written
  written_have =
      let parts = parts_have b.parts in
      let references = references_have b.references in
      (all_joined (IsPart s.act s.at s.by b.event) (map (part_version s b.event) b.parts) _ parts.0 references.0, map-append (λ (v : Version). uuid_of v.key) (map (part_version s b.event) b.parts) _ ∙ (λ i. parts.1 i ++ references.1 i))

  module _ (no_clash : clashes s b ≡ false) where
    not_taken : list_any (is_taken s b.event) (uuids (parts_written s b)) ≡ false
    unfolding clashes
    not_taken = ap (list_any (is_taken s b.event)) written_have.1 ∙ (or_parts _ _ no_clash).1

    module _ (log : List Version) (sees : s.rows ≡ known (tables log s.at) s.groups s.at s.by) where
      parts_free : (vs : List Version) → AllByRecursion (IsPart s.act s.at s.by b.event) vs → list_any (is_taken s b.event) (uuids vs) ≡ false → are_newer log vs ≡ true
      parts_free [] a h = refl
      parts_free (v ∷ vs) a h =
          and_from _ _ (ap not (one_free s log sees v a.0.is_new.at a.0.owner (no_own_row s b.event (uuid_of v.key) v.key a.0.event a.0.uuid (or_parts _ _ h).0)))
          (parts_free vs a.1 (or_parts _ _ h).1)

      -- the parts and references that a body brings
      pub parts_new : AreWritten s.act s.at log (parts_written s b)
      unfolding clashes
      parts_new = record {
        new = all_implied (IsPart s.act s.at s.by b.event) (IsNew s.act s.at) (λ v part. part.is_new) (parts_written s b) written_have.0;
        apart = all_apart (parts_written s b) (ap are_distinct written_have.1 ∙ not-false _ (or_parts _ _ no_clash).0);
        newer = parts_free (parts_written s b) written_have.0 not_taken;
      }

  module _ (accepted : is_accepted s (Ask.Change (AddEvent b)) ≡ true) where
    -- no rule refuses
    no_rule : (holds_copy s b.event || (holds_tombstone s b.event || (clashes s b || (has_unusable s b || false)))) ≡ false
    unfolding is_accepted ask_rules change_rules refuses
    no_rule = none_refuses _ accepted

    unclashed : clashes s b ≡ false
    unclashed = (or_parts _ _ (or_parts _ _ (or_parts _ _ no_rule).1).1).0

    -- the caller has no row of the event
    no_event_row : list_any (is_row_of s.by (event_key b.event)) s.rows ≡ false
    unfolding holds_copy has_copy holds_tombstone has_gone
    no_event_row = none_either (is_row_of s.by (event_key b.event)) is_tombstone s.rows (or_parts _ _ no_rule).0 (or_parts _ _ (or_parts _ _ no_rule).1).0

    -- the event's own uuid is none that is free
    not_the_event : (us : List ℕ) → list_any (is_taken s b.event) us ≡ false → list_any (eqb b.event.0.0) us ≡ false
    unfolding is_taken
    not_the_event us h = none_implies (is_taken s b.event) (eqb b.event.0.0) (λ u e. or_left _ _ e) us h

    module _ (log : List Version) (sees : s.rows ≡ known (tables log s.at) s.groups s.at s.by) where
      -- what is written: the event's own version, and those of the parts and references
      both_new : (o : Option EventDraft) → AreWritten s.act s.at log (map event_version (option_to_list o) ++ parts_written s b)
      unfolding written event_key uuid_at uuid_of IsDistinct
      both_new None = parts_new unclashed log sees
      both_new (Some d) =
          let parts : AreWritten s.act s.at log (parts_written s b) = parts_new unclashed log sees in
          record {
            new = (record { at = refl; path = refl; came = refl; act = refl }, parts.new);
            apart = (one_apart (event_version d) (parts_written s b) (not_the_event (uuids (parts_written s b)) (not_taken unclashed)), parts.apart);
            newer = and_from _ _ (ap not (one_free s log sees (event_version d) refl refl no_event_row)) parts.newer;
          }

      pub event_new : AreWritten s.act s.at log (change_writes s (AddEvent b))
      unfolding change_writes event_written
      event_new = both_new b.body
