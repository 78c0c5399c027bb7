-- What is released of the rows of one event is what a publishing of it writes.
use Rattle.std.proofs.Common.{◌≡◌, ℕ, List, [], ◌∷◌, ◌++◌, Bool, true, false, refl, ap, sym, ◌∙◌, arith, subst, map, cond, eqb, ◌+◌, ◌<◌, length, take, get_or, append_assoc, ◌&&◌, ◌||◌, not, max, ◌==◌, Option, Some, None, option_to_list}
use Rattle.std.proofs.Common.{filter, find, append-nil}
use Rattle.std.proofs.lemmas.List.Elements.{filter_more}
use Rattle.misp_model.proofs.Prelude.{Content, Element, EventId, IsContent, IsRow, IsStamp, Key, OrgId, Place, Proposal, Reference, Row, Scene, Sighting, Verdict, and_parts, change_writes, changed, changed_row, content_kind, event_key}
use Rattle.misp_model.proofs.Prelude.{event_of, find_passes, fits, is_gone, is_published, is_row_of, is_statement, label_kind, last_stamp, list_all, map-append, may_remove, own_row, same_event, same_key, same_org, same_org-sound, written}
use Rattle.misp_lists.proofs.Elements.{all_has, found_among}
use Rattle.misp_model.proofs.Prelude.{same_event-sound}
use Rattle.misp_model.specs.Prelude.{at_publishing, is_held_in, let_out}
use Rattle.misp_history.proofs.Prelude.{Publish, as_published, fresh_row, is_at_limit, let_out_row, next_stamp, own_row_is}
use Rattle.misp_copies.specs.Copies.{AreOf, is_event_row}
use Rattle.misp_copies.proofs.CopyLemmas.{finds_are}
use Rattle.misp_publish.specs.Release.{at_stamp, cleared_row, is_released, Publishes}

free_of : (b : Bool) → not (b || true) ≡ false
free_of true = refl
free_of false = refl

module _ (s : Scene) (e : EventId) where
  let_fresh : (row : Row) → is_held_in s e row ≡ true → fresh_row (let_out_row s row) ≡ cleared_row row
  unfolding is_held_in fresh_row let_out_row is_published cleared_row
  let_fresh row h = λ i. record {
    owner = sym (same_org-sound row.owner s.by (and_parts _ _ h).0) i;
    key = row.key;
    stamp = row.stamp;
    label = row.label;
    held = free_of (is_statement row.key || is_gone row.content) i;
    carried = false;
    content = row.content;
  }

  lets_are : (rows : List Row) → map fresh_row (map (let_out_row s) (filter (is_held_in s e) rows)) ≡ map cleared_row (filter (is_released s.by e) rows)
  unfolding is_held_in is_released
  lets_are [] = refl
  lets_are (row ∷ rows) = one (is_held_in s e row) refl (lets_are rows)
    where
      one : (t : Bool) → is_held_in s e row ≡ t → map fresh_row (map (let_out_row s) (filter (is_held_in s e) rows)) ≡ map cleared_row (filter (is_held_in s e) rows) →
          map fresh_row (map (let_out_row s) (cond t (row ∷ filter (is_held_in s e) rows) (filter (is_held_in s e) rows)))
          ≡ map cleared_row (cond t (row ∷ filter (is_held_in s e) rows) (filter (is_held_in s e) rows))
      one true g ih = λ i. let_fresh row g i ∷ ih i
      one false g ih = ih

  module _ (own : Row) (own_is : own_row s (event_key e) ≡ Some own) where
    owned : own.owner ≡ s.by
    unfolding own_row is_row_of
    owned = same_org-sound own.owner s.by (and_parts _ _ (find_passes (is_row_of s.by (event_key e)) s.rows own own_is)).0

    pub limit_is : is_at_limit s (event_key e) ≡ eqb own.stamp last_stamp
    unfolding is_at_limit own_row_is
    limit_is = ap (λ (o : Option Row). elim o as (λ x. Bool) [ None ↦ false | Some row ↦ eqb row.stamp last_stamp ]) own_is

    own_fresh : fresh_row (as_published (changed s own own.label (at_publishing s.now own.content))) ≡ at_stamp (max s.now (own.stamp + 1)) s.now own
    unfolding fresh_row as_published changed written is_published at_stamp next_stamp
    own_fresh = λ i. record {
      owner = sym owned i;
      key = own.key;
      stamp = max s.now (own.stamp + 1);
      label = own.label;
      held = free_of (is_statement own.key || is_gone (at_publishing s.now own.content)) i;
      carried = false;
      content = at_publishing s.now own.content;
    }

    writes_are : map fresh_row (change_writes s (Publish e)) ≡ at_stamp (max s.now (own.stamp + 1)) s.now own ∷ map cleared_row (filter (is_released s.by e) s.rows)
    unfolding change_writes changed_row let_out
    writes_are =
        ap (λ o. map fresh_row (map as_published (map (λ row. changed s row row.label (at_publishing s.now row.content)) (option_to_list o)) ++ map (let_out_row s) (filter (is_held_in s e) s.rows))) own_is
        ∙ (λ i. own_fresh i ∷ lets_are s.rows i)

    published_at : eqb own.stamp last_stamp ≡ false → Publishes s e (at_stamp (max s.now (own.stamp + 1)) s.now own ∷ map cleared_row (filter (is_released s.by e) s.rows))
    published_at h = (limit_is ∙ h, sym writes_are)

module _ (s : Scene) (e : EventId) (rows : List Row) (o : OrgId) (same_rows : s.rows ≡ rows) (same_by : s.by ≡ o) (own : Row) where
  pub publishes : (now : ℕ) → s.now ≡ now → own_row s (event_key e) ≡ Some own → eqb own.stamp last_stamp ≡ false →
      Publishes s e (at_stamp (max now (own.stamp + 1)) now own ∷ map cleared_row (filter (is_released o e) rows))
  publishes now same_now is h =
      subst (λ (x : (ℕ × OrgId) × List Row). Publishes s e (at_stamp (max x.0.0 (own.stamp + 1)) x.0.0 own ∷ map cleared_row (filter (is_released x.0.1 e) x.1)))
      (λ i. ((same_now i, same_by i), same_rows i)) (published_at s e own is h)

  -- the owner's row of an event itself is that of the event whose rows these are
  pub event_is : AreOf e rows → find (is_event_row o) rows ≡ Some own → event_of own.key ≡ e
  event_is are found = same_event-sound _ _ (all_has (λ (row : Row). same_event (event_of row.key) e) rows own are (found_among (is_event_row o) rows own found))

  pub own_found : AreOf e rows → find (is_event_row o) rows ≡ Some own → own_row s (event_key e) ≡ Some own
  unfolding own_row
  own_found are found = (λ i. find (is_row_of (same_by i) (event_key e)) (same_rows i)) ∙ finds_are o e rows are ∙ found

-- ---- one row more

module _ (f : Row → Row) (q : Row → Bool) (before : List Row) (rows : List Row) (i : ℕ) (row : Row) (lt : i < length rows) (is : row ≡ get_or rows i row) where
  here : filter q (take (i + 1) rows) ≡ filter q (take i rows) ++ cond (q row) (row ∷ []) []
  here = filter_more q rows i row lt ∙ ap (λ r. filter q (take i rows) ++ cond (q r) (r ∷ []) []) (sym is)

  pub one_kept : (made : List Row) → q row ≡ true → made ≡ before ++ map f (filter q (take i rows)) → made ++ f row ∷ [] ≡ before ++ map f (filter q (take (i + 1) rows))
  one_kept made k h =
      ap (λ ys. ys ++ f row ∷ []) h ∙ append_assoc before (map f (filter q (take i rows))) (f row ∷ [])
      ∙ ap (λ ys. before ++ ys) (sym (ap (map f) (here ∙ ap (λ b. filter q (take i rows) ++ cond b (row ∷ []) []) k) ∙ map-append f (filter q (take i rows)) (row ∷ [])))

  pub one_left : (made : List Row) → q row ≡ false → made ≡ before ++ map f (filter q (take i rows)) → made ≡ before ++ map f (filter q (take (i + 1) rows))
  one_left made k h = h ∙ ap (λ ys. before ++ map f ys) (sym (here ∙ ap (λ b. filter q (take i rows) ++ cond b (row ∷ []) []) k ∙ append-nil (filter q (take i rows))))

-- ---- rows

published_kind : (now : ℕ) (c : Content) → content_kind (at_publishing now c) ≡ content_kind c
unfolding at_publishing
published_kind now (Content.Event b) = refl
published_kind now (Content.Object b) = refl
published_kind now (Content.Attribute b) = refl
published_kind now (Content.Reference b) = refl
published_kind now (Content.Proposal b) = refl
published_kind now (Content.Verdict b) = refl
published_kind now (Content.Sighting b) = refl
published_kind now Content.Gone = refl

published_content : (now : ℕ) (may : Bool) (c : Content) → IsStamp now → IsContent may c → IsContent may (at_publishing now c)
unfolding at_publishing
published_content now may (Content.Event b) s h = (h.0, (h.1.0, (h.1.1.0, (h.1.1.1.0, (s, h.1.1.1.1.1)))))
published_content now may (Content.Object b) s h = h
published_content now may (Content.Attribute b) s h = h
published_content now may (Content.Reference b) s h = h
published_content now may (Content.Proposal b) s h = h
published_content now may (Content.Verdict b) s h = h
published_content now may (Content.Sighting b) s h = h
published_content now may Content.Gone s h = h

-- a row that has no flag is a row
no_flags : (k l : ℕ) (h a : Bool) → ((k == 0) || ((k == 7) && (l == 0) && not h && not a)) ≡ true → ((k == 0) || ((k == 7) && (l == 0) && not false && not false)) ≡ true
no_flags k l h a g = grind (arith, g)

free_fits : (key : Key) (l k : ℕ) (h a : Bool) → fits key l (h, a) k ≡ true → fits key l (false, false) k ≡ true
free_fits (Element e Place.Event) l k h a g = no_flags k l h a g
free_fits (Element e (Place.Object x)) l k h a g = g
free_fits (Element e (Place.Attribute x)) l k h a g = g
free_fits (Element e (Place.ObjectAttribute x y)) l k h a g = g
free_fits (Reference e x t u) l k h a g = g
free_fits (Proposal e n) l k h a g = g
free_fits (Verdict e n i o) l k h a g = g
free_fits (Sighting e t i o u) l k h a g = g

pub published_is_row : (stamp now : ℕ) (row : Row) → IsStamp stamp → IsStamp now → IsRow row → IsRow (at_stamp stamp now row)
unfolding at_stamp
published_is_row stamp now row s n is = (
  is.0,
  (
    is.1.0,
    (
      s,
      (
        is.1.1.1.0,
        (
          tt,
          (
            ap (fits row.key (label_kind row.label) (false, false)) (published_kind now row.content) ∙ free_fits row.key (label_kind row.label) (content_kind row.content) row.held row.carried is.1.1.1.1.1.0,
            published_content now (may_remove row.key) row.content n is.1.1.1.1.1.1,
          ),
        ),
      ),
    ),
  ),
)
