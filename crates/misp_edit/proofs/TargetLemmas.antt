-- What references name.
use Rattle.std.proofs.Common.{◌≡◌, ◌∙◌, ℕ, Bool, true, false, not, ◌&&◌, ◌==◌, cond, List, [], ◌∷◌, ◌++◌, map, append-nil, Option, Some, None, option_map, ap, sym, subst, refl, arith, BTreeMap, find, filter_map, IfSome}
use Rattle.misp_elem.specs.Key.{place_kind, of_reference}
use Rattle.misp_model.proofs.Prelude.{AreRows, Content, Draft, Element, ElemId, EventId, IsRow, Key, OrgId, Place, Row, Scene, above, and_parts, cons_option, content_kind, event_of, false≢true}
use Rattle.misp_model.proofs.Prelude.{find_passes, fits, has_gone, is_deleted, is_live, is_place_of, is_row_of, is_target_key, label_kind, list_all, list_any, parents, place_in, same_event, same_event-sound, same_key-sound, same_org}
use Rattle.misp_model.proofs.Prelude.{same_org-sound, target_in_copy, target_of}
use Rattle.misp_edit.specs.Objects.{has_object_row, is_object_row}
use Rattle.misp_edit.specs.Targets.{element_place, live_place, kept_place, target_places, or_place, target_in, AreTargets, is_under}

-- the row of the event itself is not deleted
event_stays : (e : EventId) (row : Row) → IsRow row → row.key ≡ Element e Place.Event → is_deleted row ≡ false
unfolding is_deleted
event_stays e row is k = by row.content refl (subst (λ (key : Key). fits key (label_kind row.label) (row.held, row.carried) (content_kind row.content) ≡ true) k is.1.1.1.1.1.0)
  where
    by : (c : Content) → row.content ≡ c → fits (Element e Place.Event) (label_kind row.label) (row.held, row.carried) (content_kind c) ≡ true → is_deleted row ≡ false
    by (Content.Event b) h f = ap (λ (c : Content). is_deleted (record row { content = c })) h
    by Content.Gone h f = ap (λ (c : Content). is_deleted (record row { content = c })) h
    by _ h f = absurd (false≢true f)

module _ (w : OrgId) (e : EventId) where
  -- so none of an owner is
  pub none_deleted : (rows : List Row) → AreRows rows → list_any (λ r. is_row_of w (Element e Place.Event) r && is_deleted r) rows ≡ false
  unfolding is_row_of
  none_deleted [] are = refl
  none_deleted (r ∷ rs) are = rw (one (is_row_of w (Element e Place.Event) r) refl, none_deleted rs are.1) refl
    where
      one : (b : Bool) → is_row_of w (Element e Place.Event) r ≡ b → (is_row_of w (Element e Place.Event) r && is_deleted r) ≡ false
      one false h = ap (λ x. x && is_deleted r) h
      one true h = ap (λ x. x && is_deleted r) h ∙ event_stays e r are.0 (same_key-sound r.key (Element e Place.Event) (and_parts _ _ h).1)

-- ---- where there is no tombstone

module _ (rows : List Row) (w : OrgId) (e : EventId) (are : AreRows rows) (no_tombstone : has_gone rows w e ≡ false)
    (deleted : ℕ → Bool) (are_deleted : (x : ElemId) → deleted x.0.0 ≡ has_object_row rows w e true x) where
  -- the parents of a place are there, where its object is not deleted
  parents_there : (p : Place) → list_all (λ k. not (list_any (λ r. is_row_of w k r && is_deleted r) rows)) (above e p) ≡ not (is_under deleted p)
  unfolding above is_under has_object_row is_object_row
  parents_there Place.Event = refl
  parents_there (Place.Object x) = rw (none_deleted w e rows are) refl
  parents_there (Place.Attribute a) = rw (none_deleted w e rows are) refl
  parents_there (Place.ObjectAttribute x a) = rw (none_deleted w e rows are, are_deleted x) (one (list_any (λ r. is_row_of w (Element e (Place.Object x)) r && is_deleted r) rows))
    where
      one : (b : Bool) → (not b && true) ≡ not b
      one true = refl
      one false = refl

  live_at : (b : Bool) (o : OrgId) (k : Key) (p : Place) → o ≡ w → k ≡ Element e p →
      (not b && not (has_gone rows o (event_of k)) && list_all (λ j. not (list_any (λ r. is_row_of o j r && is_deleted r) rows)) (parents k))
      ≡ (not b && not (is_under deleted p))
  unfolding parents event_of
  live_at b o k p g h = rw (g, h, no_tombstone, parents_there p) (one b (is_under deleted p))
    where
      one : (b c : Bool) → (not b && true && not c) ≡ (not b && not c)
      one true c = refl
      one false c = refl

  pub live_is : (row : Row) (p : Place) → row.owner ≡ w → row.key ≡ Element e p → is_live rows row ≡ (not (is_deleted row) && not (is_under deleted p))
  unfolding is_live
  live_is row p o k = live_at (is_deleted row) row.owner row.key p o k

  kept_is : (row : Row) → kept_place deleted w e row ≡ live_place rows w e row
  unfolding kept_place live_place element_place event_of place_in
  kept_is row = by_key row.key refl
    where
      at : (p : Place) (f : EventId) → row.key ≡ Element f p → (a b : Bool) → same_org row.owner w ≡ a → same_event f e ≡ b →
          (a && (b && (not (is_deleted row) && not (is_under deleted p)))) ≡ (a && (b && is_live rows row))
      at p f k false b g h = refl
      at p f k true false g h = refl
      at p f k true true g h = sym (live_is row p (same_org-sound row.owner w g) (k ∙ (λ i. Element (same_event-sound f e h i) p)))

      none : (a b : Bool) → cond {A = Option Place} a None None ≡ cond b None None
      none true true = refl
      none true false = refl
      none false true = refl
      none false false = refl

      by_key : (k : Key) → row.key ≡ k →
          cond (same_org row.owner w && (same_event (event_of k) e && (not (is_deleted row) && not (is_under deleted (place_in k))))) (element_place k) None
          ≡ cond (same_org row.owner w && (same_event (event_of k) e && is_live rows row)) (element_place k) None
      by_key (Element f p) k = ap (λ b. cond b (Some p) None) (at p f k (same_org row.owner w) (same_event f e) refl refl)
      by_key _ k = none _ _

  pub all_kept : (rs : List Row) → filter_map (kept_place deleted w e) rs ≡ filter_map (live_place rows w e) rs
  all_kept [] = refl
  all_kept (r ∷ rs) = λ i. cons_option (kept_is r i) (all_kept rs i)

  -- what a set of deleted objects tells is what the definition names
  pub targets_are : (m : BTreeMap ℕ Place) (parts : List Draft) →
      AreTargets m (map (λ d. d.place) parts ++ filter_map (kept_place deleted w e) rows) → AreTargets m (target_places rows w e parts)
  unfolding target_places
  targets_are m parts a = λ u. a u ∙ (λ i. find (is_place_of u) (map (λ d. d.place) parts ++ all_kept rows i))

-- ---- where there is one

module _ (rows : List Row) (w : OrgId) (e : EventId) (gone : has_gone rows w e ≡ true) where
  pub not_live : (row : Row) → row.owner ≡ w → event_of row.key ≡ e → is_live rows row ≡ false
  unfolding is_live
  not_live row g h = at (is_deleted row) row.owner row.key g h
    where
      one : (b c : Bool) → (not b && not true && c) ≡ false
      one true c = refl
      one false c = refl

      at : (b : Bool) (o : OrgId) (k : Key) → o ≡ w → event_of k ≡ e →
          (not b && not (has_gone rows o (event_of k)) && list_all (λ j. not (list_any (λ r. is_row_of o j r && is_deleted r) rows)) (parents k)) ≡ false
      at b o k g h = rw (g, h, gone) (one b _)

  no_place : (row : Row) → live_place rows w e row ≡ None
  unfolding live_place
  no_place row = by (same_org row.owner w) (same_event (event_of row.key) e) refl refl
    where
      by : (a b : Bool) → same_org row.owner w ≡ a → same_event (event_of row.key) e ≡ b → cond (a && (b && is_live rows row)) (element_place row.key) None ≡ None
      by false b g h = refl
      by true false g h = refl
      by true true g h = ap (λ l. cond l (element_place row.key) None) (not_live row (same_org-sound row.owner w g) (same_event-sound (event_of row.key) e h))

  no_places : (rs : List Row) → filter_map (live_place rows w e) rs ≡ []
  no_places [] = refl
  no_places (r ∷ rs) = λ i. cons_option (no_place r i) (no_places rs i)

  -- only the parts are named
  pub parts_alone : (m : BTreeMap ℕ Place) (parts : List Draft) → AreTargets m (map (λ d. d.place) parts) → AreTargets m (target_places rows w e parts)
  unfolding target_places
  parts_alone m parts a = λ u.
      a u ∙ ap (find (is_place_of u)) (sym (append-nil (map (λ d. d.place) parts)) ∙ ap (λ ps. map (λ d. d.place) parts ++ ps) (sym (no_places rows)))

-- ---- the target by the definition

module _ (s : Scene) (e : EventId) (u : ElemId) where
  one_key : (k : Key) (a b l : Bool) (x : Option Place) (ps : List Place) → x ≡ find (is_place_of u) ps →
      cond (a && (b && (is_target_key u k && l))) (Some (place_in k)) x
      ≡ find (is_place_of u) (cons_option (cond (a && (b && l)) (element_place k) None) ps)
  unfolding is_target_key place_in element_place
  one_key k false b l x ps h = h
  one_key k true false l x ps h = h
  one_key (Element f p) true true true x ps h = grind (arith, h)
  one_key (Element f p) true true false x ps h = grind (arith, h)
  one_key _ true true true x ps h = h
  one_key _ true true false x ps h = h

  place_of : (t : Bool) (row : Row) (o : Option Row) → option_map (λ (r : Row). place_in r.key) (cond t (Some row) o) ≡ cond t (Some (place_in row.key)) (option_map (λ (r : Row). place_in r.key) o)
  place_of true row o = refl
  place_of false row o = refl

  copy_is : (rs : List Row) →
      option_map (λ row. place_in row.key) (find (λ row. same_org row.owner s.by && (same_event (event_of row.key) e && (is_target_key u row.key && is_live s.rows row))) rs)
      ≡ find (is_place_of u) (filter_map (live_place s.rows s.by e) rs)
  unfolding live_place
  copy_is [] = refl
  copy_is (row ∷ rs) =
      place_of (same_org row.owner s.by && (same_event (event_of row.key) e && (is_target_key u row.key && is_live s.rows row))) row _
      ∙ one_key row.key (same_org row.owner s.by) (same_event (event_of row.key) e) (is_live s.rows row) _ _ (copy_is rs)

  -- what a reference names is the first place of that uuid
  pub target_is : (parts : List Draft) → target_of s e parts u ≡ find (is_place_of u) (target_places s.rows s.by e parts)
  unfolding target_of target_in_copy target_places
  target_is [] = copy_is s.rows
  target_is (d ∷ parts) = one (is_place_of u d.place) (target_is parts)
    where
      one : (t : Bool) → target_of s e parts u ≡ find (is_place_of u) (target_places s.rows s.by e parts) →
          (elim (cond t (Some d) (find (λ d. is_place_of u d.place) parts)) [ Some d ↦ Some d.place | None ↦ target_in_copy s e u ])
          ≡ cond t (Some d.place) (find (is_place_of u) (map (λ d. d.place) parts ++ filter_map (live_place s.rows s.by e) s.rows))
      one true ih = refl
      one false ih = ih

-- a place of a uuid is not the event
pub not_the_event : (u : ElemId) (p : Place) → is_place_of u p ≡ true → list_any (λ kind. kind == place_kind p) of_reference ≡ false
unfolding is_place_of
not_the_event u Place.Event h = absurd (false≢true h)
not_the_event u _ h = refl

-- what is found is of the uuid
pub found_is : (u : ElemId) (ps : List Place) → IfSome (find (is_place_of u) ps) (λ p. is_place_of u p ≡ true)
found_is u ps = one (find (is_place_of u) ps) refl
  where
    one : (o : Option Place) → find (is_place_of u) ps ≡ o → IfSome o (λ p. is_place_of u p ≡ true)
    one None h = tt
    one (Some p) h = find_passes (is_place_of u) ps p h

-- ---- loops

-- one place more after the others
pub find_push : (u : ElemId) (ps : List Place) (p : Place) → find (is_place_of u) (ps ++ p ∷ []) ≡ or_place u p (find (is_place_of u) ps)
unfolding or_place
find_push u [] p = refl
find_push u (q ∷ ps) p = grind (arith, find_push u ps p)

pub targets_push : (m n : BTreeMap ℕ Place) (ps : List Place) (p : Place) → AreTargets m ps → ((u : ElemId) → target_in n u ≡ or_place u p (target_in m u)) → AreTargets n (ps ++ p ∷ [])
targets_push m n ps p a h = λ u. h u ∙ ap (or_place u p) (a u) ∙ sym (find_push u ps p)
