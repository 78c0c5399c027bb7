-- What a request looks at in its caller's own copy of an event is the same over the rows that are looked at, where these have so much of that copy.
use Rattle.std.proofs.Common.{◌≡◌, ℕ, Bool, true, false, refl, ap, sym, ◌∙◌, subst, map, eqb, ◌&&◌, ◌||◌, option_map}
use Rattle.std.proofs.lemmas.Bool.{and_parts, false≢true}
use Rattle.misp_lists.proofs.Lists.{all_implies, and_where, any_cut, filter_within, find_within}
use Rattle.misp_ids.proofs.Same.{same_org-sound}
use Rattle.misp_elem.proofs.Same.{of_event}
use Rattle.misp_model.specs.Prelude.{ElemId, Element, EventId, Key, OrgId, Proposal, Reference, Row, Scene, Sighting, Verdict, event_of, is_held_in, is_live, is_taken, let_out, let_out_row, own_reference, parents, same_event, same_org, takes_uuid}
use Rattle.misp_model.specs.Prelude.{target_in_copy}
use Rattle.misp_model.specs.Adding.{is_target_key, place_in}
use Rattle.misp_model.specs.Changing.{is_reference_named}
use Rattle.misp_model.proofs.EventParents.{parents_of}
use Rattle.misp_model.proofs.LookedRows.{IsClosedFor, IsLooked, is_live_looked, is_reference, looked_rows, no_reference_looked}
use Rattle.misp_model.proofs.LookedScenes.{looked_scene}

-- a reference that is named by its object and uuid
pub reference_event : (e : EventId) (x u : ElemId) (k : Key) → is_reference_named e x u k ≡ true → same_event (event_of k) e ≡ true
unfolding is_reference_named event_of
reference_event e x u (Element f p) h = absurd (false≢true h)
reference_event e x u (Reference f y t v) h = (and_parts _ _ (and_parts _ _ h).0).0
reference_event e x u (Proposal f n) h = absurd (false≢true h)
reference_event e x u (Verdict f n i o) h = absurd (false≢true h)
reference_event e x u (Sighting f t i o v) h = absurd (false≢true h)

-- a target is no reference
target_is_none : (u : ElemId) (k : Key) → is_target_key u k ≡ true → is_reference k ≡ false
unfolding is_target_key is_reference
target_is_none u (Element f p) h = refl
target_is_none u (Reference f y t v) h = absurd (false≢true h)
target_is_none u (Proposal f n) h = refl
target_is_none u (Verdict f n i o) h = refl
target_is_none u (Sighting f t i o v) h = refl

-- each own row of the event whose key passes the test is looked at
abbrev pub HasThose : (OrgId → Key → Bool) → OrgId → EventId → (Key → Bool) → Type 0
HasThose keep o e test = (k : Key) → same_event (event_of k) e ≡ true → test k ≡ true → keep o k ≡ true

-- each own row of the event is looked at
abbrev pub HasCopy : (OrgId → Key → Bool) → OrgId → EventId → Type 0
HasCopy keep o e = (k : Key) → same_event (event_of k) e ≡ true → keep o k ≡ true

module _ (keep : OrgId → Key → Bool) (s : Scene) (c : IsClosedFor s.by keep) (e : EventId) where
  abbrev near : Scene
  near = looked_scene keep s

  -- the own row of such a key is looked at
  own_kept : (row : Row) → same_org row.owner s.by ≡ true → keep s.by row.key ≡ true → keep row.owner row.key ≡ true
  own_kept row h g = ap (λ w. keep w row.key) (same_org-sound row.owner s.by h) ∙ g

  -- ---- by uuids

  pub is_taken_looked : (u : ℕ) → HasThose keep s.by e (takes_uuid u) → is_taken near e u ≡ is_taken s e u
  unfolding is_taken looked_scene looked_rows
  is_taken_looked u has =
      ap (λ b. eqb e.0.0 u || b) (any_cut (λ (row : Row). same_org row.owner s.by && (same_event (event_of row.key) e && takes_uuid u row.key)) (λ row. keep row.owner row.key)
      (λ row h. own_kept row (and_parts _ _ h).0 (has row.key (and_parts _ _ (and_parts _ _ h).1).0 (and_parts _ _ (and_parts _ _ h).1).1)) s.rows)

  pub target_in_copy_looked : (u : ElemId) → HasThose keep s.by e (is_target_key u) → target_in_copy near e u ≡ target_in_copy s e u
  unfolding target_in_copy looked_scene looked_rows
  target_in_copy_looked u has =
      ap (option_map (λ row. place_in row.key))
      (find_within
      (λ row. same_org row.owner s.by && (same_event (event_of row.key) e && (is_target_key u row.key && is_live (looked_rows keep s.rows) row)))
      (λ row. same_org row.owner s.by && (same_event (event_of row.key) e && (is_target_key u row.key && is_live s.rows row)))
      (λ row. keep row.owner row.key)
      (λ row g i. same_org row.owner s.by && (same_event (event_of row.key) e && and_where (is_target_key u row.key) _ _ (live row g) i))
      (λ row g. own_kept row (and_parts _ _ g).0 (target row g)) s.rows)
    where
      live : (row : Row) → keep row.owner row.key ≡ true → is_target_key u row.key ≡ true → is_live (looked_rows keep s.rows) row ≡ is_live s.rows row
      live row g t = is_live_looked keep s.rows row (no_reference_looked s.by keep c row.owner row.key (target_is_none u row.key t) g)

      target : (row : Row) → same_org row.owner s.by && (same_event (event_of row.key) e && (is_target_key u row.key && is_live s.rows row)) ≡ true → keep s.by row.key ≡ true
      target row g =
          let inner : same_event (event_of row.key) e && (is_target_key u row.key && is_live s.rows row) ≡ true = (and_parts (same_org row.owner s.by) _ g).1 in
          let parts = and_parts (same_event (event_of row.key) e) (is_target_key u row.key && is_live s.rows row) inner in
          has row.key parts.0 (and_parts (is_target_key u row.key) (is_live s.rows row) parts.1).0

  -- ---- the whole of it

  module _ (whole : HasCopy keep s.by e) where
    in_copy : (row : Row) → same_org row.owner s.by ≡ true → same_event (event_of row.key) e ≡ true → keep row.owner row.key ≡ true
    in_copy row h g = own_kept row h (whole row.key g)

    -- with its parents
    copy_looked : (row : Row) → same_org row.owner s.by ≡ true → same_event (event_of row.key) e ≡ true → IsLooked keep row.owner row.key
    unfolding of_event
    copy_looked row h g =
        subst (λ w. IsLooked keep w row.key) (sym (same_org-sound row.owner s.by h))
        (whole row.key g, all_implies (of_event e) (keep s.by) (λ j. whole j) (parents row.key) (parents_of e row.key g))

    pub own_reference_looked : (x u : ElemId) → own_reference near e x u ≡ own_reference s e x u
    unfolding own_reference looked_scene looked_rows
    own_reference_looked x u =
        find_within (λ row. same_org row.owner s.by && (is_reference_named e x u row.key && is_live (looked_rows keep s.rows) row))
        (λ row. same_org row.owner s.by && (is_reference_named e x u row.key && is_live s.rows row)) (λ row. keep row.owner row.key)
        (λ row g. and_where (same_org row.owner s.by) _ _
        (λ own. and_where (is_reference_named e x u row.key) _ _ (λ named. is_live_looked keep s.rows row (copy_looked row own (reference_event e x u row.key named)))))
        (λ row g. in_copy row (and_parts _ _ g).0 (reference_event e x u row.key (and_parts _ _ (and_parts _ _ g).1).0)) s.rows

    pub let_out_looked : let_out near e ≡ let_out s e
    unfolding let_out let_out_row is_held_in looked_scene looked_rows
    let_out_looked =
        ap (map (let_out_row s))
        (filter_within (is_held_in s e) (is_held_in s e) (λ row. keep row.owner row.key) (λ row g. refl)
        (λ row g. in_copy row (and_parts _ _ g).0 (and_parts _ _ (and_parts _ _ g).1).0) s.rows)
