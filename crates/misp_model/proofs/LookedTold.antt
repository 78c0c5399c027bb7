-- Which copy is shown, and what is told of one of its places, is the same over rows that have the event's row and the statements of each copy.
use Rattle.std.proofs.Common.{◌≡◌, Bool, true, false, refl, ap, sym, ◌∙◌, ltb, ◌&&◌, ◌||◌, not, Option, Some, None, filter, subst}
use Rattle.std.proofs.lemmas.Bool.{and_parts, false≢true}
use Rattle.misp_ids.proofs.Same.{same_event-sound}
use Rattle.misp_lists.proofs.Lists.{all_same, and_where, any_within, filter_within, find_within}
use Rattle.misp_elem.proofs.Same.{of_event, same_key-keeps, same_key-sound}
use Rattle.misp_model.proofs.Prelude.{Element, EventId, Key, OrgId, Proposal, Reference, Row, Scene, Sighting, Verdict, above, chosen, element_granted, event_key, event_of, event_row, first_of_all}
use Rattle.misp_model.proofs.Prelude.{granted, granted_by, granted_somewhere, is_closed, is_deleted, is_least, is_live, is_row_of, is_statement, is_verdict_on}
use Rattle.misp_model.proofs.Prelude.{list_all, list_any, parents, proposals_on, row_is_open, same_event, same_key, same_org, sightings_on, sorted}
use Rattle.misp_model.specs.Shown.{is_proposal_on, is_sighting_on}
use Rattle.misp_model.proofs.LookedRows.{has_copy_looked, has_gone_looked, has_open_looked, looked_rows, own_rows_looked}
use Rattle.misp_model.proofs.LookedScenes.{looked_scene}

-- where the first holds, the others agree
pub both_where : (a b c x y : Bool) → (a ≡ true → b ≡ x) → (a ≡ true → c ≡ y) → (a && b && c) ≡ (a && x && y)
both_where true b c x y h k = λ i. h refl i && k refl i
both_where false b c x y h k = refl

-- the event's row is looked at in each copy
abbrev pub HasEvents : (OrgId → Key → Bool) → EventId → Type 0
HasEvents keep e = (v : OrgId) → keep v (event_key e) ≡ true

-- each statement of the event is looked at in each copy
abbrev pub HasStatements : (OrgId → Key → Bool) → EventId → Type 0
HasStatements keep e = (v : OrgId) (k : Key) → is_statement k ≡ true → of_event e k ≡ true → keep v k ≡ true

module _ (keep : OrgId → Key → Bool) (e : EventId) (s : Scene) (events : HasEvents keep e) where
  abbrev near : Scene
  near = looked_scene keep s

  abbrev is_near : Row → Bool
  is_near row = keep row.owner row.key

  -- the row is granted to the caller, by the rows that are looked at and by all
  abbrev by_near : Row → Bool
  by_near row = granted (looked_rows keep s.rows) s.groups s.at s.by row

  abbrev by_all : Row → Bool
  by_all row = granted s.rows s.groups s.at s.by row

  -- all that stands above the row is looked at
  abbrev pub HasAbove : Row → Type 0
  HasAbove row = (keep row.owner (event_key (event_of row.key)) ≡ true) × (list_all (keep row.owner) (parents row.key) ≡ true)

  pub element_same : (row : Row) → HasAbove row → element_granted (looked_rows keep s.rows) s.groups s.at s.by row ≡ element_granted s.rows s.groups s.at s.by row
  unfolding element_granted
  element_same row h = λ i.
      has_copy_looked keep row.owner (event_of row.key) s.rows h.0 i && row_is_open s.groups s.at s.by row
      && all_same _ _ (keep row.owner) (λ k g. has_open_looked keep s.groups s.at s.by row.owner s.rows k g) (parents row.key) h.1 i

  pub live_same : (row : Row) → HasAbove row → is_live (looked_rows keep s.rows) row ≡ is_live s.rows row
  unfolding is_live
  live_same row h = λ i.
      not (is_deleted row) && not (has_gone_looked keep row.owner (event_of row.key) s.rows h.0 i)
      && all_same _ _ (keep row.owner) (λ k g. ap not (own_rows_looked keep row.owner k is_deleted s.rows g)) (parents row.key) h.1 i

  -- an element is granted by what stands above it
  pub plain_by : (row : Row) → is_statement row.key ≡ false → by_all row ≡ element_granted s.rows s.groups s.at s.by row
  unfolding granted granted_by is_statement
  plain_by row n = by_key row.key n
    where
      by_key : (k : Key) → is_statement k ≡ false → granted_by s.rows s.groups s.at s.by row.owner (element_granted s.rows s.groups s.at s.by row) k ≡ element_granted s.rows s.groups s.at s.by row
      by_key (Element f p) n = refl
      by_key (Reference f x t u) n = refl
      by_key _ n = absurd (false≢true (sym n))

  pub plain_same : (row : Row) → is_statement row.key ≡ false → HasAbove row → by_near row ≡ by_all row
  unfolding granted granted_by is_statement
  plain_same row n h = by_key row.key n
    where
      by_key : (k : Key) → is_statement k ≡ false
          → granted_by (looked_rows keep s.rows) s.groups s.at s.by row.owner (element_granted (looked_rows keep s.rows) s.groups s.at s.by row) k
          ≡ granted_by s.rows s.groups s.at s.by row.owner (element_granted s.rows s.groups s.at s.by row) k
      by_key (Element f p) n = element_same row h
      by_key (Reference f x t u) n = element_same row h
      by_key _ n = absurd (false≢true (sym n))

  -- ---- the event's own rows

  event_near : (row : Row) → same_key row.key (event_key e) ≡ true → is_near row ≡ true
  event_near row h = same_key-keeps (keep row.owner) row.key (event_key e) h (events row.owner)

  event_above : (row : Row) → row.key ≡ event_key e → HasAbove row
  unfolding event_key event_of parents above
  event_above row h = (ap (λ k. keep row.owner (event_key (event_of k))) h ∙ events row.owner, ap (λ k. list_all (keep row.owner) (parents k)) h)

  event_granted : (row : Row) → same_key row.key (event_key e) ≡ true → by_near row ≡ by_all row
  unfolding is_statement event_key
  event_granted row h = let k : row.key ≡ event_key e = same_key-sound row.key (event_key e) h in plain_same row (ap is_statement k) (event_above row k)

  pub event_row_same : (owner : Option OrgId) → event_row near e owner ≡ event_row s e owner
  unfolding event_row chosen looked_scene looked_rows is_row_of
  event_row_same None =
      ap first_of_all
      (filter_within (λ row. same_key row.key (event_key e) && by_near row) (λ row. same_key row.key (event_key e) && by_all row) is_near
      (λ row g. and_where (same_key row.key (event_key e)) _ _ (event_granted row)) (λ row g. event_near row (and_parts _ _ g).0) s.rows)
  event_row_same (Some w) =
      find_within (λ row. is_row_of w (event_key e) row && by_near row) (λ row. is_row_of w (event_key e) row && by_all row) is_near
      (λ row g. and_where (is_row_of w (event_key e) row) _ _ (λ h. event_granted row (and_parts _ _ h).1)) (λ row g. event_near row (and_parts _ _ (and_parts _ _ g).0).1) s.rows

  -- ---- statements

  -- the key is granted somewhere by the rows that are looked at as by all
  abbrev pub IsAlike : Key → Type 0
  IsAlike k = granted_somewhere (looked_rows keep s.rows) s.groups s.at s.by k ≡ granted_somewhere s.rows s.groups s.at s.by k

  pub event_alike : IsAlike (event_key e)
  unfolding granted_somewhere looked_rows
  event_alike =
      any_within (λ row. same_key row.key (event_key e) && element_granted (looked_rows keep s.rows) s.groups s.at s.by row) (λ row. same_key row.key (event_key e) && element_granted s.rows s.groups s.at s.by row) is_near
      (λ row g. and_where (same_key row.key (event_key e)) _ _ (λ h. element_same row (event_above row (same_key-sound row.key (event_key e) h)))) (λ row g. event_near row (and_parts _ _ g).0) s.rows

  module _ (statements : HasStatements keep e) where
    -- what is said on a place of the event that is granted alike
    module _ (k : Key) (of : of_event e k ≡ true) (alike : IsAlike k) where
      alike_at : (j : Key) → same_key j k ≡ true → IsAlike j
      alike_at j h = subst IsAlike (sym (same_key-sound j k h)) alike

      proposal_near : (v : OrgId) (j : Key) → is_proposal_on k j ≡ true → keep v j ≡ true
      unfolding is_proposal_on is_statement of_event event_of
      proposal_near v (Proposal f n) h = statements v (Proposal f n) refl (same_key-keeps (of_event e) (Element f n.target) k h of)
      proposal_near v _ h = absurd (false≢true h)

      verdict_near : (v : OrgId) (j l : Key) (judge : OrgId) → is_proposal_on k j ≡ true → is_verdict_on j judge l ≡ true → keep v l ≡ true
      unfolding is_proposal_on is_verdict_on is_statement of_event event_of
      verdict_near v j (Verdict f n i o) judge h g =
          statements v (Verdict f n i o) refl (same_key-keeps (of_event e) (Element f n.target) k (same_key-keeps (is_proposal_on k) (Proposal f n) j (and_parts _ _ g).0 h) of)
      verdict_near v j _ judge h g = absurd (false≢true g)

      sighting_near : (v : OrgId) (j : Key) → is_sighting_on k j ≡ true → keep v j ≡ true
      unfolding is_sighting_on is_statement of_event event_of
      sighting_near v (Sighting f t i o u) h = statements v (Sighting f t i o u) refl (same_key-keeps (of_event e) (Element f t) k h of)
      sighting_near v _ h = absurd (false≢true h)

      proposal_granted : (row : Row) → is_proposal_on k row.key ≡ true → by_near row ≡ by_all row
      unfolding granted granted_by is_proposal_on
      proposal_granted row h = by_key row.key h
        where
          by_key : (j : Key) → is_proposal_on k j ≡ true
              → granted_by (looked_rows keep s.rows) s.groups s.at s.by row.owner (element_granted (looked_rows keep s.rows) s.groups s.at s.by row) j
              ≡ granted_by s.rows s.groups s.at s.by row.owner (element_granted s.rows s.groups s.at s.by row) j
          by_key (Proposal f n) h = ap (λ b. same_org s.by row.owner || b) (alike_at (Element f n.target) h)
          by_key _ h = absurd (false≢true h)

      verdict_granted : (j : Key) (judge : OrgId) → is_proposal_on k j ≡ true → (row : Row) → is_verdict_on j judge row.key ≡ true → by_near row ≡ by_all row
      unfolding granted granted_by is_proposal_on is_verdict_on
      verdict_granted j judge h row g = by_key row.key g
        where
          by_key : (l : Key) → is_verdict_on j judge l ≡ true
              → granted_by (looked_rows keep s.rows) s.groups s.at s.by row.owner (element_granted (looked_rows keep s.rows) s.groups s.at s.by row) l
              ≡ granted_by s.rows s.groups s.at s.by row.owner (element_granted s.rows s.groups s.at s.by row) l
          by_key (Verdict f n i o) g = ap (λ b. same_org s.by row.owner || b) (alike_at (Element f n.target) (same_key-keeps (is_proposal_on k) (Proposal f n) j (and_parts _ _ g).0 h))
          by_key _ g = absurd (false≢true g)

      sighting_granted : (row : Row) → is_sighting_on k row.key ≡ true → by_near row ≡ by_all row
      unfolding granted granted_by is_sighting_on of_event event_of
      sighting_granted row h = by_key row.key h
        where
          own_event : (f : EventId) → same_event f e ≡ true → keep s.by (event_key f) ≡ true
          own_event f h = ap (λ x. keep s.by (event_key x)) (same_event-sound f e h) ∙ events s.by

          is_here : (j : Key) → same_key j k ≡ true → same_event (event_of j) e ≡ true
          is_here j h = same_key-keeps (of_event e) j k h of

          by_key : (j : Key) → is_sighting_on k j ≡ true
              → granted_by (looked_rows keep s.rows) s.groups s.at s.by row.owner (element_granted (looked_rows keep s.rows) s.groups s.at s.by row) j
              ≡ granted_by s.rows s.groups s.at s.by row.owner (element_granted s.rows s.groups s.at s.by row) j
          by_key (Sighting f t i o u) h = λ l. same_org s.by row.owner || has_copy_looked keep s.by f s.rows (own_event f (is_here (Element f t) h)) l && alike_at (Element f t) h l
          by_key _ h = absurd (false≢true h)

      -- the row that is told of a statement is the same, where each row of its key is looked at and granted alike
      least_same : (test : Key → Bool) → ((v : OrgId) (j : Key) → test j ≡ true → keep v j ≡ true) → ((row : Row) → test row.key ≡ true → by_near row ≡ by_all row) →
          (row : Row) → test row.key ≡ true → is_least (looked_rows keep s.rows) s.groups s.at s.by row ≡ is_least s.rows s.groups s.at s.by row
      unfolding is_least looked_rows
      least_same test kept same row h = λ i. same row h i && not (lesser i)
        where
          lesser : list_any (λ r. same_key r.key row.key && ltb r.owner.0.0 row.owner.0.0 && by_near r) (filter is_near s.rows) ≡ list_any (λ r. same_key r.key row.key && ltb r.owner.0.0 row.owner.0.0 && by_all r) s.rows
          lesser =
              any_within (λ r. same_key r.key row.key && ltb r.owner.0.0 row.owner.0.0 && by_near r) (λ r. same_key r.key row.key && ltb r.owner.0.0 row.owner.0.0 && by_all r) is_near
              (λ r g. and_where (same_key r.key row.key && ltb r.owner.0.0 row.owner.0.0) _ _ (λ c. same r (same_key-keeps test r.key row.key (and_parts _ _ c).0 h)))
              (λ r g. kept r.owner r.key (same_key-keeps test r.key row.key (and_parts _ _ (and_parts _ _ g).0).0 h)) s.rows

      closed_same : (judge : OrgId) (j : Key) → is_proposal_on k j ≡ true → is_closed near judge j ≡ is_closed s judge j
      unfolding is_closed looked_scene looked_rows
      closed_same judge j h =
          any_within (λ row. is_verdict_on j judge row.key && by_near row) (λ row. is_verdict_on j judge row.key && by_all row) is_near
          (λ row g. and_where (is_verdict_on j judge row.key) _ _ (verdict_granted j judge h row)) (λ row g. verdict_near row.owner j row.key judge h (and_parts _ _ g).0) s.rows

      pub proposals_same : (judge : OrgId) → proposals_on near judge k ≡ proposals_on s judge k
      unfolding proposals_on looked_scene looked_rows
      proposals_same judge =
          ap sorted
          (filter_within (λ row. is_proposal_on k row.key && is_least (looked_rows keep s.rows) s.groups s.at s.by row && not (is_closed near judge row.key))
          (λ row. is_proposal_on k row.key && is_least s.rows s.groups s.at s.by row && not (is_closed s judge row.key)) is_near
          (λ row g. both_where (is_proposal_on k row.key) _ _ _ _ (least_same (is_proposal_on k) proposal_near proposal_granted row) (λ h. ap not (closed_same judge row.key h)))
          (λ row g. proposal_near row.owner row.key (and_parts _ _ (and_parts _ _ g).0).0) s.rows)

      pub sightings_same : sightings_on near k ≡ sightings_on s k
      unfolding sightings_on looked_scene looked_rows
      sightings_same =
          ap sorted
          (filter_within (λ row. is_sighting_on k row.key && is_least (looked_rows keep s.rows) s.groups s.at s.by row) (λ row. is_sighting_on k row.key && is_least s.rows s.groups s.at s.by row) is_near
          (λ row g. and_where (is_sighting_on k row.key) _ _ (least_same (is_sighting_on k) sighting_near sighting_granted row)) (λ row g. sighting_near row.owner row.key (and_parts _ _ g).0) s.rows)
