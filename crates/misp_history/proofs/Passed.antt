-- What passes comes with its event's own row, and no tombstone passes.
use Rattle.std.proofs.Common.{◌≡◌, List, Bool, true, refl, ap, sym, ◌∙◌, Some, None, ℕ, zero, suc, arith, [], ◌∷◌, false, subst, ◌&&◌, not, Option, filter, Contains}
use Rattle.misp_history.proofs.Prelude.{AreRows, Content, Element, EventId, Group, IsRow, IsTable, Key, OrgId, Place, Proposal, Reference, Route, Row, Sighting, Verdict, above, all_among, all_true, and_from, and_parts, any_has, any_map}
use Rattle.misp_history.proofs.Prelude.{arrived, arrives, arriving_rows, content_kind, element_granted, element_passes, event_key, event_of, false_from_ne_true, false≢true, first_of_all, fits, found, found_among, granted, granted_by}
use Rattle.misp_history.proofs.Prelude.{granted_known, has_copy, has_open, is_gone, is_known, is_row_of, is_sent_owner, is_tombstone, kept_has, known, label_kind, lets_out, list_all, list_any, map_from, not-true, of_part, parents}
use Rattle.misp_history.proofs.Prelude.{pass_alike, passes, passes_at, passes_by, passing_rows, row_is_open, same_key, same_key-refl, same_key-sound, same_org-refl, sent_copy}
use Rattle.misp_model.specs.View.{is_before}
use Rattle.misp_history.proofs.Copies.{gone_kept}
use Rattle.misp_history.proofs.Sent.{passes_granted}

module _ (rows : List Row) (groups : List Group) (route : Route) where
  -- the copy that is sent, where there is one
  sent_row : (o : Option Row) (w : OrgId) → is_sent_owner o w ≡ true → (y : Row) × (o ≡ Some y)
  unfolding is_sent_owner
  sent_row None w h = absurd (false≢true h)
  sent_row (Some y) w h = (y, refl)

  its_passing : (e : EventId) (y : Row) → y.key ≡ event_key e → sent_copy rows groups route e ≡ Some y → granted rows groups route.from route.«for» y ≡ true → lets_out groups route y ≡ true → passes rows groups route y ≡ true
  unfolding passes passes_by element_passes is_sent_owner event_key event_of parents above
  its_passing e y k h g l =
      ap (passes_by rows groups route y) k
      ∙ and_from _ _ (and_from _ _ (and_from _ _ (ap (λ f. is_sent_owner (sent_copy rows groups route f) y.owner) (ap event_of k) ∙ ap (λ o. is_sent_owner o y.owner) h ∙ same_org-refl y.owner) g) l)
      (ap (λ j. list_all (λ k. list_any (λ r. is_row_of y.owner k r && lets_out groups route r) rows) (parents j)) k)

  own_passes : (e : EventId) (y : Row) → sent_copy rows groups route e ≡ Some y → Contains rows y × ((same_key y.key (event_key e) && passes rows groups route y) ≡ true)
  unfolding sent_copy first_of_all
  own_passes e y h =
      let m = found_among (λ row. not (list_any (λ other. is_before other row) (filter (λ row. same_key row.key (event_key e) && (granted rows groups route.from route.«for» row && lets_out groups route row)) rows)))
      (filter (λ row. same_key row.key (event_key e) && (granted rows groups route.from route.«for» row && lets_out groups route row)) rows) y h in
      let t = of_part (λ row. same_key row.key (event_key e) && (granted rows groups route.from route.«for» row && lets_out groups route row)) rows y m in
      let two = and_parts _ _ t.0 in
      (t.1, and_from _ _ two.0 (its_passing e y (same_key-sound y.key (event_key e) two.0) h (and_parts _ _ two.1).0 (and_parts _ _ two.1).1))

  -- the event's own row of an element that passes passes
  element_own : (row : Row) → element_passes rows groups route row ≡ true → list_any (λ r. same_key r.key (event_key (event_of row.key)) && passes rows groups route r) rows ≡ true
  unfolding element_passes
  element_own row h =
      let sent = sent_row (sent_copy rows groups route (event_of row.key)) row.owner (and_parts _ _ (and_parts _ _ (and_parts _ _ h).0).0).0 in
      let own = own_passes (event_of row.key) sent.0 sent.1 in
      any_has (λ r. same_key r.key (event_key (event_of row.key)) && passes rows groups route r) rows sent.0 own.0 own.1

  target_own : (e : EventId) (t : Place) → passes_at rows groups route (Element e t) ≡ true → list_any (λ r. same_key r.key (event_key e) && passes rows groups route r) rows ≡ true
  unfolding passes_at event_of
  target_own e t h =
      let f = found (λ row. same_key row.key (Element e t) && element_passes rows groups route row) rows h in
      let two = and_parts _ _ f.1.1 in
      ap (λ g. list_any (λ r. same_key r.key (event_key g) && passes rows groups route r) rows) (sym (ap event_of (same_key-sound f.0.key (Element e t) two.0))) ∙ element_own f.0 two.1

  by_key_own : (row : Row) (k : Key) → row.key ≡ k → passes_by rows groups route row k ≡ true → list_any (λ r. same_key r.key (event_key (event_of k)) && passes rows groups route r) rows ≡ true
  unfolding passes_by event_of
  by_key_own row (Element e p) i h = ap (λ j. list_any (λ r. same_key r.key (event_key (event_of j)) && passes rows groups route r) rows) (sym i) ∙ element_own row h
  by_key_own row (Reference e x t u) i h = ap (λ j. list_any (λ r. same_key r.key (event_key (event_of j)) && passes rows groups route r) rows) (sym i) ∙ element_own row h
  by_key_own row (Proposal e n) i h = target_own e n.target (and_parts _ _ h).1
  by_key_own row (Verdict e n j v) i h = target_own e n.target (and_parts _ _ h).1
  by_key_own row (Sighting e t j v u) i h = target_own e t (and_parts _ _ h).1

  own_of : (row : Row) → passes rows groups route row ≡ true → list_any (λ r. same_key r.key (event_key (event_of row.key)) && passes rows groups route r) rows ≡ true
  unfolding passes
  own_of row h = by_key_own row row.key refl h

-- ---- what arrives
module _ (rows : List Row) (groups : List Group) (route : Route) where
  abbrev seen : List Row
  seen = known rows groups route.from route.«for»

  pub with_own : (x : Row) → Contains (arriving_rows rows groups route) x → list_any (λ r. same_key r.key (event_key (event_of x.key))) (arriving_rows rows groups route) ≡ true
  unfolding arriving_rows passing_rows arrived
  with_own x m =
      let f = map_from (arrived route) (filter (passes seen groups route) seen) x m in
      let a = of_part (passes seen groups route) seen f.0 f.1.0 in
      let g = found (λ r. same_key r.key (event_key (event_of f.0.key)) && passes seen groups route r) seen (own_of seen groups route f.0 a.0) in
      let two = and_parts _ _ g.1.1 in
      any_map (arrived route) (λ r. same_key r.key (event_key (event_of x.key))) (filter (passes seen groups route) seen)
      ∙ any_has (λ r. same_key r.key (event_key (event_of x.key))) (filter (passes seen groups route) seen) g.0 (kept_has (passes seen groups route) seen g.0 g.1.0 two.1)
      (ap (λ (r : Row). same_key g.0.key (event_key (event_of r.key))) (sym f.1.1) ∙ two.0)

  -- what passes is granted to the organisation of the synchronisation
  pub passing_granted : IsTable rows → (x : Row) → Contains (passing_rows rows groups route) x → granted rows groups route.from route.«for» x ≡ true
  unfolding passing_rows known
  passing_granted table x m =
      let a = of_part (passes seen groups route) seen x m in
      let b = of_part (is_known rows groups route.from route.«for») rows x a.1 in
      sym (granted_known rows groups route.from route.«for» table x b.1) ∙ passes_granted seen groups route x a.0

  module _ (table : IsTable rows) (are : AreRows rows) where
    pub is_row : (xs : List Row) (x : Row) → AreRows xs → Contains xs x → IsRow x
    is_row [] x a m = let lt = m.1 in absurd (omega arith)
    is_row (y ∷ xs) x a (zero, lt, e) = subst IsRow e a.0
    is_row (y ∷ xs) x a (suc k, lt, e) = is_row xs x a.1 (k, omega arith, e)

    -- only a row of the event itself can be a tombstone
    tombstone_is_own : (k : Key) (label : ℕ) (flags : Bool × Bool) → fits k label flags 7 ≡ true → k ≡ event_key (event_of k)
    unfolding event_of event_key
    tombstone_is_own (Element e Place.Event) label flags h = refl
    tombstone_is_own _ label flags h = absurd (false≢true h)

    kind_of_gone : (c : Content) → is_gone c ≡ true → content_kind c ≡ 7
    unfolding is_gone
    kind_of_gone Content.Gone h = refl
    kind_of_gone _ h = absurd (false≢true h)

    copy_of_own : (x : Row) → x.key ≡ event_key (event_of x.key) → granted seen groups route.from route.«for» x ≡ true → has_copy seen x.owner (event_of x.key) ≡ true
    unfolding granted element_granted event_key granted_by
    copy_of_own x k g =
        (and_parts _ _
        (and_parts _ _
        (sym (ap
        (granted_by seen groups route.from route.«for» x.owner
        (has_copy seen x.owner (event_of x.key) && row_is_open groups route.from route.«for» x && list_all (has_open seen groups route.from route.«for» x.owner) (parents x.key)))
        k)
        ∙ g)).0).0

    pub no_tombstone_passes : (x : Row) → Contains rows x → passes seen groups route x ≡ true → is_tombstone x ≡ false
    unfolding has_copy known is_row_of is_tombstone
    no_tombstone_passes x m h = false_from_ne_true (is_tombstone x) (λ g.
        let i : IsRow x = is_row rows x are m in
        let own : x.key ≡ event_key (event_of x.key) = tombstone_is_own x.key (label_kind x.label) (x.held, x.carried) (sym (ap (fits x.key (label_kind x.label) (x.held, x.carried)) (kind_of_gone x.content g)) ∙ i.1.1.1.1.1.0) in
        let f = found (λ row. is_row_of x.owner (event_key (event_of x.key)) row && not (is_tombstone row)) seen (copy_of_own x own (passes_granted seen groups route x h)) in
        let two = and_parts _ _ f.1.1 in
        let n = (of_part (is_known rows groups route.from route.«for») rows f.0 f.1.0).1 in
        false≢true (sym (not-true _ two.1)
        ∙ pass_alike x.owner (event_key (event_of x.key)) is_tombstone rows table x f.0 m n (and_from _ _ (same_org-refl x.owner) (ap (same_key x.key) (sym own) ∙ same_key-refl x.key)) two.0 g))

    arrived_is : (x : Row) → is_tombstone x ≡ false → arrives route.holder (arrived route x) ≡ true
    unfolding arrives arrived is_tombstone
    arrived_is x h = and_from _ _ (same_org-refl route.holder) (ap not (gone_kept x.content ∙ h))

    -- all that arrives is the holder's, carried, and no tombstone
    pub all_arrive : list_all (arrives route.holder) (arriving_rows rows groups route) ≡ true
    unfolding arriving_rows passing_rows known
    all_arrive = all_true (arrives route.holder) (arriving_rows rows groups route) (all_among (λ x. arrives route.holder x ≡ true) (arriving_rows rows groups route) (λ x m.
        let f = map_from (arrived route) (filter (passes seen groups route) seen) x m in
        let a = of_part (passes seen groups route) seen f.0 f.1.0 in
        let b = of_part (is_known rows groups route.from route.«for») rows f.0 a.1 in
        ap (arrives route.holder) (sym f.1.1) ∙ arrived_is f.0 (no_tombstone_passes f.0 b.1 a.0)))
