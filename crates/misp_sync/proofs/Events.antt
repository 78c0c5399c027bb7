-- What is taken of the packages of events, one event after another, is what all packages bring.
use Rattle.std.proofs.Common.{◌≡◌, append-nil, arith, Bool, true, false, List, [], ◌∷◌, ◌++◌, Contains, None, Ok, Option, refl, sym, ap, ◌∙◌, filter, flat_map, inl, inr, map}
use Rattle.std.proofs.lemmas.List.{map-append}
use Rattle.std.proofs.lemmas.List.Elements.{Contains-append_cases}
use Rattle.misp_lists.specs.Order.{in_order}
use Rattle.misp_lists.proofs.All.{all_among, all_of}
use Rattle.misp_lists.proofs.Distinct.{apart_in_order, distinct_part}
use Rattle.misp_lists.proofs.Elements.{all_has, found, here, of_part, there}
use Rattle.misp_lists.proofs.Ordering.{from_in_order}
use Rattle.misp_model.proofs.Prelude.{AllByRecursion, EventId, Group, Inst, IsDistinct, IsTable, OrgId, Row, all_implies, and_parts, event_key, event_of, event_rows, false_from_ne_true, false≢true}
use Rattle.misp_model.proofs.Prelude.{in_one_cell, is_row_of, list_all, list_any, one_cell, part_is_table, row_cell_back, row_of_name, same_event, same_event-refl, same_event-sound}
use Rattle.misp_model.proofs.Prelude.{same_key-sound, same_org, same_org-sound, stands_before}
use Rattle.misp_model.specs.Packing.{is_own, packages}
use Rattle.misp_effects.specs.Batches.{batch}
use Rattle.misp_effects.specs.Effect.{effect}
use Rattle.misp_history.specs.Merging.{IsPackageOf, arrives, brought, handed, is_taken}
use Rattle.misp_history.proofs.Packing.{packages_are}
use Rattle.misp_history.proofs.Pulled.{packages_by_event}
use Rattle.misp_store.specs.declared.reach.Reach.{Reach}
use Rattle.misp_core.specs.Prelude.{Effect, Seen}
use Rattle.misp_protocol.specs.declared.cause.Cause.{Cause}
use Rattle.misp_sync.specs.Pulled.{behind_all, event_taken, events_taken, package_batches}
use Rattle.misp_history.proofs.Bringing.{parts}
use Rattle.misp_sync.proofs.Parts.{as_batches, batches_are, brought_from, parts_alike, parts_append, parts_apart}

-- nothing refuses the rest after these batches
abbrev pub whole : List (List Row) → Effect (Option Cause)
whole ps = effect None (as_batches ps)

-- rows of another event have none of its names
other_names : (e : EventId) (x : Row) (so : List Row) → event_of x.key ≡ e → ((z : Row) → Contains so z → same_event (event_of z.key) e ≡ false) → list_any (is_row_of x.owner x.key) so ≡ false
other_names e x so of apart = false_from_ne_true (list_any (is_row_of x.owner x.key) so) (λ g.
    let f = found (is_row_of x.owner x.key) so g in
    let same : event_of f.0.key ≡ e = ap event_of (row_of_name x.owner x.key f.0 f.1.1).1 ∙ of in
    let is : same_event (event_of f.0.key) e ≡ true = ap (λ e'. same_event e' e) same ∙ same_event-refl e in
    false≢true (sym (apart f.0 f.1.0) ∙ is))

module _ (i : Inst) (w : OrgId) (groups : List Group) (rows coming : List Row) (table : IsTable coming) (owned : list_all (arrives w) coming ≡ true) where
  abbrev test : Row → Bool
  test = is_taken i rows groups coming

  -- what comes of an event
  abbrev of_event : EventId → List (List Row)
  of_event e = packages (event_rows e coming)

  -- what is seen of the holder's rows of an event tells what is taken of it
  pub record Tells (own : Seen) (e : EventId) : Type 0 where
    pub seen : List Row
    pub read : own.rows (Reach.Own w e) ≡ Ok seen
    pub same : (x : Row) → Contains coming x → event_of x.key ≡ e → is_taken i seen groups coming x ≡ test x

  package_here : (e : EventId) (p : List Row) → IsPackageOf (event_rows e coming) p → IsPackageOf coming p
  package_here e p is = record { apart = is.apart; come = λ row m. (of_part _ coming row (is.come row m)).1; with_event = is.with_event }

  its_packages : (e : EventId) → AllByRecursion (IsPackageOf (event_rows e coming)) (of_event e)
  its_packages e = packages_are (event_rows e coming) (part_is_table _ coming table)

  its_come : (e : EventId) → AllByRecursion (IsPackageOf coming) (of_event e)
  its_come e = all_among (IsPackageOf coming) (of_event e) (λ p m. package_here e p (all_of (IsPackageOf (event_rows e coming)) (of_event e) p (its_packages e) m))

  -- their rows come, and are of the event
  its_rows : (e : EventId) (p : List Row) (x : Row) → Contains (of_event e) p → Contains p x → Contains coming x × (event_of x.key ≡ e)
  its_rows e p x m n =
      let part : (same_event (event_of x.key) e ≡ true) × Contains coming x = of_part _ coming x ((all_of (IsPackageOf (event_rows e coming)) (of_event e) p (its_packages e) m).come x n) in
      (part.1, same_event-sound (event_of x.key) e part.0)

  -- none of these is of one of the events of these
  abbrev Clear : List Row → List Row → Type 0
  Clear so xs = (y : Row) → Contains xs y → (z : Row) → Contains so z → same_event (event_of z.key) (event_of y.key) ≡ false

  clear_next : (so xs : List Row) (x : Row) → AllByRecursion (λ y. same_event (event_of x.key) (event_of y.key) ≡ false) xs → Clear so (x ∷ xs)
      → Clear (so ++ brought test so (of_event (event_of x.key))) xs
  clear_next so xs x apart clear y m z n = elim (Contains-append_cases so (brought test so (of_event (event_of x.key))) z n) [
    | inl k ↦ clear y (there x xs y m) z k
    | inr k ↦ (let f = brought_from test so (of_event (event_of x.key)) z k in
        ap (λ e. same_event e (event_of y.key)) (its_rows (event_of x.key) f.0 z f.1.0 f.1.1).1 ∙ all_of (λ y. same_event (event_of x.key) (event_of y.key) ≡ false) xs y apart m)
  ]

  -- the events' own rows that come, in their order, are of other events each
  abbrev owns : List Row
  owns = filter is_own (in_order stands_before coming)

  pub all_ours : list_all (λ row. same_org row.owner w) coming ≡ true
  unfolding arrives
  all_ours = all_implies (arrives w) (λ row. same_org row.owner w) (λ row h. (and_parts _ _ h).0) coming owned

  pub own_apart : IsDistinct (λ (a b : Row). same_event (event_of a.key) (event_of b.key)) owns
  unfolding is_own
  own_apart =
      distinct_part in_one_cell (λ a b. same_event (event_of a.key) (event_of b.key)) is_own (in_order stands_before coming)
      (λ a b m n h k s. one_cell a b
      (same_org-sound a.owner w (all_has _ coming a all_ours (from_in_order stands_before coming a m))
      ∙ sym (same_org-sound b.owner w (all_has _ coming b all_ours (from_in_order stands_before coming b n))))
      (same_key-sound a.key (event_key (event_of a.key)) h ∙ ap event_key (same_event-sound (event_of a.key) (event_of b.key) s) ∙ sym (same_key-sound b.key (event_key (event_of b.key)) k)))
      (apart_in_order in_one_cell row_cell_back stands_before coming table)

  module _ (sent : EventId → List (List Row)) (is : (e : EventId) → map (map (handed w)) (sent e) ≡ of_event e) (own : Seen) (tells : (e : EventId) → Tells own e) where
    -- of the packages of an event
    event_is : (so : List Row) (x : Row) (xs : List Row) (more : Effect (Option Cause)) → Clear so (x ∷ xs)
        → event_taken i w groups (own.rows (Reach.Own w (event_of x.key))) (sent (event_of x.key)) more ≡ behind_all (as_batches (parts test so (of_event (event_of x.key)))) more
    event_is so x xs more clear =
        let e : EventId = event_of x.key in
        let t : Tells own e = tells e in
        ap (λ found. event_taken i w groups found (sent e) more) t.read
        ∙ ap (λ ps. behind_all (package_batches i groups t.seen ps) more) (is e)
        ∙ ap (λ bs. behind_all bs more)
        (batches_are i groups coming table w owned t.seen (of_event e) (its_come e)
        ∙ ap as_batches
        (parts_alike (is_taken i t.seen groups coming) test [] (of_event e) (λ p m y n. let its = its_rows e p y m n in t.same y its.0 its.1)
        ∙ sym (parts_apart test so [] (of_event e) (λ p m y n. other_names e y so (its_rows e p y m n).1 (clear x (here x xs))))
        ∙ ap (λ rs. parts test rs (of_event e)) (append-nil so)))

    -- one event after another
    events_so : (so xs : List Row) → IsDistinct (λ (a b : Row). same_event (event_of a.key) (event_of b.key)) xs → Clear so xs
        → events_taken i w groups own (map (λ x. (event_of x.key, sent (event_of x.key))) xs) ≡ whole (parts test so (flat_map (λ x. of_event (event_of x.key)) xs))
    unfolding events_taken parts IsDistinct
    events_so so [] apart clear = refl
    events_so so (x ∷ xs) apart clear =
        let ps : List (List Row) = of_event (event_of x.key) in
        let rest : List (List Row) = flat_map (λ x. of_event (event_of x.key)) xs in
        event_is so x xs (events_taken i w groups own (map (λ x. (event_of x.key, sent (event_of x.key))) xs)) clear
        ∙ ap (behind_all (as_batches (parts test so ps))) (events_so (so ++ brought test so ps) xs apart.1 (clear_next so xs x apart.0 clear))
        ∙ ap (effect None) (sym (map-append (λ rows. batch rows []) (parts test so ps) (parts test (so ++ brought test so ps) rest)) ∙ ap as_batches (sym (parts_append test so ps rest)))

    -- all events in their order
    pub events_are : events_taken i w groups own (map (λ x. (event_of x.key, sent (event_of x.key))) owns) ≡ whole (parts test [] (packages coming))
    events_are =
        events_so [] owns own_apart (λ y m z n. let lt = n.1 in absurd (omega arith))
        ∙ ap (λ ps. whole (parts test [] ps)) (packages_by_event coming w all_ours table)
