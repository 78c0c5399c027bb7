-- What a synchronising key is answered is what a pull brings, package by package.
use Rattle.std.proofs.Common.{◌≡◌, ◌+◌, arith, ℕ, suc, List, [], ◌∷◌, ◌++◌, Bool, true, false, refl, ap, sym, ◌∙◌, subst, map, filter, filter_map, flat_map, length, Option, Some, None, option_map, ◌&&◌, not, Contains, append-nil, inl, inr}
use Rattle.std.specs.List.{range_with_len, slice_get}
use Rattle.std.proofs.lemmas.List.Folds.{flat_map-map}
use Rattle.misp_history.proofs.Prelude.{Act, Caller, Element, EventId, Group, Inst, IsDistinct, IsTable, Key, OrgId, Other, Proposal, Reference, Refused, Reply, Route, Row, Scene, Sighting, Verdict, World, all_has, all_of}
use Rattle.misp_history.proofs.Prelude.{and_parts, answer, apart_in_order, arrived, arriving_rows, ask_rules, element_passes, event_key, event_of, event_rows, false≢true, filter_within, first_or, first_rule, here, in_one_cell, in_order}
use Rattle.misp_history.proofs.Prelude.{in_order_rows, is_own, kept_has, known_at, lets_out, list_all, of_part, ok_answer, others_with, packages, part_is_table, passes, passes_at, passes_by, passing_rows, row_cell_back, same_event, one_cell, from_in_order, false_from_ne_true}
use Rattle.misp_history.proofs.Prelude.{same_event-refl, same_event-sound, same_key-sound, same_org, same_org-refl, scene, sent_copy, stands_before, tables, there}
use Rattle.misp_ids.specs.declared.label.Way.{Way}
use Rattle.misp_groups.specs.Audience.{carries}
use Rattle.misp_model.specs.Prelude.{NotGranted}
use Rattle.misp_history.proofs.Prelude.{all-map, cons_option, known}
use Rattle.misp_history.proofs.Prelude.{SyncGroups, SyncPart, AllByRecursion, same_org-sound}
use Rattle.misp_model.specs.Answers.{Packed, Shares}
use Rattle.misp_model.specs.Package.{nobody}
use Rattle.misp_model.specs.Packing.{cut}
use Rattle.misp_model.specs.Pulling.{arriving_by, pull_route, pulled_events, pulled_groups, pulled_packages, pulled_part, pulled_rows}
use Rattle.misp_model.specs.declared.package.PackageFields.{PackageFields as Package}
use Rattle.misp_history.specs.Answered.{PullsBy, events_in, packages_answered, parts_answered, rows_in, to_nobody}
use Rattle.misp_history.proofs.Sent.{arriving_table}

-- ---- lists
module _ {X : Type 0} where
  -- what is got at each place of a list is the list
  all_got : (g : ℕ → Option X) (a : ℕ) (xs : List X) → ((i : ℕ) → g (a + i) ≡ slice_get xs i) → filter_map g (range_with_len a (length xs)) ≡ xs
  all_got g a [] h = refl
  all_got g a (x ∷ xs) h =
      ap (λ o. cons_option o (filter_map g (range_with_len (a + 1) (length xs)))) (ap g (omega arith) ∙ h 0)
      ∙ ap (λ ys. x ∷ ys) (all_got g (a + 1) xs (λ i. ap g (omega arith) ∙ h (suc i)))

module _ {X Y : Type 0} (f g : X → List Y) where
  -- two that agree on the members of a list give the same of it
  flat_agree : (xs : List X) → ((x : X) → Contains xs x → f x ≡ g x) → flat_map f xs ≡ flat_map g xs
  flat_agree [] h = refl
  flat_agree (x ∷ xs) h = λ i. h x (here x xs) i ++ flat_agree xs (λ y m. h y (there x xs y m)) i

-- where the members of a list fail a test, nothing is kept
none_kept : (p : Row → Bool) (x : Row) (rows : List Row) → AllByRecursion (λ y. in_one_cell x y ≡ false) rows → ((y : Row) → Contains rows y → p y ≡ true → in_one_cell x y ≡ true) → filter p rows ≡ []
none_kept p x [] a one = refl
none_kept p x (y ∷ rows) a one =
    rw (false_from_ne_true (p y) (λ g. false≢true (sym a.0 ∙ one y (here y rows) g))) (none_kept p x rows a.1 (λ z m. one z (there y rows z m)))

-- the only row of a table that passes a test
only_one : (p : Row → Bool) (x : Row) (rows : List Row) → IsTable rows → Contains rows x → p x ≡ true → ((y : Row) → Contains rows y → p y ≡ true → in_one_cell x y ≡ true) → filter p rows ≡ x ∷ []
unfolding IsDistinct
only_one p x [] table m h one = let lt = m.1 in absurd (omega arith)
only_one p x (y ∷ rows) table m h one = elim (first_or y rows x m) [
  | inl e ↦ rw (ap p e ∙ h) (
      (λ i. e i ∷ none_kept p y rows table.0 (λ z n g. subst (λ (r : Row). in_one_cell r z ≡ true) (sym e) (one z (there y rows z n) g)) i))
  | inr n ↦ rw (false_from_ne_true (p y) (λ g. false≢true (sym (row_cell_back y x (all_of (λ z. in_one_cell y z ≡ false) rows x table.0 n)) ∙ one y (here y rows) g)))
      (only_one p x rows table.1 n h (λ z k. one z (there y rows z k)))
]

-- ---- the packages of each event
module _ (rows : List Row) (w : OrgId) (owned : list_all (λ row. same_org row.owner w) rows ≡ true) (table : IsTable rows) where
  abbrev sorted : List Row
  sorted = in_order stands_before rows

  event_sorted : (e : EventId) → in_order stands_before (event_rows e rows) ≡ event_rows e sorted
  event_sorted e = sym (in_order_rows (λ row. same_event (event_of row.key) e) rows)

  -- the rows of an event have one own row
  own_alone : (x : Row) → Contains (filter is_own sorted) x → filter is_own (event_rows (event_of x.key) sorted) ≡ x ∷ []
  unfolding is_own in_one_cell event_of event_key
  own_alone x m =
      let mine = of_part is_own sorted x m in
      only_one is_own x (event_rows (event_of x.key) sorted)
      (part_is_table (λ row. same_event (event_of row.key) (event_of x.key)) sorted (apart_in_order in_one_cell row_cell_back stands_before rows table))
      (kept_has (λ row. same_event (event_of row.key) (event_of x.key)) sorted x mine.1 (same_event-refl (event_of x.key))) mine.0
      (λ y n g.
      let here_ = of_part (λ row. same_event (event_of row.key) (event_of x.key)) sorted y n in
      one_cell x y
      (same_org-sound x.owner w (all_has (λ row. same_org row.owner w) rows x owned (from_in_order stands_before rows x mine.1))
      ∙ sym (same_org-sound y.owner w (all_has (λ row. same_org row.owner w) rows y owned (from_in_order stands_before rows y here_.1))))
      (same_key-sound x.key (event_key (event_of x.key)) mine.0
      ∙ ap event_key (sym (same_event-sound (event_of y.key) (event_of x.key) here_.0))
      ∙ sym (same_key-sound y.key (event_key (event_of y.key)) g)))

  others_same : (x : Row) → others_with (event_rows (event_of x.key) sorted) x ≡ others_with sorted x
  unfolding others_with
  others_same x =
      filter_within (λ r. same_event (event_of r.key) (event_of x.key) && not (is_own r)) (λ r. same_event (event_of r.key) (event_of x.key) && not (is_own r))
      (λ r. same_event (event_of r.key) (event_of x.key))
      (λ r h. refl) (λ r h. (and_parts _ _ h).0) sorted

  packages_of_one : (x : Row) → Contains (filter is_own sorted) x → packages (event_rows (event_of x.key) rows) ≡ map (λ c. x ∷ c) (cut 64 (others_with sorted x))
  unfolding packages
  packages_of_one x m =
      (λ i. flat_map (λ y. map (λ c. y ∷ c) (cut 64 (others_with (event_sorted (event_of x.key) i) y))) (filter is_own (event_sorted (event_of x.key) i)))
      ∙ ap (flat_map (λ y. map (λ c. y ∷ c) (cut 64 (others_with (event_rows (event_of x.key) sorted) y)))) (own_alone x m)
      ∙ append-nil (map (λ c. x ∷ c) (cut 64 (others_with (event_rows (event_of x.key) sorted) x)))
      ∙ ap (λ rs. map (λ c. x ∷ c) (cut 64 rs)) (others_same x)

  pub packages_by_event : flat_map (λ x. packages (event_rows (event_of x.key) rows)) (filter is_own sorted) ≡ packages rows
  unfolding packages
  packages_by_event = flat_agree (λ x. packages (event_rows (event_of x.key) rows)) (λ x. map (λ c. x ∷ c) (cut 64 (others_with sorted x))) (filter is_own sorted) packages_of_one

-- ---- what is answered
-- the answer where this is there of a part
abbrev answered : EventId → ℕ → ℕ → Option (List Row) → Reply
answered e n parts o =
    let part : Option Package = option_map (λ rows. record { event = e; part = n; parts = parts; rows = rows }) o in
    elim (first_rule ((elim part as (λ x. Bool) [ None ↦ true | Some p ↦ false ], NotGranted) ∷ [])) as (λ x. Reply) [
      | None ↦ elim part as (λ x. Reply) [ None ↦ Other | Some p ↦ Packed p ]
      | Some r ↦ Refused r
    ]

rows_answered : (e : EventId) (n parts : ℕ) (o : Option (List Row)) → rows_in (answered e n parts o) ≡ o
unfolding rows_in first_rule
rows_answered e n parts None = refl
rows_answered e n parts (Some rows) = refl

module _ (s : Scene) where
  part_answered : (e : EventId) (n : ℕ) → rows_in (answer s (SyncPart e n)) ≡ slice_get (pulled_packages s e) n
  unfolding answer ask_rules ok_answer pulled_part
  part_answered e n = rows_answered e n (length (pulled_packages s e)) (slice_get (pulled_packages s e) n)

  -- the parts of an event are its packages
  pub all_answered : (e : EventId) → parts_answered s (e, length (pulled_packages s e)) ≡ pulled_packages s e
  unfolding parts_answered
  all_answered e = all_got (λ n. rows_in (answer s (SyncPart e n))) 0 (pulled_packages s e) (λ i. part_answered e (0 + i) ∙ ap (slice_get (pulled_packages s e)) (omega arith))

  pub answered_by_event : packages_answered s ≡ flat_map (λ x. pulled_packages s (event_of x.key)) (filter is_own (in_order stands_before (pulled_rows s)))
  unfolding packages_answered events_in answer ask_rules ok_answer first_rule pulled_events
  answered_by_event =
      flat_map-map (parts_answered s) (λ x. (event_of x.key, length (pulled_packages s (event_of x.key)))) (filter is_own (in_order stands_before (pulled_rows s)))
      ∙ (λ i. flat_map (λ x. all_answered (event_of x.key) i) (filter is_own (in_order stands_before (pulled_rows s))))

-- ---- a route, and where it goes into
module _ (rows : List Row) (groups : List Group) (r : Route) (j : Inst) where
  into_by : (row : Row) (k : Key) → passes_by rows groups (record r { into = j }) row k ≡ passes_by rows groups r row k
  unfolding passes_by element_passes passes_at lets_out sent_copy
  into_by row (Element e p) = refl
  into_by row (Reference e x t u) = refl
  into_by row (Proposal e n) = refl
  into_by row (Verdict e n i v) = refl
  into_by row (Sighting e t i v u) = refl

-- what arrives is the same whichever instance it goes into
into_apart : (rows : List Row) (groups : List Group) (r : Route) (j : Inst) → arriving_rows rows groups (record r { into = j }) ≡ arriving_rows rows groups r
unfolding arriving_rows passing_rows passes arrived
into_apart rows groups r j =
    λ i. map (arrived r) (filter (λ row. into_by (known rows groups r.from r.«for») groups r j row row.key i) (known rows groups r.from r.«for»))

module _ (n : ℕ) (w : World) (act : Act) (c : Caller) (r : Route) (h : PullsBy r (scene n w act c)) where
  -- the route of a pull by the destination, from an instance for an organisation
  abbrev pulling : Way → Inst → OrgId → Route
  pulling way a o = record { way = way; from = a; «for» = o; dest = r.dest; into = r.dest; holder = nobody }

  -- what arrives by it there
  abbrev arrives_from : Way → Inst → OrgId → List Row
  arrives_from way a o = arriving_rows (tables w.log a) (w.groups a) (pulling way a o)

  partner_is : c.partner ≡ Some (record { inst = r.dest; way = r.way })
  unfolding scene
  partner_is = h.partner

  at_is : act.at ≡ r.from
  unfolding scene
  at_is = h.at

  by_is : c.org ≡ r.«for»
  unfolding scene
  by_is = h.by

  pulled_there : pulled_rows (scene n w act c) ≡ arrives_from r.way act.at c.org
  unfolding pulled_rows scene known_at arriving_rows passing_rows
  pulled_there = λ i. elim (partner_is i) as (λ x. List Row) [ None ↦ [] | Some partner ↦ arriving_by (scene n w act c) (pull_route (scene n w act c) partner) ]

  pub pulled_is : pulled_rows (scene n w act c) ≡ arriving_rows (tables w.log r.from) (w.groups r.from) (to_nobody r)
  pulled_is =
      pulled_there
      ∙ (λ i. arrives_from r.way (at_is i) (by_is i))
      ∙ into_apart (tables w.log r.from) (w.groups r.from) (to_nobody r) r.dest

  pub groups_are : answer (scene n w act c) SyncGroups ≡ Shares (filter (λ g. carries g r.«for» r.dest) (w.groups r.from))
  unfolding answer ask_rules ok_answer first_rule pulled_groups scene
  groups_are =
      ap Shares
      ((λ i. elim (partner_is i) as (λ x. List Group) [ None ↦ [] | Some partner ↦ filter (λ g. carries g c.org partner.inst) (w.groups act.at) ])
      ∙ (λ i. filter (λ g. carries g (by_is i) r.dest) (w.groups (at_is i))))

  all_nobodys : list_all (λ row. same_org row.owner nobody) (arriving_rows (tables w.log r.from) (w.groups r.from) (to_nobody r)) ≡ true
  unfolding arriving_rows arrived
  all_nobodys = all-map (λ row. same_org row.owner nobody) (arrived (to_nobody r)) (λ row. same_org-refl nobody) (passing_rows (tables w.log r.from) (w.groups r.from) (to_nobody r))

  pub packages_are_answered : packages_answered (scene n w act c) ≡ packages (arriving_rows (tables w.log r.from) (w.groups r.from) (to_nobody r))
  packages_are_answered =
      answered_by_event (scene n w act c)
      ∙ ap (λ rows. flat_map (λ x. packages (event_rows (event_of x.key) rows)) (filter is_own (in_order stands_before rows))) pulled_is
      ∙ packages_by_event (arriving_rows (tables w.log r.from) (w.groups r.from) (to_nobody r)) nobody all_nobodys (arriving_table w.log (w.groups r.from) (to_nobody r))

-- ---- one part
is_part : Reply → Bool
is_part (Packed p) = true
is_part _ = false

package_or : Package → Reply → Package
package_or q (Packed p) = p
package_or q _ = q

-- a part that is answered is the one that was asked for
named_so : (e : EventId) (n parts : ℕ) (o : Option (List Row)) (p : Package) → answered e n parts o ≡ Packed p → (p.event ≡ e) × ((p.part ≡ n) × (p.parts ≡ parts))
unfolding first_rule is_part package_or
named_so e n parts None p k = absurd (false≢true (ap is_part k))
named_so e n parts (Some rows) p k = (ap (λ r. (package_or p r).event) (sym k), (ap (λ r. (package_or p r).part) (sym k), ap (λ r. (package_or p r).parts) (sym k)))

module _ (s : Scene) (e : EventId) (n : ℕ) where
  pub part_of : (p : Package) → answer s (SyncPart e n) ≡ Packed p → (slice_get (pulled_packages s e) n ≡ Some p.rows) × ((p.event ≡ e) × ((p.part ≡ n) × (p.parts ≡ length (pulled_packages s e))))
  unfolding answer ask_rules ok_answer pulled_part rows_in
  part_of p h = (sym (part_answered s e n) ∙ ap rows_in h, named_so e n (length (pulled_packages s e)) (slice_get (pulled_packages s e) n) p h)

  pub part_absent : slice_get (pulled_packages s e) n ≡ None → answer s (SyncPart e n) ≡ Refused NotGranted
  unfolding answer ask_rules ok_answer pulled_part first_rule
  part_absent h = ap (answered e n (length (pulled_packages s e))) h
