-- The packages of the rows of one event after another are those of all that arrives.
use Rattle.std.proofs.Common.{◌≡◌, ◌<◌, ℕ, zero, suc, ◌+◌, Bool, Contains, List, [], ◌∷◌, ◌++◌, ap, arith, cond, eqb, filter, flat_map, get_or, inl, inr, length, lt-ltb, ltb, map, nat_cmp, refl, subst, sym, take, ◌∙◌}
use Rattle.std.specs.List.{dedup}
use Rattle.std.specs.List.Sorted.{IsStrictlySortedBy}
use Rattle.std.proofs.lemmas.List.{flat_map_more, length-map, take_more}
use Rattle.std.proofs.lemmas.List.Elements.{Contains-append_cases}
use Rattle.std.proofs.lemmas.List.Folds.{flat_map-map}
use Rattle.misp_lists.specs.Order.{in_order}
use Rattle.misp_lists.proofs.Elements.{first_or, here, there}
use Rattle.misp_lists.proofs.Lists.{map_twice}
use Rattle.misp_model.specs.Machine.{event_number}
use Rattle.misp_model.specs.Package.{nobody}
use Rattle.misp_model.specs.Packing.{is_own, packages}
use Rattle.misp_model.specs.Passing.{Route}
use Rattle.misp_model.specs.declared.package.PackageFields.{PackageFields as Package}
use Rattle.misp_model.proofs.Prelude.{EventId, IsTable, Row, event_of, event_rows, stands_before}
use Rattle.misp_history.specs.Merging.{arriving_rows}
use Rattle.misp_history.proofs.Moving.{arriving_here}
use Rattle.misp_package.specs.Packing.{AreNumbered, AreNumberedFrom}
use Rattle.misp_core.specs.Prelude.{Group}
use Rattle.misp_core.specs.Pulling.{IsByEvent, event_at}
use Rattle.misp_core.specs.Sending.{all_numbered, events_packed, numbered, numbered_from}
use Rattle.misp_core.proofs.Arriving.{arriving_apart, arriving_from, arriving_nobodys}
use Rattle.misp_core.proofs.Numbered.{numbers_ascend, numbers_reach}
use Rattle.misp_core.proofs.PulledEvents.{numbers_packed, own_ascend}

-- ---- numbers

-- packages that are numbered are those of their rows
numbered_so : (k : ℕ) (e : EventId) (count : ℕ) (ps : List Package) → AreNumberedFrom k e count ps → numbered_from k e count (map (λ p. p.rows) ps) ≡ ps
unfolding AreNumberedFrom numbered_from
numbered_so k e count [] are = refl
numbered_so k e count (p ∷ ps) are =
    λ i. record { event = sym are.0.0 i; part = sym are.0.1.0 i; parts = sym are.0.1.1 i; rows = p.rows } ∷ numbered_so (suc k) e count ps are.1 i

pub are_numbered : (e : EventId) (ps : List Package) (all : List (List Row)) → AreNumbered e ps → map (λ p. p.rows) ps ≡ all → ps ≡ numbered e all
are_numbered e ps all are is =
    sym (numbered_so 0 e (length ps) ps are)
    ∙ ap (λ n. numbered_from 0 e n (map (λ (p : Package). p.rows) ps)) (sym (length-map ps (λ (p : Package). p.rows)))
    ∙ ap (numbered e) is

-- of no package there is none
none_numbered : (e : EventId) (all : List (List Row)) → length all ≡ 0 → numbered e all ≡ []
unfolding numbered_from
none_numbered e [] h = refl
none_numbered e (rows ∷ more) h = absurd (omega (arith, h))

-- ---- lists

module _ {X : Type 0} (f : ℕ → List X) (count : ℕ → ℕ) (none : (n : ℕ) → count n ≡ 0 → f n ≡ []) where
  abbrev has : ℕ → Bool
  has n = ltb 0 (count n)

  one_left : (n k : ℕ) (ns : List ℕ) → count n ≡ k → flat_map f ns ≡ flat_map f (filter has ns) → f n ++ flat_map f ns ≡ flat_map f (cond (has n) (n ∷ filter has ns) (filter has ns))
  one_left n zero ns e h = (λ i. none n e i ++ h i) ∙ ap (λ m. flat_map f (cond (ltb 0 m) (n ∷ filter has ns) (filter has ns))) (sym e)
  one_left n (suc k) ns e h =
      ap (λ l. f n ++ l) h ∙ ap (λ b. flat_map f (cond b (n ∷ filter has ns) (filter has ns))) (sym (lt-ltb 0 (suc k) (omega arith)) ∙ ap (ltb 0) (sym e))

  -- those of which nothing comes may be left out
  others_left : (ns : List ℕ) → flat_map f ns ≡ flat_map f (filter has ns)
  others_left [] = refl
  others_left (n ∷ ns) = one_left n (count n) ns refl (others_left ns)

-- what comes of one more
pub one_more : {X Y : Type 0} (f : X → List Y) (xs : List X) (i : ℕ) (d : X) (found done : List Y) → i < length xs → found ≡ f (get_or xs i d) → done ≡ flat_map f (take i xs)
    → done ++ found ≡ flat_map f (take (i + 1) xs)
one_more f xs i d found done lt h k =
    (λ j. k j ++ h j) ∙ flat_map_more f [] (take i xs) (get_or xs i d) ∙ ap (flat_map f) (sym (take_more xs i d lt))

-- ---- by the numbers of events

module _ (rows : List Row) (groups : List Group) (route : Route) where
  abbrev arriving : List Row
  arriving = arriving_rows rows groups route

  -- of the rows of an event are packed those of the event in all that arrives
  pub event_packed : (e : EventId) (part : List Row) → part ≡ event_rows e rows → packages (arriving_rows part groups route) ≡ packages (event_rows e arriving)
  event_packed e part is = ap packages (ap (λ l. arriving_rows l groups route) is ∙ arriving_here e rows groups route)

  -- the packages of the event of a number
  abbrev pub packed_at : ℕ → List Package
  packed_at n = numbered (event_at n) (packages (event_rows (event_at n) arriving))

  abbrev owns : List Row
  owns = filter is_own (in_order stands_before arriving)

  -- those of all events are all
  pub all_packed : route.holder ≡ nobody → (list : List Row) → IsTable rows → IsByEvent list rows → flat_map packed_at (dedup eqb (map event_number list)) ≡ all_numbered (events_packed arriving)
  unfolding events_packed event_number
  all_packed held list table by =
      others_left packed_at (λ n. length (packages (event_rows (event_at n) arriving))) (λ n h. none_numbered (event_at n) (packages (event_rows (event_at n) arriving)) h) (dedup eqb (map event_number list))
      ∙ ap (flat_map packed_at)
      (numbers_packed arriving (arriving_nobodys rows groups route held) (arriving_apart rows groups route table) (dedup eqb (map event_number list)) (numbers_ascend list rows by)
      (λ x m. let r = arriving_from rows groups route x m in subst (Contains (dedup eqb (map event_number list))) r.1.1 (numbers_reach list rows by r.0 r.1.0)))
      ∙ flat_map-map packed_at event_number owns
      ∙ sym (flat_map-map (λ e. numbered e.0 e.1) (λ row. (event_of row.key, packages (event_rows (event_of row.key) arriving))) owns)

-- ---- the events of packages

of_numbered : (k : ℕ) (e : EventId) (count : ℕ) (all : List (List Row)) (p : Package) → Contains (numbered_from k e count all) p → e ≡ p.event
unfolding numbered_from
of_numbered k e count [] p m = let lt = m.1 in absurd (omega arith)
of_numbered k e count (rows ∷ more) p m =
    elim (first_or (record { event = e; part = k; parts = count; rows = rows }) (numbered_from (suc k) e count more) p m) [
      | inl is ↦ ap (λ (q : Package). q.event) is
      | inr n ↦ of_numbered (suc k) e count more p n
    ]

-- each package is of one of the events
pub event_of_package : (events : List (EventId × List (List Row))) (p : Package) → Contains (all_numbered events) p → Contains (map (λ e. e.0) events) p.event
event_of_package [] p m = let lt = m.1 in absurd (omega arith)
event_of_package (e ∷ events) p m =
    elim (Contains-append_cases (numbered e.0 e.1) (all_numbered events) p m) [
      | inl k ↦ subst (Contains (map (λ e. e.0) (e ∷ events))) (of_numbered 0 e.0 (length e.1) e.1 p k) (here e.0 (map (λ e. e.0) events))
      | inr k ↦ there e.0 (map (λ e. e.0) events) p.event (event_of_package events p k)
    ]

-- the events ascend by their numbers
pub events_ascend : (rows : List Row) (groups : List Group) (route : Route) → route.holder ≡ nobody → IsTable rows
    → IsStrictlySortedBy nat_cmp (map (λ (e : EventId × List (List Row)). e.0.0.0) (events_packed (arriving_rows rows groups route)))
unfolding events_packed event_number
events_ascend rows groups route held table =
    subst (IsStrictlySortedBy nat_cmp) (sym (map_twice (λ row. (event_of row.key, packages (event_rows (event_of row.key) (arriving_rows rows groups route)))) (λ e. e.0.0.0) event_number (λ row. refl) (owns rows groups route)))
    (own_ascend (arriving_rows rows groups route) (arriving_nobodys rows groups route held) (arriving_apart rows groups route table))
