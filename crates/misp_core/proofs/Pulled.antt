-- What a pull brings of the rows of one event is what it brings of all.
use Rattle.std.proofs.Common.{◌≡◌, ℕ, zero, suc, ◌+◌, ◌<◌, List, [], ◌∷◌, Option, Some, None, Contains, ap, arith, eqb, filter_map, get_or, length, map, option_to_list, ◌++◌, take, option_map, refl, subst, sym, true, ◌∙◌}
use Rattle.std.specs.List.{cons_option, dedup, slice_get}
use Rattle.std.proofs.lemmas.List.{length-map, take_more}
use Rattle.std.proofs.lemmas.List.Elements.{filter_map-append}
use Rattle.misp_lists.specs.Order.{in_order}
use Rattle.misp_model.specs.Machine.{event_number, event_rows, seeing}
use Rattle.misp_manifest.specs.declared.manifest.ManifestFields.{ManifestFields}
use Rattle.misp_model.specs.Manifests.{pulled_manifest}
use Rattle.misp_model.specs.Package.{nobody}
use Rattle.misp_model.specs.Packing.{packages}
use Rattle.misp_model.specs.Pulling.{arriving_by, pull_route, pulled_events, pulled_part, pulled_rows}
use Rattle.misp_model.specs.Scene.{Partner}
use Rattle.misp_model.specs.declared.package.PackageFields.{PackageFields as Package}
use Rattle.misp_model.proofs.Prelude.{EventId, IsDistinct, IsTable, Row, Scene, event_of, list_all, same_event, same_org}
use Rattle.misp_history.specs.Merging.{arriving_rows, passing_rows}
use Rattle.misp_history.proofs.Moving.{arriving_here}
use Rattle.misp_package.specs.Packing.{AreNumbered, AreNumberedFrom}
use Rattle.misp_manifest.specs.Manifest.{manifest_event}
use Rattle.misp_core.specs.Answers.{event_parts}
use Rattle.misp_core.specs.Pulling.{IsByEvent, event_at, parts_where}
use Rattle.misp_core.specs.declared.reply.EventParts.{EventParts}
use Rattle.misp_core.proofs.Arriving.{arriving_apart, arriving_from, arriving_nobodys, part_ours, part_table}
use Rattle.misp_core.proofs.Numbered.{numbers_ascend, numbers_reach}
use Rattle.misp_core.proofs.PulledEvents.{events_counted, events_said}

-- ---- what arrives at the partner

module _ (s : Scene) where
  abbrev scene_of : Option Partner → Scene
  scene_of partner = record s { partner = partner }

  -- what a pull by a partner brings of rows
  pub pulled_by : (partner : Partner) → s.partner ≡ Some partner → (rows : List Row) → pulled_rows (seeing s rows) ≡ arriving_rows rows s.groups (pull_route s partner)
  unfolding pulled_rows arriving_rows passing_rows
  pulled_by partner e rows = λ i. elim (e i) as (λ x. List Row) [ None ↦ [] | Some p ↦ arriving_by (seeing s rows) (pull_route s p) ]

  -- without one that is nothing
  pub pulled_none : s.partner ≡ None → (rows : List Row) → pulled_rows (seeing s rows) ≡ []
  unfolding pulled_rows
  pulled_none e rows = λ i. elim (e i) as (λ x. List Row) [ None ↦ [] | Some p ↦ arriving_by (seeing s rows) (pull_route s p) ]

  by_partner : {P : Type 0} → (o : Option Partner) → s.partner ≡ o → (s.partner ≡ None → P) → ((p : Partner) → s.partner ≡ Some p → P) → P
  by_partner None e f g = f e
  by_partner (Some p) e f g = g p e

  -- of the rows of one event it brings what it brings of all of that event
  pub pulled_here : (e : EventId) (rows : List Row) → pulled_rows (seeing s (event_rows e rows)) ≡ event_rows e (pulled_rows (seeing s rows))
  pulled_here e rows =
      by_partner s.partner refl (λ none. pulled_none none (event_rows e rows) ∙ ap (event_rows e) (sym (pulled_none none rows)))
      (λ p is. pulled_by p is (event_rows e rows) ∙ arriving_here e rows s.groups (pull_route s p) ∙ ap (event_rows e) (sym (pulled_by p is rows)))

  -- what it brings is nobody's, each key once
  pub pulled_nobodys : (rows : List Row) → list_all (λ row. same_org row.owner nobody) (pulled_rows (seeing s rows)) ≡ true
  pulled_nobodys rows =
      by_partner s.partner refl (λ none. ap (list_all (λ row. same_org row.owner nobody)) (pulled_none none rows))
      (λ p is. ap (list_all (λ row. same_org row.owner nobody)) (pulled_by p is rows) ∙ arriving_nobodys rows s.groups (pull_route s p) refl)

  pub pulled_table : (rows : List Row) → IsTable rows → IsTable (pulled_rows (seeing s rows))
  unfolding IsDistinct
  pulled_table rows table =
      by_partner s.partner refl (λ none. subst IsTable (sym (pulled_none none rows)) tt)
      (λ p is. subst IsTable (sym (pulled_by p is rows)) (arriving_apart rows s.groups (pull_route s p) table))

  -- what comes of a row that is here
  pub pulled_from : (rows : List Row) (x : Row) → Contains (pulled_rows (seeing s rows)) x → (r : Row) × (Contains rows r × (event_number r ≡ event_number x))
  pulled_from rows x m =
      by_partner s.partner refl (λ none. let k = subst (λ l. Contains l x) (pulled_none none rows) m in let lt = k.1 in absurd (omega arith))
      (λ p is. arriving_from rows s.groups (pull_route s p) x (subst (λ l. Contains l x) (pulled_by p is rows) m))

  -- ---- all events

  pub events_pulled : (list rows : List Row) → IsTable rows → IsByEvent list rows
      → map event_parts (pulled_events (seeing s rows)) ≡ filter_map (λ n. parts_where (event_at n) (length (packages (event_rows (event_at n) (pulled_rows (seeing s rows)))))) (dedup eqb (map event_number list))
  unfolding pulled_events
  events_pulled list rows table by =
      sym (events_counted (pulled_rows (seeing s rows)) (pulled_nobodys rows) (pulled_table rows table) (dedup eqb (map event_number list)) (numbers_ascend list rows by)
      (λ x m. let r = pulled_from rows x m in subst (Contains (dedup eqb (map event_number list))) r.1.1 (numbers_reach list rows by r.0 r.1.0)))

  pub manifest_pulled : (list rows : List Row) → IsTable rows → IsByEvent list rows
      → pulled_manifest (seeing s rows) ≡ filter_map (λ n. manifest_event (event_at n) (packages (event_rows (event_at n) (pulled_rows (seeing s rows))))) (dedup eqb (map event_number list))
  unfolding pulled_manifest
  manifest_pulled list rows table by =
      sym (events_said (pulled_rows (seeing s rows)) (pulled_nobodys rows) (pulled_table rows table) (dedup eqb (map event_number list)) (numbers_ascend list rows by)
      (λ x m. let r = pulled_from rows x m in subst (Contains (dedup eqb (map event_number list))) r.1.1 (numbers_reach list rows by r.0 r.1.0)))

-- ---- one part

-- the package of a number among packages that are numbered
pub part_numbered : (e : EventId) (n : ℕ) (ps : List Package) (all : List (List Row)) → AreNumbered e ps → map (λ p. p.rows) ps ≡ all
    → option_map (λ rows. record { event = e; part = n; parts = length all; rows = rows }) (slice_get all n) ≡ slice_get ps n
unfolding AreNumberedFrom
part_numbered e n ps all are is =
    ap (λ (l : List (List Row)). option_map (λ rows. record { event = e; part = n; parts = length l; rows = rows }) (slice_get l n)) (sym is)
    ∙ ap (λ m. option_map (λ rows. record { event = e; part = n; parts = m; rows = rows }) (slice_get (map (λ (p : Package). p.rows) ps) n)) (length-map ps (λ (p : Package). p.rows))
    ∙ from 0 n n ps (length ps) (omega arith) are
  where
    from : (k n m : ℕ) (qs : List Package) (parts : ℕ) → m ≡ k + n → AreNumberedFrom k e parts qs
        → option_map (λ rows. record { event = e; part = m; parts = parts; rows = rows }) (slice_get (map (λ (p : Package). p.rows) qs) n) ≡ slice_get qs n
    from k n m [] parts at a = refl
    from k zero m (q ∷ qs) parts at a =
        let number : m ≡ q.part = omega (arith, at, a.0.1.0) in
        λ i. Some (record { event = sym a.0.0 i; part = number i; parts = sym a.0.1.1 i; rows = q.rows })
    from k (suc n) m (q ∷ qs) parts at a = from (suc k) n m qs parts (omega (arith, at)) a.1

-- of nothing there is no package
pub none_packed : packages [] ≡ []
unfolding packages in_order
none_packed = refl

module _ (s : Scene) (e : EventId) (rows part : List Row) (table : IsTable rows) (is : part ≡ event_rows e rows) where
  its_packages : packages (pulled_rows (seeing s part)) ≡ packages (event_rows e (pulled_rows (seeing s rows)))
  its_packages = ap packages (ap (λ l. pulled_rows (seeing s l)) is ∙ pulled_here s e rows)

  -- the package of a number among the packages of the event
  pub part_is : (n : ℕ) (ps : List Package) → (IsTable part → list_all (λ row. same_event (event_of row.key) e) part ≡ true → map (λ p. p.rows) ps ≡ packages (pulled_rows (seeing s part)))
      → AreNumbered e ps → pulled_part (seeing s rows) e n ≡ slice_get ps n
  unfolding pulled_part
  part_is n ps packed numbered = part_numbered e n ps (packages (event_rows e (pulled_rows (seeing s rows)))) numbered (packed (part_table e rows part is table) (part_ours e rows part is) ∙ its_packages)

  -- and how many there are
  pub count_is : (found : Option EventParts) → (IsTable part → list_all (λ row. same_event (event_of row.key) e) part ≡ true → found ≡ parts_where e (length (packages (pulled_rows (seeing s part)))))
      → found ≡ parts_where e (length (packages (event_rows e (pulled_rows (seeing s rows)))))
  count_is found told = told (part_table e rows part is table) (part_ours e rows part is) ∙ ap (λ all. parts_where e (length all)) its_packages

  -- and what a manifest says of them
  pub said_is : (said : Option ManifestFields) → (IsTable part → list_all (λ row. same_event (event_of row.key) e) part ≡ true → said ≡ manifest_event e (packages (pulled_rows (seeing s part))))
      → said ≡ manifest_event e (packages (event_rows e (pulled_rows (seeing s rows))))
  said_is said told = told (part_table e rows part is table) (part_ours e rows part is) ∙ ap (manifest_event e) its_packages

-- one number more
single : {Y : Type 0} (o : Option Y) → option_to_list o ≡ cons_option o []
single None = refl
single (Some y) = refl

pub one_more : {X Y : Type 0} (f : X → Option Y) (xs : List X) (i : ℕ) (d : X) (found : Option Y) (done : List Y) → i < length xs → found ≡ f (get_or xs i d) → done ≡ filter_map f (take i xs)
    → done ++ option_to_list found ≡ filter_map f (take (i + 1) xs)
one_more f xs i d found done lt h k =
    (λ j. k j ++ option_to_list (h j)) ∙ ap (λ l. filter_map f (take i xs) ++ l) (single (f (get_or xs i d)))
    ∙ sym (filter_map-append f (take i xs) (get_or xs i d ∷ [])) ∙ ap (filter_map f) (sym (take_more xs i d lt))
