-- What a package carries was granted to the organisation for which it passes.
use Rattle.std.proofs.Common.{◌≡◌, ℕ, suc, Bool, List, [], ◌∷◌, Contains, Option, Some, None, arith, ap, filter, flat_map, inl, inr, length, option_map, refl, subst, sym, zero}
use Rattle.std.specs.List.{slice_get}
use Rattle.std.proofs.lemmas.List.Elements.{Contains-append_cases}
use Rattle.misp_ids.specs.declared.label.Label.{Label}
use Rattle.misp_ids.specs.declared.label.Way.{Way}
use Rattle.misp_levels.specs.Levels.{down, landed, lowering}
use Rattle.misp_manifest.specs.declared.wanted.WantedFields.{WantedFields}
use Rattle.misp_lists.specs.Order.{in_order}
use Rattle.misp_lists.proofs.All.{all_of}
use Rattle.misp_lists.proofs.Lists.{some_same}
use Rattle.misp_lists.proofs.Elements.{first_or, here, map_from, of_part, there}
use Rattle.misp_model.specs.Manifests.{is_asked_for, only_of, pulled_only}
use Rattle.misp_model.specs.Packing.{arrived, is_own, packages}
use Rattle.misp_model.specs.Passing.{Route, passes, route_to}
use Rattle.misp_model.specs.Pulling.{pull_route, pulled_packages, pulled_part, pulled_rows}
use Rattle.misp_model.specs.Scene.{Partner}
use Rattle.misp_model.specs.declared.package.PackageFields.{PackageFields as Package}
use Rattle.misp_model.proofs.Prelude.{EventId, Group, Inst, IsTable, OrgId, Row, Scene, event_of, event_rows, is_known, known, part_is_table, same_event, seeing, stands_before}
use Rattle.misp_history.specs.Merging.{IsPackageOf, arriving_rows, passing_rows}
use Rattle.misp_history.proofs.Packing.{packages_are}
use Rattle.misp_history.proofs.Passed.{passing_granted}
use Rattle.misp_core.proofs.Arriving.{arriving_apart}
use Rattle.misp_core.proofs.Pulled.{pulled_by, pulled_none, pulled_table}
use Rattle.misp_core.specs.Sending.{events_packed, numbered, numbered_from, packages_pushed, rows_pushed}
use Rattle.misp_sync.specs.Laws.{IsGranted, IsGrantedToPartner}

-- ---- of packages

-- a row of a package of an event is among those that were packed
packed_from : (rows : List Row) (table : IsTable rows) (e : EventId) (p : List Row) (x : Row) → Contains (packages (event_rows e rows)) p → Contains p x → Contains rows x
packed_from rows table e p x m n =
    let of_e : (Row → Bool) = λ row. same_event (event_of row.key) e in
    let is = all_of (IsPackageOf (event_rows e rows)) (packages (event_rows e rows)) p (packages_are (event_rows e rows) (part_is_table of_e rows table)) m in
    (of_part of_e rows x (is.come x n)).1

pub flat_from : {X Y : Type 0} (f : X → List Y) (xs : List X) (y : Y) → Contains (flat_map f xs) y → (x : X) × (Contains xs x × Contains (f x) y)
flat_from f [] y m = let lt = m.1 in absurd (omega arith)
flat_from f (x ∷ xs) y m = elim (Contains-append_cases (f x) (flat_map f xs) y m) [
  | inl n ↦ (x, (here x xs, n))
  | inr n ↦ (let g = flat_from f xs y n in (g.0, (there x xs g.0 g.1.0, g.1.1)))
]

numbered_among : (n : ℕ) (e : EventId) (count : ℕ) (all : List (List Row)) (p : Package) → Contains (numbered_from n e count all) p → Contains all p.rows
unfolding numbered_from
numbered_among n e count [] p m = let lt = m.1 in absurd (omega arith)
numbered_among n e count (rows ∷ more) p m = elim (first_or (record { event = e; part = n; parts = count; rows = rows }) (numbered_from (suc n) e count more) p m) [
  | inl is ↦ subst (Contains (rows ∷ more)) (ap (λ (q : Package). q.rows) is) (here rows more)
  | inr k ↦ there rows more p.rows (numbered_among (suc n) e count more p k)
]

pub got_among : (all : List (List Row)) (n : ℕ) (rows : List Row) → slice_get all n ≡ Some rows → Contains all rows
got_among [] n rows is = absurd cc
got_among (x ∷ all) zero rows is = subst (Contains (x ∷ all)) (some_same x rows is) (here x all)
got_among (x ∷ all) (suc n) rows is = there x all rows (got_among all n rows is)

-- ---- of what arrives

module _ (rows : List Row) (groups : List Group) (route : Route) (table : IsTable rows) where
  arriving_granted : (x : Row) → Contains (arriving_rows rows groups route) x → IsGranted rows groups route x
  unfolding arriving_rows arrived passing_rows known
  arriving_granted x m =
      let seen : List Row = known rows groups route.from route.«for» in
      let f = map_from (arrived route) (passing_rows rows groups route) x m in
      record {
        row = f.0;
        among = (of_part (is_known rows groups route.from route.«for») rows f.0 (of_part (passes seen groups route) seen f.0 f.1.0).1).1;
        granted_so = passing_granted rows groups route table f.0 f.1.0;
        arrives = sym f.1.1;
        label = ap (λ (r : Row). r.label) (sym f.1.1);
      }

-- ---- a pull

module _ (s : Scene) (rows : List Row) (table : IsTable rows) where
  pulled_granted : (x : Row) → Contains (pulled_rows (seeing s rows)) x → IsGrantedToPartner s rows x
  pulled_granted x m = one s.partner refl
    where
      one : (o : Option Partner) → s.partner ≡ o → IsGrantedToPartner s rows x
      one None e = let lt = (subst (λ l. Contains l x) (pulled_none s e rows) m).1 in absurd (omega arith)
      one (Some p) e =
          record { partner = p; is = e; on_route = arriving_granted rows s.groups (pull_route s p) table x (subst (λ l. Contains l x) (pulled_by s p e rows) m) }

  pub package_granted : (e : EventId) (p : List Row) (x : Row) → Contains (pulled_packages (seeing s rows) e) p → Contains p x → IsGrantedToPartner s rows x
  package_granted e p x m n = pulled_granted x (packed_from (pulled_rows (seeing s rows)) (pulled_table s rows table) e p x m n)

  pub part_granted : (e : EventId) (n : ℕ) (p : Package) (x : Row) → pulled_part (seeing s rows) e n ≡ Some p → Contains p.rows x → IsGrantedToPartner s rows x
  unfolding pulled_part
  part_granted e n p x is m = one (slice_get all n) refl is
    where
      all : List (List Row)
      all = pulled_packages (seeing s rows) e

      one : (o : Option (List Row)) → slice_get all n ≡ o → option_map (λ rows. record { event = e; part = n; parts = length all; rows = rows }) o ≡ Some p → IsGrantedToPartner s rows x
      one None got is = absurd cc
      one (Some rs) got is = package_granted e rs x (got_among all n rs got) (subst (λ l. Contains l x) (sym (ap (λ (q : Package). q.rows) (some_same _ p is))) m)

  pub wanted_granted : (w : WantedFields) (p : Package) (x : Row) → pulled_only (seeing s rows) w ≡ Some p → Contains p.rows x → IsGrantedToPartner s rows x
  unfolding pulled_only only_of
  wanted_granted w p x is m = one (pulled_part (seeing s rows) w.event w.part) refl is
    where
      one : (o : Option Package) → pulled_part (seeing s rows) w.event w.part ≡ o → option_map (only_of w.keys) o ≡ Some p → IsGrantedToPartner s rows x
      one None got is = absurd cc
      one (Some q) got is =
          part_granted w.event w.part q x got
          (of_part (is_asked_for q.event w.keys) q.rows x (subst (λ l. Contains l x) (sym (ap (λ (r : Package). r.rows) (some_same (only_of w.keys q) p is))) m)).1

-- ---- a push

module _ (way : Way) (here : Inst) (groups : List Group) (org : OrgId) (dest : Inst) (rows : List Row) (table : IsTable rows) where
  pub push_granted : (p : Package) (x : Row) → Contains (packages_pushed way here groups org dest rows) p → Contains p.rows x → IsGranted rows groups (route_to way here org dest) x
  unfolding events_packed
  push_granted p x m n =
      let comes : List Row = rows_pushed way here groups org dest rows in
      let packed : (Row → EventId × List (List Row)) = λ row. (event_of row.key, packages (event_rows (event_of row.key) comes)) in
      let f = flat_from (λ e. numbered e.0 e.1) (events_packed comes) p m in
      let g = map_from packed (filter is_own (in_order stands_before comes)) f.0 f.1.0 in
      let among : Contains f.0.1 p.rows = numbered_among 0 f.0.0 (length f.0.1) f.0.1 p f.1.1 in
      let event : EventId = event_of g.0.key in
      arriving_granted rows groups (route_to way here org dest) table x
      (packed_from comes (arriving_apart rows groups (route_to way here org dest) table) event p.rows x (subst (λ (e : EventId × List (List Row)). Contains e.1 p.rows) (sym g.1.1) among) n)

-- ---- labels

pub internal_lands : (label : Label) → landed Way.Internal label ≡ label
unfolding down lowering landed
internal_lands Label.Own = refl
internal_lands Label.Community = refl
internal_lands Label.Connected = refl
internal_lands Label.All = refl
internal_lands (Label.Group g) = refl
internal_lands Label.Inherit = refl

pub pull_lands : (label : Label) → landed Way.Pull label ≡ down label 1
unfolding lowering down landed
pull_lands label = refl

pub push_lands : (label : Label) → landed Way.Push label ≡ down label 1
unfolding lowering down landed
push_lands label = refl
