-- What a manifest says is the keys and stamps of the packages that a pull brings, and wanted rows are those of the part that was asked for.
use Rattle.std.proofs.Common.{◌≡◌, ℕ, List, [], ◌∷◌, ◌++◌, Bool, true, false, refl, ap, sym, ◌∙◌, map, filter, flat_map, length, Option, Some, None, option_map}
use Rattle.std.proofs.lemmas.List.Folds.{flat_map-map}
use Rattle.misp_manifest.specs.Manifest.{key_stamp}
use Rattle.misp_manifest.specs.declared.wanted.WantedFields.{WantedFields as Wanted}
use Rattle.misp_model.specs.Answers.{Packed}
use Rattle.misp_model.specs.Manifests.{only_of, pulled_manifest, pulled_only, said_of}
use Rattle.misp_model.specs.Prelude.{NotGranted}
use Rattle.misp_model.specs.Pulling.{pulled_events, pulled_packages, pulled_part, pulled_rows}
use Rattle.misp_model.specs.declared.package.PackageFields.{PackageFields as Package}
use Rattle.misp_history.specs.Answered.{PullsBy, events_in, packages_answered, parts_answered, said_in, to_nobody, with_wanted}
use Rattle.misp_history.proofs.Prelude.{Act, Caller, Key, Other, Refused, Reply, Route, Row, Scene, SyncEvents, SyncManifest, SyncPart, SyncRows, World, answer, arriving_rows, ask_rules, event_of, first_rule}
use Rattle.misp_history.proofs.Prelude.{in_order, is_own, map-append, map-map, ok_answer, packages, scene, stands_before, tables}
use Rattle.misp_history.proofs.Pulled.{all_answered, answered_by_event, packages_are_answered}

module _ {X Y Z : Type 0} (g : Y → Z) (f : X → List Y) where
  -- what is made of each of the lists one after another
  flat_of_maps : (xs : List X) → flat_map (λ x. map g (f x)) xs ≡ map g (flat_map f xs)
  flat_of_maps [] = refl
  flat_of_maps (x ∷ xs) = ap (λ zs. map g (f x) ++ zs) (flat_of_maps xs) ∙ sym (map-append g (f x) (flat_map f xs))

-- ---- what a manifest says
module _ (s : Scene) where
  abbrev own_rows : List Row
  own_rows = filter is_own (in_order stands_before (pulled_rows s))

  -- of each event that is listed it says the parts that are answered
  pub said_of_parts : said_in (answer s SyncManifest) ≡ map (λ event. said_of event.0 (parts_answered s event)) (events_in (answer s SyncEvents))
  unfolding said_in events_in answer ask_rules ok_answer first_rule pulled_manifest pulled_events
  said_of_parts =
      (λ i. map (λ row. said_of (event_of row.key) (sym (all_answered s (event_of row.key)) i)) own_rows)
      ∙ sym (map-map (λ event. said_of event.0 (parts_answered s event)) (λ row. (event_of row.key, length (pulled_packages s (event_of row.key)))) own_rows)

  keys_said : flat_map (λ said. said.parts) (said_in (answer s SyncManifest)) ≡ map (map key_stamp) (packages_answered s)
  unfolding said_in answer ask_rules ok_answer first_rule pulled_manifest
  keys_said =
      flat_map-map (λ said. said.parts) (λ row. said_of (event_of row.key) (pulled_packages s (event_of row.key))) own_rows
      ∙ flat_of_maps (map key_stamp) (λ row. pulled_packages s (event_of row.key)) own_rows
      ∙ ap (map (map key_stamp)) (sym (answered_by_event s))

-- by a pull it says the packages of what arrives
pub keys_of_packages : (n : ℕ) (w : World) (act : Act) (c : Caller) (r : Route) → PullsBy r (scene n w act c) →
    flat_map (λ said. said.parts) (said_in (answer (scene n w act c) SyncManifest)) ≡ map (map key_stamp) (packages (arriving_rows (tables w.log r.from) (w.groups r.from) (to_nobody r)))
keys_of_packages n w act c r h = keys_said (scene n w act c) ∙ ap (map (map key_stamp)) (packages_are_answered n w act c r h)

-- ---- wanted rows
-- the reply where this is there of a part, and this of it is given
abbrev replied : Option Package → Option Package → Reply
replied there given =
    elim (first_rule ((elim there as (λ x. Bool) [ None ↦ true | Some p ↦ false ], NotGranted) ∷ [])) as (λ x. Reply) [
      | None ↦ elim given as (λ x. Reply) [ None ↦ Other | Some p ↦ Packed p ]
      | Some r ↦ Refused r
    ]

wanted_of : (keys : List Key) (part : Option Package) → replied part (option_map (only_of keys) part) ≡ with_wanted keys (replied part part)
unfolding first_rule with_wanted
wanted_of keys None = refl
wanted_of keys (Some p) = refl

pub rows_wanted : (s : Scene) (w : Wanted) → answer s (SyncRows w) ≡ with_wanted w.keys (answer s (SyncPart w.event w.part))
unfolding answer ask_rules ok_answer pulled_only
rows_wanted s w = wanted_of w.keys (pulled_part s w.event w.part)
