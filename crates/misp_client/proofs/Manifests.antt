-- What a manifest lists.
use Rattle.std.proofs.Common.{◌≡◌, ℕ, List, [], ◌∷◌, Option, Some, None, Less, arith, nat_cmp, nat_lt, true}
use Rattle.std.specs.List.Sorted.{IsStrictlySortedBy}
use Rattle.misp_lists.proofs.All.{all_implied}
use Rattle.misp_lists.proofs.Prelude.{AllByRecursion}
use Rattle.misp_elem.specs.Prelude.{EventId}
use Rattle.misp_manifest.specs.declared.manifest.ManifestFields.{ManifestFields}
use Rattle.misp_model.proofs.Prelude.{nat_tests}
use Rattle.misp_protocol.specs.Parts.{IsListed, by_event, parts_listed}
use Rattle.misp_protocol.specs.declared.part_keys.PartKeysFields.{PartKeysFields}
use Rattle.misp_wanted.proofs.ManifestFields.{each_event}
use Rattle.misp_wanted.specs.Manifests.{AreEventsAfter, IsManifest}

-- ---- numbers

lt_less : (a b : ℕ) → nat_lt a b ≡ true → nat_cmp a b ≡ Less
lt_less a b h = grind (arith, nat_tests)

less_than : (a b c : ℕ) → nat_cmp a b ≡ Less → nat_cmp b c ≡ Less → nat_cmp a c ≡ Less
less_than a b c h k = grind (arith, nat_tests)

-- ---- events that stand one after another ascend

abbrev IsBefore : EventId → ManifestFields → Type 0
IsBefore e m = nat_cmp e.0.0 m.event.0.0 ≡ Less

before : (e : EventId) (ms : List ManifestFields) → AreEventsAfter (Some e) ms → AllByRecursion (IsBefore e) ms
before e [] h = tt
before e (m ∷ ms) h =
    let first = lt_less e.0.0 m.event.0.0 h.0.1 in
    (first, all_implied (IsBefore m.event) (IsBefore e) (λ x later. less_than e.0.0 m.event.0.0 x.event.0.0 first later) ms (before m.event ms h.1))

ascend : (last : Option EventId) (ms : List ManifestFields) → AreEventsAfter last ms → IsStrictlySortedBy by_event ms
unfolding IsStrictlySortedBy
ascend last [] h = tt
ascend last (m ∷ ms) h = (before m.event ms h.1, ascend (Some m.event) ms h.1)

-- so its parts are those of a manifest
pub are_listed : (ms : List ManifestFields) → IsManifest ms → (parts : List PartKeysFields) → parts ≡ parts_listed ms → IsListed parts
are_listed ms is parts h = record { events = ms; listed = h; each = each_event ms is; ascend = ascend None ms is.events }
