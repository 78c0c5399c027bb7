-- Parts of events are of those events alone.
use Rattle.std.proofs.Common.{◌≡◌, ◌<◌, ◌-◌, ◌^◌, ℕ, suc, leb, leb-true, List, [], ◌∷◌, ◌++◌, length, refl, sym, ap, subst, arith}
use Rattle.std.specs.List.{AllByRecursion}
use Rattle.std.specs.List.Sorted.{IsStrictlySortedBy}
use Rattle.misp_lists.proofs.All.{all_implied}
use Rattle.misp_lists.proofs.Prelude.{and_parts}
use Rattle.misp_elem.specs.Prelude.{EventId}
use Rattle.misp_manifest.specs.Manifest.{IsManifestEvent}
use Rattle.misp_manifest.specs.declared.manifest.KeyStamp.{KeyStamp}
use Rattle.misp_manifest.specs.declared.manifest.ManifestFields.{ManifestFields}
use Rattle.misp_protocol.specs.Parts.{IsListed, by_event, parts_from, parts_listed}
use Rattle.misp_protocol.specs.declared.part_keys.PartKeysFields.{PartKeysFields}

-- there is one part at least
abbrev pub HasParts : ManifestFields → Type 0
HasParts m = 0 < length m.parts

-- the first of these parts, if there is one, is the first of its event
abbrev BeginsEvent : List PartKeysFields → Type 0
BeginsEvent [] = Unit {0}
BeginsEvent (k ∷ ks) = k.part ≡ 0

-- of the first the number, the keys and the event, and the parts after it
abbrev part_in : List PartKeysFields → ℕ
part_in [] = 0
part_in (k ∷ ks) = k.part

abbrev keys_in : List PartKeysFields → List KeyStamp
keys_in [] = []
keys_in (k ∷ ks) = k.keys

abbrev event_in : EventId → List PartKeysFields → EventId
event_in e [] = e
event_in e (k ∷ ks) = k.event

abbrev rest_in : List PartKeysFields → List PartKeysFields
rest_in [] = []
rest_in (k ∷ ks) = ks

begins : (ms : List ManifestFields) → AllByRecursion HasParts ms → BeginsEvent (parts_listed ms)
begins [] some = tt
begins (m ∷ ms) some = one m.parts some.0
  where
    one : (parts : List (List KeyStamp)) → 0 < length parts → BeginsEvent (parts_from m.event 0 parts ++ parts_listed ms)
    one [] h = absurd (omega arith)
    one (p ∷ ps) h = refl

-- of parts that go on, all are those of the one event
goes_on : (e f : EventId) (n : ℕ) (xs ys : List (List KeyStamp)) (r s : List PartKeysFields) → BeginsEvent r → BeginsEvent s
    → parts_from e (suc n) xs ++ r ≡ parts_from f (suc n) ys ++ s → (xs ≡ ys) × (r ≡ s)
goes_on e f n [] [] r s b c h = (refl, h)
goes_on e f n (x ∷ xs) (y ∷ ys) r s b c h =
    let rest = goes_on e f (suc n) xs ys r s b c (ap rest_in h) in
    ((λ i. keys_in (h i) ∷ rest.0 i), rest.1)
goes_on e f n [] (y ∷ ys) [] s b c h = absurd cc
goes_on e f n [] (y ∷ ys) (k ∷ r) s b c h =
    let number : k.part ≡ suc n = ap (part_in) h in
    absurd (omega (arith, b, number))
goes_on e f n (x ∷ xs) [] r [] b c h = absurd cc
goes_on e f n (x ∷ xs) [] r (k ∷ s) b c h =
    let number : suc n ≡ k.part = ap (part_in) h in
    absurd (omega (arith, c, number))

-- two lists of events that all have parts are one where their parts are
pub events_of_parts : (es ms : List ManifestFields) → AllByRecursion HasParts es → AllByRecursion HasParts ms → parts_listed es ≡ parts_listed ms → es ≡ ms
events_of_parts [] [] some of_ms h = refl
events_of_parts [] (m ∷ ms) some of_ms h = one m.parts of_ms.0 h
  where
    one : (parts : List (List KeyStamp)) → 0 < length parts → ◌≡◌ {A = List PartKeysFields} [] (parts_from m.event 0 parts ++ parts_listed ms) → [] ≡ m ∷ ms
    one [] some h = absurd (omega arith)
    one (p ∷ ps) some h = absurd cc
events_of_parts (a ∷ es) [] some of_ms h = one a.parts some.0 h
  where
    one : (parts : List (List KeyStamp)) → 0 < length parts → parts_from a.event 0 parts ++ parts_listed es ≡ [] → a ∷ es ≡ []
    one [] some h = absurd (omega arith)
    one (p ∷ ps) some h = absurd cc
events_of_parts (a ∷ es) (m ∷ ms) some of_ms h =
    one (events_of_parts es ms some.1 of_ms.1) a.event m.event a.parts m.parts some.0 of_ms.0 h
  where
    one : (parts_listed es ≡ parts_listed ms → es ≡ ms) → (e f : EventId) (xs ys : List (List KeyStamp)) → 0 < length xs → 0 < length ys
        → parts_from e 0 xs ++ parts_listed es ≡ parts_from f 0 ys ++ parts_listed ms
        → record { event = e; parts = xs } ∷ es ≡ record { event = f; parts = ys } ∷ ms
    one again e f [] ys x_some y_some h = absurd (omega arith)
    one again e f (x ∷ xs) [] x_some y_some h = absurd (omega arith)
    one again e f (x ∷ xs) (y ∷ ys) x_some y_some h =
        let rest = goes_on e f 0 xs ys (parts_listed es) (parts_listed ms) (begins es some.1) (begins ms of_ms.1) (ap rest_in h) in
        let more = again rest.1 in
        λ i. record { event = event_in e (h i); parts = keys_in (h i) ∷ rest.0 i } ∷ more i

have_parts : (m : ManifestFields) → IsManifestEvent m → HasParts m
have_parts m is = omega (arith, leb-true 1 (length m.parts) (and_parts (leb 1 (length m.parts)) (leb (length m.parts) (2 ^ 32 - 1)) is.count).0)

-- parts that a manifest can list are of events that ascend, and fit
pub are_events : (ms : List ManifestFields) → AllByRecursion HasParts ms → IsListed (parts_listed ms) → AllByRecursion IsManifestEvent ms × IsStrictlySortedBy by_event ms
are_events ms some is =
    let same = events_of_parts ms is.events some (all_implied IsManifestEvent HasParts have_parts is.events is.each) is.listed in
    (subst (AllByRecursion IsManifestEvent) (sym same) is.each, subst (IsStrictlySortedBy by_event) (sym same) is.ascend)
