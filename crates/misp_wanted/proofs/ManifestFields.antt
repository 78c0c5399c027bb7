-- Manifests and wanted lists are read as they are written.
use Rattle.std.proofs.Common.{◌≡◌, ℕ, ◌-◌, ◌<◌, ◌^◌, true, List, [], ◌∷◌, ◌++◌, length, flat_map, Option, Some, None, Ok, refl, arith, leb, leb-true}
use Rattle.misp_lists.proofs.Prelude.{IsBytes, and_parts}
use Rattle.misp_elem.specs.Prelude.{AllByRecursion, EventId, IsBetween, IsKey, IsStamp, IsUid}
use Rattle.misp_elem.specs.Spelling.{uid}
use Rattle.misp_elem.specs.WireReading.{IsKeyAfter}
use Rattle.misp_elem.proofs.Exact.{IsField, IsMade, all_again, all_takes, first, itself, last, tested, under, whole}
use Rattle.misp_elem.proofs.Keys.{event_field}
use Rattle.misp_elem.proofs.Numbers.{stamp_field}
use Rattle.misp_model.specs.Prelude.{Key}
use Rattle.misp_manifest.specs.Manifest.{AreStampedAfter, IsKeysOfPart, IsManifestEvent}
use Rattle.misp_manifest.specs.Wanted.{AreOwnAfter, IsOwnKeyAfter, IsWanted}
use Rattle.misp_manifest.specs.declared.manifest.KeyStamp.{KeyStamp}
use Rattle.misp_manifest.specs.declared.manifest.ManifestFields.{ManifestFields}
use Rattle.misp_manifest.specs.declared.wanted.WantedFields.{WantedFields}
use Rattle.misp_package.specs.Spelling.{number}
use Rattle.misp_package.proofs.PackageFields.{form_field, number_field_32}
use Rattle.misp_wanted.specs.ManifestReading.{any_part, event_after_at, event_before, key_before, key_stamp_at, manifest_at, manifest_event_at, manifest_of_bytes, part_at, parts_at, stands_after, wanted_at, wanted_before, wanted_keys_at, wanted_of_bytes}
use Rattle.misp_wanted.specs.ManifestSpelling.{framed_key, manifest_form, spell_event, spell_key_stamp, spell_keys, spell_manifest, spell_wanted, wanted_form}
use Rattle.misp_wanted.specs.Manifests.{AreEventsAfter, IsManifest}
use Rattle.misp_wanted.proofs.KeyReadings.{listed_wholly, wanted_wholly}
use Rattle.misp_wanted.proofs.ListFields.{AreAfter, counted_field, framed_field}

few_keys : (n : ℕ) → IsBetween 1 65 n → n < 2 ^ 32
few_keys n h = omega (arith, leb-true n 65 (and_parts (leb 1 n) (leb n 65) h).1)

few : (least n : ℕ) → IsBetween least (2 ^ 32 - 1) n → n < 2 ^ 32
few least n h = omega (arith, leb-true n (2 ^ 32 - 1) (and_parts (leb least n) (leb n (2 ^ 32 - 1)) h).1)

-- ---- the keys of a package

abbrev IsStamped : EventId → Option Key → KeyStamp → Type 0
IsStamped e b k = (IsKey k.key × IsKeyAfter e b k.key) × IsStamp k.stamp

key_stamp_field : (e : EventId) (b : Option Key) → IsField (IsStamped e b) spell_key_stamp (key_stamp_at e b)
unfolding key_stamp_at
key_stamp_field e b =
    whole (λ k. (k.key, k.stamp)) (IsStamped e b) spell_key_stamp (λ k. refl) (λ k h. h) (λ p h. h) (λ p h. refl)
    (first (framed_field (listed_wholly e b)) (λ k. last (λ s. record { key = k; stamp = s }) stamp_field))

stamped_to : (e : EventId) (b : Option Key) (ks : List KeyStamp) → AreAfter (IsStamped e) key_before b ks → AreStampedAfter e b ks
stamped_to e b [] h = tt
stamped_to e b (k ∷ ks) h = (h.0, stamped_to e (Some k.key) ks h.1)

stamped_from : (e : EventId) (b : Option Key) (ks : List KeyStamp) → AreStampedAfter e b ks → AreAfter (IsStamped e) key_before b ks
stamped_from e b [] h = tt
stamped_from e b (k ∷ ks) h = (h.0, stamped_from e (Some k.key) ks h.1)

part_field : (e : EventId) → IsField (IsKeysOfPart e) spell_keys (part_at e)
unfolding part_at
part_field e =
    under (IsKeysOfPart e) (λ ks h. record { count = h.0; stamped = stamped_to e None ks h.1 }) (λ ks h. (h.count, stamped_from e None ks h.stamped))
    (counted_field key_before (key_stamp_field e) 1 65 None few_keys)

-- ---- the packages of an event

all_to : (e : EventId) (ps : List (List KeyStamp)) → AreAfter (λ (u : Unit {0}). IsKeysOfPart e) any_part tt ps → AllByRecursion (IsKeysOfPart e) ps
all_to e [] h = tt
all_to e (p ∷ ps) h = (h.0, all_to e ps h.1)

all_from : (e : EventId) (ps : List (List KeyStamp)) → AllByRecursion (IsKeysOfPart e) ps → AreAfter (λ (u : Unit {0}). IsKeysOfPart e) any_part tt ps
all_from e [] h = tt
all_from e (p ∷ ps) h = (h.0, all_from e ps h.1)

abbrev AreParts : EventId → List (List KeyStamp) → Type 0
AreParts e ps = IsBetween 1 (2 ^ 32 - 1) (length ps) × AllByRecursion (IsKeysOfPart e) ps

parts_field : (e : EventId) → IsField (AreParts e) (λ ps. number (length ps) ++ flat_map spell_keys ps) (parts_at e)
unfolding parts_at
parts_field e =
    under (AreParts e) (λ ps h. (h.0, all_to e ps h.1)) (λ ps h. (h.0, all_from e ps h.1))
    (counted_field any_part (λ (u : Unit {0}). part_field e) 1 (2 ^ 32 - 1) tt (few 1))

-- ---- events

abbrev IsEventAfter : Option EventId → ManifestFields → Type 0
IsEventAfter b m = IsManifestEvent m × (stands_after b m.event ≡ true)

event_after_field : (b : Option EventId) → IsField (λ (e : EventId). IsUid e.0 × (stands_after b e ≡ true)) (λ e. uid e.0) (event_after_at b)
unfolding event_after_at
event_after_field b = tested (stands_after b) event_field

manifest_event_field : (b : Option EventId) → IsField (IsEventAfter b) spell_event (manifest_event_at b)
unfolding manifest_event_at
manifest_event_field b =
    whole (λ m. (m.event, m.parts)) (IsEventAfter b) spell_event (λ m. refl)
    (λ m h. ((h.0.event, h.1), (h.0.count, h.0.parts))) (λ p h. (record { event = h.0.0; count = h.1.0; parts = h.1.1 }, h.0.1)) (λ p h. refl)
    (first (event_after_field b) (λ e. last (λ ps. record { event = e; parts = ps }) (parts_field e)))

events_to : (b : Option EventId) (ms : List ManifestFields) → AreAfter IsEventAfter event_before b ms → AreEventsAfter b ms
events_to b [] h = tt
events_to b (m ∷ ms) h = (h.0, events_to (Some m.event) ms h.1)

events_from : (b : Option EventId) (ms : List ManifestFields) → AreEventsAfter b ms → AreAfter IsEventAfter event_before b ms
events_from b [] h = tt
events_from b (m ∷ ms) h = (h.0, events_from (Some m.event) ms h.1)

each_after : (b : Option EventId) (ms : List ManifestFields) → AreEventsAfter b ms → AllByRecursion IsManifestEvent ms
each_after b [] h = tt
each_after b (m ∷ ms) h = (h.0.0, each_after (Some m.event) ms h.1)

pub each_event : (ms : List ManifestFields) → IsManifest ms → AllByRecursion IsManifestEvent ms
each_event ms is = each_after None ms is.events

manifest_made : IsMade (λ (p : Unit {0} × List ManifestFields). Unit {0} × (IsBetween 0 (2 ^ 32 - 1) (length p.1) × AreAfter IsEventAfter event_before None p.1))
    (λ p. p.1) (λ p. manifest_form ++ (number (length p.1) ++ flat_map spell_event p.1)) manifest_at
unfolding manifest_at
manifest_made = first (form_field manifest_form) (λ u. itself (counted_field event_before manifest_event_field 0 (2 ^ 32 - 1) None (few 0)))

manifest_field : IsField IsManifest spell_manifest manifest_at
manifest_field =
    whole (λ ms. (tt, ms)) IsManifest spell_manifest (λ ms. refl) (λ ms h. (tt, (h.count, events_from None ms h.events)))
    (λ p h. record { count = h.1.0; events = events_to None p.1 h.1.1 }) (λ p h. refl) manifest_made

pub manifest_takes : (bytes : List ℕ) (ms : List ManifestFields) → IsBytes bytes → manifest_of_bytes bytes ≡ Ok ms → IsManifest ms × (bytes ≡ spell_manifest ms)
unfolding manifest_of_bytes
manifest_takes bytes ms fits h = all_takes manifest_field bytes ms fits h

pub manifest_again : (ms : List ManifestFields) → IsManifest ms → manifest_of_bytes (spell_manifest ms) ≡ Ok ms
unfolding manifest_of_bytes
manifest_again ms h = all_again manifest_field ms h

-- ---- wanted lists

abbrev IsWantedKey : EventId → Option Key → Key → Type 0
IsWantedKey e b k = IsKey k × IsOwnKeyAfter e b k

own_to : (e : EventId) (b : Option Key) (ks : List Key) → AreAfter (IsWantedKey e) wanted_before b ks → AreOwnAfter e b ks
own_to e b [] h = tt
own_to e b (k ∷ ks) h = (h.0, own_to e (Some k) ks h.1)

own_from : (e : EventId) (b : Option Key) (ks : List Key) → AreOwnAfter e b ks → AreAfter (IsWantedKey e) wanted_before b ks
own_from e b [] h = tt
own_from e b (k ∷ ks) h = (h.0, own_from e (Some k) ks h.1)

abbrev AreWanted : EventId → List Key → Type 0
AreWanted e ks = IsBetween 1 65 (length ks) × AreOwnAfter e None ks

wanted_keys_field : (e : EventId) → IsField (AreWanted e) (λ ks. number (length ks) ++ flat_map framed_key ks) (wanted_keys_at e)
unfolding wanted_keys_at
wanted_keys_field e =
    under (AreWanted e) (λ ks h. (h.0, own_to e None ks h.1)) (λ ks h. (h.0, own_from e None ks h.1))
    (counted_field wanted_before (λ b. framed_field (wanted_wholly e b)) 1 65 None few_keys)

wanted_made : IsMade
    (λ (p : Unit {0} × (EventId × (ℕ × List Key))). Unit {0} × (IsUid p.1.0.0 × ((p.1.1.0 < 2 ^ 32) × AreWanted p.1.0 p.1.1.1)))
    (λ p. record { event = p.1.0; part = p.1.1.0; keys = p.1.1.1 })
    (λ p. wanted_form ++ (uid p.1.0.0 ++ (number p.1.1.0 ++ (number (length p.1.1.1) ++ flat_map framed_key p.1.1.1))))
    wanted_at
unfolding wanted_at
wanted_made =
    first (form_field wanted_form) (λ u. first event_field (λ e. first number_field_32 (λ part.
    last (λ ks. record { event = e; part = part; keys = ks }) (wanted_keys_field e))))

wanted_field : IsField IsWanted spell_wanted wanted_at
wanted_field =
    whole (λ w. (tt, (w.event, (w.part, w.keys)))) IsWanted spell_wanted (λ w. refl) (λ w h. (tt, (h.event, (h.part, (h.count, h.keys)))))
    (λ p h. record { event = h.1.0; part = h.1.1.0; count = h.1.1.1.0; keys = h.1.1.1.1 }) (λ p h. refl) wanted_made

pub wanted_takes : (bytes : List ℕ) (w : WantedFields) → IsBytes bytes → wanted_of_bytes bytes ≡ Ok w → IsWanted w × (bytes ≡ spell_wanted w)
unfolding wanted_of_bytes
wanted_takes bytes w fits h = all_takes wanted_field bytes w fits h

pub wanted_again : (w : WantedFields) → IsWanted w → wanted_of_bytes (spell_wanted w) ≡ Ok w
unfolding wanted_of_bytes
wanted_again w h = all_again wanted_field w h
