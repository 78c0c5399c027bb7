-- Reading manifests and wanted lists from left to right. A fault is how many bytes were left where
-- the first field stands that is not of its form.
use Rattle.std.specs.Prelude.{◌≡◌, ℕ, zero, suc, ◌-◌, ◌^◌, List, [], ◌∷◌, length, take, drop, Bool, false, true, Option, Some, None, Result, Ok, Err, nat_lt, if◌then◌else◌}
use Rattle.std.specs.Int.{w32}
use Rattle.misp_elem.specs.Prelude.{◌>>=◌, Reading, between_at, event_at, event_key, is_after, key, stamp_at}
use Rattle.misp_elem.specs.KeyReading.{key_of}
use Rattle.misp_elem.specs.Reading.{ended, number_at}
use Rattle.misp_elem.specs.WireReading.{front_at, own_event_at}
use Rattle.misp_elem.specs.declared.fault.DecodeFault.{DecodeFault}
use Rattle.misp_model.specs.Prelude.{EventId, Key}
use Rattle.misp_manifest.specs.declared.manifest.KeyStamp.{KeyStamp}
use Rattle.misp_manifest.specs.declared.manifest.ManifestFields.{ManifestFields}
use Rattle.misp_manifest.specs.declared.wanted.WantedFields.{WantedFields}
use Rattle.misp_package.specs.PackageReading.{before_others, count_at, form_at}
use Rattle.misp_wanted.specs.ManifestSpelling.{manifest_form, wanted_form}

-- ---- what a reader answers

-- An answer, as view shows it, is the one expected, unless memory ran out.
abbrev pub AnswersBy : {X A : Type 0} → (X → A) → Result X DecodeFault → Result A DecodeFault
    → Type 0
AnswersBy view (Ok x) expected = expected ≡ Ok (view x)
AnswersBy view (Err DecodeFault.NoMemory) expected = Unit {0}
AnswersBy view (Err (DecodeFault.BadRow p)) expected = expected ≡ Err (DecodeFault.BadRow p)

-- ---- any fields

-- so many of a kind, each read after the one before it
unfoldable pub items_after : {A S : Type 0} → (S → List ℕ → Reading A) → (A → S) → S → ℕ → List ℕ
    → Reading (List A)
items_after read next s zero bytes = Ok ([], bytes)
items_after read next s (suc n) bytes = do
  first ← read s bytes
  others ← items_after read next (next first.0) n first.1
  Ok (first.0 ∷ others.0, others.1)

-- their number, and each
unfoldable pub counted_at : {A S : Type 0} → ℕ → ℕ → (S → List ℕ → Reading A) → (A → S) → S
    → List ℕ → Reading (List A)
counted_at least most read next s bytes = do
  count ← count_at least most bytes
  items_after read next s count.0 count.1

-- so many bytes, all of which are read so
abbrev pub of_length : {A : Type 0} → (List ℕ → Result A ℕ) → List ℕ → ℕ → List ℕ → Reading A
of_length of bytes len rest =
    if nat_lt (length rest) len then Err (length bytes)
    else before_others (drop len rest) (of (take len rest))

-- after their length
unfoldable pub framed_at : {A : Type 0} → (List ℕ → Result A ℕ) → List ℕ → Reading A
framed_at of bytes = do
  len ← number_at w32 bytes
  of_length of bytes len.0 len.1

-- ---- keys

-- the key of the event itself
unfoldable pub first_key_at : EventId → List ℕ → Reading Key
first_key_at e bytes = do
  kind ← between_at 0 0 bytes
  own ← own_event_at e kind.1
  place ← between_at 0 0 own.1
  Ok (event_key own.0, place.1)

-- the same of all the bytes
unfoldable pub first_key_of : EventId → List ℕ → Result Key ℕ
first_key_of e bytes = first_key_at e bytes >>= λ k. ended k

-- a key of the event: its front is read first
unfoldable pub own_key_of : EventId → List ℕ → Result Key ℕ
own_key_of e bytes = front_at e bytes >>= λ front. key_of bytes

-- a key of the event after this one; one that is not after it is at fault itself
unfoldable pub later_key_of : EventId → Key → List ℕ → Result Key ℕ
later_key_of e before bytes =
    own_key_of e bytes
    >>= λ k. if is_after (key before) (key k) then Ok k else Err (length bytes)

-- a key of a package: the event's own comes first
abbrev pub listed_key_of : EventId → Option Key → List ℕ → Result Key ℕ
listed_key_of e None bytes = first_key_of e bytes
listed_key_of e (Some before) bytes = later_key_of e before bytes

-- a key of a wanted list
abbrev pub wanted_key_of : EventId → Option Key → List ℕ → Result Key ℕ
wanted_key_of e None bytes = own_key_of e bytes
wanted_key_of e (Some before) bytes = later_key_of e before bytes

-- a key of either list: of a package, where the event's own comes first
abbrev pub list_key_of : Bool → EventId → Option Key → List ℕ → Result Key ℕ
list_key_of true = listed_key_of
list_key_of false = wanted_key_of

-- ---- manifests

-- the key of a row, and its stamp
unfoldable pub key_stamp_at : EventId → Option Key → List ℕ → Reading KeyStamp
key_stamp_at e before bytes = do
  k ← framed_at (listed_key_of e before) bytes
  s ← stamp_at k.1
  Ok (record { key = k.0; stamp = s.0 }, s.1)

abbrev pub key_before : KeyStamp → Option Key
key_before k = Some k.key

-- the keys of a package
unfoldable pub part_at : EventId → List ℕ → Reading (List KeyStamp)
part_at e bytes = counted_at 1 65 (key_stamp_at e) key_before None bytes

abbrev pub any_part : {A : Type 0} → A → Unit {0}
any_part x = tt

-- the packages of an event
unfoldable pub parts_at : EventId → List ℕ → Reading (List (List KeyStamp))
parts_at e bytes = counted_at 1 (2 ^ 32 - 1) (λ (u : Unit {0}). part_at e) any_part tt bytes

-- the event stands after the one before it, where there is one
abbrev pub stands_after : Option EventId → EventId → Bool
stands_after None e = true
stands_after (Some before) e = nat_lt before.0.0 e.0.0

unfoldable pub event_after_at : Option EventId → List ℕ → Reading EventId
event_after_at before bytes = do
  e ← event_at bytes
  if stands_after before e.0 then Ok e else Err (length bytes)

-- what a manifest says of an event
unfoldable pub manifest_event_at : Option EventId → List ℕ → Reading ManifestFields
manifest_event_at before bytes = do
  e ← event_after_at before bytes
  parts ← parts_at e.0 e.1
  Ok (record { event = e.0; parts = parts.0 }, parts.1)

abbrev pub event_before : ManifestFields → Option EventId
event_before m = Some m.event

unfoldable pub manifest_at : List ℕ → Reading (List ManifestFields)
manifest_at bytes = do
  form ← form_at manifest_form bytes
  counted_at 0 (2 ^ 32 - 1) manifest_event_at event_before None form.1

-- the manifest that all of the bytes are
unfoldable pub manifest_of_bytes : List ℕ → Result (List ManifestFields) ℕ
manifest_of_bytes bytes = manifest_at bytes >>= λ ms. ended ms

-- ---- wanted lists

abbrev pub wanted_before : Key → Option Key
wanted_before k = Some k

unfoldable pub wanted_keys_at : EventId → List ℕ → Reading (List Key)
wanted_keys_at e bytes =
    counted_at 1 65 (λ before. framed_at (wanted_key_of e before)) wanted_before None bytes

unfoldable pub wanted_at : List ℕ → Reading WantedFields
wanted_at bytes = do
  form ← form_at wanted_form bytes
  event ← event_at form.1
  part ← number_at w32 event.1
  keys ← wanted_keys_at event.0 part.1
  Ok (record { event = event.0; part = part.0; keys = keys.0 }, keys.1)

-- the wanted list that all of the bytes are
unfoldable pub wanted_of_bytes : List ℕ → Result WantedFields ℕ
wanted_of_bytes bytes = wanted_at bytes >>= λ w. ended w
