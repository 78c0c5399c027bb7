-- Rows on the wire: of nobody, carried, all of one event, each with a key after that of the row
-- before it, and the event's own row first.
use Rattle.std.specs.Prelude.{◌≡◌, ℕ, ◌==◌, ◌&&◌, not, List, [], ◌∷◌, length, Bool, true, false, Option, Some, None, Result, Ok, Err, if◌then◌else◌}
use Rattle.misp_elem.specs.Prelude.{◌>>=◌, Element, EventId, KeyForm, OrgId, Reading, RowFields, barred_labels, between_at, event_at, event_key, event_of, is_after, key, key_at, label_kind, org_at, stamp_at}
use Rattle.misp_elem.specs.declared.row.RowForm.TheVariants.{Second}
use Rattle.misp_elem.specs.Reading.{ended}
use Rattle.misp_elem.specs.KeyReading.{place_at}
use Rattle.misp_elem.specs.ContentReading.{content_at}
use Rattle.misp_elem.specs.RowReading.{label_at, flags_at}

-- ---- what they are

-- the key is that of the event itself where no row is before, else one of the event after the key
-- before
abbrev pub IsKeyAfter : EventId → Option KeyForm → KeyForm → Type 0
IsKeyAfter event None k = k ≡ event_key event
IsKeyAfter event (Some before) k = (event_of k ≡ event) × (is_after (key before) (key k) ≡ true)

-- the row is of nobody, carried and not held, and has such a key
abbrev pub IsOnWire : EventId → Option KeyForm → RowFields → Type 0
IsOnWire event before r =
    (r.owner.0.0 ≡ 0)
    × (IsKeyAfter event before r.key
    × ((r.held ≡ false) × (r.carried ≡ true)))

-- ---- how they are read

-- sixteen bytes of 0
unfoldable pub nobody_at : List ℕ → Reading OrgId
nobody_at bytes = do
  owner ← org_at bytes
  if owner.0.0.0 == 0 then Ok owner else Err (length bytes)

-- this event
unfoldable pub own_event_at : EventId → List ℕ → Reading EventId
own_event_at event bytes = do
  own ← event_at bytes
  if own.0.0.0 == event.0.0 then Ok own else Err (length bytes)

-- the front of a key of this event: its kind and the event
unfoldable pub front_at : EventId → List ℕ → Reading EventId
front_at event bytes = do
  kind ← between_at 0 4 bytes
  own_event_at event kind.1

-- the key of the event itself
unfoldable pub first_key_at : EventId → List ℕ → Reading KeyForm
first_key_at event bytes = do
  kind ← between_at 0 0 bytes
  own ← own_event_at event kind.1
  place ← place_at (1 ∷ 2 ∷ 3 ∷ []) own.1
  Ok (Element own.0 place.0, place.1)

-- a key of the event after this one; one that is not after it is at fault itself
unfoldable pub later_key_at : EventId → KeyForm → List ℕ → Reading KeyForm
later_key_at event before bytes = do
  front ← front_at event bytes
  next ← key_at bytes
  if is_after (key before) (key next.0) then Ok next else Err (length bytes)

unfoldable pub key_after_at : EventId → Option KeyForm → List ℕ → Reading KeyForm
key_after_at event None bytes = first_key_at event bytes
key_after_at event (Some before) bytes = later_key_at event before bytes

-- the flags of what is carried and not held
unfoldable pub carried_at : List ℕ → Reading (Bool × Bool)
carried_at bytes = do
  flags ← flags_at bytes
  if not flags.0.0 && flags.0.1 then Ok flags else Err (length bytes)

unfoldable pub fields_on_wire : EventId → Option KeyForm → List ℕ → Reading RowFields
fields_on_wire event before bytes = do
  owner ← nobody_at bytes
  next ← key_after_at event before owner.1
  stamp ← stamp_at next.1
  label ← label_at (barred_labels next.0) stamp.1
  flags ← carried_at label.1
  content ← content_at Second next.0 (label_kind label.0) flags.0 flags.1
  Ok (
    record {
      owner = owner.0;
      key = next.0;
      stamp = stamp.0;
      label = label.0;
      held = flags.0.0;
      carried = flags.0.1;
      content = content.0;
    },
    content.1,
  )

-- of the second form alone
unfoldable pub row_on_wire : EventId → Option KeyForm → List ℕ → Reading RowFields
row_on_wire event before bytes = do
  form ← between_at 2 2 bytes
  fields_on_wire event before form.1

unfoldable pub row_of_wire : EventId → Option KeyForm → List ℕ → Result RowFields ℕ
row_of_wire event before bytes = row_on_wire event before bytes >>= λ r. ended r
