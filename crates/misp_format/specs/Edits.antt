-- THE TABLES of edits: the members of each in the order in which they are read. What is absent
-- stays as it is.
--     MEMBER ← given_row it NAME READER
use Rattle.std.specs.Prelude.{ℕ, ◌+◌, Bool, true, false, ◌||◌, is_some, List, codes, Option, Some, None, Result, Ok}
use Rattle.serde_json.specs.Data.{Data}
use Rattle.misp_ids.specs.declared.label.Label.{Label}
use Rattle.misp_fields.specs.declared.need.Need.{Need}
use Rattle.misp_fields.specs.Fields.{member_of, text_of, flag_of, stamp_of, optional_uuid_of}
use Rattle.misp_model.specs.declared.edit.EventEditFields.{EventEditFields}
use Rattle.misp_model.specs.declared.edit.AttributeEditFields.{AttributeEditFields}
use Rattle.misp_model.specs.declared.edit.ObjectEditFields.{ObjectEditFields}
use Rattle.misp_model.specs.declared.edit.Seen.{Seen}
use Rattle.misp_model.specs.Edit.{given_size, pair_size}
use Rattle.misp_format.specs.Body.{Body}
use Rattle.misp_format.specs.Elements.{unless_long, kind_at, value_at, seen_at}
use Rattle.misp_format.specs.Kinds.{category_of}
use Rattle.misp_format.specs.Labels.{label_at}
use Rattle.misp_format.specs.Readers.{number_within, some_text_of, some_date_of}
use Rattle.misp_format.specs.Rows.{Reading, ◌>>=◌, row, must_be, body_at}
use Rattle.misp_format.specs.Tables.{unwrapped}

-- ---- what may be absent

-- the member of this name is there
abbrev pub has : Body → List ℕ → Bool
has it name = is_some (member_of name it.value)

-- what is read, where it is there
abbrev pub given : {A : Type 0} → Bool → Reading A → Reading (Option A)
given true reading = reading >>= λ x. Ok (Some x)
given false reading = Ok None

-- ROW: the member of this name by its reader, where it is there
abbrev pub given_row : {A : Type 0} → Body → List ℕ → (Data → Result A Need) → Reading (Option A)
given_row it name reader = given (has it name) (row it name reader must_be)

-- LABEL: as of an addition, by a number that is at most this one
unfoldable pub given_label_at : Body → ℕ → Reading (Option Label)
given_label_at it most = given (has it (codes "distribution")) (label_at it most 0)

-- the type and the value of it, as of an addition
abbrev pub kind_value_at : Body → Reading (List ℕ × List ℕ)
kind_value_at it = do
  kind ← kind_at it
  value ← value_at kind it
  Ok (kind, value)

-- TYPE and VALUE: where one of them is there, the other must be there
unfoldable pub given_kind_value_at : Body → Reading (Option (List ℕ × List ℕ))
given_kind_value_at it = given (has it (codes "type") || has it (codes "value")) (kind_value_at it)

-- FIRST and LAST SEEN: where one of them is there, the other must be there
unfoldable pub given_seen_at : Body → Reading (Option Seen)
given_seen_at it =
    given (has it (codes "first_seen") || has it (codes "last_seen")) (seen_at it must_be)

-- ---- edits

-- EVENT: what a body changes of an event
unfoldable pub event_edit_at : Data → Reading EventEditFields
event_edit_at d = do
  it ← body_at (codes "Event") (unwrapped (codes "Event") d)
  info ← given_row it (codes "info") some_text_of
  date ← row it (codes "date") some_date_of (Ok None)
  threat_level_id ← given_row it (codes "threat_level_id") (number_within 1 4)
  analysis ← given_row it (codes "analysis") (number_within 0 2)
  label ← given_label_at it 4
  extends_uuid ← given_row it (codes "extends_uuid") optional_uuid_of
  stamp ← given_row it (codes "timestamp") stamp_of
  fits ← unless_long it (given_size info)
  Ok (record {
    stamp = stamp;
    label = label;
    info = info;
    date = date;
    threat_level_id = threat_level_id;
    analysis = analysis;
    extends_uuid = extends_uuid;
  })

-- ATTRIBUTE: what a body changes of an attribute
unfoldable pub attribute_edit_at : Data → Reading AttributeEditFields
attribute_edit_at d = do
  it ← body_at (codes "Attribute") (unwrapped (codes "Attribute") d)
  category ← given_row it (codes "category") category_of
  to_ids ← given_row it (codes "to_ids") flag_of
  label ← given_label_at it 5
  comment ← given_row it (codes "comment") text_of
  kind_value ← given_kind_value_at it
  seen ← given_seen_at it
  stamp ← given_row it (codes "timestamp") stamp_of
  fits ← unless_long it (given_size comment + pair_size kind_value)
  Ok (record {
    stamp = stamp;
    label = label;
    category = category;
    to_ids = to_ids;
    comment = comment;
    kind_value = kind_value;
    seen = seen;
  })

-- OBJECT: what a body changes of an object
unfoldable pub object_edit_at : Data → Reading ObjectEditFields
object_edit_at d = do
  it ← body_at (codes "Object") (unwrapped (codes "Object") d)
  label ← given_label_at it 5
  comment ← given_row it (codes "comment") text_of
  description ← given_row it (codes "description") text_of
  stamp ← given_row it (codes "timestamp") stamp_of
  fits ← unless_long it (given_size comment + given_size description)
  Ok (record { stamp = stamp; label = label; comment = comment; description = description })
