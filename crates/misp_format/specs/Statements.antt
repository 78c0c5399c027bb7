-- THE TABLES of statements: the members of proposals, sightings and judgements in the order in
-- which they are read.
--     MEMBER ← row it NAME READER WHERE-ABSENT
use Rattle.std.specs.Prelude.{ℕ, Bool, true, false, ◌||◌, nat_le, List, [], length, codes, option_map, Result, Ok, if◌then◌else◌}
use Rattle.serde_json.specs.Data.{Data}
use Rattle.misp_ids.specs.Uid.{made_uid}
use Rattle.misp_fields.specs.declared.need.Need.{Need}
use Rattle.misp_fields.specs.Fields.{text_of, flag_of, stamp_of, uuid_of}
use Rattle.misp_elem.specs.declared.key.Place.{Place}
use Rattle.misp_elem.specs.declared.key.ProposalName.{ProposalName}
use Rattle.misp_elem.specs.declared.content.Content.{Content}
use Rattle.misp_elem.specs.Contents.{is_removal}
use Rattle.misp_elem.specs.Prelude.{ElemId, EventId, Uid, place_kind, text_size}
use Rattle.misp_elem.specs.Visible.{place_in}
use Rattle.misp_model.specs.declared.statement.ProposalDraftFields.{ProposalDraftFields}
use Rattle.misp_model.specs.declared.statement.SightingDraftFields.{SightingDraftFields}
use Rattle.misp_format.specs.Body.{Body}
use Rattle.misp_format.specs.Edits.{has, given_row}
use Rattle.misp_format.specs.Elements.{unless_long, kind_at, no_file_at, value_at}
use Rattle.misp_format.specs.Kinds.{other_category, category_of}
use Rattle.misp_format.specs.Readers.{fitting, number_within, inst_name_of}
use Rattle.misp_format.specs.Rows.{Reading, ◌>>=◌, row, must_be, body_at}
use Rattle.misp_format.specs.Tables.{unwrapped}

-- ---- proposals

-- the target is there: a proposal for the event is one of a new attribute
abbrev pub is_there : Place → Bool
is_there target = nat_le 1 (place_kind target)

-- READER: whether it asks to delete the target, which must then be there
abbrev pub removal_of : Bool → Data → Result Bool Need
removal_of there d = fitting (is_removal there) Need.Range (flag_of d)

-- the type or the value, which is empty where it asks to delete, whatever the body has
abbrev pub unless_removal : Bool → Reading (List ℕ) → Reading (List ℕ)
unless_removal true reading = Ok []
unless_removal false reading = reading

-- PROPOSAL: for this target in this event, with type and value as of an attribute. Without an
-- identifier it gets the one that is made of word and the place 0.
unfoldable pub proposal_in : List ℕ → EventId → Place → ℕ → Data → Reading ProposalDraftFields
proposal_in path event target word d = do
  it ← body_at path d
  uuid ← row it (codes "uuid") uuid_of (Ok (made_uid word 0))
  remove ← row it (codes "proposal_to_delete") (removal_of (is_there target)) (Ok false)
  kind ← unless_removal remove (kind_at it)
  category ← row it (codes "category") category_of (Ok other_category)
  to_ids ← row it (codes "to_ids") flag_of (Ok false)
  comment ← row it (codes "comment") text_of (Ok [])
  no_file ← no_file_at it
  value ← unless_removal remove (value_at kind it)
  body ← Ok (record {
    remove = remove;
    by_name = [];
    kind = kind;
    category = category;
    to_ids = to_ids;
    comment = comment;
    value = value;
  })
  fits ← unless_long it (text_size (Content.Proposal body))
  Ok (record { event = event; target = target; uuid = record { 0 = uuid }; body = body })

-- the proposal that a body is
abbrev pub proposal_at : EventId → Place → ℕ → Data → Reading ProposalDraftFields
proposal_at event target word d =
    proposal_in (codes "ShadowAttribute") event target word
    (unwrapped (codes "ShadowAttribute") d)

-- ---- sightings

-- SIGHTING: of one of the three kinds, with or without a date. Without an identifier it gets the
-- one that is made of word and the place 0.
unfoldable pub sighting_in : List ℕ → ℕ → Data → Reading SightingDraftFields
sighting_in path word d = do
  it ← body_at path d
  uuid ← row it (codes "uuid") uuid_of (Ok (made_uid word 0))
  kind ← row it (codes "type") (number_within 0 2) (Ok 0)
  date ← given_row it (codes "date_sighting") stamp_of
  source ← row it (codes "source") text_of (Ok [])
  fits ← unless_long it (length source)
  Ok (record { uuid = record { 0 = uuid }; kind = kind; date = date; source = source })

-- the sighting that a body is
abbrev pub sighting_at : ℕ → Data → Reading SightingDraftFields
sighting_at word d = sighting_in (codes "Sighting") word (unwrapped (codes "Sighting") d)

-- ---- judging

abbrev pub elem_of : Uid → ElemId
elem_of uuid = record { 0 = uuid }

-- an attribute, of the object that is named beside it or outside objects
abbrev pub attribute_place_at : Body → Reading Place
attribute_place_at it = do
  attribute ← row it (codes "attribute") uuid_of must_be
  object ← given_row it (codes "object") uuid_of
  Ok (place_in (option_map elem_of object) (elem_of attribute))

-- TARGET: where an attribute or an object is named, the attribute must be; else the event
unfoldable pub target_at : Body → Reading Place
target_at it =
    if has it (codes "attribute") || has it (codes "object") then attribute_place_at it
    else Ok Place.Event

-- JUDGEMENT: the name of the proposal that is judged, with who made it and at which instance
unfoldable pub judgement_in : List ℕ → Data → Reading ProposalName
judgement_in path d = do
  it ← body_at path d
  uuid ← row it (codes "uuid") uuid_of must_be
  org ← row it (codes "org") uuid_of must_be
  origin ← row it (codes "origin") inst_name_of must_be
  target ← target_at it
  Ok (record { target = target; at = origin; by = record { 0 = org }; uuid = elem_of uuid })

-- the judgement that a body is
abbrev pub judgement_at : Data → Reading ProposalName
judgement_at d = judgement_in (codes "ShadowAttribute") (unwrapped (codes "ShadowAttribute") d)
