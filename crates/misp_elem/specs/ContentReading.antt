-- Reading the contents of rows.
use Rattle.std.specs.Prelude.{ℕ, ◌-◌, Option, None, List, [], ◌∷◌, length, take, drop, Bool, true, false, zero, suc, Ok, Err, nat_lt, min, ◌==◌, if◌then◌else◌}
use Rattle.std.specs.Int.{w32, w64}
use Rattle.misp_elem.specs.declared.key.KeyForm.{KeyForm}
use Rattle.misp_elem.specs.declared.content.Tag.{Tag}
use Rattle.misp_elem.specs.declared.content.EventBody.{EventBody}
use Rattle.misp_elem.specs.declared.content.ObjectBody.{ObjectBody}
use Rattle.misp_elem.specs.declared.content.AttributeBody.{AttributeBody}
use Rattle.misp_elem.specs.declared.content.ReferenceBody.{ReferenceBody}
use Rattle.misp_elem.specs.declared.content.ProposalBody.{ProposalBody}
use Rattle.misp_elem.specs.declared.content.SightingBody.{SightingBody}
use Rattle.misp_elem.specs.declared.content.Content.{Content}
use Rattle.misp_elem.specs.declared.row.RowForm.{RowForm}
use Rattle.misp_elem.specs.declared.row.RowForm.TheVariants.{First, Second}
use Rattle.misp_elem.specs.Fields.{earliest, text_limit, is_after, tags_size}
use Rattle.misp_elem.specs.Contents.{is_removal, least_kind}
use Rattle.misp_elem.specs.Row.{fits, may_remove}
use Rattle.misp_elem.specs.Reading.{Reading, ◌>>=◌, byte_at, org_at, number_at, between_at, stamp_at, text_at, date_at, value_at, flag_at, optional_at, optional_moment_at}

unfoldable pub colour_at : List ℕ → Reading (List ℕ)
colour_at bytes =
    if nat_lt (length bytes) 3 then Err (length bytes) else Ok (take 3 bytes, drop 3 bytes)

-- a name after this one, of no more bytes than there is room for
unfoldable pub tag_name_at : ℕ → List ℕ → List ℕ → Reading (List ℕ)
tag_name_at room before bytes = do
  name ← text_at 1 (min 255 room) bytes
  if is_after before name.0 then Ok name else Err (length bytes)

unfoldable pub tag_at : ℕ → List ℕ → List ℕ → Reading Tag
tag_at room before bytes = do
  name ← tag_name_at room before bytes
  colour ← colour_at name.1
  exportable ← flag_at colour.1
  Ok (record { name = name.0; colour = colour.0; exportable = exportable.0 }, exportable.1)

-- so many tags after this name, whose names have the room together
unfoldable pub tags_after : ℕ → ℕ → List ℕ → List ℕ → Reading (List Tag)
tags_after room zero before bytes = Ok ([], bytes)
tags_after room (suc n) before bytes = do
  first ← tag_at room before bytes
  others ← tags_after (room - length first.0.name) n first.0.name first.1
  Ok (first.0 ∷ others.0, others.1)

unfoldable pub tags_at : ℕ → List ℕ → Reading (List Tag)
tags_at room bytes = do
  count ← number_at w32 bytes
  tags_after room count.0 [] count.1

unfoldable pub event_body_at : List ℕ → Reading EventBody
event_body_at bytes = do
  info ← text_at 1 text_limit bytes
  date ← date_at info.1
  threat_level_id ← between_at 1 4 date.1
  analysis ← between_at 0 2 threat_level_id.1
  publish_stamp ← stamp_at analysis.1
  extends_uuid ← optional_at publish_stamp.1
  orgc ← org_at extends_uuid.1
  orgc_name ← text_at 0 64 orgc.1
  tags ← tags_at (text_limit - length info.0) orgc_name.1
  Ok (
    record {
      info = info.0;
      date = date.0;
      threat_level_id = threat_level_id.0;
      analysis = analysis.0;
      publish_stamp = publish_stamp.0;
      extends_uuid = extends_uuid.0;
      orgc = orgc.0;
      orgc_name = orgc_name.0;
      tags = tags.0;
    },
    tags.1,
  )

unfoldable pub object_body_at : List ℕ → Reading ObjectBody
object_body_at bytes = do
  name ← text_at 1 text_limit bytes
  meta_category ← text_at 0 (text_limit - length name.0) name.1
  description ← text_at 0 (text_limit - length name.0 - length meta_category.0) meta_category.1
  comment ← text_at 0 (text_limit - length name.0 - length meta_category.0 - length description.0)
      description.1
  template_uuid ← optional_at comment.1
  template_version ← number_at w64 template_uuid.1
  deleted ← flag_at template_version.1
  Ok (
    record {
      name = name.0;
      meta_category = meta_category.0;
      description = description.0;
      comment = comment.0;
      template_uuid = template_uuid.0;
      template_version = template_version.0;
      deleted = deleted.0;
    },
    deleted.1,
  )

-- the part of an object, and a moment, which the first form does not spell
unfoldable pub relation_at : RowForm → ℕ → List ℕ → Reading (List ℕ)
relation_at First room bytes = Ok ([], bytes)
relation_at Second room bytes = text_at 0 room bytes

unfoldable pub seen_at : RowForm → ℕ → List ℕ → Reading (Option ℕ)
seen_at First least bytes = Ok (None, bytes)
seen_at Second least bytes = optional_moment_at least bytes

unfoldable pub attribute_body_at : RowForm → List ℕ → Reading AttributeBody
attribute_body_at form bytes = do
  kind ← text_at 1 100 bytes
  category ← between_at 0 15 kind.1
  to_ids ← flag_at category.1
  comment ← text_at 0 (text_limit - length kind.0) to_ids.1
  deleted ← flag_at comment.1
  value ← value_at (text_limit - length kind.0 - length comment.0) kind.0 deleted.1
  tags ← tags_at (text_limit - length kind.0 - length comment.0 - length value.0) value.1
  object_relation ← relation_at form
      (text_limit - length kind.0 - length comment.0 - length value.0 - tags_size tags.0) tags.1
  first_seen ← seen_at form 0 object_relation.1
  last_seen ← seen_at form (earliest first_seen.0) first_seen.1
  Ok (
    record {
      kind = kind.0;
      category = category.0;
      to_ids = to_ids.0;
      comment = comment.0;
      deleted = deleted.0;
      value = value.0;
      tags = tags.0;
      object_relation = object_relation.0;
      first_seen = first_seen.0;
      last_seen = last_seen.0;
    },
    last_seen.1,
  )

unfoldable pub reference_body_at : List ℕ → Reading ReferenceBody
reference_body_at bytes = do
  relationship_type ← text_at 0 text_limit bytes
  comment ← text_at 0 (text_limit - length relationship_type.0) relationship_type.1
  deleted ← flag_at comment.1
  Ok (
    record { relationship_type = relationship_type.0; comment = comment.0; deleted = deleted.0 },
    deleted.1,
  )

-- whether a proposal asks to delete, which it does only where it may
unfoldable pub removal_at : Bool → List ℕ → Reading Bool
removal_at may bytes = do
  remove ← flag_at bytes
  if is_removal may remove.0 then Ok remove else Err (length bytes)

-- the value in a proposal
unfoldable pub proposed_value_at : Bool → ℕ → List ℕ → List ℕ → Reading (List ℕ)
proposed_value_at true room kind bytes = text_at 0 0 bytes
proposed_value_at false room kind bytes = value_at room kind bytes

unfoldable pub proposal_body_at : Bool → List ℕ → Reading ProposalBody
proposal_body_at may bytes = do
  remove ← removal_at may bytes
  by_name ← text_at 0 64 remove.1
  kind ← text_at (least_kind remove.0) 100 by_name.1
  category ← between_at 0 15 kind.1
  to_ids ← flag_at category.1
  comment ← text_at 0 (text_limit - length kind.0) to_ids.1
  value ← proposed_value_at remove.0 (text_limit - length kind.0 - length comment.0)
      kind.0 comment.1
  Ok (
    record {
      remove = remove.0;
      by_name = by_name.0;
      kind = kind.0;
      category = category.0;
      to_ids = to_ids.0;
      comment = comment.0;
      value = value.0;
    },
    value.1,
  )

unfoldable pub sighting_body_at : List ℕ → Reading SightingBody
sighting_body_at bytes = do
  by_name ← text_at 0 64 bytes
  kind ← between_at 0 2 by_name.1
  date ← stamp_at kind.1
  source ← text_at 0 text_limit date.1
  Ok (record { by_name = by_name.0; kind = kind.0; date = date.0; source = source.0 }, source.1)

-- the content of this kind
abbrev pub content_of : RowForm → Bool → List ℕ → ℕ → List ℕ → Reading Content
content_of form may bytes kind rest =
    if kind == 0 then (do
      b ← event_body_at rest
      Ok (Content.Event b.0, b.1))
    else if kind == 1 then (do
      b ← object_body_at rest
      Ok (Content.Object b.0, b.1))
    else if kind == 2 then (do
      b ← attribute_body_at form rest
      Ok (Content.Attribute b.0, b.1))
    else if kind == 3 then (do
      b ← reference_body_at rest
      Ok (Content.Reference b.0, b.1))
    else if kind == 4 then (do
      b ← proposal_body_at may rest
      Ok (Content.Proposal b.0, b.1))
    else if kind == 5 then (do
      b ← flag_at rest
      Ok (Content.Verdict b.0, b.1))
    else if kind == 6 then (do
      b ← sighting_body_at rest
      Ok (Content.Sighting b.0, b.1))
    else if kind == 7 then Ok (Content.Gone, rest)
    else Err (length bytes)

-- a content that a row of this key, label and flags may have
unfoldable pub content_at : RowForm → KeyForm → ℕ → Bool × Bool → List ℕ → Reading Content
content_at form key label flags bytes = do
  kind ← byte_at bytes
  if fits key label flags kind.0 then content_of form (may_remove key) bytes kind.0 kind.1
      else Err (length bytes)
