-- THE TABLES of elements: the members of each in the order in which they are read.
--     MEMBER ← row it NAME READER WHERE-ABSENT
use Rattle.std.specs.Prelude.{ℕ, Bool, true, false, nat_lt, List, [], ◌∷◌, map, codes, Option, Some, None, option_map, unwrap_or, Result, Ok, Err, if◌then◌else◌, ⊤}
use Rattle.std.specs.Ordering.{nat_cmp}
use Rattle.std.specs.BTreeMap.{insert_entry}
use Rattle.serde_json.specs.Data.{Data, no_items}
use Rattle.misp_ids.specs.Uid.{made_uid}
use Rattle.misp_types.specs.declared.fault.ValueFault.{ValueFault}
use Rattle.misp_types.specs.Checked.{Checked}
use Rattle.misp_types.specs.Values.{kept_of}
use Rattle.misp_fields.specs.declared.need.Need.{Need}
use Rattle.misp_fields.specs.Fields.{member_of, text_of, number_of, flag_of, uuid_of, optional_uuid_of, moment_of, colour_of, list_of}
use Rattle.misp_elem.specs.Prelude.{ElemId, slice_cmp, text_limit, text_size}
use Rattle.misp_elem.specs.declared.key.Place.{Place}
use Rattle.misp_elem.specs.declared.content.Tag.{Tag}
use Rattle.misp_elem.specs.declared.content.Content.{Content}
use Rattle.misp_elem.specs.Draft.{DraftFields, ReferenceDraftFields}
use Rattle.misp_elem.specs.Visible.{place_in}
use Rattle.misp_model.specs.declared.edit.Seen.{Seen}
use Rattle.misp_format.specs.declared.fault.FormatFault.{FormatFault}
use Rattle.misp_format.specs.Body.{Body}
use Rattle.misp_format.specs.Gathered.{Gathered, place, with_part, with_reference}
use Rattle.misp_format.specs.Kinds.{other_category, category_of, is_file_type}
use Rattle.misp_format.specs.Labels.{label_at}
use Rattle.misp_format.specs.Path.{member_path, item_path}
use Rattle.misp_format.specs.Readers.{text_within, some_text_of, is_file}
use Rattle.misp_format.specs.Rows.{Reading, ◌>>=◌, row, must_be, body_at, each}

-- the texts of an element together have no more bytes than the limit
abbrev pub unless_long : Body → ℕ → Reading ⊤
unless_long it bytes =
    if nat_lt text_limit bytes then Err (FormatFault.BadField it.path Need.Short)
    else Ok tt

-- a file at a member is refused
abbrev pub unless_file : Body → List ℕ → Bool → Reading ⊤
unless_file it name is_file =
    if is_file then Err (FormatFault.BinaryType (member_path it.path name))
    else Ok tt

-- ---- tags

-- white, as red, green and blue: the colour of a tag that has none
abbrev pub white : List ℕ
white = 255 ∷ 255 ∷ 255 ∷ []

-- TAG
unfoldable pub tag_at : List ℕ → Data → Reading Tag
tag_at path d = do
  it ← body_at path d
  name ← row it (codes "name") (text_within 1 255) must_be
  colour ← row it (codes "colour") colour_of (Ok white)
  exportable ← row it (codes "exportable") flag_of (Ok true)
  Ok (record { name = name; colour = colour; exportable = exportable })

-- colours and flags of tags by their names, in the order of the names
abbrev pub Named : Type 0
Named = List (List ℕ × (List ℕ × Bool))

abbrev pub tag_of : List ℕ × (List ℕ × Bool) → Tag
tag_of named = record { name = named.0; colour = named.1.0; exportable = named.1.1 }

-- with this tag: of two of one name the later counts
abbrev pub with_tag : Named → Tag → Named
with_tag named tag = insert_entry (slice_cmp nat_cmp) named tag.name (tag.colour, tag.exportable)

abbrev pub next_tag : List ℕ → ℕ → Named → Data → Reading Named
next_tag path n so_far d = tag_at (item_path path n) d >>= λ tag. Ok (with_tag so_far tag)

-- the tags of an element, in the order of their names
unfoldable pub tags_at : Body → Reading (List Tag)
tags_at it = do
  items ← row it (codes "Tag") list_of (Ok no_items)
  named ← each (next_tag (member_path it.path (codes "Tag"))) 0 [] items
  Ok (map tag_of named)

-- ---- attributes

-- the type, which is none of files
abbrev pub kind_at : Body → Reading (List ℕ)
kind_at it = do
  kind ← row it (codes "type") (text_within 1 100) must_be
  nothing ← unless_file it (codes "type") (is_file_type kind)
  Ok kind

-- no file is in `data`
abbrev pub no_file_at : Body → Reading ⊤
no_file_at it =
    unless_file it (codes "data")
    (unwrap_or (option_map is_file (member_of (codes "data") it.value)) false)

-- what is wrong with a value
abbrev pub value_refused : {A : Type 0} → Body → ValueFault → Reading A
value_refused it ValueFault.WrongLength =
    Err (FormatFault.BadField (member_path it.path (codes "value")) Need.Length)
value_refused it (ValueFault.WrongDigit n) =
    Err (FormatFault.BadField (member_path it.path (codes "value")) (Need.Digit n))
value_refused it (ValueFault.WrongPart n) =
    Err (FormatFault.BadField (member_path it.path (codes "value")) (Need.Part n))
value_refused it ValueFault.BinaryType = Err (FormatFault.BinaryType (member_path it.path (codes "value")))
value_refused it ValueFault.NoMemory = Err FormatFault.NoMemory

abbrev pub kept_at : Body → Checked → Reading (List ℕ)
kept_at it (Ok kept) = Ok kept
kept_at it (Err fault) = value_refused it fault

-- the value, in the form in which its type keeps it
abbrev pub value_at : List ℕ → Body → Reading (List ℕ)
value_at kind it = do
  text ← row it (codes "value") text_of must_be
  kept_at it (kept_of kind text)

-- whether it was last seen before it was first, as far as both are known
abbrev pub ends_early : Option ℕ → Option ℕ → Bool
ends_early (Some first) (Some last) = nat_lt last first
ends_early (Some first) None = false
ends_early None last = false

-- the last moment is not before the first
abbrev pub in_order_at : Body → Seen → Reading Seen
in_order_at it seen =
    if ends_early seen.first seen.last
    then Err (FormatFault.BadField (member_path it.path (codes "last_seen")) Need.Range)
    else Ok seen

-- when it was first and last seen, and what counts where one of them is absent
unfoldable pub seen_at : Body → Result (Option ℕ) Need → Reading Seen
seen_at it absent = do
  first ← row it (codes "first_seen") moment_of absent
  last ← row it (codes "last_seen") moment_of absent
  in_order_at it (record { first = first; last = last })

-- ATTRIBUTE: of an object, or outside objects, at a place in reading order
unfoldable pub attribute_at : List ℕ → Option ElemId → ℕ → ℕ → Data → Reading DraftFields
attribute_at path object word n d = do
  it ← body_at path d
  uuid ← row it (codes "uuid") uuid_of (Ok (made_uid word n))
  kind ← kind_at it
  category ← row it (codes "category") category_of (Ok other_category)
  to_ids ← row it (codes "to_ids") flag_of (Ok false)
  label ← label_at it 5 5
  comment ← row it (codes "comment") text_of (Ok [])
  deleted ← row it (codes "deleted") flag_of (Ok false)
  no_file ← no_file_at it
  value ← value_at kind it
  seen ← seen_at it (Ok None)
  object_relation ← row it (codes "object_relation") text_of (Ok [])
  tags ← tags_at it
  content ← Ok (Content.Attribute (record {
    kind = kind;
    category = category;
    to_ids = to_ids;
    comment = comment;
    deleted = deleted;
    value = value;
    tags = tags;
    object_relation = object_relation;
    first_seen = seen.first;
    last_seen = seen.last;
  }))
  fits ← unless_long it (text_size content)
  Ok (record {
    number = n;
    place = place_in object (record { 0 = uuid });
    label = label;
    content = content;
  })

-- the attribute at a place of the list, after what was read before it
abbrev pub next_attribute : ℕ → Option ElemId → List ℕ → ℕ → Gathered → Data → Reading Gathered
next_attribute word object path n so_far d = do
  attribute ← attribute_at (item_path path n) object word (place so_far) d
  Ok (with_part so_far attribute)

-- the attributes of an event or of an object, in the order of the list
unfoldable pub attributes_at : ℕ → Option ElemId → Body → Gathered → Reading Gathered
attributes_at word object it so_far = do
  items ← row it (codes "Attribute") list_of (Ok no_items)
  each (next_attribute word object (member_path it.path (codes "Attribute"))) 0 so_far items

-- ---- references

-- REFERENCE: of an object, at a place in reading order
unfoldable pub reference_at : List ℕ → ElemId → ℕ → ℕ → Data → Reading ReferenceDraftFields
reference_at path object word n d = do
  it ← body_at path d
  uuid ← row it (codes "uuid") uuid_of (Ok (made_uid word n))
  referenced ← row it (codes "referenced_uuid") uuid_of must_be
  relationship_type ← row it (codes "relationship_type") text_of (Ok [])
  comment ← row it (codes "comment") text_of (Ok [])
  deleted ← row it (codes "deleted") flag_of (Ok false)
  body ← Ok (record { relationship_type = relationship_type; comment = comment; deleted = deleted })
  fits ← unless_long it (text_size (Content.Reference body))
  Ok (record {
    number = n;
    object = object;
    uuid = record { 0 = uuid };
    referenced = record { 0 = referenced };
    body = body;
  })

abbrev pub next_reference : ℕ → ElemId → List ℕ → ℕ → Gathered → Data → Reading Gathered
next_reference word object path n so_far d = do
  reference ← reference_at (item_path path n) object word (place so_far) d
  Ok (with_reference so_far reference)

-- the references of an object, in the order of the list
unfoldable pub references_at : ℕ → ElemId → Body → Gathered → Reading Gathered
references_at word object it so_far = do
  items ← row it (codes "ObjectReference") list_of (Ok no_items)
  each (next_reference word object (member_path it.path (codes "ObjectReference"))) 0 so_far items

-- ---- objects

-- OBJECT: but for its attributes and references
unfoldable pub object_at : ElemId → ℕ → Body → Reading DraftFields
object_at uuid n it = do
  name ← row it (codes "name") some_text_of must_be
  meta_category ← row it (codes "meta-category") text_of (Ok [])
  description ← row it (codes "description") text_of (Ok [])
  comment ← row it (codes "comment") text_of (Ok [])
  template_uuid ← row it (codes "template_uuid") optional_uuid_of (Ok None)
  template_version ← row it (codes "template_version") number_of (Ok 0)
  label ← label_at it 5 5
  deleted ← row it (codes "deleted") flag_of (Ok false)
  content ← Ok (Content.Object (record {
    name = name;
    meta_category = meta_category;
    description = description;
    comment = comment;
    template_uuid = template_uuid;
    template_version = template_version;
    deleted = deleted;
  }))
  fits ← unless_long it (text_size content)
  Ok (record { number = n; place = Place.Object uuid; label = label; content = content })

-- an object, and then its attributes and its references
unfoldable pub object_and_others_at : ℕ → List ℕ → Gathered → Data → Reading Gathered
object_and_others_at word path so_far d = do
  it ← body_at path d
  uuid ← row it (codes "uuid") uuid_of (Ok (made_uid word (place so_far)))
  object ← object_at (record { 0 = uuid }) (place so_far) it
  more ← attributes_at word (Some (record { 0 = uuid })) it (with_part so_far object)
  references_at word (record { 0 = uuid }) it more

abbrev pub next_object : ℕ → List ℕ → ℕ → Gathered → Data → Reading Gathered
next_object word path n so_far d = object_and_others_at word (item_path path n) so_far d

-- the objects of an event, in the order of the list
unfoldable pub objects_at : ℕ → Body → Gathered → Reading Gathered
objects_at word it so_far = do
  items ← row it (codes "Object") list_of (Ok no_items)
  each (next_object word (member_path it.path (codes "Object"))) 0 so_far items
