-- What a command sees of what is held.
use Rattle.std.specs.Prelude.{ℕ, ◌==◌, ◌&&◌, ◌||◌, ◌-◌, Bool, cond, nat_eq, bytes_eq, List, [], ◌∷◌, ◌++◌, drop, filter, length, map, Result}
use Rattle.std.specs.Int.{w128, from_be_bytes}
use Rattle.std.specs.List.{list_any, starts_with}
use Rattle.misp_ids.specs.Same.{same_org}
use Rattle.misp_ids.specs.declared.uid.ElemId.{ElemId}
use Rattle.misp_ids.specs.declared.uid.EventId.{EventId}
use Rattle.misp_ids.specs.declared.uid.OrgId.{OrgId}
use Rattle.misp_outside.specs.Held.{rows_of, rows_named}
use Rattle.misp_elem.specs.Parents.{event_key}
use Rattle.misp_elem.specs.Spelling.{name}
use Rattle.misp_elem.specs.declared.key.KeyForm.{KeyForm as Key}
use Rattle.misp_elem.specs.declared.key.KeyForm.TheVariants.{Element}
use Rattle.misp_elem.specs.declared.key.Place.{Place}
use Rattle.misp_effects.specs.Prelude.{Group, Held, RawRow, Row, uid}
use Rattle.misp_model.specs.declared.looks.Look.{Look}
use Rattle.misp_model.specs.declared.looks.Looks.{Looks}
use Rattle.misp_store.specs.Raw.{rows_in}
use Rattle.misp_store.specs.Sharing.{groups_of}
use Rattle.misp_store.specs.declared.reach.Reach.{Reach}

-- ---- what names begin with, and end with

-- the number of the first 16 bytes of a name, the highest first
unfoldable pub front_number : List ℕ → ℕ
front_number bytes = from_be_bytes w128 bytes

-- the owner that a name begins with
abbrev pub owner_in : List ℕ → OrgId
owner_in bytes = record { 0 = record { 0 = front_number bytes } }

-- the number of the last 16 bytes of a name, the highest first
unfoldable pub end_number : List ℕ → ℕ
end_number bytes = from_be_bytes w128 (drop (length bytes - 16) bytes)

-- what the names of an owner's rows of one kind begin with
abbrev pub kind_front : OrgId → EventId → ℕ → List ℕ
kind_front o e kind = uid o.0 ++ kind ∷ uid e.0

-- what those of its elements at places of one form begin with
abbrev pub place_front : OrgId → EventId → ℕ → List ℕ
place_front o e form = kind_front o e 0 ++ form ∷ []

-- ---- which names are looked at

-- the bytes are the name of the owner's row of one of the keys
abbrev pub names_one : OrgId → List Key → List ℕ → Bool
names_one o keys bytes = list_any (λ k. bytes_eq bytes (name o k)) keys

-- they begin so
abbrev pub begin_with : List ℕ → List ℕ → Bool
begin_with front bytes = starts_with nat_eq bytes front

-- they end with one of the uuids
abbrev pub end_with_one : List ElemId → List ℕ → Bool
end_with_one us bytes = list_any (λ u. u.0.0 == end_number bytes) us

-- the attributes of these uuids that are in no object
abbrev pub attributes_of : EventId → List ElemId → List Key
attributes_of e us = map (λ u. Element e (Place.Attribute u)) us

-- they are the name of an attribute in an object, or of a reference, of one of the uuids
abbrev pub names_within : List ElemId → EventId → OrgId → List ℕ → Bool
names_within us e o bytes =
    (begin_with (place_front o e 3) bytes || begin_with (kind_front o e 1) bytes)
    && end_with_one us bytes

-- they are the name of the event's own row, of an object's, or of that of one of the uuids
abbrev pub names_by_uuid : List ElemId → EventId → OrgId → List ℕ → Bool
names_by_uuid us e o bytes =
    bytes_eq bytes (name o (event_key e))
    || (begin_with (place_front o e 1) bytes
    || (names_one o (attributes_of e us) bytes || names_within us e o bytes))

-- they are the name of a proposal, a verdict or a sighting
abbrev pub names_statement : EventId → OrgId → List ℕ → Bool
names_statement e o bytes =
    begin_with (kind_front o e 2) bytes
    || (begin_with (kind_front o e 3) bytes || begin_with (kind_front o e 4) bytes)

-- they are the name of one of the owner's rows that are looked at
unfoldable pub names_in : Look → EventId → OrgId → List ℕ → Bool
names_in (Look.Keys keys) e o bytes = names_one o keys bytes
names_in (Look.Uuids us keys) e o bytes = names_by_uuid us e o bytes || names_one o keys bytes
names_in Look.Statements e o bytes =
    bytes_eq bytes (name o (event_key e)) || names_statement e o bytes
names_in Look.All e o bytes = begin_with (uid o.0) bytes

-- how the rows of an owner are looked at
abbrev pub look_at : Looks → OrgId → Look
look_at l o = cond (same_org o l.of) l.own l.others

-- the name is one that is looked at, of the owner that it begins with
unfoldable pub is_name_looked : Looks → List ℕ → Bool
is_name_looked l bytes =
    names_in (look_at l (owner_in bytes)) l.event (owner_in bytes) bytes

-- of what is held what a request looks at
unfoldable pub rows_looked : Looks → List RawRow → List RawRow
rows_looked l raws =
    filter (λ raw. (raw.event.0.0 == l.event.0.0) && is_name_looked l raw.name) raws

-- ---- what is seen

-- of what is held what is within a reach; the name of a row begins with its owner
abbrev pub rows_within : Reach → List RawRow → List RawRow
rows_within Reach.Nothing raws = []
rows_within (Reach.Own org event) raws = rows_named event (uid org.0) raws
rows_within (Reach.Looked looks) raws = rows_looked looks raws
rows_within (Reach.Event event) raws = rows_of event raws
rows_within Reach.All raws = raws

-- the groups; and within each reach the rows, or the name of the first that is none
pub record Seen : Type 0 where
  pub groups : List Group
  pub rows : Reach → Result (List Row) (List ℕ)

-- what is seen where this is held
abbrev pub seen_in : Held → Seen
seen_in held = record {
  groups = groups_of held;
  rows = λ reach. rows_in (rows_within reach held.rows);
}
