-- What a line says.
use Rattle.std.specs.Prelude.{ℕ, ◌<◌, ◌&&◌, ◌||◌, Bool, nat_le, nat_lt, List, [], length, codes, bytes_eq, Option, Some, None, option_map, unwrap_or, Ok, true, false, if◌then◌else◌, option_and_then}
use Rattle.std.specs.List.{list_all}
use Rattle.std.specs.Result.{result_ok}
use Rattle.hex.specs.Hex.{decode_of}
use Rattle.misp_ids.specs.declared.label.Direction.{Direction}
use Rattle.misp_ids.specs.declared.uid.Uid.{Uid}
use Rattle.misp_ids.specs.declared.uid.OrgId.{OrgId}
use Rattle.misp_ids.specs.Names.{is_inst_name}
use Rattle.misp_ids.specs.Uid.{read_uid}
use Rattle.misp_script.specs.declared.command.Verb.{Verb}
use Rattle.misp_script.specs.declared.step.Step.{Step}
use Rattle.misp_script.specs.declared.step.Command.{Command}
use Rattle.misp_script.specs.declared.step.RequestLine.{RequestLine}
use Rattle.misp_script.specs.declared.step.GroupLine.{GroupLine}
use Rattle.misp_script.specs.declared.step.SyncLine.{SyncLine}
use Rattle.misp_script.specs.declared.step.RawLine.{RawLine}
use Rattle.misp_script.specs.Directory.{Roster, roster_names, place_of, knows}
use Rattle.misp_script.specs.Fields.{Reading, ◌>>=◌, FieldData, field_in, next_field, kept, no_field}
use Rattle.misp_script.specs.Numbers.{time_of, word_of}

-- ---- steps, as contracts see them

-- a request: the place of its instance, its key, its method, its target and its body
pub record RequestData : Type 0 where
  pub at : ℕ
  pub key : Option (List ℕ)
  pub method : List ℕ
  pub target : List ℕ
  pub body : List ℕ

-- the bytes of a connection: the place of the instance, and the bytes
pub record RawData : Type 0 where
  pub at : ℕ
  pub bytes : List ℕ

-- a sharing group that an organisation administers: the place of the instance, the organisation,
-- whether the group is added there (else it is edited), and the text of the group
pub record GroupData : Type 0 where
  pub at : ℕ
  pub org : OrgId
  pub add : Bool
  pub body : List ℕ

-- a synchronisation of an instance over one of its links: the place of the instance, the direction,
-- the name of the link
pub record SyncData : Type 0 where
  pub at : ℕ
  pub direction : Direction
  pub link : List ℕ

pub data CommandData : Type 0 where
  Nothing : CommandData
  Request : RequestData → CommandData
  Raw : RawData → CommandData
  Group : GroupData → CommandData
  Sync : SyncData → CommandData

-- a step: its moment, its word and its command
pub record StepData : Type 0 where
  pub time : ℕ
  pub word : ℕ
  pub command : CommandData

abbrev pub request_data : RequestLine → RequestData
request_data r =
    record {
      at = r.at;
      key = option_map (λ text. text.now) r.key;
      method = r.method.now;
      target = r.target.now;
      body = r.body.now;
    }

-- the bytes that hexadecimal digits are
abbrev pub bytes_of : List ℕ → List ℕ
bytes_of hex = unwrap_or (result_ok (decode_of hex)) []

abbrev pub raw_data : RawLine → RawData
raw_data r = record { at = r.at; bytes = bytes_of r.hex.now }

abbrev pub group_data : GroupLine → GroupData
group_data g = record { at = g.at; org = g.org; add = g.add; body = g.body.now }

abbrev pub sync_data : SyncLine → SyncData
sync_data s = record { at = s.at; direction = s.direction; link = s.link }

abbrev pub command_data : Command → CommandData
command_data Command.Nothing = Nothing
command_data (Command.Request request) = Request (request_data request)
command_data (Command.Raw raw) = Raw (raw_data raw)
command_data (Command.Group group) = Group (group_data group)
command_data (Command.Sync sync) = Sync (sync_data sync)

abbrev pub step_data : Step → StepData
step_data step = record { time = step.time; word = step.word; command = command_data step.command }

-- its instance is one of so many
abbrev pub IsPlaced : ℕ → CommandData → Type 0
IsPlaced count Nothing = Unit {0}
IsPlaced count (Request request) = request.at < count
IsPlaced count (Raw raw) = raw.at < count
IsPlaced count (Group group) = group.at < count
IsPlaced count (Sync sync) = sync.at < count

-- ---- fields

abbrev pub verb_of : List ℕ → Option Verb
verb_of text =
    if bytes_eq text (codes "none") then Some Verb.Nothing
    else if bytes_eq text (codes "req") then Some Verb.Request
    else if bytes_eq text (codes "raw") then Some Verb.Raw
    else if bytes_eq text (codes "group-add") then Some Verb.AddGroup
    else if bytes_eq text (codes "group-edit") then Some Verb.EditGroup
    else if bytes_eq text (codes "pull") then Some Verb.Pull
    else if bytes_eq text (codes "push") then Some Verb.Push
    else None

-- a byte from 33 to 126
abbrev pub is_visible : ℕ → Bool
is_visible byte = nat_le 33 byte && nat_le byte 126

-- one or more of them
abbrev pub visible_of : List ℕ → Option (List ℕ)
visible_of text = if nat_lt 0 (length text) && list_all is_visible text then Some text else None

-- `-` stands for no key
abbrev pub key_of : List ℕ → Option (List ℕ)
key_of text = if bytes_eq text (codes "-") then None else Some text

-- the rest of the line, which may be absent
abbrev pub body_of : Option (List ℕ) → List ℕ
body_of left = unwrap_or left []

abbrev pub is_lower_digit : ℕ → Bool
is_lower_digit byte = (nat_le 48 byte && nat_le byte 57) || (nat_le 97 byte && nat_le byte 102)

-- the bytes that an even number of lower-case hexadecimal digits are
abbrev pub hex_bytes : List ℕ → Option (List ℕ)
hex_bytes text = if list_all is_lower_digit text then result_ok (decode_of text) else None

-- the organisation of a uuid, if it is known at the instance of this place
abbrev pub known_org : List Roster → ℕ → Uid → Option OrgId
known_org rosters at uuid =
    if knows rosters at (record { 0 = uuid }) then Some (record { 0 = uuid }) else None

-- the same of a uuid in the hyphenated form
abbrev pub org_of : List Roster → ℕ → List ℕ → Option OrgId
org_of rosters at text = option_and_then (known_org rosters at) (read_uid text)

-- the name of an instance or a link
abbrev pub name_of : List ℕ → Option (List ℕ)
name_of text = if is_inst_name text then Some text else None

-- the rest of the line, which must be there, and may be empty
abbrev pub rest_of : List ℕ → Option (List ℕ) → Reading (List ℕ)
rest_of line left = kept (length line) left

-- the place of the instance that the next field names, and that field
unfoldable pub next_instance : List Roster → List ℕ → Option (List ℕ) → Reading (ℕ × FieldData)
next_instance rosters line left = do
  inst ← next_field line left
  at ← kept inst.place (place_of (roster_names rosters) inst.text)
  Ok (at, inst)

-- the text of the next field, and that field
unfoldable pub next_visible : List ℕ → Option (List ℕ) → Reading (List ℕ × FieldData)
next_visible line left = do
  field ← next_field line left
  text ← kept field.place (visible_of field.text)
  Ok (text, field)

-- ---- lines

unfoldable pub request_of : List Roster → List ℕ → Option (List ℕ) → Reading RequestData
request_of rosters line left = do
  inst ← next_instance rosters line left
  key ← next_visible line inst.1.rest
  method ← next_visible line key.1.rest
  target ← next_visible line method.1.rest
  Ok (record {
    at = inst.0;
    key = key_of key.0;
    method = method.0;
    target = target.0;
    body = body_of target.1.rest;
  })

unfoldable pub raw_of : List Roster → List ℕ → Option (List ℕ) → Reading RawData
raw_of rosters line left = do
  inst ← next_instance rosters line left
  digits ← next_field line inst.1.rest
  bytes ← kept digits.place (hex_bytes digits.text)
  no_field line digits.rest >>= λ done. Ok (record { at = inst.0; bytes = bytes })

unfoldable pub group_of : List Roster → List ℕ → Bool → Option (List ℕ) → Reading GroupData
group_of rosters line add left = do
  inst ← next_instance rosters line left
  org ← next_field line inst.1.rest
  named ← kept org.place (org_of rosters inst.0 org.text)
  body ← rest_of line org.rest
  Ok (record { at = inst.0; org = named; add = add; body = body })

unfoldable pub sync_of : List Roster → List ℕ → Direction → Option (List ℕ) → Reading SyncData
sync_of rosters line direction left = do
  inst ← next_instance rosters line left
  link ← next_field line inst.1.rest
  name ← kept link.place (name_of link.text)
  no_field line link.rest >>= λ done. Ok (record { at = inst.0; direction = direction; link = name })

abbrev pub nothing_command : List ℕ → Option (List ℕ) → Reading CommandData
nothing_command line left = no_field line left >>= λ done. Ok Nothing

abbrev pub request_command : List Roster → List ℕ → Option (List ℕ) → Reading CommandData
request_command rosters line left =
    request_of rosters line left >>= λ request. Ok (Request request)

abbrev pub raw_command : List Roster → List ℕ → Option (List ℕ) → Reading CommandData
raw_command rosters line left = raw_of rosters line left >>= λ raw. Ok (Raw raw)

abbrev pub group_command : List Roster → List ℕ → Bool → Option (List ℕ) → Reading CommandData
group_command rosters line add left =
    group_of rosters line add left >>= λ group. Ok (Group group)

abbrev pub sync_command : List Roster → List ℕ → Direction → Option (List ℕ) → Reading CommandData
sync_command rosters line direction left = sync_of rosters line direction left >>= λ sync. Ok (Sync sync)

abbrev pub command_of : List Roster → List ℕ → Verb → Option (List ℕ) → Reading CommandData
command_of rosters line Verb.Nothing left = nothing_command line left
command_of rosters line Verb.Request left = request_command rosters line left
command_of rosters line Verb.Raw left = raw_command rosters line left
command_of rosters line Verb.AddGroup left = group_command rosters line true left
command_of rosters line Verb.EditGroup left = group_command rosters line false left
command_of rosters line Verb.Pull left = sync_command rosters line Direction.Pull left
command_of rosters line Verb.Push left = sync_command rosters line Direction.Push left

-- a time, a word, and a verb with its fields
unfoldable pub step_of : List Roster → List ℕ → Reading StepData
step_of rosters line = do
  time ← Ok (field_in line line)
  moment ← kept time.place (time_of time.text)
  word ← next_field line time.rest
  number ← kept word.place (word_of word.text)
  verb ← next_field line word.rest
  named ← kept verb.place (verb_of verb.text)
  command ← command_of rosters line named verb.rest
  Ok (record { time = moment; word = number; command = command })
