-- THE TABLE of a whole sharing group.
--     MEMBER ← row it NAME READER WHERE-ABSENT
use Rattle.std.specs.Prelude.{ℕ, Bool, true, false, List, [], map, codes, Ok}
use Rattle.std.specs.BTreeMap.{insert_entry}
use Rattle.serde_json.specs.Data.{Data, no_items}
use Rattle.misp_lists.specs.Prelude.{nat_cmp, slice_cmp}
use Rattle.misp_ids.specs.declared.uid.Uid.{Uid}
use Rattle.misp_groups.specs.declared.group.GroupFields.{GroupFields as Group}
use Rattle.misp_groups.specs.declared.group.GroupOrg.{GroupOrg}
use Rattle.misp_groups.specs.declared.group.GroupServer.{GroupServer}
use Rattle.misp_fields.specs.Fields.{text_of, flag_of, stamp_of, uuid_of, list_of}
use Rattle.misp_format.specs.Body.{Body}
use Rattle.misp_format.specs.Path.{member_path, item_path}
use Rattle.misp_format.specs.Readers.{any_of, inst_name_of, some_text_of}
use Rattle.misp_format.specs.Rows.{Reading, ◌>>=◌, row, must_be, body_at, each}
use Rattle.misp_format.specs.Tables.{unwrapped}

-- ---- organisations

-- what an organisation of a group has, by its identifier, in the order of these
abbrev pub OrgEntries : Type 0
OrgEntries = List (ℕ × (List ℕ × Bool))

-- an organisation: its identifier, and its name here
unfoldable pub organisation_at : List ℕ → Data → Reading (Uid × List ℕ)
organisation_at path d = do
  it ← body_at path d
  uuid ← row it (codes "uuid") uuid_of must_be
  name ← row it (codes "name") text_of (Ok [])
  Ok (uuid, name)

-- the organisation that a member names
abbrev pub named_organisation_at : Body → Reading (Uid × List ℕ)
named_organisation_at it = do
  value ← row it (codes "Organisation") any_of must_be
  organisation_at (member_path it.path (codes "Organisation")) value

-- ORGANISATION OF A GROUP
unfoldable pub org_at : List ℕ → Data → Reading GroupOrg
org_at path d = do
  it ← body_at path d
  organisation ← named_organisation_at it
  extend ← row it (codes "extend") flag_of (Ok false)
  Ok (record { org = record { 0 = organisation.0 }; name = organisation.1; extend = extend })

abbrev pub org_of : ℕ × (List ℕ × Bool) → GroupOrg
org_of e = record { org = record { 0 = record { 0 = e.0 } }; name = e.1.0; extend = e.1.1 }

-- with this organisation: of two of one identifier the later counts
abbrev pub with_org : OrgEntries → GroupOrg → OrgEntries
with_org entries o = insert_entry nat_cmp entries o.org.0.0 (o.name, o.extend)

abbrev pub next_org : List ℕ → ℕ → OrgEntries → Data → Reading OrgEntries
next_org path n so_far d = org_at (item_path path n) d >>= λ o. Ok (with_org so_far o)

-- the organisations of a group, in the order of their identifiers
unfoldable pub orgs_at : Body → Reading (List GroupOrg)
orgs_at it = do
  items ← row it (codes "SharingGroupOrg") list_of (Ok no_items)
  entries ← each (next_org (member_path it.path (codes "SharingGroupOrg"))) 0 [] items
  Ok (map org_of entries)

-- ---- instances

-- whether all organisations of an instance belong to a group, by its name, in the order of these
abbrev pub ServerEntries : Type 0
ServerEntries = List (List ℕ × (List ℕ × Bool))

-- an instance: its name
unfoldable pub server_name_at : List ℕ → Data → Reading (List ℕ)
server_name_at path d = do
  it ← body_at path d
  row it (codes "name") inst_name_of must_be

-- the instance that a member names
abbrev pub named_server_at : Body → Reading (List ℕ)
named_server_at it = do
  value ← row it (codes "Server") any_of must_be
  server_name_at (member_path it.path (codes "Server")) value

-- SERVER OF A GROUP
unfoldable pub server_at : List ℕ → Data → Reading GroupServer
server_at path d = do
  it ← body_at path d
  name ← named_server_at it
  all_orgs ← row it (codes "all_orgs") flag_of (Ok false)
  Ok (record { name = name; all_orgs = all_orgs })

abbrev pub server_of : List ℕ × (List ℕ × Bool) → GroupServer
server_of e = record { name = e.1.0; all_orgs = e.1.1 }

-- with this instance: of two of one name the later counts
abbrev pub with_server : ServerEntries → GroupServer → ServerEntries
with_server entries s = insert_entry (slice_cmp nat_cmp) entries s.name (s.name, s.all_orgs)

abbrev pub next_server : List ℕ → ℕ → ServerEntries → Data → Reading ServerEntries
next_server path n so_far d = server_at (item_path path n) d >>= λ s. Ok (with_server so_far s)

-- the instances of a group, in the order of their names
unfoldable pub servers_at : Body → Reading (List GroupServer)
servers_at it = do
  items ← row it (codes "SharingGroupServer") list_of (Ok no_items)
  entries ← each (next_server (member_path it.path (codes "SharingGroupServer"))) 0 [] items
  Ok (map server_of entries)

-- ---- groups

-- GROUP: whole, and not carried
unfoldable pub whole_group_at : List ℕ → Data → Reading Group
whole_group_at path d = do
  it ← body_at path d
  uuid ← row it (codes "uuid") uuid_of must_be
  creator ← row it (codes "organisation_uuid") uuid_of must_be
  name ← row it (codes "name") some_text_of must_be
  description ← row it (codes "description") text_of (Ok [])
  releasability ← row it (codes "releasability") text_of (Ok [])
  active ← row it (codes "active") flag_of (Ok true)
  roaming ← row it (codes "roaming") flag_of (Ok false)
  modified ← row it (codes "modified") stamp_of (Ok 0)
  orgs ← orgs_at it
  servers ← servers_at it
  Ok (
      record {
        id = record { creator = record { 0 = creator }; uuid = uuid };
        name = name;
        description = description;
        releasability = releasability;
        active = active;
        roaming = roaming;
        orgs = orgs;
        servers = servers;
        modified = modified;
        carried = false;
      }
      )

-- a body that is a group
abbrev pub group_body_at : Data → Reading Group
group_body_at d = whole_group_at (codes "SharingGroup") (unwrapped (codes "SharingGroup") d)
