-- THE TABLES of administering bodies: the members of each in the order in which they are read.
--     MEMBER ← row it NAME READER WHERE-ABSENT
use Rattle.std.specs.Prelude.{ℕ, true, false, not, List, codes, bytes_eq, Option, Some, None, option_map, Result, Ok, Err}
use Rattle.serde_json.specs.Data.{Data}
use Rattle.misp_ids.specs.Names.{is_api_key}
use Rattle.misp_fields.specs.declared.need.Need.{Need}
use Rattle.misp_fields.specs.Fields.{or_need, text_of, flag_of, uuid_of}
use Rattle.misp_orgs.specs.declared.link.Link.{Link}
use Rattle.misp_orgs.specs.declared.role.Role.{Role}
use Rattle.misp_orgs.specs.Org.{OrgFields, is_org_name}
use Rattle.misp_orgs.specs.Keys.{KeyFields}
use Rattle.misp_orgs.specs.Roles.{role_named}
use Rattle.misp_admins.specs.declared.ask.LinkEdit.{LinkEdit}
use Rattle.misp_format.specs.Body.{Body}
use Rattle.misp_format.specs.Edits.{given_row}
use Rattle.misp_format.specs.Filters.{org_of}
use Rattle.misp_format.specs.Json.{json_in}
use Rattle.misp_format.specs.Readers.{fitting, inst_name_of}
use Rattle.misp_format.specs.Rows.{Reading, ◌>>=◌, row, must_be, body_at}
use Rattle.misp_format.specs.Tables.{unwrapped}

-- ---- organisations

-- READER: the name of an organisation
abbrev pub org_name_of : Data → Result (List ℕ) Need
org_name_of d = fitting is_org_name Need.Range (text_of d)

-- ORGANISATION
unfoldable pub organisation_at : Data → Reading OrgFields
organisation_at d = do
  it ← body_at (codes "Organisation") (unwrapped (codes "Organisation") d)
  uuid ← row it (codes "uuid") uuid_of must_be
  name ← row it (codes "name") org_name_of must_be
  Ok (record { uuid = org_of uuid; name = name })

-- ---- keys

-- READER: a key
abbrev pub api_key_of : Data → Result (List ℕ) Need
api_key_of d = fitting is_api_key Need.Key (text_of d)

abbrev pub role_in : Result (List ℕ) Need → Result Role Need
role_in (Ok text) = or_need Need.Range (role_named text)
role_in (Err need) = Err need

-- READER: a role, by its name
abbrev pub role_of : Data → Result Role Need
role_of d = role_in (text_of d)

-- READER: a member that must not be there, whatever it is
abbrev pub refused_of : {A : Type 0} → Data → Result A Need
refused_of d = Err Need.Range

-- the instance that asks with the key: for synchronisation there is one, and for no other role
abbrev pub partner_at : Role → Body → Reading (Option (List ℕ))
partner_at Role.Sync it = row it (codes "partner") inst_name_of must_be >>= λ name. Ok (Some name)
partner_at role it = row it (codes "partner") refused_of (Ok None)

-- KEY: neither revoked nor of an instance of the same host
unfoldable pub key_at : Data → Reading KeyFields
key_at d = do
  it ← body_at (codes "AuthKey") (unwrapped (codes "AuthKey") d)
  key ← row it (codes "authkey") api_key_of must_be
  org ← row it (codes "org") uuid_of must_be
  role ← row it (codes "role") role_of must_be
  partner ← partner_at role it
  Ok (record {
    key = key;
    org = org_of org;
    role = role;
    partner = partner;
    revoked = false;
    internal = false;
  })

-- REVOKED KEY: the key alone
unfoldable pub revoked_at : Data → Reading (List ℕ)
revoked_at d = do
  it ← body_at (codes "AuthKey") (unwrapped (codes "AuthKey") d)
  row it (codes "authkey") api_key_of must_be

-- ---- links

-- READER: the name of another instance than this one
abbrev pub peer_of : List ℕ → Data → Result (List ℕ) Need
peer_of here d = fitting (λ name. not (bytes_eq name here)) Need.Range (inst_name_of d)

-- LINK of this instance, to one of another host
unfoldable pub link_at : List ℕ → Data → Reading Link
link_at here d = do
  it ← body_at (codes "Server") (unwrapped (codes "Server") d)
  name ← row it (codes "name") inst_name_of must_be
  peer ← row it (codes "peer") (peer_of here) must_be
  key ← row it (codes "key") api_key_of must_be
  holder ← row it (codes "holder") uuid_of must_be
  push_org ← row it (codes "push_org") uuid_of must_be
  on ← row it (codes "on") flag_of (Ok true)
  Ok (record {
    name = name;
    peer = peer;
    key = key;
    holder = org_of holder;
    push_org = org_of push_org;
    on = on;
    internal = false;
  })

-- LINK EDIT: what a body changes of the link that it names. What is absent stays as it is.
unfoldable pub link_edit_at : Data → Reading LinkEdit
link_edit_at d = do
  it ← body_at (codes "Server") (unwrapped (codes "Server") d)
  name ← row it (codes "name") inst_name_of must_be
  key ← given_row it (codes "key") api_key_of
  holder ← given_row it (codes "holder") uuid_of
  push_org ← given_row it (codes "push_org") uuid_of
  on ← given_row it (codes "on") flag_of
  Ok (record {
    name = name;
    key = key;
    holder = option_map org_of holder;
    push_org = option_map org_of push_org;
    on = on;
  })

-- ---- texts of bodies

-- the organisation that a text adds
abbrev pub organisation_in_text : List ℕ → Reading OrgFields
organisation_in_text text = json_in text >>= organisation_at

-- the key that a text adds
abbrev pub key_in_text : List ℕ → Reading KeyFields
key_in_text text = json_in text >>= key_at

-- the key that a text revokes
abbrev pub revoked_in_text : List ℕ → Reading (List ℕ)
revoked_in_text text = json_in text >>= revoked_at

-- the link that a text adds at the instance of this name
abbrev pub link_in_text : List ℕ → List ℕ → Reading Link
link_in_text here text = json_in text >>= link_at here

-- what a text changes of a link
abbrev pub link_edit_in_text : List ℕ → Reading LinkEdit
link_edit_in_text text = json_in text >>= link_edit_at
