-- THE TABLES of a description: the members of each, in the order in which they are read.
use Rattle.std.specs.Prelude.{ℕ, ◌==◌, ◌&&◌, Bool, not, List, [], ◌∷◌, ◌++◌, length, codes, bytes_eq, find, Option, Some, None, option_map, is_some, true, false, Ok, if◌then◌else◌}
use Rattle.toml.specs.Data.{Data}
use Rattle.misp_lists.specs.Prelude.{list_any, option_map_or}
use Rattle.misp_ids.specs.declared.uid.Uid.{Uid}
use Rattle.misp_ids.specs.declared.uid.OrgId.{OrgId}
use Rattle.misp_ids.specs.Uid.{read_uid}
use Rattle.misp_ids.specs.Names.{is_inst_name, is_api_key}
use Rattle.misp_orgs.specs.declared.role.Role.{Role}
use Rattle.misp_orgs.specs.Org.{OrgFields, is_org_name}
use Rattle.misp_orgs.specs.Roles.{role_named}
use Rattle.misp_script.specs.declared.description.Host.{Host}
use Rattle.misp_script.specs.declared.description.HostKey.{HostKey}
use Rattle.misp_script.specs.declared.description.HostLink.{HostLink}
use Rattle.misp_script.specs.declared.fault.DescNeed.{DescNeed}
use Rattle.misp_script.specs.Faults.{Reading, ◌>>=◌}
use Rattle.misp_script.specs.Entries.{Body, entry_of, has, text_in, text_at, text_or_none_at, flag_or_at, said, refused_if, no_other}

-- ---- organisations

abbrev pub org_name_of : List ℕ → Option (List ℕ)
org_name_of text = if is_org_name text then Some text else None

-- the organisation of this name
abbrev pub org_named : List OrgFields → List ℕ → Option OrgId
org_named orgs text = option_map (λ o. o.uuid) (find (λ o. bytes_eq o.name text) orgs)

-- there is one
abbrev pub has_name : List OrgFields → List ℕ → Bool
has_name orgs name = is_some (org_named orgs name)

-- one has the identifier of this number
abbrev pub has_number : List OrgFields → ℕ → Bool
has_number orgs number = list_any (λ o. o.uuid.0.0 == number) orgs

abbrev pub org_name_at : Body → Reading (List ℕ)
org_name_at it =
    text_at it (codes "name") >>= λ text. said it (codes "name") DescNeed.Name (org_name_of text)

abbrev pub uuid_at : Body → Reading Uid
uuid_at it = text_at it (codes "uuid") >>= λ text. said it (codes "uuid") DescNeed.Uuid (read_uid text)

unfoldable pub org_at : List OrgFields → Body → Reading OrgFields
org_at before it = do
  name ← org_name_at it
  new_name ← refused_if (has_name before name) it (codes "name") DescNeed.Distinct
  uuid ← uuid_at it
  new_uuid ← refused_if (has_number before uuid.0) it (codes "uuid") DescNeed.Distinct
  no_more ← no_other it (codes "name" ∷ codes "uuid" ∷ [])
  Ok (record { uuid = record { 0 = uuid }; name = name })

abbrev pub next_org : ℕ → List OrgFields → Data → Reading (List OrgFields)
next_org n before d = org_at before (entry_of (codes "org") n d) >>= λ org. Ok (before ++ org ∷ [])

-- the organisation that a member names
abbrev pub known_org_at : List OrgFields → Body → List ℕ → Reading OrgId
known_org_at orgs it name =
    text_at it name >>= λ text. said it name DescNeed.Known (org_named orgs text)

-- the same, where there is the member
abbrev pub known_org_or_none_at : List OrgFields → Body → List ℕ → Reading (Option OrgId)
known_org_or_none_at orgs it name =
    if has it name then (known_org_at orgs it name >>= λ org. Ok (Some org)) else Ok None

-- ---- instances

abbrev pub host_name_of : List ℕ → Option (List ℕ)
host_name_of text = if is_inst_name text then Some text else None

abbrev pub has_host : List Host → List ℕ → Bool
has_host hosts name = list_any (λ h. bytes_eq h.name name) hosts

abbrev pub host_name_at : Body → Reading (List ℕ)
host_name_at it =
    text_at it (codes "name") >>= λ text. said it (codes "name") DescNeed.Name (host_name_of text)

unfoldable pub host_at : List OrgFields → List Host → Body → Reading Host
host_at orgs before it = do
  name ← host_name_at it
  new ← refused_if (has_host before name) it (codes "name") DescNeed.Distinct
  address ← text_or_none_at it (codes "address")
  org ← known_org_or_none_at orgs it (codes "host")
  no_more ← no_other it (codes "name" ∷ codes "address" ∷ codes "host" ∷ [])
  Ok (record { name = name; address = address; org = org })

abbrev pub next_host : List OrgFields → ℕ → List Host → Data → Reading (List Host)
next_host orgs n before d =
    host_at orgs before (entry_of (codes "instance") n d) >>= λ host. Ok (before ++ host ∷ [])

-- ---- instances of one host

-- the instance of this name
abbrev pub host_named : List Host → List ℕ → Option Host
host_named hosts name = find (λ h. bytes_eq h.name name) hosts

-- the organisation that hosts it, if the description says it
abbrev pub hosting_org : List Host → List ℕ → Option OrgId
hosting_org hosts name = option_map_or (λ h. h.org) (host_named hosts name) None

-- both are said, and they are one
abbrev pub is_one_org : Option OrgId → Option OrgId → Bool
is_one_org (Some a) (Some b) = a.0.0 == b.0.0
is_one_org a b = false

-- one organisation hosts the instances of these names
abbrev pub have_one_host : List Host → List ℕ → List ℕ → Bool
have_one_host hosts a b = is_one_org (hosting_org hosts a) (hosting_org hosts b)

-- what stands between two instances is internal only where one organisation hosts both
unfoldable pub internal_at : List Host → Body → List ℕ → List ℕ → Reading Bool
internal_at hosts it at peer = do
  internal ← flag_or_at it (codes "internal") false
  one ← refused_if (internal && not (have_one_host hosts at peer)) it
      (codes "internal") DescNeed.Host
  Ok internal

-- ---- keys

abbrev pub key_of : List ℕ → Option (List ℕ)
key_of text = if is_api_key text then Some text else None

-- the instance of this name
abbrev pub host_of : List Host → List ℕ → Option (List ℕ)
host_of hosts text = option_map (λ h. h.name) (find (λ h. bytes_eq h.name text) hosts)

-- the instance has the key
abbrev pub has_key : List HostKey → List ℕ → List ℕ → Bool
has_key keys at key = list_any (λ k. bytes_eq k.key.key key && bytes_eq k.at at) keys

abbrev pub known_host_at : List Host → Body → List ℕ → Reading (List ℕ)
known_host_at hosts it name =
    text_at it name >>= λ text. said it name DescNeed.Known (host_of hosts text)

abbrev pub api_key_at : Body → Reading (List ℕ)
api_key_at it = text_at it (codes "key") >>= λ text. said it (codes "key") DescNeed.Key (key_of text)

abbrev pub role_at : Body → Reading Role
role_at it = text_at it (codes "role") >>= λ text. said it (codes "role") DescNeed.Role (role_named text)

abbrev pub no_partner_at : Body → Reading (Option (List ℕ))
no_partner_at it =
    refused_if (has it (codes "partner")) it (codes "partner") DescNeed.Member >>= λ none. Ok None

-- the partner of a key for synchronisation; no other key has one
abbrev pub partner_at : List Host → Body → Role → Reading (Option (List ℕ))
partner_at hosts it Role.Sync =
    known_host_at hosts it (codes "partner") >>= λ partner. Ok (Some partner)
partner_at hosts it role = no_partner_at it

-- what has no partner is not internal
unfoldable pub not_internal_at : Body → Reading Bool
not_internal_at it = do
  internal ← flag_or_at it (codes "internal") false
  none ← refused_if internal it (codes "partner") DescNeed.Present
  Ok internal

-- whether a key is internal: one of an instance that its partner's host hosts, too
abbrev pub key_internal_at :
    List Host → Body → List ℕ → Option (List ℕ) → Reading Bool
key_internal_at hosts it at (Some partner) = internal_at hosts it at partner
key_internal_at hosts it at None = not_internal_at it

unfoldable pub key_at : List OrgFields → List Host → List HostKey → Body → Reading HostKey
key_at orgs hosts before it = do
  at ← known_host_at hosts it (codes "instance")
  key ← api_key_at it
  new ← refused_if (has_key before at key) it (codes "key") DescNeed.Distinct
  org ← known_org_at orgs it (codes "org")
  role ← role_at it
  partner ← partner_at hosts it role
  internal ← key_internal_at hosts it at partner
  no_more ← no_other it
      (codes "instance" ∷ codes "key" ∷ codes "org" ∷ codes "role" ∷ codes "partner"
      ∷ codes "internal" ∷ [])
  Ok (record {
    at = at;
    key = record {
      key = key;
      org = org;
      role = role;
      partner = partner;
      revoked = false;
      internal = internal;
    };
  })

abbrev pub next_key : List OrgFields → List Host → ℕ → List HostKey → Data → Reading (List HostKey)
next_key orgs hosts n before d =
    key_at orgs hosts before (entry_of (codes "key") n d) >>= λ key. Ok (before ++ key ∷ [])

-- ---- links

-- the instance has a link of this name
abbrev pub has_link : List HostLink → List ℕ → List ℕ → Bool
has_link links at name = list_any (λ l. bytes_eq l.link.name name && bytes_eq l.at at) links

-- the instance that a member names, if it names one
abbrev pub host_in : List Host → Body → List ℕ → Option (List ℕ)
host_in hosts it name = option_map_or (host_of hosts) (text_in it name) None

-- the instance whose link it is has one of this name already
abbrev pub is_taken : List Host → List HostLink → Body → List ℕ → Bool
is_taken hosts before it name =
    option_map_or (λ at. has_link before at name) (host_in hosts it (codes "at")) false

unfoldable pub link_at : List OrgFields → List Host → List HostLink → Body → Reading HostLink
link_at orgs hosts before it = do
  name ← host_name_at it
  new ← refused_if (is_taken hosts before it name) it (codes "name") DescNeed.Distinct
  at ← known_host_at hosts it (codes "at")
  peer ← known_host_at hosts it (codes "to")
  other ← refused_if (bytes_eq peer at) it (codes "to") DescNeed.Distinct
  key ← api_key_at it
  holder ← known_org_at orgs it (codes "holder")
  push_org ← known_org_at orgs it (codes "push_org")
  on ← flag_or_at it (codes "on") true
  internal ← internal_at hosts it at peer
  no_more ← no_other it
      (codes "name" ∷ codes "at" ∷ codes "to" ∷ codes "key" ∷ codes "holder"
      ∷ codes "push_org" ∷ codes "on" ∷ codes "internal" ∷ [])
  Ok (record {
    at = at;
    link = record {
      name = name;
      peer = peer;
      key = key;
      holder = holder;
      push_org = push_org;
      on = on;
      internal = internal;
    };
  })

abbrev pub next_link :
    List OrgFields → List Host → ℕ → List HostLink → Data → Reading (List HostLink)
next_link orgs hosts n before d =
    link_at orgs hosts before (entry_of (codes "link") n d) >>= λ link. Ok (before ++ link ∷ [])
