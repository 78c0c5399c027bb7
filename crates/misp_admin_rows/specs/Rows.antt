-- Organisations, keys and links as a keeper holds them, among the rows of its administration.
use Rattle.std.specs.Prelude.{ℕ, ◌==◌, ◌||◌, Bool, true, false, zero, suc, is_some, length, take, drop, filter, filter_map, not, List, [], ◌∷◌, ◌++◌, Option, None, Some, Result, Ok, Err, if◌then◌else◌}
use Rattle.std.specs.List.{list_all}
use Rattle.misp_lists.specs.Reading.{◌>>=◌}
use Rattle.misp_ids.specs.Names.{is_api_key, is_inst_name}
use Rattle.misp_ids.specs.declared.uid.OrgId.{OrgId}
use Rattle.misp_outside.specs.declared.row.AdminRow.{AdminRow}
use Rattle.misp_orgs.specs.declared.link.Link.{Link}
use Rattle.misp_orgs.specs.declared.role.Role.{Role}
use Rattle.misp_orgs.specs.Roles.{is_sync}
use Rattle.misp_orgs.specs.Org.{OrgFields, name_limit}
use Rattle.misp_orgs.specs.Keys.{KeyFields}
use Rattle.misp_elem.specs.Reading.{Reading, between_at, ended, flag_at, inst_at, org_at, text_at}
use Rattle.misp_elem.specs.RowReading.{flags_at}
use Rattle.misp_admins.specs.declared.item.Item.{Item}
use Rattle.misp_elem.specs.Spelling as spelling

-- ---- writing

abbrev pub org_kind : ℕ
org_kind = 2

abbrev pub key_kind : ℕ
key_kind = 3

abbrev pub link_kind : ℕ
link_kind = 4

-- one of the kinds of items
abbrev pub is_item_kind : ℕ → Bool
is_item_kind kind = (kind == org_kind) || (kind == key_kind) || (kind == link_kind)

-- the name as a text, under the sixteen bytes of the identifier
abbrev pub org_row : OrgFields → AdminRow
org_row o = record {
  kind = org_kind;
  name = spelling.uid o.uuid.0;
  bytes = spelling.text o.name;
}

-- roles in the order in which a description lists them
abbrev pub role_number : Role → ℕ
role_number Role.Reader = 0
role_number Role.User = 1
role_number Role.Publisher = 2
role_number Role.OrgAdmin = 3
role_number Role.Sync = 4
role_number Role.SiteAdmin = 5

-- a flag, and the name of the instance where there is one
abbrev pub optional_inst : Option (List ℕ) → List ℕ
optional_inst None = 0 ∷ []
optional_inst (Some name) = 1 ∷ spelling.inst_name name

-- whose it is at 0, the role at 16, the flags at 17 (revoked is worth 1, and internal 2), and the
-- partner from 18 on, under the forty bytes of the key
abbrev pub key_row : KeyFields → AdminRow
key_row k = record {
  kind = key_kind;
  name = k.key;
  bytes =
      spelling.uid k.org.0
      ++ ((role_number k.role ∷ [])
      ++ (spelling.flags (k.revoked, k.internal)
      ++ optional_inst k.partner));
}

-- the peer, the forty bytes of the key there, the holder, the organisation of pushes, and the flags
-- (on is worth 1, and internal 2), under the bytes of the name
abbrev pub link_row : Link → AdminRow
link_row l = record {
  kind = link_kind;
  name = l.name;
  bytes =
      spelling.inst_name l.peer
      ++ (l.key
      ++ (spelling.uid l.holder.0
      ++ (spelling.uid l.push_org.0
      ++ spelling.flags (l.on, l.internal))));
}

unfoldable pub item_row : Item → AdminRow
item_row (Item.Org o) = org_row o
item_row (Item.Key k) = key_row k
item_row (Item.Link l) = link_row l

-- ---- reading

-- the role of a number, which is one of a role
abbrev pub role_numbered : ℕ → Role
role_numbered zero = Role.Reader
role_numbered (suc zero) = Role.User
role_numbered (suc (suc zero)) = Role.Publisher
role_numbered (suc (suc (suc zero))) = Role.OrgAdmin
role_numbered (suc (suc (suc (suc zero)))) = Role.Sync
role_numbered n = Role.SiteAdmin

unfoldable pub role_at : List ℕ → Reading Role
role_at bytes = do
  n ← between_at 0 5 bytes
  Ok (role_numbered n.0, n.1)

-- the name behind its flag
abbrev pub optional_inst_of : Bool → List ℕ → Reading (Option (List ℕ))
optional_inst_of false rest = Ok (None, rest)
optional_inst_of true rest = inst_at rest >>= λ name. Ok (Some name.0, name.1)

unfoldable pub optional_inst_at : List ℕ → Reading (Option (List ℕ))
optional_inst_at bytes = flag_at bytes >>= λ there. optional_inst_of there.0 there.1

-- both hold, or neither
abbrev pub are_same : Bool → Bool → Bool
are_same true b = b
are_same false true = false
are_same false false = true

-- a partner, which is there exactly for the role of synchronisation
unfoldable pub partner_at : Role → List ℕ → Reading (Option (List ℕ))
partner_at role bytes = do
  partner ← optional_inst_at bytes
  if are_same (is_some partner.0) (is_sync role) then Ok partner else Err (length bytes)

-- the forty bytes of a key
unfoldable pub api_key_at : List ℕ → Reading (List ℕ)
api_key_at bytes =
    if is_api_key (take 40 bytes) then Ok (take 40 bytes, drop 40 bytes) else Err (length bytes)

-- what is held under a key: whose it is, its role, its flags and its partner
abbrev pub KeyTold : Type 0
KeyTold = OrgId × (Role × ((Bool × Bool) × Option (List ℕ)))

unfoldable pub key_told_at : List ℕ → Reading KeyTold
key_told_at bytes = do
  org ← org_at bytes
  role ← role_at org.1
  flags ← flags_at role.1
  partner ← partner_at role.0 flags.1
  Ok ((org.0, (role.0, (flags.0, partner.0))), partner.1)

-- what is held under the name of a link: the peer, the key there, the holder, the organisation of
-- pushes, and its flags
abbrev pub LinkTold : Type 0
LinkTold = List ℕ × (List ℕ × (OrgId × (OrgId × (Bool × Bool))))

unfoldable pub link_told_at : List ℕ → Reading LinkTold
link_told_at bytes = do
  peer ← inst_at bytes
  key ← api_key_at peer.1
  holder ← org_at key.1
  push_org ← org_at holder.1
  flags ← flags_at push_org.1
  Ok ((peer.0, (key.0, (holder.0, (push_org.0, flags.0)))), flags.1)

-- all of the bytes
abbrev pub all_of : {A : Type 0} → (List ℕ → Reading A) → List ℕ → Result A ℕ
all_of reads bytes = reads bytes >>= λ x. ended x

-- an organisation, a key and a link under a name
abbrev pub org_in : List ℕ → List ℕ → Result OrgFields ℕ
org_in name bytes = do
  uuid ← all_of org_at name
  text ← all_of (text_at 0 name_limit) bytes
  Ok (record { uuid = uuid; name = text })

abbrev pub key_of : List ℕ → KeyTold → KeyFields
key_of key t = record {
  key = key;
  org = t.0;
  role = t.1.0;
  partner = t.1.1.1;
  revoked = t.1.1.0.0;
  internal = t.1.1.0.1;
}

abbrev pub key_in : List ℕ → List ℕ → Result KeyFields ℕ
key_in name bytes = do
  key ← all_of api_key_at name
  told ← all_of key_told_at bytes
  Ok (key_of key told)

abbrev pub link_of : List ℕ → LinkTold → Link
link_of name t = record {
  name = name;
  peer = t.0;
  key = t.1.0;
  holder = t.1.1.0;
  push_org = t.1.1.1.0;
  on = t.1.1.1.1.0;
  internal = t.1.1.1.1.1;
}

abbrev pub name_in : List ℕ → Result (List ℕ) ℕ
name_in name = if is_inst_name name then Ok name else Err (length name)

abbrev pub link_in : List ℕ → List ℕ → Result Link ℕ
link_in name bytes = do
  own ← name_in name
  told ← all_of link_told_at bytes
  Ok (link_of own told)

abbrev pub as_item : {A : Type 0} → (A → Item) → Result A ℕ → Option Item
as_item make (Ok x) = Some (make x)
as_item make (Err left) = None

-- the organisation, key or link that a row is, if it is one
unfoldable pub item_in : AdminRow → Option Item
item_in row =
    if row.kind == org_kind then as_item Item.Org (org_in row.name row.bytes)
    else if row.kind == key_kind then as_item Item.Key (key_in row.name row.bytes)
    else if row.kind == link_kind then as_item Item.Link (link_in row.name row.bytes)
    else None

-- the row is an item's
abbrev pub is_item : AdminRow → Bool
is_item row = is_some (item_in row)

-- the items among the rows, in the order of the rows
unfoldable pub items_in : List AdminRow → List Item
items_in rows = filter_map item_in rows

-- the rows that are items, and the others
unfoldable pub item_rows : List AdminRow → List AdminRow
item_rows rows = filter is_item rows

unfoldable pub other_rows : List AdminRow → List AdminRow
other_rows rows = filter (λ row. not (is_item row)) rows

-- the rows that are no items have other kinds than items
abbrev pub are_apart : List AdminRow → Bool
are_apart rows = list_all (λ row. not (is_item_kind row.kind)) (other_rows rows)
