-- What a description says: the first fault of the whole, or its instances.
use Rattle.std.specs.Prelude.{ℕ, ◌&&◌, Bool, true, false, nat_lt, List, [], ◌∷◌, length, map, filter, codes, bytes_eq, Ok, is_some, if◌then◌else◌, ⊤}
use Rattle.std.specs.Option.{option_map_or}
use Rattle.std.specs.Str.{is_utf8}
use Rattle.toml.specs.Data.{Data, Items, no_items, item, Members, no_members, member, get_member, as_array, as_table}
use Rattle.toml.specs.Parse.{parse_document}
use Rattle.misp_orgs.specs.declared.link.Link.{Link}
use Rattle.misp_orgs.specs.Keys.{KeyFields}
use Rattle.misp_orgs.specs.Admin.{admin_of}
use Rattle.misp_orgs.specs.Org.{OrgFields}
use Rattle.misp_script.specs.declared.description.Description.{Description}
use Rattle.misp_script.specs.declared.description.Entry.{Entry}
use Rattle.misp_script.specs.declared.description.Host.{Host}
use Rattle.misp_script.specs.declared.description.HostKey.{HostKey}
use Rattle.misp_script.specs.declared.description.HostLink.{HostLink}
use Rattle.misp_script.specs.declared.fault.DescNeed.{DescNeed}
use Rattle.misp_script.specs.Faults.{Reading, ◌>>=◌, bad, or_bad, bad_if}
use Rattle.misp_script.specs.Limits.{org_limit, instance_limit, key_limit, link_limit}
use Rattle.misp_script.specs.Entries.{named_among, each}
use Rattle.misp_script.specs.Tables.{next_org, next_host, next_key, next_link}

-- ---- the text

abbrev pub parsed_at : List ℕ → Reading Members
parsed_at text = or_bad (codes "-") DescNeed.Toml (parse_document text)

-- a text of TOML
abbrev pub document_at : List ℕ → Reading Members
document_at bytes = if is_utf8 bytes then parsed_at bytes else bad (codes "-") DescNeed.Toml

-- ---- the members of the whole

abbrev pub all_tables : Items → Bool
all_tables no_items = true
all_tables (item d ds) = is_some (as_table d) && all_tables ds

abbrev pub is_table_list : Data → Bool
is_table_list d = option_map_or all_tables (as_array d) false

abbrev pub is_list_name : List ℕ → Bool
is_list_name name =
    named_among (codes "org" ∷ codes "instance" ∷ codes "key" ∷ codes "link" ∷ []) name

-- each member is one of the four lists of tables; the first that is not, in byte order, is a fault
abbrev pub all_known : Members → Reading ⊤
all_known no_members = Ok tt
all_known (member name d ms) =
    if is_list_name name && is_table_list d then all_known ms else bad name DescNeed.Member

-- the items as a list
abbrev pub listed : Items → List Data
listed no_items = []
listed (item d ds) = d ∷ listed ds

abbrev pub items_in : Data → List Data
items_in d = option_map_or listed (as_array d) []

-- the entries of a list, which may be left out
abbrev pub entries_at : List ℕ → Members → List Data
entries_at name ms = option_map_or items_in (get_member name ms) []

-- ---- limits

abbrev pub at_most : ℕ → List ℕ → List Data → Reading ⊤
at_most limit name ds = bad_if (nat_lt limit (length ds)) name DescNeed.Limit

abbrev pub within_limits : Members → Reading ⊤
within_limits ms = do
  orgs ← at_most org_limit (codes "org") (entries_at (codes "org") ms)
  hosts ← at_most instance_limit (codes "instance") (entries_at (codes "instance") ms)
  keys ← at_most key_limit (codes "key") (entries_at (codes "key") ms)
  at_most link_limit (codes "link") (entries_at (codes "link") ms)

-- ---- the whole

-- the keys of the instance of this name
abbrev pub keys_of : List HostKey → List ℕ → List KeyFields
keys_of keys name = map (λ k. k.key) (filter (λ k. bytes_eq k.at name) keys)

-- its links
abbrev pub links_of : List HostLink → List ℕ → List Link
links_of links name = map (λ l. l.link) (filter (λ l. bytes_eq l.at name) links)

-- an instance knows every organisation; its keys and links are those of its name
abbrev pub instance_of : List OrgFields → List HostKey → List HostLink → Host → Entry
instance_of orgs keys links host =
    record {
      name = host.name;
      address = host.address;
      admin = admin_of orgs (keys_of keys host.name) (links_of links host.name);
    }

abbrev pub instances_of : List OrgFields → List HostKey → List HostLink → List Host → List Entry
instances_of orgs keys links hosts = map (instance_of orgs keys links) hosts

unfoldable pub network_at : Members → Reading Description
network_at ms = do
  known ← all_known ms
  few ← within_limits ms
  orgs ← each next_org 0 [] (entries_at (codes "org") ms)
  hosts ← each (next_host orgs) 0 [] (entries_at (codes "instance") ms)
  keys ← each (next_key orgs hosts) 0 [] (entries_at (codes "key") ms)
  links ← each (next_link orgs hosts) 0 [] (entries_at (codes "link") ms)
  Ok (record { instances = instances_of orgs keys links hosts })

-- what the bytes of a description say
unfoldable pub description_at : List ℕ → Reading Description
description_at bytes = document_at bytes >>= network_at
