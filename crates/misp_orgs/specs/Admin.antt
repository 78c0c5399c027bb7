-- What is set up at an instance, as contracts see it.
use Rattle.std.specs.Prelude.{ℕ, ◌==◌, Bool, List, Option, None, find, bytes_eq}
use Rattle.std.specs.Option.{option_map_or}
use Rattle.misp_lists.specs.Prelude.{IsDistinct, IsStrictlySortedBy, Ordering, nat_cmp, slice_cmp}
use Rattle.misp_lists.specs.Order.{sorted_by}
use Rattle.misp_orgs.specs.declared.link.Link.{Link}
use Rattle.misp_orgs.specs.Org.{OrgFields}
use Rattle.misp_orgs.specs.Keys.{KeyFields, CallerFields, caller_where}

-- the organisations that are known, the keys, and the links
pub record AdminFields : Type 0 where
  pub orgs : List OrgFields
  pub keys : List KeyFields
  pub links : List Link

-- ---- orders

-- by the number that the identifier is
abbrev pub by_uuid : OrgFields → OrgFields → Ordering
by_uuid a b = nat_cmp a.uuid.0.0 b.uuid.0.0

-- by the bytes of the key
abbrev pub by_key : KeyFields → KeyFields → Ordering
by_key a b = slice_cmp nat_cmp a.key b.key

-- by the bytes of the name
abbrev pub by_name : Link → Link → Ordering
by_name a b = slice_cmp nat_cmp a.name b.name

-- each list ascends: no identifier, no key and no name of a link stands twice
pub record IsAdmin (a : AdminFields) : Type 0 where
  pub orgs : IsStrictlySortedBy by_uuid a.orgs
  pub keys : IsStrictlySortedBy by_key a.keys
  pub links : IsStrictlySortedBy by_name a.links

-- ---- what it is made of

abbrev pub same_uuid : OrgFields → OrgFields → Bool
same_uuid a b = a.uuid.0.0 == b.uuid.0.0

abbrev pub same_key : KeyFields → KeyFields → Bool
same_key a b = bytes_eq a.key b.key

abbrev pub same_name : Link → Link → Bool
same_name a b = bytes_eq a.name b.name

-- no identifier, no key and no name of a link stands twice
pub record AreDistinct (orgs : List OrgFields) (keys : List KeyFields)
    (links : List Link) : Type 0 where
  pub uuids : IsDistinct same_uuid orgs
  pub texts : IsDistinct same_key keys
  pub names : IsDistinct same_name links

-- the lists in their orders
abbrev pub admin_of : List OrgFields → List KeyFields → List Link → AdminFields
admin_of orgs keys links = record {
  orgs = sorted_by by_uuid orgs;
  keys = sorted_by by_key keys;
  links = sorted_by by_name links;
}

-- ---- looking up

-- the record that has the key
abbrev pub record_of : List KeyFields → List ℕ → Option KeyFields
record_of keys key = find (λ k. bytes_eq k.key key) keys

-- who asks with the key, if it is one of the instance and not revoked
abbrev pub who_of : AdminFields → List ℕ → Option CallerFields
who_of admin key =
    option_map_or (λ k. caller_where k k.revoked) (record_of admin.keys key) None

-- the link of this name
abbrev pub link_of : List Link → List ℕ → Option Link
link_of links name = find (λ l. bytes_eq l.name name) links
