-- What is looked up while a description is read.
use Rattle.std.specs.Prelude.{◌≡◌, ℕ, Bool, List, String}
use Rattle.std.specs.Global.{Global}
use Rattle.std.specs.BTreeMap.{get_by_text}
use Rattle.std.specs.BTreeSet.{BTreeSet}
use Rattle.misp_lists.specs.Prelude.{BTreeMap, Ordering, contains, nat_cmp, ordering_then, slice_cmp}
use Rattle.misp_ids.specs.declared.uid.OrgId.{OrgId}
use Rattle.misp_orgs.specs.Org.{OrgFields}
use Rattle.misp_script.specs.declared.description.Host.{Host}
use Rattle.misp_script.specs.declared.description.HostKey.{HostKey}
use Rattle.misp_script.specs.declared.description.HostLink.{HostLink}
use Rattle.misp_script.specs.Tables.{org_named, has_number, host_of, has_key, has_link}

-- by the first text, and by the second where it is the same
abbrev pub pair_order : List ℕ × List ℕ → List ℕ × List ℕ → Ordering
pair_order a b = ordering_then (slice_cmp nat_cmp a.0 b.0) (slice_cmp nat_cmp a.1 b.1)

-- the two texts are a pair of the set
abbrev pub has_pair : BTreeSet (List ℕ × List ℕ) → List ℕ → List ℕ → Bool
has_pair pairs first second = contains pair_order pairs (first, second)

-- the map has the organisations by name
abbrev pub NamesOrgs : List OrgFields → BTreeMap (String Global) OrgId → Type 0
NamesOrgs orgs names = (name : List ℕ) → get_by_text names name ≡ org_named orgs name

-- the map has the organisations by name, and the set has their numbers
pub record KnowsOrgs (orgs : List OrgFields) (names : BTreeMap (String Global) OrgId)
    (numbers : BTreeSet ℕ) : Type 0 where
  pub named : NamesOrgs orgs names
  pub used : (number : ℕ) → contains nat_cmp numbers number ≡ has_number orgs number

-- the map has the instances by name
abbrev pub NamesHosts : List Host → BTreeMap (String Global) (List ℕ) → Type 0
NamesHosts hosts names = (name : List ℕ) → get_by_text names name ≡ host_of hosts name

-- the set has each key with its instance
abbrev pub KnowsKeys : List HostKey → BTreeSet (List ℕ × List ℕ) → Type 0
KnowsKeys keys taken = (at key : List ℕ) → has_pair taken at key ≡ has_key keys at key

-- the set has the name of each link with its instance
abbrev pub KnowsLinks : List HostLink → BTreeSet (List ℕ × List ℕ) → Type 0
KnowsLinks links taken = (at name : List ℕ) → has_pair taken at name ≡ has_link links at name
