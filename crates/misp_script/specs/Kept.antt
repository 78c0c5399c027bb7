-- How what is read is kept: in order, and nothing twice.
use Rattle.std.specs.Prelude.{ℕ, List}
use Rattle.misp_lists.specs.Prelude.{IsStrictlySortedBy, Ordering, nat_cmp}
use Rattle.misp_ids.specs.declared.uid.OrgId.{OrgId}
use Rattle.misp_orgs.specs.Admin.{AreDistinct}
use Rattle.misp_orgs.specs.Org.{OrgFields}
use Rattle.misp_script.specs.declared.description.HostKey.{HostKey}
use Rattle.misp_script.specs.declared.description.HostLink.{HostLink}
use Rattle.misp_script.specs.Directory.{Roster}
use Rattle.misp_script.specs.Network.{keys_of, links_of}

-- by the number that the identifier is
abbrev pub by_number : OrgId → OrgId → Ordering
by_number a b = nat_cmp a.0.0 b.0.0

-- each organisation stands once, in ascending order
abbrev pub IsRoster : Roster → Type 0
IsRoster roster = IsStrictlySortedBy by_number roster.orgs

-- at no instance an identifier, a key or the name of a link stands twice
abbrev pub AreApart : List OrgFields → List HostKey → List HostLink → Type 0
AreApart orgs keys links =
    (name : List ℕ) → AreDistinct orgs (keys_of keys name) (links_of links name)
