-- What is a sharing group.
use Rattle.std.specs.Prelude.{◌≡◌, ℕ, ◌≤◌, true, false, List, length}
use Rattle.std.specs.Str.{is_utf8}
use Rattle.misp_lists.specs.Prelude.{AllByRecursion, IsStrictlySortedBy, Ordering, nat_cmp, slice_cmp}
use Rattle.misp_ids.specs.declared.stamp.TheConstants.{LAST_SECOND}
use Rattle.misp_ids.specs.Names.{is_inst_name}
use Rattle.misp_ids.specs.Uid.{IsUid}
use Rattle.misp_groups.specs.declared.group.GroupFields.{GroupFields}
use Rattle.misp_groups.specs.declared.group.GroupOrg.{GroupOrg}
use Rattle.misp_groups.specs.declared.group.GroupServer.{GroupServer}

-- by the identifier
abbrev pub by_org : GroupOrg → GroupOrg → Ordering
by_org a b = nat_cmp a.org.0.0 b.org.0.0

-- by the bytes of the name
abbrev pub by_server : GroupServer → GroupServer → Ordering
by_server a b = slice_cmp nat_cmp a.name b.name

-- ---- fields

abbrev pub IsText : List ℕ → Type 0
IsText text = is_utf8 text ≡ true

abbrev pub IsOrg : GroupOrg → Type 0
IsOrg o = IsUid o.org.0 × IsText o.name

abbrev pub IsServer : GroupServer → Type 0
IsServer s = is_inst_name s.name ≡ true

-- ---- groups

-- the name is not empty, and organisations and instances ascend
pub record IsGroup (g : GroupFields) : Type 0 where
  pub creator : IsUid g.id.creator.0
  pub uuid : IsUid g.id.uuid
  pub named : 1 ≤ length g.name
  pub name : IsText g.name
  pub description : IsText g.description
  pub releasability : IsText g.releasability
  pub orgs : AllByRecursion IsOrg g.orgs
  pub orgs_ascend : IsStrictlySortedBy by_org g.orgs
  pub servers : AllByRecursion IsServer g.servers
  pub servers_ascend : IsStrictlySortedBy by_server g.servers
  pub modified : g.modified ≤ LAST_SECOND

-- the group as one of this instance, with this stamp
abbrev pub home : GroupFields → ℕ → GroupFields
home g stamp = record g { carried = false; modified = stamp }
