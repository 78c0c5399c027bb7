-- The groups that are known at an instance, and how they change.
use Rattle.std.specs.Prelude.{◌≡◌, ℕ, ◌<◌, List, length, slice_index_or, ◌≤◌, take, drop, [], ◌∷◌, Bool, ltb, ◌&&◌, Option, Some, None, if◌then◌else◌, not, ◌==◌}
use Rattle.std.specs.declared.cmp.Ordering.TheVariants.{Less}
use Rattle.misp_lists.specs.Prelude.{AllByRecursion, Ordering, nat_cmp, ordering_then}
use Rattle.misp_ids.specs.declared.uid.GroupId.{GroupId}
use Rattle.misp_ids.specs.declared.uid.OrgId.{OrgId}
use Rattle.misp_ids.specs.declared.refusal.RuleName.{RuleName}
use Rattle.misp_ids.specs.declared.refusal.RuleName.TheVariants.{NotCreator, GroupExists, NoGroup, LockedGroup, TimeLimit}
use Rattle.misp_ids.specs.Same.{same_org}
use Rattle.misp_ids.specs.Moments.{last_stamp}
use Rattle.misp_groups.specs.declared.group.GroupFields.{GroupFields as Group}
use Rattle.misp_groups.specs.Changes.{put_group}
use Rattle.misp_groups.specs.declared.groups.Taken.{Taken}
use Rattle.misp_groups.specs.declared.groups.Taken.TheVariants.{New, Newer, Held}
use Rattle.misp_groups.specs.Audience.{is_known_group, known_group}

-- ---- the order

-- by creator, and then by uuid
abbrev pub by_id : GroupId → GroupId → Ordering
by_id a b = ordering_then (nat_cmp a.creator.0.0 b.creator.0.0) (nat_cmp a.uuid.0 b.uuid.0)

-- by the name
abbrev pub by_name : Group → Group → Ordering
by_name a b = by_id a.id b.id

-- the group at this place has this name
pub record IsPlaceOf (groups : List Group) (id : GroupId) (place : ℕ) : Type 0 where
  pub below : place < length groups
  pub is : (d : Group) → (slice_index_or groups place d).id ≡ id

-- the names before this place are less, and those from it on are greater
pub record IsGapFor (groups : List Group) (id : GroupId) (gap : ℕ) : Type 0 where
  pub within : gap ≤ length groups
  pub before : AllByRecursion (λ g. by_id g.id id ≡ Less) (take gap groups)
  pub after : AllByRecursion (λ g. by_id id g.id ≡ Less) (drop gap groups)

-- ---- putting

-- with each of these put in its place, one after another
unfoldable pub put_groups : List Group → List Group → List Group
put_groups groups [] = groups
put_groups groups (g ∷ gs) = put_groups (put_group g groups) gs

-- ---- taking

-- the group that is known came by a synchronisation, and is older than the other
unfoldable pub is_older : Group → Group → Bool
is_older held g = held.carried && ltb held.modified g.modified

-- what becomes of a group that comes by a synchronisation, where this one is known, if one is
unfoldable pub taken_by : Option Group → Group → Taken
taken_by None g = New
taken_by (Some held) g = if is_older held g then Newer else Held

-- ---- adding and editing

-- the first rule against adding a group of this name: the organisation is not its creator, or the
-- name is known
abbrev pub why_not_added : List Group → OrgId → GroupId → Option RuleName
why_not_added groups by id =
    if not (same_org by id.creator) then Some NotCreator
    else if is_known_group groups id then Some GroupExists
    else None

-- the first rule by which the group that is known, if one is, keeps its form: none is, it came by a
-- synchronisation, or there is no stamp after its own
abbrev pub why_kept : Option Group → Option RuleName
why_kept None = Some NoGroup
why_kept (Some held) =
    if held.carried then Some LockedGroup
    else if held.modified == last_stamp then Some TimeLimit
    else None

-- the first rule against editing the group of this name: the organisation is not its creator, or
-- that by which it keeps its form
abbrev pub why_not_edited : List Group → OrgId → GroupId → Option RuleName
why_not_edited groups by id =
    if not (same_org by id.creator) then Some NotCreator else why_kept (known_group groups id)

-- the first rule against adding a group of this name, or against editing it
abbrev pub why_not : Bool → List Group → OrgId → GroupId → Option RuleName
why_not add groups by id =
    if add then why_not_added groups by id else why_not_edited groups by id
