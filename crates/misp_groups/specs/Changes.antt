-- How the groups of an instance change: by a synchronisation, and by an administration.
use Rattle.std.specs.Prelude.{not, List, filter, Bool, ltb, ◌&&◌, ◌||◌, true, cond, [], ◌∷◌, ℕ, ◌+◌, eqb, Option, Some, None, false}
use Rattle.misp_lists.specs.Prelude.{list_all, list_any, put}
use Rattle.misp_ids.specs.Same.{same_group, group_before, same_org}
use Rattle.misp_ids.specs.declared.uid.OrgId.{OrgId}
use Rattle.misp_ids.specs.Moments.{last_stamp, Stamp, next_stamp}
use Rattle.misp_groups.specs.declared.group.GroupFields.{GroupFields as Group}
use Rattle.misp_groups.specs.Audience.{known_group}

-- the group in its place, and no other of its name
unfoldable pub put_group : Group → List Group → List Group
put_group g groups =
    put (λ a b. group_before a.id b.id) g (filter (λ h. not (same_group h.id g.id)) groups)

-- a group is taken where none of its name is known, or a carried one with a lesser stamp is
unfoldable pub takes_group : List Group → Group → Bool
takes_group groups g =
    list_all (λ h. not (same_group h.id g.id) || h.carried && ltb h.modified g.modified) groups

unfoldable pub take_group : List Group → Group → List Group
take_group groups g =
    cond (takes_group groups g) (put_group (record g { carried = true }) groups) groups

unfoldable pub take_groups : List Group → List Group → List Group
take_groups groups [] = groups
take_groups groups (g ∷ gs) = take_groups (take_group groups g) gs

-- how many of these are taken
unfoldable pub count_taken : List Group → List Group → ℕ
count_taken groups [] = 0
count_taken groups (g ∷ gs) = cond (takes_group groups g) 1 0 + count_taken (take_group groups g) gs

-- the rules that refuse an administration: it is not the creator's; the added group is known; the
-- edited one is not, was carried here, or has the last stamp
unfoldable pub administration_fails : OrgId → Bool → Group → List Group → Bool
administration_fails by add g groups =
    not (same_org by g.id.creator)
    || cond add (list_any (λ h. same_group h.id g.id) groups)
    (not (list_any
    (λ h. same_group h.id g.id && (not h.carried && not (eqb h.modified last_stamp))) groups))

-- the stamp of a group that is changed now: later than that of the one that was known, if one was
unfoldable pub group_stamp : Stamp → Option Group → Stamp
group_stamp now None = now
group_stamp now (Some held) = next_stamp now held.modified

-- the group as it is kept after an administration of this instance
unfoldable pub group_now : Stamp → Group → List Group → Group
group_now now g groups =
    record g { carried = false; modified = group_stamp now (known_group groups g.id) }

-- the groups after an administration
unfoldable pub administered : Stamp → OrgId → Bool → Group → List Group → List Group
administered now by add g groups =
    cond (administration_fails by add g groups) groups (put_group (group_now now g groups) groups)
