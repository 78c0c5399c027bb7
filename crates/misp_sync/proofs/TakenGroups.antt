-- The groups that are taken of those that come, and what is held with them.
use Rattle.std.proofs.Common.{◌≡◌, ◌∙◌, ℕ, Bool, true, false, List, [], ◌∷◌, ◌++◌, map, is_ok, Result, Ok, Err, refl, ap, cond}
use Rattle.std.specs.List.{AllByRecursion}
use Rattle.misp_format.specs.WholeGroup.{uncarried}
use Rattle.misp_groups.specs.Changes.{take_group, take_groups, takes_group}
use Rattle.misp_groups.specs.Group.{IsGroup}
use Rattle.misp_outside.specs.Held.{put_admins, put_rows, with_batch}
use Rattle.misp_admin_rows.specs.Rows.{item_rows}
use Rattle.misp_effects.specs.Batches.{put_batches}
use Rattle.misp_store.specs.Sharing.{groups_in, HasSoundAdmin, or_none}
use Rattle.misp_core.specs.HandedGroups.{group_batches}
use Rattle.misp_core.specs.Prelude.{Group, Held, groups_of, seen_in, spelled}
use Rattle.misp_core.specs.Taking.{groups_taken, with_groups}
use Rattle.misp_core.proofs.TakenGroups.{groups_after}
use Rattle.misp_core.proofs.AdminPut.{groups_put}
use Rattle.misp_sync.proofs.Stands.{groups_are_put}

-- ---- they are groups

-- whether it was carried or not
carried_is : (g : Group) (carried : Bool) → IsGroup g → IsGroup (record g { carried = carried })
carried_is g carried is = record {
  creator = is.creator;
  uuid = is.uuid;
  named = is.named;
  name = is.name;
  description = is.description;
  releasability = is.releasability;
  orgs = is.orgs;
  orgs_ascend = is.orgs_ascend;
  servers = is.servers;
  servers_ascend = is.servers_ascend;
  modified = is.modified;
}

pub uncarried_are : (gs : List Group) → AllByRecursion IsGroup gs → AllByRecursion IsGroup (map uncarried gs)
uncarried_are [] are = tt
uncarried_are (g ∷ gs) are = (carried_is g false are.0, uncarried_are gs are.1)

pub taken_are : (groups gs : List Group) → AllByRecursion IsGroup gs → AllByRecursion IsGroup (groups_taken groups gs)
unfolding groups_taken
taken_are groups [] are = tt
taken_are groups (g ∷ gs) are = one (takes_group groups g) (taken_are (take_group groups g) gs are.1)
  where
    one : (b : Bool) → AllByRecursion IsGroup (groups_taken (take_group groups g) gs)
        → AllByRecursion IsGroup (cond b (record g { carried = true } ∷ []) [] ++ groups_taken (take_group groups g) gs)
    one true rest = (carried_is g true are.0, rest)
    one false rest = rest

-- ---- what is held with them

-- a batch of no groups changes nothing
pub groups_put_so : (gs : List Group) (held : Held) → put_batches (map spelled (group_batches gs)) held ≡ with_groups gs held
unfolding with_batch put_rows put_admins
groups_put_so [] held = refl
groups_put_so (g ∷ gs) held = refl

-- those of a keeper that holds no rows of administration but groups
groups_read : (held : Held) → HasSoundAdmin held → groups_in held.admin ≡ Ok (groups_of held)
groups_read held h = one (groups_in held.admin) h.read
  where
    one : (r : Result (List Group) (List ℕ)) → is_ok r ≡ true → r ≡ Ok (or_none r)
    one (Ok gs) h = refl
    one (Err name) h = absurd cc

pub groups_then : (held : Held) (coming : List Group) → HasSoundAdmin held → AllByRecursion IsGroup (groups_taken (groups_of held) coming)
    → groups_of (with_groups (groups_taken (groups_of held) coming) held) ≡ take_groups (groups_of held) coming
unfolding with_batch
groups_then held coming alone are =
    ap or_none (groups_put groups_are_put (groups_taken (groups_of held) coming) are held.admin (groups_of held) (item_rows held.admin)
    (record { order = alone.order; groups_are = groups_read held alone; items_are = refl })).groups_are
    ∙ groups_after (groups_of held) coming

pub rows_stay : (gs : List Group) (held : Held) → (seen_in (with_groups gs held)).rows ≡ (seen_in held).rows
unfolding with_batch put_rows
rows_stay gs held = refl
