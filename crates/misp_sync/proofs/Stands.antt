-- What is held after batches of rows and groups are put.
use Rattle.std.proofs.Common.{◌≡◌, List, [], ◌∷◌, ◌++◌, refl, sym, ap, subst, ◌∙◌, map}
use Rattle.misp_outside.specs.Held.{Held, put_admins, put_rows, with_batch}
use Rattle.misp_outside.specs.declared.row.AdminRow.{AdminRow}
use Rattle.misp_admins.specs.declared.item.Item.{Item}
use Rattle.misp_admin_rows.specs.Rows.{item_row, item_rows}
use Rattle.misp_admin_rows.proofs.Putting.{admin_ascends, other_among, other_beside}
use Rattle.misp_format.proofs.GroupTexts.{text_back}
use Rattle.misp_effects.specs.Batches.{AreReadable, IsReadable, batch, put_batches}
use Rattle.misp_groups.specs.Groups.{by_name, put_groups}
use Rattle.misp_groups.specs.Prelude.{put_group}
use Rattle.misp_groups.proofs.Sorted.{all_put, sorted_put}
use Rattle.misp_model.proofs.Prelude.{Inst, Row, put_all, put_row}
use Rattle.misp_history.specs.Acts.{World}
use Rattle.misp_history.specs.History.{tables}
use Rattle.misp_store.specs.Batches.{spelled}
use Rattle.misp_store.specs.Raw.{raw_row}
use Rattle.misp_store.specs.Sharing.{group_row}
use Rattle.misp_store.proofs.BesideItems.{group_is_none, group_put_among, other_kind}
use Rattle.misp_store.proofs.GroupRows.{group_again}
use Rattle.misp_store.proofs.HeldRows.{rows_put, rows_put_held}
use Rattle.misp_core.specs.Prelude.{AllByRecursion, Group, IsGroup, IsStrictlySortedBy, Keeps}
use Rattle.misp_core.proofs.AdminPut.{PutsGroups, groups_put}
use Rattle.misp_core.proofs.Keeping.{keeps_by}
use Rattle.misp_sync.specs.Laws.{Holds}
use Rattle.misp_history.proofs.Bringing.{joined}
use Rattle.misp_sync.proofs.Parts.{as_batches}

-- ---- what the store says

-- the row of a group is put where the group is, and the items stay
pub groups_are_put : PutsGroups
groups_are_put = record {
  put = λ g rows groups is up e. group_put_among g rows groups (group_again text_back g is) (other_among (group_row g) rows up (group_is_none g)) e;
  items = λ g rows is up. other_beside (group_row g) rows up (other_kind g);
  order = λ row rows up. admin_ascends row rows up;
}

-- ---- what is held

-- a keeper holds these rows and groups, and these rows of items
pub record Stands (rows : List Row) (gs : List Group) (items : List AdminRow) (held : Held) : Type 0 where
  pub holds : Holds rows gs held
  pub items_are : item_rows held.admin ≡ items

-- the rows of what was made there
abbrev pub made_at : World → Inst → List AdminRow
made_at w here = put_admins (map item_row (w.made here)) []

-- what a keeper holds of an instance, and the other way round
pub stands_there : (here : Inst) (w : World) (held : Held) → Keeps here w held → Stands (tables w.log here) (w.groups here) (made_at w here) held
stands_there here w held keeps = record {
  holds = record { rows_are = keeps.rows; are_rows = keeps.are_rows; groups_are = keeps.groups; are_groups = keeps.are_groups; ascend = keeps.ascend; order = keeps.in_order };
  items_are = keeps.made;
}

pub keeps_there : (here : Inst) (v : World) (held : Held) (rows : List Row) (gs : List Group) (items : List Item) → tables v.log here ≡ rows → v.groups here ≡ gs → v.made here ≡ items
    → Stands rows gs (put_admins (map item_row items) []) held → Keeps here v held
keeps_there here v held rows gs items log groups made s =
    keeps_by here v held rows gs items log groups made s.holds.rows_are s.holds.are_rows
    (record { order = s.holds.order; groups_are = s.holds.groups_are; items_are = s.items_are }) s.holds.are_groups s.holds.ascend

put_on : (xs ys rows : List Row) → put_all (xs ++ ys) rows ≡ put_all ys (put_all xs rows)
unfolding put_all
put_on [] ys rows = refl
put_on (x ∷ xs) ys rows = put_on xs ys (put_row x rows)

all_groups : (groups gs : List Group) → AllByRecursion IsGroup groups → AllByRecursion IsGroup gs → AllByRecursion IsGroup (put_groups groups gs)
unfolding put_groups
all_groups groups [] are of_gs = are
all_groups groups (g ∷ gs) are of_gs = all_groups (put_group g groups) gs (all_put g IsGroup of_gs.0 groups are) of_gs.1

groups_ascend : (groups gs : List Group) → IsStrictlySortedBy by_name groups → IsStrictlySortedBy by_name (put_groups groups gs)
unfolding put_groups
groups_ascend groups [] up = up
groups_ascend groups (g ∷ gs) up = groups_ascend (put_group g groups) gs (sorted_put g groups up)

-- ---- what is held then

pub batch_stands : (rs : List Row) (more : List Group) (rows : List Row) (gs : List Group) (items : List AdminRow) (held : Held) → IsReadable (batch rs more) → Stands rows gs items held
    → Stands (put_all rs rows) (put_groups gs more) items (with_batch (spelled (batch rs more)) held)
unfolding with_batch
batch_stands rs more rows gs items held fits s =
    let has = groups_put groups_are_put more fits.groups held.admin gs items (record { order = s.holds.order; groups_are = s.holds.groups_are; items_are = s.items_are }) in
    record {
      holds = record {
        rows_are = ap (put_rows (map raw_row rs)) s.holds.rows_are ∙ rows_put_held rs rows fits.rows s.holds.are_rows;
        are_rows = rows_put rs rows fits.rows s.holds.are_rows;
        groups_are = has.groups_are;
        are_groups = all_groups gs more s.holds.are_groups fits.groups;
        ascend = groups_ascend gs more s.holds.ascend;
        order = has.order;
      };
      items_are = has.items_are;
    }

-- rows in parts
pub parts_stand : (ps : List (List Row)) (rows : List Row) (gs : List Group) (items : List AdminRow) (held : Held) → AreReadable (as_batches ps) → Stands rows gs items held
    → Stands (put_all (joined ps) rows) gs items (put_batches (map spelled (as_batches ps)) held)
unfolding put_all put_groups
parts_stand [] rows gs items held fits s = s
parts_stand (p ∷ ps) rows gs items held fits s =
    subst (λ rs. Stands rs gs items (put_batches (map spelled (as_batches (p ∷ ps))) held)) (sym (put_on p (joined ps) rows))
    (parts_stand ps (put_all p rows) gs items _ fits.1 (batch_stands p [] rows gs items held fits.0 s))
