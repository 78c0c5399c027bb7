-- The laws are lemmas of proofs/Managed.antt.
use Rattle.misp_core.proofs.Managed.{made_elsewhere, made_here, making_left, same_groups, same_log}
use Rattle.misp_core.proofs.managing.items_are_made_by_the_history.Goals as goal

pub returns : goal.returns
returns c = record {
  left = λ net n w host now caller item held is keeps.
      making_left net n w host now caller item
      (record { groups = c.items_are_held_beside_the_groups.ensures.groups; items = c.items_are_held_beside_the_groups.ensures.items; order = c.groups_are_held_as_their_rows.ensures.order })
      held is keeps;
  made = λ net n w host now caller item. made_here net n w host now caller item;
  tables = λ net n w host now caller item. same_log net n w host now caller item;
  groups = λ net n w host now caller item. same_groups net n w host now caller item;
  elsewhere = λ net n w host now caller item j apart. made_elsewhere net n w host now caller item j apart;
}
