-- The laws are lemmas of proofs/PushKeeping.antt.
use Rattle.misp_ids.specs.declared.label.Direction.{Direction}
use Rattle.misp_sync.proofs.Elsewhere.{made_after}
use Rattle.misp_sync.proofs.PushKeeping.{push_groups, push_left, push_tables, push_told}
use Rattle.misp_sync.proofs.laws.an_instance_pushes_by_the_history.Goals as goal

pub returns : goal.returns
returns c = record {
  told = push_told;
  left = push_left;
  elsewhere = push_tables;
  groups = push_groups;
  made = λ net n now w here link outcome. made_after w net n now Direction.Push here link outcome;
}
