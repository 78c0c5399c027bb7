-- The laws are lemmas of proofs/Keeping.antt, proofs/Left.antt and proofs/Elsewhere.antt.
use Rattle.misp_sync.proofs.Elsewhere.{groups_elsewhere, made_after, tables_elsewhere}
use Rattle.misp_ids.specs.declared.label.Direction.{Direction}
use Rattle.misp_sync.proofs.Keeping.{told_there}
use Rattle.misp_sync.proofs.Left.{left_there}
use Rattle.misp_sync.proofs.laws.an_instance_pulls_by_the_history.Goals as goal

pub returns : goal.returns
returns c = record {
  told = told_there;
  left = left_there;
  elsewhere = tables_elsewhere;
  groups = groups_elsewhere;
  made = λ net n now w here link outcome. made_after w net n now Direction.Pull here link outcome;
}
