use Rattle.misp_sync.proofs.UpToDate.{none_left, none_pulled, none_synced}
use Rattle.misp_sync.proofs.laws.a_second_pull_takes_nothing.Goals as goal

pub returns : goal.returns
returns c = record {
  effect = λ here w peer caller own there. none_pulled here w own peer caller there;
  left = none_left;
  done = none_synced;
}
