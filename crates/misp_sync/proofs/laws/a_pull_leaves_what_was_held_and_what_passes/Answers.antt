use Rattle.std.proofs.Common.{ap}
use Rattle.misp_sync.proofs.MergedPull.{event_leaves, pull_leaves, pulled_is, seen_so, untouched_stay}
use Rattle.misp_sync.proofs.laws.a_pull_leaves_what_was_held_and_what_passes.Goals as goal

pub returns : goal.returns
returns c = record {
  done = λ here w peer caller own there mine groups rows can. ap (λ e. e.reply) (pulled_is here w peer caller own there mine groups rows can);
  left = λ here w peer caller own there mine groups rows can. pull_leaves here w peer caller own there mine groups rows can;
  event = λ here w peer caller own there mine groups rows can. event_leaves here w peer caller own there mine groups rows can;
  others = λ here rows groups coming. untouched_stay coming here rows groups;
  seen = seen_so;
}
