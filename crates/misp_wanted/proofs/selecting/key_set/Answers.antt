use Rattle.std.proofs.Common.{arith}
use Rattle.misp_lists.proofs.Prelude.{common_steps, list_any_more}
use Rattle.misp_wanted.proofs.KeySets.{none_has}
use Rattle.misp_wanted.proofs.selecting.key_set.Goals as goal

pub loop-key-init : goal.loop-key-init
loop-key-init c = λ k. none_has c.new-keys.result k c.new-keys.ensures.empty

pub loop-key-preserved : goal.loop-key-preserved
loop-key-preserved c = λ k. grind (arith, common_steps, list_any_more, c.loop-key.invariant k, c.in_ok-put.ensures k)
