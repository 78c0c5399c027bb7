use Rattle.std.proofs.Common.{◌≤◌, ◌-◌, vec_len}
use Rattle.misp_app.specs.Limits.{least_keepers}
use Rattle.misp.proofs.keepers.Given as goal

abbrev pub invariant-loop-alloc : goal.invariant-loop-alloc
invariant-loop-alloc l = vec_len l.keepers ≤ least_keepers

abbrev pub decreases-loop-alloc : goal.decreases-loop-alloc
decreases-loop-alloc l = least_keepers - vec_len l.keepers
