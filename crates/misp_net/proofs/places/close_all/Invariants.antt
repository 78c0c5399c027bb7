use Rattle.std.proofs.Common.{◌≡◌, ◌+◌, ◌≤◌, ◌++◌, map, vec_len, vec_capacity}
use Rattle.misp_net.specs.Running.{states_of}
use Rattle.misp_net.proofs.places.close_all.Given as goal

-- those in front are the instances that are left
abbrev pub invariant-loop-instance : goal.invariant-loop-instance
invariant-loop-instance g l =
    let seen = map g.K.Keeper.state in
    record {
      same : states_of l.instances.items ++ seen l.keepers.items ≡ states_of l.fn.instances.items ++ seen l.fn.keepers.items;
      room : vec_len l.instances + vec_len l.keepers ≤ vec_capacity l.keepers;
    }

abbrev pub decreases-loop-instance : goal.decreases-loop-instance
decreases-loop-instance g l = vec_len l.instances
