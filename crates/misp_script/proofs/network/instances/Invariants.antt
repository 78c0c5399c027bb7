use Rattle.std.proofs.Common.{◌≡◌}
use Rattle.misp_script.specs.Network.{instances_of}
use Rattle.misp_script.proofs.network.instances.Given as goal

abbrev pub invariant-loop-host : goal.invariant-loop-host
invariant-loop-host l = l.entries.items ≡ instances_of l.orgs l.keys l.links l.yielded
