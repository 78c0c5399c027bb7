use Rattle.std.proofs.Common.{◌≡◌, map}
use Rattle.misp_format.specs.Prelude.{AllByRecursion, IsServer, server_of}
use Rattle.misp_format.proofs.reading.group.server_list.Given as goal

abbrev pub invariant-loop-name : goal.invariant-loop-name
invariant-loop-name l = (l.servers.items ≡ map server_of l.yielded) × AllByRecursion IsServer l.servers.items
