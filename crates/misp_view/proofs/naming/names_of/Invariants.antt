use Rattle.std.proofs.Common.{◌≡◌, map, take, filter}
use Rattle.misp_view.specs.Naming.{has_group, with_name}
use Rattle.misp_view.proofs.naming.names_of.Given as goal

abbrev pub invariant-loop-group : goal.invariant-loop-group
invariant-loop-group l = l.names.items ≡ map with_name (filter (λ g. has_group l.ids g.id) (take l.group-index l.groups))
