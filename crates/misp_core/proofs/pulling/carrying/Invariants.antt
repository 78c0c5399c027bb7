use Rattle.std.proofs.Common.{◌≡◌, take, filter}
use Rattle.misp_store.specs.Prelude.{AllByRecursion, IsGroup}
use Rattle.misp_core.specs.Pulling.{carries_to}
use Rattle.misp_core.proofs.pulling.carrying.Given as goal

abbrev pub invariant-loop-group : goal.invariant-loop-group
invariant-loop-group l = record {
  all : l.some.items ≡ filter (carries_to l.org l.dest) (take l.group-index l.groups);
  fits : AllByRecursion IsGroup l.some.items;
}
