use Rattle.std.proofs.Common.{◌≡◌, ◌++◌}
use Rattle.misp_model.specs.Package.{IsPackage}
use Rattle.misp_store.specs.Prelude.{AllByRecursion}
use Rattle.misp_core.proofs.pushing.add_all.Given as goal

-- the first are added
abbrev pub invariant-loop-package : goal.invariant-loop-package
invariant-loop-package l = record {
  added : l.all.items ≡ l.fn.all.items ++ l.yielded;
  each : AllByRecursion IsPackage l.fn.all.items → AllByRecursion IsPackage l.all.items;
}
