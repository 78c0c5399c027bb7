use Rattle.std.proofs.Common.{◌≡◌, map, take}
use Rattle.misp_script.specs.Directory.{roster_of}
use Rattle.misp_script.proofs.description.Description.directory.Given as goal

abbrev pub invariant-loop-entry : goal.invariant-loop-entry
invariant-loop-entry l = l.directory ≡ map roster_of (take l.entry-index l.self.instances)
