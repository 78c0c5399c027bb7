use Rattle.std.proofs.Common.{◌≡◌, ◌++◌, length, take, flat_map}
use Rattle.misp_package.specs.Spelling.{number}
use Rattle.misp_wanted.specs.ManifestSpelling.{spell_keys}
use Rattle.misp_wanted.proofs.writing.put_parts.Given as goal

abbrev pub invariant-loop-keys : goal.invariant-loop-keys
invariant-loop-keys l = l.out.items ≡ l.fn.out.items ++ (number (length l.parts) ++ flat_map spell_keys (take l.keys-index l.parts))
