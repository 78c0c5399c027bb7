use Rattle.std.proofs.Common.{◌≡◌, ◌++◌, length, take, flat_map}
use Rattle.misp_package.specs.Spelling.{number}
use Rattle.misp_wanted.specs.ManifestSpelling.{spell_key_stamp}
use Rattle.misp_wanted.proofs.writing.put_keys.Given as goal

abbrev pub invariant-loop-told : goal.invariant-loop-told
invariant-loop-told l = l.out.items ≡ l.fn.out.items ++ (number (length l.keys) ++ flat_map spell_key_stamp (take l.told-index l.keys))
