use Rattle.std.proofs.Common.{◌≡◌, ◌++◌, length, take, flat_map}
use Rattle.misp_package.specs.Spelling.{number}
use Rattle.misp_wanted.specs.ManifestSpelling.{framed_key}
use Rattle.misp_wanted.proofs.writing.put_wanted_keys.Given as goal

abbrev pub invariant-loop-key : goal.invariant-loop-key
invariant-loop-key l = l.out.items ≡ l.fn.out.items ++ (number (length l.keys) ++ flat_map framed_key (take l.key-index l.keys))
