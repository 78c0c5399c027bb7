use Rattle.std.proofs.Common.{◌≡◌, ◌++◌, length, take, w32, flat_map}
use Rattle.std.specs.Int.{to_be_bytes}
use Rattle.misp_elem.specs.Spelling.{tag}
use Rattle.misp_elem.proofs.writing.tags.put_tags.Given as goal

abbrev pub invariant-loop-tag : goal.invariant-loop-tag
invariant-loop-tag l = l.out.items ≡ l.fn.out.items ++ (to_be_bytes w32 (length l.tags) ++ flat_map tag (take l.tag-index l.tags))
