use Rattle.std.proofs.Common.{◌≡◌, map}
use Rattle.misp_format.specs.Elements.{tag_of}
use Rattle.misp_format.proofs.reading.tag.tag_list.Given as goal

abbrev pub invariant-loop-name : goal.invariant-loop-name
invariant-loop-name l = l.tags.items ≡ map tag_of l.yielded
