use Rattle.std.proofs.Common.{◌≡◌, take, filter, not, bytes_eq}
use Rattle.misp_edit.proofs.tags.untagged.Given as goal

abbrev pub invariant-loop-tag : goal.invariant-loop-tag
invariant-loop-tag l = l.made.items ≡ filter (λ t. not (bytes_eq t.name l.name)) (take l.tag-index l.tags)
