use Rattle.std.proofs.Common.{◌≡◌, [], drop, map}
use Rattle.misp_format.specs.Prelude.{AllByRecursion, each, items_of, path_text, view}
use Rattle.misp_format.specs.Elements.{next_tag}
use Rattle.misp_format.specs.Entries.{IsNamed}
use Rattle.misp_format.proofs.reading.tag.named_in.Given as goal

-- what is left to read, onto what was read, is all; what was read are tags
abbrev pub invariant-loop-index : goal.invariant-loop-index
invariant-loop-index l =
    (each (next_tag (path_text l.fn.path)) l.index l.named.entries (items_of (map view (drop l.index l.list)))
    ≡ each (next_tag (path_text l.fn.path)) 0 [] (items_of (map view l.list)))
    × AllByRecursion IsNamed l.named.entries
