use Rattle.std.proofs.Common.{◌≡◌, [], drop, map}
use Rattle.misp_format.specs.Prelude.{each, items_of, path_text, view}
use Rattle.misp_format.specs.Filters.{next_name}
use Rattle.misp_format.proofs.reading.filter.texts_in.Given as goal

-- what is left to read, onto what was read, is all
abbrev pub invariant-loop-index : goal.invariant-loop-index
invariant-loop-index l =
    each (next_name (path_text l.fn.path)) l.index l.texts.items (items_of (map view (drop l.index l.list)))
    ≡ each (next_name (path_text l.fn.path)) 0 [] (items_of (map view l.list))
