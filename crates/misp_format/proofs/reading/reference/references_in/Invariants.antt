use Rattle.std.proofs.Common.{◌≡◌, drop, map}
use Rattle.misp_format.specs.Prelude.{each, items_of, path_text, view}
use Rattle.misp_format.specs.Elements.{next_reference}
use Rattle.misp_format.proofs.reading.reference.references_in.Given as goal

-- what is left to read, onto what was read, is all
abbrev pub invariant-loop-index : goal.invariant-loop-index
invariant-loop-index l =
    each (next_reference l.word l.object (path_text l.fn.path)) l.index l.elements (items_of (map view (drop l.index l.list)))
    ≡ each (next_reference l.word l.object (path_text l.fn.path)) 0 l.fn.elements (items_of (map view l.list))
