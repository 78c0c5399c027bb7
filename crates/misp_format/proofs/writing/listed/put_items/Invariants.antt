use Rattle.std.proofs.Common.{◌≡◌, map, drop}
use Rattle.misp_format.specs.Prelude.{items_of, list_data}
use Rattle.misp_format.specs.Names.{names_in}
use Rattle.misp_format.specs.Tokens.{put_value}
use Rattle.misp_format.proofs.Texts.{put_items}
use Rattle.misp_format.proofs.writing.listed.put_items.Given as goal

-- what was put down, and then what is left
abbrev pub invariant-loop-item : goal.invariant-loop-item
invariant-loop-item g l = put_items (items_of (map (g.L.Listed.value (names_in l.names)) (drop l.item-index l.items))) l.out
    ≡ put_value (list_data (g.L.Listed.value (names_in l.names)) l.items) l.fn.out
