use Rattle.std.proofs.Common.{◌≡◌, Some, ap, ◌∙◌, map, option_and_then, option_map, arith}
use Rattle.std.proofs.lemmas.List.{length-map}
use Rattle.serde_json.specs.Find.{as_array}
use Rattle.serde_json.specs.View.{items_view, view}
use Rattle.misp_generated.specs.Summary.{items_count}
use Rattle.misp_generated.proofs.Counts.{items_length}
use Rattle.misp_generated.proofs.lines.length_in.Goals as goal

pub returns : goal.returns
returns c =
    let these : c.len.result ≡ items_count (items_view c.in_ok-items.items.now.items) =
    omega (arith, c.len.ensures, c.in_ok-items.items.now.ok.0, length-map c.in_ok-items.items.now.items view, items_length (map view c.in_ok-items.items.now.items)) in
    ap Some these ∙ ap (option_map items_count) (c.in_ok-items.ensures ∙ ap (option_and_then as_array) c.in_ok-get.ensures)
