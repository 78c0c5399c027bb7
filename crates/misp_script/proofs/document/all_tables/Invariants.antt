use Rattle.std.proofs.Common.{◌≡◌, drop}
use Rattle.toml.specs.View.{items_view}
use Rattle.misp_script.specs.Network.{all_tables}
use Rattle.misp_script.proofs.document.all_tables.Given as goal

abbrev pub invariant-loop-item : goal.invariant-loop-item
invariant-loop-item l = all_tables (items_view (drop l.item-index l.items)) ≡ all_tables (items_view l.items)
