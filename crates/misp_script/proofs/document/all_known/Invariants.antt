use Rattle.std.proofs.Common.{◌≡◌}
use Rattle.toml.specs.View.{members_view}
use Rattle.misp_script.specs.Network.{all_known}
use Rattle.misp_script.proofs.document.all_known.Given as goal

-- what is left to look at gives all
abbrev pub invariant-loop-name : goal.invariant-loop-name
invariant-loop-name l = all_known (members_view l.name-iterator) ≡ all_known (members_view l.fn.table.entries)
