use Rattle.std.proofs.Common.{◌≡◌, drop, map}
use Rattle.serde_json.specs.View.{items_of, view}
use Rattle.misp_lists.proofs.Prelude.{AllByRecursion}
use Rattle.misp_groups.specs.Group.{IsGroup}
use Rattle.misp_client.specs.Bodies.{groups_from}
use Rattle.misp_client.proofs.Lists.{onto}
use Rattle.misp_client.proofs.group_list.groups_listed.Given as goal

-- what is left to read, onto what was read, is all; what was read are groups
abbrev pub invariant-loop-value : goal.invariant-loop-value
invariant-loop-value l =
    (onto l.groups.items (groups_from (items_of (map view (drop l.value-index l.list))))
    ≡ groups_from (items_of (map view l.list)))
    × AllByRecursion IsGroup l.groups.items
