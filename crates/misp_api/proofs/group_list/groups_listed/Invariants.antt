use Rattle.std.proofs.Common.{◌≡◌, [], drop, map}
use Rattle.serde_json.specs.View.{items_of, view}
use Rattle.misp_format.specs.Rows.{each}
use Rattle.misp_api.specs.GroupList.{next_group}
use Rattle.misp_api.proofs.group_list.groups_listed.Given as goal

-- what is left to read, onto what was read, is all
abbrev pub invariant-loop-place : goal.invariant-loop-place
invariant-loop-place l =
    each next_group l.place l.groups.items (items_of (map view (drop l.place l.list)))
    ≡ each next_group 0 [] (items_of (map view l.list))
