-- The way of a push.
use Rattle.std.specs.Prelude.{Bool, if◌then◌else◌}
use Rattle.misp_ids.specs.declared.label.Way.{Way}

-- internal where the link is
abbrev pub push_way : Bool → Way
push_way internal = if internal then Way.Internal else Way.Push
