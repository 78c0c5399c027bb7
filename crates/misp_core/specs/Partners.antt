-- The instance that a key is for, and the way there.
use Rattle.std.specs.Prelude.{Bool, Option, if◌then◌else◌, option_map}
use Rattle.misp_ids.specs.Same.{Inst}
use Rattle.misp_ids.specs.declared.label.Way.{Way}
use Rattle.misp_orgs.specs.Keys.{CallerFields as Caller}
use Rattle.misp_model.specs.Scene.{Partner}

-- the way of a pull: internal where the key is
abbrev pub pull_way : Bool → Way
pull_way internal = if internal then Way.Internal else Way.Pull

-- an instance as the partner of a key
abbrev pub partner_at : Bool → Inst → Partner
partner_at internal inst = record { inst = inst; way = pull_way internal }

-- the partner of the caller's key
abbrev pub partner_of : Caller → Option Partner
partner_of caller = option_map (partner_at caller.internal) caller.partner
