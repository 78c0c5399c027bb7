-- Labels that may not be used, without a scene.
use Rattle.std.specs.Prelude.{Bool, false, not, List}
use Rattle.misp_groups.specs.Audience.{allows, group_passes}
use Rattle.misp_model.specs.Prelude.{Group, Inst, Label, OrgId}

-- the label is a group's, and that group is not known, or does not allow the organisation here
unfoldable pub is_unusable : List Group → Inst → OrgId → Label → Bool
is_unusable groups here o (Label.Group g) =
    not (group_passes groups g (λ group. allows group o here))
is_unusable groups here o Label.Own = false
is_unusable groups here o Label.Community = false
is_unusable groups here o Label.Connected = false
is_unusable groups here o Label.All = false
is_unusable groups here o Label.Inherit = false
