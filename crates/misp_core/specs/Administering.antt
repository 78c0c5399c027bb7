-- The administration of groups: why it is refused, and what it comes to.
use Rattle.std.specs.Prelude.{Bool, List, [], ◌∷◌, Option, None, Some}
use Rattle.misp_groups.specs.Prelude.{OrgId, RuleName, Stamp, bare, group_now, why_not}
use Rattle.misp_groups.specs.declared.group.GroupFields.{GroupFields as Group}
use Rattle.misp_effects.specs.Batches.{batch}
use Rattle.misp_effects.specs.Effect.{Effect, effect}
use Rattle.misp_core.specs.Effects.{refused}
use Rattle.misp_core.specs.declared.reply.Answer.{Answer}
use Rattle.misp_core.specs.declared.reply.Reply.{Reply}

-- the group is put, and one group was taken
abbrev pub taken : Group → Effect Reply
taken g = effect (Reply.Ok (Answer.Taken 1)) (batch [] (g ∷ []) ∷ [])

-- what it comes to where this is the first rule against it, if there is one
abbrev pub effect_by : Option RuleName → Group → Effect Reply
effect_by None g = taken g
effect_by (Some rule) g = refused (bare rule)

-- the adding or editing of a group, which is put as it is now, where these are the groups
abbrev pub administered : Stamp → OrgId → Bool → Group → List Group → Effect Reply
administered now by add g groups = effect_by (why_not add groups by g.id) (group_now now g groups)
