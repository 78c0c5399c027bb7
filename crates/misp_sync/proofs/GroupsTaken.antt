-- Groups that are taken one after another, as a text keeps them.
use Rattle.std.proofs.Common.{◌≡◌, List, [], ◌∷◌, refl, map}
use Rattle.misp_groups.specs.Changes.{take_group, take_groups, takes_group}
use Rattle.misp_core.specs.Prelude.{Group}
use Rattle.misp_format.specs.WholeGroup.{uncarried}

-- what a text keeps of groups is taken as these are
pub taken_uncarried : (gs hs : List Group) → take_groups gs (map uncarried hs) ≡ take_groups gs hs
unfolding take_groups take_group takes_group
taken_uncarried gs [] = refl
taken_uncarried gs (h ∷ hs) = taken_uncarried (take_group gs h) hs
