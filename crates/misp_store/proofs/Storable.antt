-- Groups that are read from their own rows, and groups that are put one after another.
use Rattle.std.proofs.Common.{◌≡◌, List, [], ◌∷◌, ◌++◌, map, refl, ap}
use Rattle.misp_effects.specs.Prelude.{Group, put_group, put_groups}

-- none
pub none_put : (groups : List Group) → put_groups groups [] ≡ groups
unfolding put_groups
none_put groups = refl

-- one more after the others
pub put_more : (groups gs : List Group) (g : Group) → put_groups groups (gs ++ g ∷ []) ≡ put_group g (put_groups groups gs)
unfolding put_groups
put_more groups [] g = refl
put_more groups (h ∷ gs) g = put_more (put_group h groups) gs g

pub each_same : (gs : List Group) → map (λ g. g) gs ≡ gs
each_same [] = refl
each_same (g ∷ gs) = ap (λ hs. g ∷ hs) (each_same gs)
