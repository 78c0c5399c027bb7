-- The table of levels, so that a wrong rule in the specs does not check.
use Rattle.std.proofs.Common.{◌≡◌, [], ◌∷◌, map, Some, None, refl}
use Rattle.misp_ids.specs.declared.label.Label.{Label}
use Rattle.misp_ids.specs.declared.label.Way.TheVariants.{Pull, Push, Internal}
use Rattle.misp_levels.specs.Levels.{hop, down}

-- what each level is after a pull, after a push, on an internal link, and after five hops
pub known_levels :
    (map (hop Pull) (Label.Own ∷ Label.Community ∷ Label.Connected ∷ Label.All ∷ Label.Inherit ∷ [])
    ≡ Some Label.Own ∷ Some Label.Own ∷ Some Label.Community ∷ Some Label.All ∷ Some Label.Inherit ∷ [])
    × (map (hop Push) (Label.Own ∷ Label.Community ∷ Label.Connected ∷ Label.All ∷ Label.Inherit ∷ [])
    ≡ None ∷ None ∷ Some Label.Community ∷ Some Label.All ∷ Some Label.Inherit ∷ [])
    × (map (hop Internal) (Label.Own ∷ Label.Community ∷ Label.Connected ∷ Label.All ∷ Label.Inherit ∷ [])
    ≡ Some Label.Own ∷ Some Label.Community ∷ Some Label.Connected ∷ Some Label.All ∷ Some Label.Inherit ∷ [])
    × (map (λ label. down label 5) (Label.Own ∷ Label.Community ∷ Label.Connected ∷ Label.All ∷ Label.Inherit ∷ [])
    ≡ Label.Own ∷ Label.Own ∷ Label.Own ∷ Label.All ∷ Label.Inherit ∷ [])
unfolding hop down
known_levels = (refl, refl, refl, refl)
