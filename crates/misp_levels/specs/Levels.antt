-- What becomes of a label on the way.
use Rattle.std.specs.Prelude.{Option, Some, None, ℕ, zero, suc, List, [], ◌∷◌}
use Rattle.misp_ids.specs.declared.label.Label.{Label}
use Rattle.misp_ids.specs.declared.label.Way.{Way}
use Rattle.misp_ids.specs.declared.label.Way.TheVariants.{Pull, Push, Internal}

-- the label after one hop, where it is sent at all
unfoldable pub hop : Way → Label → Option Label
hop Internal label = Some label
hop Pull Label.Own = Some Label.Own
hop Pull Label.Community = Some Label.Own
hop Push Label.Own = None
hop Push Label.Community = None
hop way Label.Connected = Some Label.Community
hop way Label.All = Some Label.All
hop way (Label.Group g) = Some (Label.Group g)
hop way Label.Inherit = Some Label.Inherit

-- the label after n hops
unfoldable pub down : Label → ℕ → Label
down Label.Connected zero = Label.Connected
down Label.Connected (suc zero) = Label.Community
down Label.Connected (suc (suc n)) = Label.Own
down Label.Community zero = Label.Community
down Label.Community (suc n) = Label.Own
down Label.Own n = Label.Own
down Label.All n = Label.All
down (Label.Group g) n = Label.Group g
down Label.Inherit n = Label.Inherit

-- ---- by way

-- how many of these hops lower a label: those that are not internal
unfoldable pub lowering : List Way → ℕ
lowering [] = zero
lowering (Internal ∷ ways) = lowering ways
lowering (Pull ∷ ways) = suc (lowering ways)
lowering (Push ∷ ways) = suc (lowering ways)

-- the label with which what is sent on this way comes
unfoldable pub landed : Way → Label → Label
landed way label = down label (lowering (way ∷ []))
