-- Where a head may end.
use Rattle.std.specs.Prelude.{ℕ, Bool, true, false, ◌==◌, ◌&&◌, ◌||◌, List, [], ◌∷◌, if◌then◌else◌}

-- an empty line ends, after a line that is not empty: whether one was begun, and whether the line
-- so far is empty
unfoldable pub ends_head : Bool → Bool → List ℕ → Bool
ends_head begun empty [] = false
ends_head begun empty (b ∷ bytes) =
    if b == 10 then (begun && empty) || ends_head begun true bytes
    else (if b == 13 then ends_head begun empty bytes else ends_head true false bytes)
