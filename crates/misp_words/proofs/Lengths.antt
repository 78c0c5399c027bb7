-- Three words, or five and more, ask for nothing.
use Rattle.std.proofs.Common.{◌≡◌, ◌<◌, ◌≤◌, ℕ, List, [], ◌∷◌, length, map, None, refl, arith}
use Rattle.misp_words.specs.Words.{command_of}

pub three : {X : Type 0} (f : X → List ℕ) (ws : List X) → 3 ≤ length ws → length ws < 4 → command_of (map f ws) ≡ None
three f [] some few = absurd (omega arith)
three f (a ∷ []) some few = absurd (omega arith)
three f (a ∷ b ∷ []) some few = absurd (omega arith)
three f (a ∷ b ∷ c ∷ []) some few = refl
three f (a ∷ b ∷ c ∷ d ∷ ws) some few = absurd (omega arith)

pub five_or_more : {X : Type 0} (f : X → List ℕ) (ws : List X) → 5 ≤ length ws → command_of (map f ws) ≡ None
five_or_more f [] some = absurd (omega arith)
five_or_more f (a ∷ []) some = absurd (omega arith)
five_or_more f (a ∷ b ∷ []) some = absurd (omega arith)
five_or_more f (a ∷ b ∷ c ∷ []) some = absurd (omega arith)
five_or_more f (a ∷ b ∷ c ∷ d ∷ []) some = absurd (omega arith)
five_or_more f (a ∷ b ∷ c ∷ d ∷ e ∷ ws) some = refl
