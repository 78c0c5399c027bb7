-- What is reported of what is held, before a call and after it. Who has ceased to report reports
-- nothing later.
use Rattle.std.specs.Prelude.{◌≡◌, Option, None, Some}

-- Where both are reported, this holds. What was not reported before is not reported afterwards.
abbrev pub WhereReported : {A : Type 0} → Option A → Option A → (A → A → Type 0) → Type 0
WhereReported None None P = Unit {0}
WhereReported None (Some new) P = ⊥
WhereReported (Some old) None P = Unit {0}
WhereReported (Some old) (Some new) P = P old new

-- what is held stays, where it is still reported
abbrev pub StaysHeld : {A : Type 0} → Option A → Option A → Type 0
StaysHeld old new = WhereReported old new (λ held now. now ≡ held)
