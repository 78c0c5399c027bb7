-- What a command means, among all instances.
use Rattle.std.specs.Prelude.{ℕ, Bool}
use Rattle.misp_effects.specs.declared.stop.Stop.{Stop}
use Rattle.misp_effects.specs.Effect.{Effect, Telling, nothing_of, first_of}

-- Which instance is asked, which other it touches (or itself), and which of the two puts; what it
-- comes to by what is seen at these two; and how a stop of it is told. S is what is seen, and A
-- what is put out.
pub record Meaning (S A : Type 0) : Type 0 where
  pub at : ℕ
  pub peer : ℕ
  pub into : ℕ
  pub comes : S → S → Effect A
  pub telling : Telling A

-- of one instance: stopped, it does nothing
abbrev pub alone : {S A : Type 0} → (Stop → A) → ℕ → (S → Effect A) → Meaning S A
alone refused at comes = record {
  at = at;
  peer = at;
  into = at;
  comes = λ here there. comes here;
  telling = nothing_of refused;
}

-- of two instances: stopped, it is done in part
abbrev pub between : {S A : Type 0} →
    (Stop → ℕ → Bool → A) → ℕ → ℕ → ℕ → (S → S → Effect A) → Meaning S A
between told at peer into comes = record {
  at = at;
  peer = peer;
  into = into;
  comes = comes;
  telling = first_of told;
}
