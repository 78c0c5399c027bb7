-- What carries between the instances, and how often what is put out tells that it failed.
use Rattle.std.specs.Prelude.{ℕ, ◌+◌, List, [], ◌∷◌, Option, Some}
use Rattle.misp_effects.specs.declared.stop.Stop.{Stop}
use Rattle.misp_net.specs.declared.line.Output.{Output}
use Rattle.misp_net.specs.Meaning.{stop_in}
use Rattle.misp_net.specs.Passing.{Trail}

-- what carries: how often it has failed, and the byte strings that it answered, where it tells them
pub record Carried : Type 0 where
  pub faults : ℕ
  pub passed : Option Trail

abbrev pub carried : ℕ → Option Trail → Carried
carried faults passed = record { faults = faults; passed = passed }

-- 1 where a stop is that of what carries
abbrev pub fault_by : Option Stop → ℕ
fault_by (Some Stop.Carry) = 1
fault_by stop = 0

abbrev pub carry_faults : List Output → ℕ
carry_faults [] = 0
carry_faults (output ∷ outputs) = fault_by (stop_in output) + carry_faults outputs
