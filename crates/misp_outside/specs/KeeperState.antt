-- What a keeper reports.
use Rattle.std.specs.Prelude.{ℕ, Option}
use Rattle.misp_outside.specs.Held.{Held}

-- what it holds, where it reports that, and how often it has failed
pub record KeeperState : Type 0 where
  pub held : Option Held
  pub faults : ℕ

-- this held, and so many faults
abbrev pub state : Option Held → ℕ → KeeperState
state held faults = record { held = held; faults = faults }
