-- What an instance is seen as.
use Rattle.std.specs.Prelude.{ℕ, List, Option}
use Rattle.misp_store.specs.Prelude.{Admin, Held}

-- its name, its administration, what its keeper holds, where the keeper tells it, and how often the
-- keeper has failed
pub record Standing : Type 0 where
  pub name : List ℕ
  pub admin : Admin
  pub held : Option Held
  pub faults : ℕ

abbrev pub standing : List ℕ → Admin → Option Held → ℕ → Standing
standing name admin held faults =
    record { name = name; admin = admin; held = held; faults = faults }

-- who an instance is to a request: its name, and what is set up there
pub record Host : Type 0 where
  pub name : List ℕ
  pub admin : Admin

abbrev pub host_of : Standing → Host
host_of i = record { name = i.name; admin = i.admin }
