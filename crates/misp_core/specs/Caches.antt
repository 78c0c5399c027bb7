-- What an instance caches beside its keeper.
use Rattle.std.specs.Prelude.{List, Option, IfSome}
use Rattle.misp_model.specs.Prelude.{Group}
use Rattle.misp_package.specs.declared.landing.Landing.{Landing}
use Rattle.misp_store.specs.Prelude.{Held}
use Rattle.misp_core.specs.Ahead.{IsBeside}
use Rattle.misp_core.specs.Standing.{Host}
use Rattle.misp_core.specs.Synced.{IsSynced}
use Rattle.misp_core.specs.declared.ahead.Ahead.{Ahead}
use Rattle.misp_core.specs.declared.synced.OwnRows.{OwnRows}

-- what requests go by, and the own rows of the owner and event that were synchronised last
pub record AreCached (host : Host) (held : Option Held) (known : List Group)
    (kept : Option Ahead) (landing : Option Landing) (own : Option OwnRows) : Type 0 where
  pub beside : IsBeside host held known kept landing
  pub synced : IfSome own (IsSynced host.name held)
