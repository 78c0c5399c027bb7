-- What is asked where all rows of an instance are seen, within whatever reach.
use Rattle.std.proofs.Common.{◌≡◌, ℕ, List, refl, ap, Option, Some, None, Ok}
use Rattle.misp_history.proofs.Prelude.{World, tables}
use Rattle.misp_model.specs.Looking.{more_looks, over}
use Rattle.misp_model.specs.declared.ask.Ask.{Ask}
use Rattle.misp_model.specs.declared.ask.Ask.TheVariants.{View}
use Rattle.misp_model.specs.declared.looks.Looks.{Looks}
use Rattle.misp_core.specs.Answers.{bare_scene}
use Rattle.misp_core.specs.Effects.{asked_over, asked_where}
use Rattle.misp_core.specs.Prelude.{Row, Scene}
use Rattle.misp_core.specs.Reading.{rows_read, rows_then}
use Rattle.misp_api.specs.Prelude.{Caller, Host}
use Rattle.misp_net.specs.Hosts.{host_at}
use Rattle.misp_net.specs.History.{seen_by}

then_all : (rows : List Row) (o : Option Looks) → rows_then (λ reach. Ok rows) rows o ≡ Ok rows
then_all rows None = refl
then_all rows (Some l) = refl

-- these are what is read for an ask
all_read : (s : Scene) (ask : Ask) (rows : List Row) → rows_read s ask (λ reach. Ok rows) ≡ Ok rows
all_read s (View event owner) rows = then_all rows (more_looks (over s rows) (View event owner))
all_read s (Ask.Change change) rows = then_all rows (more_looks (over s rows) (Ask.Change change))
all_read s ask rows = refl

-- so over the history an ask comes to what it does over all rows of the instance
pub over_seen : (hosts : List Host) (w : World) (at now : ℕ) (caller : Caller) (ask : Ask)
    → asked_where (host_at at hosts) now (caller, ask) (seen_by hosts w at)
    ≡ asked_over (host_at at hosts) now (caller, ask) (w.groups (host_at at hosts).name) (Ok (tables w.log (host_at at hosts).name))
over_seen hosts w at now caller ask =
    let host : Host = host_at at hosts in
    ap (asked_over host now (caller, ask) (w.groups host.name)) (all_read (bare_scene host now caller (w.groups host.name)) ask (tables w.log host.name))
