-- Groups that a caller adds and edits.
use Rattle.std.proofs.Common.{◌≡◌, ℕ, Bool, refl}
use Rattle.misp_history.specs.Acts.{Net}
use Rattle.misp_core.specs.Prelude.{Caller, Group, Host, Stamp, World, step}
use Rattle.misp_core.specs.Keeping.{act_of}
use Rattle.misp_core.specs.Sharing.{act_sharing}

-- the act of a caller changes the history as that of its organisation does
pub shared_step : (net : Net) (n : ℕ) (w : World) (host : Host) (now : Stamp) (caller : Caller) (add : Bool) (g : Group)
    → step net n w (act_sharing host now caller add g) ≡ step net n w (act_of host.name now caller.org add g)
unfolding step
shared_step net n w host now caller add g = refl
