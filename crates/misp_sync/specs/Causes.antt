-- Why a synchronisation ends before its end, and which of this tells a stop.
use Rattle.std.specs.Prelude.{◌==◌, ◌&&◌, ℕ, Option, Some, None, Result, Ok, Err, if◌then◌else◌}
use Rattle.misp_orgs.specs.declared.link.Link.{Link}
use Rattle.misp_effects.specs.declared.stop.Side.TheVariants.{Here, There}
use Rattle.misp_effects.specs.declared.stop.Stop.{Stop}
use Rattle.misp_protocol.specs.declared.cause.Cause.{Cause}

-- ---- links

-- why a link bars a synchronisation, if it does
abbrev pub bar_of : Option Link → Option Cause
bar_of None = Some Cause.NoLink
bar_of (Some link) = if link.on then None else Some Cause.LinkOff

-- ---- stops

-- the stop that a refusal of the peer tells, by its status and its rule
abbrev pub peer_stop : ℕ → ℕ → Option Stop
peer_stop status rule =
    if status == 503 && rule == 26 then Some (Stop.Keeper There)
    else if status == 507 && rule == 27 then Some (Stop.Memory There) else None

-- the stop that a cause tells, if it tells one
abbrev pub stop_by : Cause → Option Stop
stop_by Cause.Keeper = Some (Stop.Keeper Here)
stop_by Cause.NoMemory = Some (Stop.Memory Here)
stop_by Cause.Link = Some Stop.Carry
stop_by (Cause.Refused status rule) = peer_stop status rule
stop_by cause = None

-- the cause that tells a stop: of a keeper, of memory, or of what carries
abbrev pub stop_cause : Stop → Cause
stop_cause (Stop.Keeper Here) = Cause.Keeper
stop_cause (Stop.Keeper There) = Cause.Refused 503 26
stop_cause (Stop.Memory Here) = Cause.NoMemory
stop_cause (Stop.Memory There) = Cause.Refused 507 27
stop_cause Stop.Carry = Cause.Link

-- ---- usable links

-- the link, where it is there and on
abbrev pub usable_link : Option Link → Result Link Cause
usable_link None = Err Cause.NoLink
usable_link (Some link) = if link.on then Ok link else Err Cause.LinkOff
