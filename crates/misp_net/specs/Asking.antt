-- With whom an instance synchronises.
use Rattle.std.specs.Prelude.{ℕ, ◌==◌, List, map, Option, None, Some, Result, Ok, Err, if◌then◌else◌}
use Rattle.misp_orgs.specs.declared.link.Link.{Link}
use Rattle.misp_script.specs.Directory.{Roster, place_of, roster_names}
use Rattle.misp_core.specs.Standing.{Host}
use Rattle.misp_protocol.specs.declared.cause.Cause.{Cause}

-- the names of instances
abbrev pub names_of : List Host → List (List ℕ)
names_of hosts = map (λ (host : Host). host.name) hosts

-- the instance of this place, where it is another than that of the line
abbrev pub asked_at : ℕ → Option ℕ → Result ℕ Cause
asked_at at None = Err Cause.NoPeer
asked_at at (Some peer) = if peer == at then Err Cause.NoPeer else Ok peer

-- over this link the place of the peer, or why the synchronisation is refused
abbrev pub asked_over : List Roster → ℕ → Option Link → Result ℕ Cause
asked_over rosters at None = Err Cause.NoLink
asked_over rosters at (Some link) =
    if link.on then asked_at at (place_of (roster_names rosters) link.peer) else Err Cause.LinkOff
