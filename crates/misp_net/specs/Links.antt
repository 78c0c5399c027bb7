-- Over which link an instance synchronises with which other.
use Rattle.std.specs.Prelude.{ℕ, ◌==◌, List, [], Option, None, bytes_eq, if◌then◌else◌, position, unwrap_or}
use Rattle.std.specs.Option.{option_map_or}
use Rattle.misp_ids.specs.Same.{Inst}
use Rattle.misp_ids.specs.declared.label.Direction.{Direction}
use Rattle.misp_orgs.specs.Admin.{link_of}
use Rattle.misp_orgs.specs.declared.link.Link.{Link}
use Rattle.misp_script.specs.Step.{SyncData}
use Rattle.misp_effects.specs.Effect.{effect}
use Rattle.misp_history.specs.Acts.{Net}
use Rattle.misp_history.specs.Passing.{Route}
use Rattle.misp_core.specs.Prelude.{Effect, Group, Host, Seen}
use Rattle.misp_protocol.specs.Counts.{no_count}
use Rattle.misp_protocol.specs.declared.cause.Cause.{Cause}
use Rattle.misp_sync.specs.Causes.{bar_of}
use Rattle.misp_sync.specs.Directions.{route_on, synced_on}
use Rattle.misp_sync.specs.declared.reply.SyncReply.{SyncReply}
use Rattle.misp_sync.specs.declared.reply.SyncReply.TheVariants as replies
use Rattle.misp_net.specs.Hosts.{host_at, hosts_made}

-- the place of the first instance of this name
abbrev pub place_named : List Host → Inst → Option ℕ
place_named hosts name = position (λ (host : Host). bytes_eq host.name name) hosts

-- the link of this name at the instance of a place
abbrev pub link_at : List Host → ℕ → Inst → Option Link
link_at hosts at link = link_of (host_at at hosts).admin.links link

-- the place of the peer of a link at this place; where there is no link, or its peer is no
-- instance, it is this place itself
abbrev pub peer_place : List Host → ℕ → Option Link → ℕ
peer_place hosts at link =
    unwrap_or (option_map_or (λ (l : Link). place_named hosts l.peer) link None) at

abbrev pub place_of_peer : List Host → ℕ → Inst → ℕ
place_of_peer hosts at link = peer_place hosts at (link_at hosts at link)

-- ---- synchronisations

-- without another instance as its peer it is refused: as its link bars it, or since there is no peer
abbrev pub unsynced : Option Link → Effect SyncReply
unsynced link = effect (replies.Stopped no_count (unwrap_or (bar_of link) Cause.NoPeer)) []

-- what a synchronisation of a line comes to: what is seen at its place, and at the peer
abbrev pub synced_at : List Host → SyncData → Seen → Seen → Effect SyncReply
synced_at hosts line own there =
    let peer : ℕ = place_of_peer hosts line.at line.link in
    if peer == line.at then unsynced (link_at hosts line.at line.link)
    else synced_on line.direction (host_at line.at hosts) line.link (host_at peer hosts) own there

-- ---- the net

-- the route over a link of a place, these being the groups there
abbrev pub route_at : List Host → Direction → ℕ → Inst → List Group → Option Route
route_at hosts direction at link groups =
    let peer : ℕ = place_of_peer hosts at link in
    if peer == at then None
    else route_on direction (host_at at hosts) link (host_at peer hosts) groups

-- each of these instances pulls and pushes over its links
abbrev pub routes_of : List Host → Net
routes_of hosts direction here link groups made =
    option_map_or (λ at. route_at hosts direction at link (groups here)) (place_named hosts here) None

-- each described instance over its links as requests made them
abbrev pub links_of : List Host → Net
links_of described direction here link groups made =
    routes_of (hosts_made described made) direction here link groups made
