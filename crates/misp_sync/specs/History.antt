-- A pull and a push in a network: their acts of the history, and what of these was applied.
use Rattle.std.specs.Prelude.{ℕ, zero, suc, false, true, List, filter, Option, None, Some, Ok, if◌then◌else◌}
use Rattle.misp_ids.specs.declared.label.Direction.{Direction}
use Rattle.misp_orgs.specs.Admin.{link_of, who_of}
use Rattle.misp_orgs.specs.Roles.{permits}
use Rattle.misp_orgs.specs.declared.link.Link.{Link}
use Rattle.misp_orgs.specs.declared.role.Perm.{Perm}
use Rattle.misp_effects.specs.Effect.{Outcome, Stopped, Went}
use Rattle.misp_format.specs.WholeGroup.{groups_text}
use Rattle.misp_model.specs.Scene.{Partner}
use Rattle.misp_history.specs.Outcomes.{Whole}
use Rattle.misp_history.specs.Passing.{Route}
use Rattle.misp_core.specs.Partners.{partner_of}
use Rattle.misp_core.specs.Prelude.{Ask, Caller, Group, Host, Inst, OrgId, Seen, World, is_permitted, tables}
use Rattle.misp_core.specs.Pulling.{carries_to}
use Rattle.misp_client.specs.Calling.{is_short}
use Rattle.misp_sync.specs.Ways.{push_way}
use Rattle.misp_history.specs.Acts as model
use Rattle.misp_history.specs.Outcomes as parts

-- ---- routes of pulls

-- of a pull from the peer, for an organisation, to the partner of a key on the way there, and to
-- this holder here
abbrev pub pull_route : Inst → OrgId → Host → OrgId → Partner → Route
pull_route here holder peer org partner =
    record {
      way = partner.way;
      from = peer.name;
      «for» = org;
      dest = partner.inst;
      into = here;
      holder = holder;
    }

-- a key with which nobody may pull there has none, and neither has one for no instance
abbrev pub route_for : Inst → OrgId → Host → OrgId → Option Partner → Option Route
route_for here holder peer org None = None
route_for here holder peer org (Some partner) = Some (pull_route here holder peer org partner)

abbrev pub route_by : Inst → OrgId → Host → Option Caller → Option Route
route_by here holder peer None = None
route_by here holder peer (Some caller) =
    if is_permitted caller Ask.SyncGroups then
    route_for here holder peer caller.org (partner_of caller) else None

-- a link that is not there or is off has none
abbrev pub route_over : Inst → Option Link → Host → Option Route
route_over here None peer = None
route_over here (Some link) peer =
    if link.on then route_by here link.holder peer (who_of peer.admin link.key) else None

abbrev pub route_of : Host → Inst → Host → Option Route
route_of here link peer = route_over here.name (link_of here.admin.links link) peer

-- ---- routes of pushes

-- of a push over a link to the peer, where this organisation holds what comes
abbrev pub push_route_to : Inst → Link → Host → OrgId → Route
push_route_to here link peer holder =
    record {
      way = push_way link.internal;
      from = here;
      «for» = link.push_org;
      dest = link.peer;
      into = peer.name;
      holder = holder;
    }

-- a key with which nobody may hand in there has none
abbrev pub push_route_by : Inst → Link → Host → Option Caller → Option Route
push_route_by here link peer None = None
push_route_by here link peer (Some caller) =
    if permits caller.role Perm.Sync then Some (push_route_to here link peer caller.org) else None

-- where the text of those of these groups that carry is too long there is none
abbrev pub push_route_with : Inst → Link → Host → List Group → Option Route
push_route_with here link peer groups =
    if is_short (groups_text (filter (carries_to link.push_org link.peer) groups)) then
    push_route_by here link peer (who_of peer.admin link.key) else None

-- a link that is not there or is off has none
abbrev pub push_route_over : Inst → Option Link → Host → List Group → Option Route
push_route_over here None peer groups = None
push_route_over here (Some link) peer groups =
    if link.on then push_route_with here link peer groups else None

-- these being the groups of the instance
abbrev pub push_route_of : Host → Inst → Host → List Group → Option Route
push_route_of here link peer groups =
    push_route_over here.name (link_of here.admin.links link) peer groups

-- ---- acts

-- a synchronisation in this direction
abbrev pub sync_act : Direction → Inst → ℕ → Inst → model.Act
sync_act direction here now link =
    record { at = here; now = now; command = model.Syncs direction link }

abbrev pub pull_act : Inst → ℕ → Inst → model.Act
pull_act = sync_act Direction.Pull

abbrev pub push_act : Inst → ℕ → Inst → model.Act
push_act = sync_act Direction.Push

-- what was applied of an act: the first batch of a synchronisation has its groups, and each
-- further one is a package
abbrev pub applied : Outcome → parts.Outcome
applied Went = Whole
applied (Stopped stop zero lost) = parts.Stopped false 0
applied (Stopped stop (suc n) lost) = parts.Stopped true n

-- what the history shows at an instance: its groups, and all its rows
abbrev pub seen_of : World → Inst → Seen
seen_of w here = record { groups = w.groups here; rows = λ reach. Ok (tables w.log here) }
