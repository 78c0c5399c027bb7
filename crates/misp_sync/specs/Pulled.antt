-- What a pull comes to, where this is seen here and at the peer.
use Rattle.std.specs.Prelude.{ℕ, List, [], ◌∷◌, ◌++◌, map, take, Option, None, Some, Result, Ok, Err, if◌then◌else◌}
use Rattle.misp_orgs.specs.Admin.{link_of, who_of}
use Rattle.misp_orgs.specs.declared.link.Link.{Link}
use Rattle.misp_groups.specs.Changes.{take_groups}
use Rattle.misp_effects.specs.Batches.{batch}
use Rattle.misp_effects.specs.Effect.{Telling, behind, effect}
use Rattle.misp_format.specs.WholeGroup.{uncarried}
use Rattle.misp_model.specs.Pulling.{pulled_events, pulled_groups, pulled_packages}
use Rattle.misp_history.specs.Merging.{handed, merged, rows_taken}
use Rattle.misp_store.specs.Prelude.{Batch}
use Rattle.misp_store.specs.declared.reach.Reach.{Reach}
use Rattle.misp_core.specs.Answers.{bad_row}
use Rattle.misp_core.specs.Effects.{row_batches}
use Rattle.misp_core.specs.Prelude.{Ask, Caller, Effect, EventId, Group, Host, Inst, OrgId, Row, RuleName, Scene, Seen, bare, forbidden, is_permitted, scene_at, seeing}
use Rattle.misp_core.specs.Taking.{groups_taken}
use Rattle.misp_protocol.specs.Counts.{count_of}
use Rattle.misp_client.specs.Telling.{refused_as}
use Rattle.misp_protocol.specs.declared.cause.Cause.{Cause}
use Rattle.misp_sync.specs.Causes.{stop_by, stop_cause}
use Rattle.misp_protocol.specs.declared.count.SyncCount.{SyncCount}
use Rattle.misp_sync.specs.declared.reply.SyncReply.{SyncReply}
use Rattle.misp_effects.specs.declared.stop.Stop.{Stop}

-- ---- what is taken of what comes

-- nothing more is put: it ends so, where something refuses the rest
abbrev pub ends : Option Cause → Effect (Option Cause)
ends cause = effect cause []

-- these batches before those of the effect
abbrev pub behind_all : List Batch → Effect (Option Cause) → Effect (Option Cause)
behind_all bs e = effect e.reply (bs ++ e.batches)

-- of packages of one event what is taken over these rows and those taken before: a batch for each
-- package of which a row is
unfoldable pub package_batches : Inst → List Group → List Row → List (List Row) → List Batch
package_batches here groups rows [] = []
package_batches here groups rows (p ∷ ps) =
    row_batches (rows_taken here rows groups p)
    ++ package_batches here groups (merged here rows groups p) ps

-- packages of one event as they are handed in for an owner, over the owner's own rows of it
abbrev pub event_taken : Inst → OrgId → List Group → Result (List Row) (List ℕ)
    → List (List Row) → Effect (Option Cause) → Effect (Option Cause)
event_taken here w groups (Ok rows) ps more =
    behind_all (package_batches here groups rows (map (map (handed w)) ps)) more
event_taken here w groups (Err name) ps more = ends (Some (Cause.BadRow name))

-- events with their packages, one after another
unfoldable pub events_taken : Inst → OrgId → List Group → Seen
    → List (EventId × List (List Row)) → Effect (Option Cause)
events_taken here w groups own [] = ends None
events_taken here w groups own (e ∷ more) =
    event_taken here w groups (own.rows (Reach.Own w e.0)) e.1
    (events_taken here w groups own more)

-- ---- what comes

-- with each event its packages
abbrev pub with_packages : Scene → List (EventId × List (List Row))
with_packages s = map (λ e. (e.0, pulled_packages s e.0)) (pulled_events s)

-- of the peer's rows, where all of them are rows
abbrev pub events_sent : Host → Caller → List Group → Result (List Row) (List ℕ)
    → Result (List (EventId × List (List Row))) Cause
events_sent peer caller groups (Ok rows) =
    Ok (with_packages (seeing (scene_at peer 0 caller groups) rows))
events_sent peer caller groups (Err name) = Err (refused_as (bad_row name))

-- the groups that carry, as they are told
abbrev pub groups_sent : Host → Caller → List Group → List Group
groups_sent peer caller groups = map uncarried (pulled_groups (scene_at peer 0 caller groups))

-- ---- the pull

-- what comes of the events is taken by these groups
abbrev pub rows_pulled : Inst → OrgId → List Group → Seen
    → Result (List (EventId × List (List Row))) Cause → Effect (Option Cause)
rows_pulled here w groups own (Ok events) = events_taken here w groups own events
rows_pulled here w groups own (Err cause) = ends (Some cause)

-- first the groups are taken, in one batch, which may have none
abbrev pub all_pulled : Inst → OrgId → Seen → List Group
    → Result (List (EventId × List (List Row))) Cause → Effect (Option Cause)
all_pulled here w own groups sent =
    behind (batch [] (groups_taken own.groups groups))
    (rows_pulled here w (take_groups own.groups groups) own sent)

-- who asks there must be permitted to
abbrev pub pulled_by : Inst → OrgId → Host → Option Caller → Seen → Seen → Effect (Option Cause)
pulled_by here w peer None own there = ends (Some (refused_as (bare RuleName.NoKey)))
pulled_by here w peer (Some caller) own there =
    if is_permitted caller Ask.SyncGroups then
    all_pulled here w own (groups_sent peer caller there.groups)
    (events_sent peer caller there.groups (there.rows Reach.All))
    else ends (Some (refused_as (forbidden Ask.SyncGroups)))

-- the link must be there, and be on
abbrev pub pulled_over : Inst → Option Link → Host → Seen → Seen → Effect (Option Cause)
pulled_over here None peer own there = ends (Some Cause.NoLink)
pulled_over here (Some link) peer own there =
    if link.on then pulled_by here link.holder peer (who_of peer.admin link.key) own there
    else ends (Some Cause.LinkOff)

-- ---- how it is told

-- all was taken, or so much of it before this
abbrev pub reply_of : SyncCount → Option Cause → SyncReply
reply_of count None = SyncReply.Done count
reply_of count (Some cause) = SyncReply.Stopped count cause

abbrev pub synced : Effect (Option Cause) → Effect SyncReply
synced e = effect (reply_of (count_of e.batches) e.reply) e.batches

-- what a pull over a link comes to: what is seen here, and at the peer
unfoldable pub pulled : Host → Inst → Host → Seen → Seen → Effect SyncReply
pulled here link peer own there =
    synced (pulled_over here.name (link_of here.admin.links link) peer own there)

-- a stop leaves the batches that were put, and tells what they brought
abbrev pub telling : Telling SyncReply
telling stop n lost e =
    effect (SyncReply.Stopped (count_of (take n e.batches)) (stop_cause stop)) (take n e.batches)

-- the stop that a reply tells
abbrev pub stop_in : SyncReply → Option Stop
stop_in (SyncReply.Done count) = None
stop_in (SyncReply.Stopped count cause) = stop_by cause
