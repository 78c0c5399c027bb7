-- What a push comes to, where this is seen here and at the peer. Its batches are the peer's.
use Rattle.std.specs.Prelude.{ℕ, List, [], ◌∷◌, filter, map, take, zero, suc, Bool, true, false, Option, None, Some, Result, Ok, Err, if◌then◌else◌}
use Rattle.misp_orgs.specs.Admin.{link_of, who_of}
use Rattle.misp_orgs.specs.Roles.{permits}
use Rattle.misp_orgs.specs.declared.link.Link.{Link}
use Rattle.misp_orgs.specs.declared.role.Perm.{Perm}
use Rattle.misp_groups.specs.Changes.{take_groups}
use Rattle.misp_effects.specs.Batches.{batch}
use Rattle.misp_effects.specs.Effect.{Telling, behind, effect}
use Rattle.misp_effects.specs.declared.stop.Side.TheVariants.{Here}
use Rattle.misp_effects.specs.declared.stop.Stop.{Stop}
use Rattle.misp_format.specs.WholeGroup.{groups_text, uncarried}
use Rattle.misp_history.specs.Merging.{merged}
use Rattle.misp_package.specs.Spelling.{spell_package}
use Rattle.misp_model.specs.Permission.{no_permission}
use Rattle.misp_model.specs.Prelude.{same_event}
use Rattle.misp_model.specs.declared.package.PackageFields.{PackageFields as Package}
use Rattle.misp_store.specs.declared.reach.Reach.{Reach}
use Rattle.misp_core.specs.Answers.{bad_row}
use Rattle.misp_core.specs.Effects.{row_batches}
use Rattle.misp_core.specs.Prelude.{Caller, Effect, EventId, Group, Host, Inst, OrgId, Row, RuleName, Seen, bare}
use Rattle.misp_core.specs.Pulling.{carries_to}
use Rattle.misp_core.specs.Taking.{groups_taken, handed_rows, package_taken}
use Rattle.misp_protocol.specs.Counts.{count_of}
use Rattle.misp_client.specs.Calling.{is_short, too_large}
use Rattle.misp_sync.specs.Pulled.{behind_all, ends, synced}
use Rattle.misp_core.specs.Sending.{packages_pushed}
use Rattle.misp_client.specs.Telling.{refused_as}
use Rattle.misp_protocol.specs.declared.cause.Cause.{Cause}
use Rattle.misp_sync.specs.Causes.{stop_cause}
use Rattle.misp_sync.specs.Ways.{push_way}
use Rattle.misp_sync.specs.declared.reply.SyncReply.{SyncReply}

-- ---- what is sent

-- the groups that carry what the organisation of the link takes to its peer
abbrev pub groups_carried : Link → Seen → List Group
groups_carried link own = filter (carries_to link.push_org link.peer) own.groups

-- the packages that are pushed of rows, where all of these are rows
abbrev pub packages_of : Inst → Link → List Group → Result (List Row) (List ℕ)
    → Result (List Package) Cause
packages_of here link groups (Ok rows) =
    Ok (packages_pushed (push_way link.internal) here groups link.push_org link.peer rows)
packages_of here link groups (Err name) = Err (Cause.BadRow name)

-- the packages that are pushed of what is seen here
abbrev pub packages_sent : Inst → Link → Seen → Result (List Package) Cause
packages_sent here link own = packages_of here link own.groups (own.rows Reach.All)

-- ---- what is taken there

-- the rows of each event, or the name of the first that is none
abbrev pub RowsOf : Type 0
RowsOf = EventId → Result (List Row) (List ℕ)

-- as they are seen
abbrev pub rows_seen : Seen → RowsOf
rows_seen there e = there.rows (Reach.Event e)

-- these are the rows of an event, and of another event the rows that they were
abbrev pub with_event : EventId → List Row → RowsOf → RowsOf
with_event e rows of other = if same_event e other then Ok rows else of other

-- what is taken over rows that are read
abbrev pub over_rows : Result (List Row) (List ℕ) → (List Row → Effect (Option Cause))
    → Effect (Option Cause)
over_rows (Ok rows) taken = taken rows
over_rows (Err name) taken = ends (Some (refused_as (bad_row name)))

-- what comes of a text, where it is not too long
abbrev pub if_short : List ℕ → Effect (Option Cause) → Effect (Option Cause)
if_short text e = if is_short text then e else ends (Some (refused_as too_large))

-- packages that are handed in for an owner, one after another: a batch for each of which a row is
-- taken, over the rows of its event with those that were taken before
unfoldable pub parts_taken : Inst → OrgId → List Group → RowsOf → List Package
    → Effect (Option Cause)
parts_taken here w groups of [] = ends None
parts_taken here w groups of (p ∷ ps) =
    if_short (spell_package p) (over_rows (of p.event) (λ rows.
    behind_all (row_batches (package_taken here rows groups w p))
    (parts_taken here w groups
    (with_event p.event (merged here rows groups (handed_rows w p)) of) ps)))

-- the packages, where they could be made here
abbrev pub parts_pushed : Inst → OrgId → List Group → RowsOf → Result (List Package) Cause
    → Effect (Option Cause)
parts_pushed here w groups of (Ok ps) = parts_taken here w groups of ps
parts_pushed here w groups of (Err cause) = ends (Some cause)

-- ---- the push

-- first the groups are taken, in one batch, which may have none
abbrev pub all_pushed : Inst → OrgId → Seen → List Group → Result (List Package) Cause
    → Effect (Option Cause)
all_pushed here w there groups sent =
    behind (batch [] (groups_taken there.groups groups))
    (parts_pushed here w (take_groups there.groups groups) (rows_seen there) sent)

-- who hands in must be permitted to; a text does not keep of a group that it was carried
abbrev pub pushed_by : Host → Option Caller → Seen → List Group → Result (List Package) Cause
    → Effect (Option Cause)
pushed_by peer None there groups sent = ends (Some (refused_as (bare RuleName.NoKey)))
pushed_by peer (Some caller) there groups sent =
    if permits caller.role Perm.Sync then
    all_pushed peer.name caller.org there (map uncarried groups) sent
    else ends (Some (refused_as (no_permission Perm.Sync)))

-- and before that the text of the groups must not be too long
abbrev pub pushed_with : Host → Option Caller → Seen → List Group → Result (List Package) Cause
    → Effect (Option Cause)
pushed_with peer found there groups sent =
    if_short (groups_text groups) (pushed_by peer found there groups sent)

-- over a link
abbrev pub pushed_through : Inst → Link → Host → Seen → Seen → Effect (Option Cause)
pushed_through here link peer own there =
    pushed_with peer (who_of peer.admin link.key) there (groups_carried link own)
    (packages_sent here link own)

-- the link must be there, and be on
abbrev pub pushed_over : Inst → Option Link → Host → Seen → Seen → Effect (Option Cause)
pushed_over here None peer own there = ends (Some Cause.NoLink)
pushed_over here (Some link) peer own there =
    if link.on then pushed_through here link peer own there
    else ends (Some Cause.LinkOff)

-- what a push over a link comes to: what is seen here, and at the peer
unfoldable pub pushed : Host → Inst → Host → Seen → Seen → Effect SyncReply
pushed here link peer own there =
    synced (pushed_over here.name (link_of here.admin.links link) peer own there)

-- ---- how a stop is told

-- of so many batches those that were answered: all but the last, where its answer is lost
abbrev pub answered : Bool → ℕ → ℕ
answered false n = n
answered true zero = 0
answered true (suc n) = n

-- an answer is lost where what carries failed, or memory ran out here
abbrev pub counted_by : Stop → Bool → ℕ → ℕ
counted_by Stop.Carry lost n = answered lost n
counted_by (Stop.Memory Here) lost n = answered lost n
counted_by stop lost n = n

-- a stop leaves the batches that were put, and tells what those brought that were answered
abbrev pub push_telling : Telling SyncReply
push_telling stop n lost e =
    effect (SyncReply.Stopped (count_of (take (counted_by stop lost n) e.batches))
    (stop_cause stop)) (take n e.batches)
