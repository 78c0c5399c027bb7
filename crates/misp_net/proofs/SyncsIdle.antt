-- A synchronisation that its link bars puts nothing.
use Rattle.std.proofs.Common.{◌≡◌, ℕ, eqb, List, [], ◌∷◌, Option, None, Some, Result, Ok, Err, refl, ◌∙◌, ap, map, subst, inl, inr, slice_set}
use Rattle.std.proofs.lemmas.Bool.{cases_Bool}
use Rattle.std.proofs.lemmas.List.{set-get_or}
use Rattle.misp_ids.specs.declared.label.Direction.{Direction}
use Rattle.misp_orgs.specs.Admin.{link_of, who_of}
use Rattle.misp_orgs.specs.Roles.{permits}
use Rattle.misp_orgs.specs.declared.link.Link.{Link}
use Rattle.misp_orgs.specs.declared.role.Perm.{Perm}
use Rattle.misp_effects.specs.declared.stop.Side.TheVariants.{Here, There}
use Rattle.misp_format.specs.WholeGroup.{groups_text, uncarried}
use Rattle.misp_store.specs.declared.reach.Reach.{Reach}
use Rattle.misp_core.specs.Prelude.{Ask, Caller, EventId, Inst, OrgId, Row, is_permitted}
use Rattle.misp_package.specs.Spelling.{spell_package}
use Rattle.misp_model.specs.declared.package.PackageFields.{PackageFields as Package}
use Rattle.misp_client.specs.Calling.{is_short}
use Rattle.misp_protocol.specs.Counts.{count_of}
use Rattle.misp_protocol.specs.declared.cause.Cause.{Cause}
use Rattle.misp_sync.specs.Causes.{stop_cause}
use Rattle.misp_sync.specs.Directions.{synced_on, taker}
use Rattle.misp_sync.specs.Pulled.{event_taken, events_sent, events_taken, groups_sent, pulled, pulled_by, pulled_over, rows_pulled}
use Rattle.misp_sync.specs.Pushed.{RowsOf, groups_carried, if_short, over_rows, packages_of, parts_pushed, parts_taken, pushed, pushed_by, pushed_over, rows_seen}
use Rattle.misp_protocol.specs.declared.count.SyncCount.{SyncCount}
use Rattle.misp_sync.specs.declared.reply.SyncReply.{SyncReply}
use Rattle.misp_groups.specs.Changes.{take_groups}
use Rattle.misp_model.specs.Prelude.{Group}
use Rattle.misp_net.specs.Prelude.{Effect, Host, Outcome, Seen, Stop, Stopped, SyncData, Synced, Tables, Went, held_at, host_at, nothing_held, seen_in, spelled}
use Rattle.misp_net.specs.Links.{place_of_peer, synced_at}
use Rattle.misp_net.specs.Meaning.{syncing}
use Rattle.misp_net.specs.Promise.{IsBar, IsIdle}
use Rattle.misp_net.proofs.Syncs.{synced_alone, synced_there}
use Rattle.misp_net.proofs.SyncsTold.{none_left}
use Rattle.misp_effects.specs.Run as runs
use Rattle.misp_sync.specs.Pulled as pulls

-- it ends as a link bars it
abbrev EndsBarred : Option Cause → Type 0
EndsBarred None = ⊥
EndsBarred (Some cause) = IsBar cause

-- ---- what is taken never ends so

event_free : (here : Inst) (w : OrgId) (groups : List Group) (rows : Result (List Row) (List ℕ)) (ps : List (List Row)) (more : Effect (Option Cause)) → (EndsBarred more.reply → ⊥)
    → EndsBarred (event_taken here w groups rows ps more).reply → ⊥
event_free here w groups (Ok rows) ps more free is = free is
event_free here w groups (Err name) ps more free is = is

events_free : (here : Inst) (w : OrgId) (groups : List Group) (own : Seen) (es : List (EventId × List (List Row))) → EndsBarred (events_taken here w groups own es).reply → ⊥
unfolding events_taken
events_free here w groups own [] is = is
events_free here w groups own (e ∷ es) is =
    event_free here w groups (own.rows (Reach.Own w e.0)) e.1 (events_taken here w groups own es) (λ more. events_free here w groups own es more) is

sent_free : (here : Inst) (w : OrgId) (groups : List Group) (own : Seen) (peer : Host) (caller : Caller) (theirs : List Group) (rows : Result (List Row) (List ℕ))
    → EndsBarred (rows_pulled here w groups own (events_sent peer caller theirs rows)).reply → ⊥
sent_free here w groups own peer caller theirs (Ok rows) is = events_free here w groups own _ is
sent_free here w groups own peer caller theirs (Err name) is = is

by_free : (here : Inst) (w : OrgId) (peer : Host) (caller : Option Caller) (own there : Seen) → EndsBarred (pulled_by here w peer caller own there).reply → ⊥
by_free here w peer None own there is = is
by_free here w peer (Some caller) own there is = elim (cases_Bool (is_permitted caller Ask.SyncGroups)) [
  | inl yes_ ↦
      sent_free here w (take_groups own.groups (groups_sent peer caller there.groups)) own peer caller there.groups (there.rows Reach.All) (rw yes_ at is)
  | inr no_ ↦ rw no_ at is
]

-- ---- and neither does what is taken of a push

short_free : (text : List ℕ) (e : Effect (Option Cause)) → (EndsBarred e.reply → ⊥) → EndsBarred (if_short text e).reply → ⊥
short_free text e free is = elim (cases_Bool (is_short text)) [
  | inl yes_ ↦ free (rw yes_ at is)
  | inr no_ ↦ rw no_ at is
]

over_free : (rows : Result (List Row) (List ℕ)) (e : List Row → Effect (Option Cause)) → ((rs : List Row) → EndsBarred (e rs).reply → ⊥) → EndsBarred (over_rows rows e).reply → ⊥
over_free (Ok rs) e free is = free rs is
over_free (Err name) e free is = is

parts_free : (here : Inst) (w : OrgId) (groups : List Group) (ps : List Package) (of : RowsOf) → EndsBarred (parts_taken here w groups of ps).reply → ⊥
unfolding parts_taken
parts_free here w groups [] of is = is
parts_free here w groups (p ∷ ps) of is =
    short_free (spell_package p) _ (λ over. over_free (of p.event) _ (λ rows more. parts_free here w groups ps _ more) over) is

packages_free : (here : Inst) (w : OrgId) (groups : List Group) (of : RowsOf) (from : Inst) (link : Link) (own : List Group) (rows : Result (List Row) (List ℕ))
    → EndsBarred (parts_pushed here w groups of (packages_of from link own rows)).reply → ⊥
packages_free here w groups of from link own (Ok rows) is = parts_free here w groups _ of is
packages_free here w groups of from link own (Err name) is = is

hands_free : (peer : Host) (found : Option Caller) (there : Seen) (carried : List Group) (from : Inst) (link : Link) (own : List Group) (rows : Result (List Row) (List ℕ))
    → EndsBarred (pushed_by peer found there carried (packages_of from link own rows)).reply → ⊥
hands_free peer None there carried from link own rows is = is
hands_free peer (Some caller) there carried from link own rows is = elim (cases_Bool (permits caller.role Perm.Sync)) [
  | inl yes_ ↦ packages_free peer.name caller.org (take_groups there.groups (map uncarried carried)) (rows_seen there) from link own rows (rw yes_ at is)
  | inr no_ ↦ rw no_ at is
]

-- ---- one that ends so puts nothing

over_idle : (here : Inst) (link : Option Link) (peer : Host) (own there : Seen) → EndsBarred (pulled_over here link peer own there).reply → (pulled_over here link peer own there).batches ≡ []
over_idle here None peer own there is = refl
over_idle here (Some link) peer own there is = elim (cases_Bool link.on) [
  | inl on ↦ absurd (by_free here link.holder peer (who_of peer.admin link.key) own there (rw on at is))
  | inr off ↦ rw off refl
]

told_barred : (count : SyncCount) (end : Option Cause) → IsIdle (Synced (pulls.reply_of count end)) → EndsBarred end
told_barred count None is = is
told_barred count (Some cause) is = is

pulled_idle : (here : Host) (link : Inst) (peer : Host) (own there : Seen) → IsIdle (Synced (pulled here link peer own there).reply) → (pulled here link peer own there).batches ≡ []
unfolding pulled
pulled_idle here link peer own there is =
    let e : Effect (Option Cause) = pulled_over here.name (link_of here.admin.links link) peer own there in
    over_idle here.name (link_of here.admin.links link) peer own there (told_barred (count_of e.batches) e.reply is)

push_over_idle : (here : Inst) (link : Option Link) (peer : Host) (own there : Seen) → EndsBarred (pushed_over here link peer own there).reply → (pushed_over here link peer own there).batches ≡ []
push_over_idle here None peer own there is = refl
push_over_idle here (Some link) peer own there is = elim (cases_Bool link.on) [
  | inl on ↦
      absurd (short_free (groups_text (groups_carried link own)) _
      (λ more. hands_free peer (who_of peer.admin link.key) there (groups_carried link own) here link own.groups (own.rows Reach.All) more) (rw on at is))
  | inr off ↦ rw off refl
]

pushed_idle : (here : Host) (link : Inst) (peer : Host) (own there : Seen) → IsIdle (Synced (pushed here link peer own there).reply) → (pushed here link peer own there).batches ≡ []
unfolding pushed
pushed_idle here link peer own there is =
    let e : Effect (Option Cause) = pushed_over here.name (link_of here.admin.links link) peer own there in
    push_over_idle here.name (link_of here.admin.links link) peer own there (told_barred (count_of e.batches) e.reply is)

-- in both directions
on_idle : (direction : Direction) (here : Host) (link : Inst) (peer : Host) (own there : Seen) → IsIdle (Synced (synced_on direction here link peer own there).reply) → (synced_on direction here link peer own there).batches ≡ []
on_idle Direction.Pull here link peer own there is = pulled_idle here link peer own there is
on_idle Direction.Push here link peer own there is = pushed_idle here link peer own there is

idle_at : (hosts : List Host) (line : SyncData) (own there : Seen) → IsIdle (Synced (synced_at hosts line own there).reply) → (synced_at hosts line own there).batches ≡ []
idle_at hosts line own there is = elim (cases_Bool (eqb (place_of_peer hosts line.at line.link) line.at)) [
  | inl alone ↦ ap (λ (e : Effect SyncReply). e.batches) (synced_alone hosts line own there alone)
  | inr other ↦
      let same = synced_there hosts line own there other in
      ap (λ (e : Effect SyncReply). e.batches) same
      ∙ on_idle line.direction (host_at line.at hosts) line.link (host_at (place_of_peer hosts line.at line.link) hosts) own there (subst (λ (e : Effect SyncReply). IsIdle (Synced e.reply)) same is)
]

-- what a stop is told by bars nothing
stop_free : (stop : Stop) → IsBar (stop_cause stop) → ⊥
stop_free (Stop.Keeper Here) is = is
stop_free (Stop.Keeper There) is = is
stop_free (Stop.Memory Here) is = is
stop_free (Stop.Memory There) is = is
stop_free Stop.Carry is = is

-- a synchronisation that its link bars leaves all as it was
pub sync_idle : (hosts : List Host) (line : SyncData) (outcome : Outcome) (tables : Tables) → IsIdle (runs.output_of seen_in outcome (syncing hosts line) tables)
    → runs.tables_after seen_in spelled outcome (syncing hosts line) tables ≡ tables
sync_idle hosts line Went tables is =
    let peer : ℕ = place_of_peer hosts line.at line.link in
    let into : ℕ = taker line.direction line.at peer in
    let e : Effect SyncReply = synced_at hosts line (seen_in (held_at line.at tables)) (seen_in (held_at peer tables)) in
    ap (slice_set tables into) (none_left line.direction Went e (held_at into tables) (idle_at hosts line (seen_in (held_at line.at tables)) (seen_in (held_at peer tables)) is))
    ∙ set-get_or tables into nothing_held
sync_idle hosts line (Stopped stop k lost) tables is = absurd (stop_free stop is)
