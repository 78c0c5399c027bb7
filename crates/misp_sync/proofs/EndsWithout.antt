-- What a pull or a push comes to ends by no stop: a refusal that the peer states is none.
use Rattle.std.proofs.Common.{◌≡◌, ℕ, Bool, true, false, List, [], ◌∷◌, map, Option, None, Some, Result, Ok, Err, refl, if◌then◌else◌}
use Rattle.misp_orgs.specs.Admin.{who_of}
use Rattle.misp_orgs.specs.Roles.{permits}
use Rattle.misp_orgs.specs.declared.link.Link.{Link}
use Rattle.misp_orgs.specs.declared.role.Perm.{Perm}
use Rattle.misp_format.specs.WholeGroup.{groups_text, uncarried}
use Rattle.misp_groups.specs.Changes.{take_groups}
use Rattle.misp_history.specs.Merging.{merged}
use Rattle.misp_package.specs.Spelling.{spell_package}
use Rattle.misp_model.specs.Permission.{no_permission}
use Rattle.misp_model.specs.declared.package.PackageFields.{PackageFields as Package}
use Rattle.misp_store.specs.declared.reach.Reach.{Reach}
use Rattle.misp_core.specs.Prelude.{Ask, Caller, Effect, EventId, Group, Host, Inst, OrgId, Row, Seen, forbidden, is_permitted}
use Rattle.misp_core.specs.Taking.{handed_rows}
use Rattle.misp_client.specs.Calling.{is_short, too_large}
use Rattle.misp_client.specs.Telling.{refused_as}
use Rattle.misp_protocol.specs.declared.cause.Cause.{Cause}
use Rattle.misp_sync.specs.Causes.{stop_by}
use Rattle.misp_sync.specs.Pulled.{all_pulled, ends, event_taken, events_sent, events_taken, groups_sent, pulled_by, rows_pulled}
use Rattle.misp_sync.specs.Pushed.{RowsOf, all_pushed, groups_carried, if_short, over_rows, packages_of, packages_sent, parts_pushed, parts_taken, pushed_by, pushed_through, rows_seen, with_event}
use Rattle.misp_sync.proofs.Doing.{TellsNone}

-- an effect, or an end by a cause that is no stop
either_tells : (b : Bool) (e : Effect (Option Cause)) (cause : Cause) → TellsNone e.reply → stop_by cause ≡ None → TellsNone (if b then e else ends (Some cause)).reply
either_tells true e cause none bare = none
either_tells false e cause none bare = bare

-- ---- a pull

events_tell : (here : Inst) (w : OrgId) (groups : List Group) (own : Seen) (es : List (EventId × List (List Row))) → TellsNone (events_taken here w groups own es).reply
unfolding events_taken
events_tell here w groups own [] = tt
events_tell here w groups own (e ∷ more) = one (own.rows (Reach.Own w e.0)) (events_tell here w groups own more)
  where
    one : (read : Result (List Row) (List ℕ)) → TellsNone (events_taken here w groups own more).reply → TellsNone (event_taken here w groups read e.1 (events_taken here w groups own more)).reply
    one (Ok rows) none = none
    one (Err name) none = refl

rows_tell : (here : Inst) (w : OrgId) (groups : List Group) (own : Seen) (peer : Host) (caller : Caller) (known : List Group) (read : Result (List Row) (List ℕ))
    → TellsNone (rows_pulled here w groups own (events_sent peer caller known read)).reply
rows_tell here w groups own peer caller known (Ok rows) = events_tell here w groups own _
rows_tell here w groups own peer caller known (Err name) = refl

pub pulled_tells : (here : Inst) (w : OrgId) (peer : Host) (found : Option Caller) (own there : Seen) → TellsNone (pulled_by here w peer found own there).reply
pulled_tells here w peer None own there = refl
pulled_tells here w peer (Some caller) own there =
    either_tells (is_permitted caller Ask.SyncGroups) (all_pulled here w own (groups_sent peer caller there.groups) (events_sent peer caller there.groups (there.rows Reach.All)))
    (refused_as (forbidden Ask.SyncGroups))
    (rows_tell here w (take_groups own.groups (groups_sent peer caller there.groups)) own peer caller there.groups (there.rows Reach.All)) refl

-- ---- a push

short_tells : (text : List ℕ) (e : Effect (Option Cause)) → TellsNone e.reply → TellsNone (if_short text e).reply
short_tells text e none = either_tells (is_short text) e (refused_as too_large) none refl

read_tells : (read : Result (List Row) (List ℕ)) (more : List Row → Effect (Option Cause)) → ((rows : List Row) → TellsNone (more rows).reply) → TellsNone (over_rows read more).reply
read_tells (Ok rows) more none = none rows
read_tells (Err name) more none = refl

parts_tell : (here : Inst) (w : OrgId) (groups : List Group) (of : RowsOf) (ps : List Package) → TellsNone (parts_taken here w groups of ps).reply
unfolding parts_taken
parts_tell here w groups of [] = tt
parts_tell here w groups of (p ∷ ps) =
    short_tells (spell_package p) _ (read_tells (of p.event) _ (λ rows. parts_tell here w groups (with_event p.event (merged here rows groups (handed_rows w p)) of) ps))

sent_tells : (here : Inst) (w : OrgId) (known : List Group) (of : RowsOf) (name : Inst) (link : Link) (groups : List Group) (read : Result (List Row) (List ℕ))
    → TellsNone (parts_pushed here w known of (packages_of name link groups read)).reply
sent_tells here w known of name link groups (Ok rows) = parts_tell here w known of _
sent_tells here w known of name link groups (Err bad) = refl

by_tells : (peer : Host) (found : Option Caller) (there own : Seen) (here : Inst) (link : Link) → TellsNone (pushed_by peer found there (groups_carried link own) (packages_sent here link own)).reply
by_tells peer None there own here link = refl
by_tells peer (Some caller) there own here link =
    either_tells (permits caller.role Perm.Sync) (all_pushed peer.name caller.org there (map uncarried (groups_carried link own)) (packages_sent here link own)) (refused_as (no_permission Perm.Sync))
    (sent_tells peer.name caller.org (take_groups there.groups (map uncarried (groups_carried link own))) (rows_seen there) here link own.groups (own.rows Reach.All)) refl

pub pushed_tells : (here : Inst) (link : Link) (peer : Host) (own there : Seen) → TellsNone (pushed_through here link peer own there).reply
pushed_tells here link peer own there =
    short_tells (groups_text (groups_carried link own)) (pushed_by peer (who_of peer.admin link.key) there (groups_carried link own) (packages_sent here link own))
    (by_tells peer (who_of peer.admin link.key) there own here link)
