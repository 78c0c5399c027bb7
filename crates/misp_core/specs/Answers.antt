-- What a request is answered where nothing stops it, and what it writes.
use Rattle.std.specs.Prelude.{◌≡◌, ℕ, true, cond, is_some, List, [], map, length, fold, max, unwrap_or}
use Rattle.hex.specs.Hex.{encode_lower}
use Rattle.misp_ids.specs.Refusal.{bare}
use Rattle.misp_orgs.specs.Keys.{CallerFields as Caller}
use Rattle.misp_orgs.specs.Org.{name_of}
use Rattle.misp_model.specs.Prelude.{EventId, Group, GroupId, OrgId, Row, Scene, Submission, Version, VisibleAttribute, VisibleEvent, answer, brings, date_of, is_accepted}
use Rattle.misp_model.specs.Answers.{newer}
use Rattle.misp_model.specs.Package.{IsPackage}
use Rattle.misp_model.specs.declared.ask.Ask.{Ask}
use Rattle.misp_model.specs.declared.change.Change.TheVariants.{AddEvent}
use Rattle.misp_history.specs.History.{fresh_row}
use Rattle.misp_history.specs.Merging.{handed}
use Rattle.misp_copies.specs.Scenes.{scene_of}
use Rattle.misp_view.specs.Naming.{group_names, hit_names}
use Rattle.misp_edit.specs.Refusals.{refusal_of}
use Rattle.misp_store.specs.Prelude.{Admin, Refusal, RuleName}
use Rattle.misp_store.specs.Reach.{wide_reach}
use Rattle.misp_store.specs.declared.reach.Reach.{Reach}
use Rattle.misp_core.specs.Partners.{partner_of}
use Rattle.misp_core.specs.Standing.{Host}
use Rattle.misp_core.specs.declared.reply.Answer.{Answer}
use Rattle.misp_core.specs.declared.reply.EventParts.{EventParts}
use Rattle.misp_core.specs.declared.reply.Hits.{Hits}
use Rattle.misp_core.specs.declared.reply.Reply.{Reply}
use Rattle.misp_model.specs.Answers as model

-- ---- asks

-- an added event has a body
abbrev pub IsAdded : Submission → Type 0
IsAdded b = is_some b.body ≡ true

-- the asks that can be made: what is handed in is a package
abbrev pub IsBuilt : Ask → Type 0
IsBuilt (Ask.TakePart part) = IsPackage part
IsBuilt (Ask.Change (AddEvent b)) = IsAdded b
IsBuilt ask = Unit {0}

-- an ask, and whose it is
abbrev pub Asked : Type 0
Asked = Caller × Ask

-- ---- scenes

-- the name of an organisation at an instance, empty where it is not known there
abbrev pub name_in : Admin → OrgId → List ℕ
name_in admin org = unwrap_or (name_of admin.orgs org) []

-- the scene of a request of this caller at this moment, with these groups, before a row is read and
-- without a partner; the number of its act changes nothing, and is 0 here
abbrev pub bare_scene : Host → ℕ → Caller → List Group → Scene
bare_scene host now caller groups =
    scene_of 0 host.name caller.org (name_in host.admin caller.org) now (date_of now) groups []

-- the same with the partner of the caller's key
abbrev pub scene_at : Host → ℕ → Caller → List Group → Scene
scene_at host now caller groups =
    record (bare_scene host now caller groups) { partner = partner_of caller }

-- ---- refusals

-- the refusal that names a row which does not decode
abbrev pub bad_row : List ℕ → Refusal
bad_row name = record { name = RuleName.BadRow; place = encode_lower name }

-- ---- answers

-- the greatest of the stamps, or 0 where there is none
unfoldable pub greatest : List ℕ → ℕ
greatest stamps = fold max 0 stamps

-- how many rows were written, of which event, and the greatest of their stamps
abbrev pub event_saved : EventId → List Version → Reply
event_saved event vs =
    Reply.Ok (Answer.Saved (length vs) event (greatest (map (λ v. v.stamp) vs)))

-- of the event of a place
abbrev pub saved : Reach → List Version → Reply
saved (Reach.Event event) vs = event_saved event vs
saved (Reach.Own org event) vs = event_saved event vs
saved reach vs = Reply.Refused (bare RuleName.NoRoute)

-- the event with the name of its holder, and with those of the groups that its labels name
abbrev pub named_event : Admin → List Group → VisibleEvent → VisibleEvent
named_event admin groups v =
    record v { org_name = name_in admin v.row.owner; group_names = group_names groups v }

-- an event with the number of its packages
abbrev pub event_parts : EventId × ℕ → EventParts
event_parts p = record { event = p.0; parts = p.1 }

-- attributes that are found, with these names of groups
abbrev pub hits_named : List (GroupId × List ℕ) → List VisibleAttribute → Hits
hits_named names found = record { attributes = found; group_names = names }

-- a reply of the definitions, as it is given
abbrev pub reply_of : Admin → Scene → Ask → model.Reply → Reply
reply_of admin s ask (model.Refused rule) = Reply.Refused (refusal_of s ask rule)
reply_of admin s ask (model.Seen v) =
    Reply.Ok (Answer.Event (named_event admin s.groups v))
reply_of admin s ask (model.Listed events) = Reply.Ok (Answer.Index events)
reply_of admin s ask (model.Hits found) =
    Reply.Ok (Answer.Hits (hits_named (hit_names s.groups found) found))
reply_of admin s ask (model.Events found) =
    Reply.Ok (Answer.Events (map (named_event admin s.groups) found))
reply_of admin s ask (model.Shares groups) = Reply.Ok (Answer.Groups groups)
reply_of admin s ask (model.Parts events) =
    Reply.Ok (Answer.Parts (map event_parts events))
reply_of admin s ask (model.Packed p) = Reply.Ok (Answer.Part p)
reply_of admin s ask (model.Manifested events) = Reply.Ok (Answer.Manifest events)
reply_of admin s ask (model.Saved vs) = saved (wide_reach s.by ask) vs
reply_of admin s ask (model.Taken n) = Reply.Ok (Answer.Taken n)
reply_of admin s ask model.Other = Reply.Refused (bare RuleName.NoRoute)

-- the reply to an ask in these surroundings
unfoldable pub reply_in : Admin → Scene → Ask → Reply
reply_in admin s ask = reply_of admin s ask (answer s ask)

-- ---- rows

-- a version that was handed in, as a row
abbrev pub handed_row : Version → Row
handed_row v = handed v.owner (fresh_row v)

-- what an ask brings, as rows: of a package what is newer, as it is handed in, and of any other ask
-- all of it, as it was written
abbrev pub rows_brought : Scene → Ask → List Row
rows_brought s (Ask.TakePart part) = map handed_row (newer s (brings s (Ask.TakePart part)))
rows_brought s ask = map fresh_row (brings s ask)

-- the rows that it writes
unfoldable pub writes_in : Scene → Ask → List Row
writes_in s ask = cond (is_accepted s ask) (rows_brought s ask) []
