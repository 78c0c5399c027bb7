-- What a body brings is built.
use Rattle.std.proofs.Common.{◌≡◌, ℕ, Bool, true, false, List, codes, Option, Some, None, Ok, refl}
use Rattle.misp_lists.proofs.Readings.{bind_keeps, ok_keeps}
use Rattle.misp_elem.specs.Draft.{SubmissionFields}
use Rattle.misp_elem.specs.Prelude.{ElemId, IsUid}
use Rattle.misp_format.specs.Prelude.{◌>>=◌, Data, Reading, attributes_at, event_at, group_in_text, json_in, made_uid, none_from, objects_at, uuid_of}
use Rattle.misp_format.specs.Rows.{row, body_at}
use Rattle.misp_format.specs.Tables.{event_itself_at, unwrapped, parts_at, elements_at, tag_body_at}
use Rattle.misp_admins.specs.declared.ask.AdminAsk.{AdminAsk}
use Rattle.misp_format.specs.Administering.{key_in_text, link_in_text, link_edit_in_text, organisation_in_text, revoked_in_text}
use Rattle.misp_format.specs.Edits.{event_edit_at, attribute_edit_at, object_edit_at}
use Rattle.misp_format.specs.Filters.{filter_at}
use Rattle.misp_format.specs.Statements.{proposal_at, judgement_at, sighting_at}
use Rattle.misp_elem.specs.declared.key.Place.{Place}
use Rattle.misp_format.specs.declared.reading.parts.PartForm.{PartForm}
use Rattle.misp_model.specs.Parts.{IsParts}
use Rattle.misp_model.specs.declared.change.Change.{Change}
use Rattle.misp_core.specs.Answers.{IsAdded, IsBuilt}
use Rattle.misp_core.specs.Prelude.{Ask, EventId, Group, View}
use Rattle.misp_api.specs.GroupList.{groups_in}
use Rattle.misp_api.specs.Commands.{AsksBuilt}
use Rattle.misp_api.specs.declared.command.Command.{Command}
use Rattle.misp_api.specs.declared.path_kind.AdminRoute.{AdminRoute}
use Rattle.misp_api.specs.declared.query.PageQuery.{PageQuery}
use Rattle.misp_api.specs.declared.route.Route.{Route}
use Rattle.misp_api.specs.Request.{admin_command, ask_command, command_of, formed, groups_command, managing_command, share_command, event_in, event_edit_in, attribute_edit_in, object_edit_in, parts_in, tag_in, untag_in, proposal_in, judgement_in, sighting_in, index_in, search_in, package_in, wanted_in}
use Rattle.misp_api.specs.Request as request
use Rattle.misp_api.proofs.Handed.{package_built, wanted_built}

pub event_is_added : (word : ℕ) (d : Data) (s : SubmissionFields) → event_at word d ≡ Ok s → IsAdded s
unfolding event_at
event_is_added word d s h =
    bind_keeps IsAdded (body_at (codes "Event") (unwrapped (codes "Event") d)) _ (λ it is.
    bind_keeps IsAdded (row it (codes "uuid") uuid_of (Ok (made_uid word 0))) _ (λ uuid is.
    bind_keeps IsAdded (event_itself_at it) _ (λ event is.
    bind_keeps IsAdded (attributes_at word None it (none_from 1)) _ (λ attributes is.
    bind_keeps IsAdded (objects_at word it attributes) _ (λ elements is.
    ok_keeps IsAdded _ refl))))) s h

-- what is read as parts are parts
pub are_parts : (e : EventId) (object : Option ElemId) (form : PartForm) (word : ℕ) (d : Data) → IsUid e.0 → (s : SubmissionFields) → parts_at e object form word d ≡ Ok s → IsParts s
unfolding parts_at
are_parts e object form word d fits = bind_keeps IsParts (elements_at object form word d) _ (λ elements is. ok_keeps IsParts _ (fits, (refl, refl)))

-- ---- what is asked

-- an ask that is made of what is read in a body is built, where each of them is
made_built : {A : Type 0} (ask : A → Ask) (at : Data → Reading A) → ((d : Data) (x : A) → at d ≡ Ok x → IsBuilt (ask x)) → (body : List ℕ) (a : Ask)
    → json_in body >>= (λ d. request.ask_from ask (at d)) ≡ Ok a → IsBuilt a
made_built ask at each body = bind_keeps IsBuilt (json_in body) _ (λ d is. bind_keeps IsBuilt (at d) _ (λ x found. ok_keeps IsBuilt _ (each d x found)))

-- a list of events is built, where a page of it is asked for
index_built : (page : PageQuery) (a : Ask) → index_in page ≡ Ok a → IsBuilt a
index_built (PageQuery.Of page) = ok_keeps IsBuilt (Ask.Index page) tt
index_built PageQuery.BadPage = λ a h. absurd cc
index_built PageQuery.BadLimit = λ a h. absurd cc

-- ---- what is read of a body

-- an ask that is read is built, where each of them is
ask_read : (read : Reading Ask) → ((ask : Ask) → read ≡ Ok ask → IsBuilt ask) → (command : Command) → ask_command read ≡ Ok command → AsksBuilt command
ask_read read built = bind_keeps AsksBuilt read _ (λ ask is. ok_keeps AsksBuilt (Command.Asks ask) (built ask is))

groups_read : (read : Reading (List Group)) (command : Command) → groups_command read ≡ Ok command → AsksBuilt command
groups_read read = bind_keeps AsksBuilt read _ (λ groups is. ok_keeps AsksBuilt (Command.TakesGroups groups) tt)

share_read : (add : Bool) (read : Reading Group) (command : Command) → share_command add read ≡ Ok command → AsksBuilt command
share_read add read = bind_keeps AsksBuilt read _ (λ g is. ok_keeps AsksBuilt (Command.Shares add g) tt)

admin_read : {A : Type 0} (ask : A → AdminAsk) (read : Reading A) (command : Command) → admin_command ask read ≡ Ok command → AsksBuilt command
admin_read ask read = bind_keeps AsksBuilt read _ (λ x is. ok_keeps AsksBuilt (Command.Manages (ask x)) tt)

managing_read : (here : List ℕ) (asked : AdminRoute) (body : List ℕ) (command : Command) → managing_command here asked body ≡ Ok command → AsksBuilt command
managing_read here AdminRoute.AddOrganisation body = admin_read AdminAsk.AddOrg (organisation_in_text body)
managing_read here AdminRoute.AddAuthKey body = admin_read AdminAsk.AddKey (key_in_text body)
managing_read here AdminRoute.RevokeAuthKey body = admin_read AdminAsk.RevokeKey (revoked_in_text body)
managing_read here AdminRoute.AddServer body = admin_read AdminAsk.AddLink (link_in_text here body)
managing_read here AdminRoute.EditServer body = admin_read AdminAsk.EditLink (link_edit_in_text body)

-- what holds of all that is read where it is built holds of such an ask
asked : (P : request.Reading Command → Type 0) → ((read : Reading Command) → ((command : Command) → read ≡ Ok command → AsksBuilt command) → P (formed read))
    → (read : Reading Ask) → ((ask : Ask) → read ≡ Ok ask → IsBuilt ask) → P (formed (ask_command read))
asked P holds read built = holds (ask_command read) (ask_read read built)

-- what holds of each ask that is built, and of what is read where all that can be is built, holds of every request
pub command_is : (P : request.Reading Command → Type 0) → ((ask : Ask) → IsBuilt ask → P (Ok (Command.Asks ask)))
    → ((read : Reading Command) → ((command : Command) → read ≡ Ok command → AsksBuilt command) → P (formed read))
    → (here : List ℕ) (route : Route) (body : List ℕ) (word : ℕ) → P (command_of here route body word)
unfolding command_of
command_is P said read here Route.AddEvent body word = asked P read (event_in body word) (made_built (λ b. Ask.Change (Change.AddEvent b)) (event_at word) (event_is_added word) body)
command_is P said read here (Route.ViewEvent event owner) body word = said (View event owner) tt
command_is P said read here (Route.EditEvent event) body word = asked P read (event_edit_in event body) (made_built (λ edit. Ask.Change (Change.EditEvent event edit)) event_edit_at (λ d x h. tt) body)
command_is P said read here (Route.DeleteEvent event) body word = said (Ask.Change (Change.DeleteEvent event)) tt
command_is P said read here (Route.Publish event) body word = said (Ask.Change (Change.Publish event)) tt
command_is P said read here (Route.AddAttributes event object) body word =
    asked P read (parts_in event object PartForm.Attributes body word) (made_built (λ b. Ask.Change (Change.AddParts event b)) (parts_at event object PartForm.Attributes word) (λ d x h. tt) body)
command_is P said read here (Route.EditAttribute event place) body word = asked P read (attribute_edit_in event place body) (made_built (λ edit. Ask.Change (Change.EditAttribute event place edit)) attribute_edit_at (λ d x h. tt) body)
command_is P said read here (Route.DeleteAttribute event place) body word = said (Ask.Change (Change.Delete event place)) tt
command_is P said read here (Route.AddObject event) body word =
    asked P read (parts_in event None PartForm.Object body word) (made_built (λ b. Ask.Change (Change.AddParts event b)) (parts_at event None PartForm.Object word) (λ d x h. tt) body)
command_is P said read here (Route.EditObject event object) body word = asked P read (object_edit_in event object body) (made_built (λ edit. Ask.Change (Change.EditObject event object edit)) object_edit_at (λ d x h. tt) body)
command_is P said read here (Route.DeleteObject event object) body word = said (Ask.Change (Change.Delete event (Place.Object object))) tt
command_is P said read here (Route.AddReference event object) body word =
    asked P read (parts_in event (Some object) PartForm.Reference body word) (made_built (λ b. Ask.Change (Change.AddParts event b)) (parts_at event (Some object) PartForm.Reference word) (λ d x h. tt) body)
command_is P said read here (Route.DeleteReference event object reference) body word = said (Ask.Change (Change.DeleteReference event object reference)) tt
command_is P said read here (Route.Tag event place) body word = asked P read (tag_in event place body) (made_built (λ tag. Ask.Change (Change.Tag event place tag)) tag_body_at (λ d x h. tt) body)
command_is P said read here (Route.Untag event place) body word = asked P read (untag_in event place body) (made_built (λ tag. Ask.Change (Change.Untag event place tag.name)) tag_body_at (λ d x h. tt) body)
command_is P said read here (Route.Propose event target) body word = asked P read (proposal_in event target body word) (made_built Ask.Propose (proposal_at event target word) (λ d x h. tt) body)
command_is P said read here (Route.Judge event accept) body word = asked P read (judgement_in event accept body) (made_built (λ name. Ask.Judge event name accept) judgement_at (λ d x h. tt) body)
command_is P said read here (Route.Sight event target) body word = asked P read (sighting_in event target body word) (made_built (Ask.Sight event target) (sighting_at word) (λ d x h. tt) body)
command_is P said read here Route.TakePart body word = asked P read (package_in body) (package_built body)
command_is P said read here Route.TakeGroups body word = read (groups_command (groups_in body)) (groups_read (groups_in body))
command_is P said read here Route.AddGroup body word = read (share_command true (group_in_text body)) (share_read true (group_in_text body))
command_is P said read here Route.EditGroup body word = read (share_command false (group_in_text body)) (share_read false (group_in_text body))
command_is P said read here (Route.Admin asked) body word = read (managing_command here asked body) (managing_read here asked body)
command_is P said read here (Route.Index page) body word = asked P read (index_in page) (index_built page)
command_is P said read here Route.SearchEvents body word = asked P read (search_in true body) (made_built (λ filter. Ask.Search filter true) filter_at (λ d x h. tt) body)
command_is P said read here Route.SearchAttributes body word = asked P read (search_in false body) (made_built (λ filter. Ask.Search filter false) filter_at (λ d x h. tt) body)
command_is P said read here Route.Groups body word = said Ask.Groups tt
command_is P said read here Route.SyncGroups body word = said Ask.SyncGroups tt
command_is P said read here Route.SyncEvents body word = said Ask.SyncEvents tt
command_is P said read here Route.SyncManifest body word = said Ask.SyncManifest tt
command_is P said read here Route.SyncRows body word = asked P read (wanted_in body) (wanted_built body)
command_is P said read here (Route.SyncPart event part) body word = said (Ask.SyncPart event part) tt
