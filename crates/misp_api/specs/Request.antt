-- What a request is and asks, or the rule that its form breaks.
use Rattle.std.specs.Prelude.{◌≡◌, ℕ, Bool, true, false, nat_lt, List, ◌∷◌, ◌++◌, codes, Option, Some, None, Result, Ok, Err, if◌then◌else◌}
use Rattle.std.specs.List.{list_all}
use Rattle.misp_fields.specs.Needs.{need_words}
use Rattle.misp_elem.specs.Prelude.{ElemId}
use Rattle.misp_elem.specs.declared.key.Place.{Place}
use Rattle.misp_http.specs.declared.request.Request.{Request}
use Rattle.misp_format.specs.Prelude.{◌>>=◌, Need, event_at, group_in_text, json_in}
use Rattle.misp_format.specs.Administering.{key_in_text, link_in_text, link_edit_in_text, organisation_in_text, revoked_in_text}
use Rattle.misp_format.specs.Edits.{event_edit_at, attribute_edit_at, object_edit_at}
use Rattle.misp_format.specs.Filters.{filter_at}
use Rattle.misp_format.specs.Statements.{proposal_at, judgement_at, sighting_at}
use Rattle.misp_format.specs.Tables.{parts_at, tag_body_at}
use Rattle.misp_format.specs.declared.reading.parts.PartForm.{PartForm}
use Rattle.misp_manifest.specs.declared.wanted.WantedFields.{WantedFields}
use Rattle.misp_package.specs.PackageReading.{package_of_bytes}
use Rattle.misp_wanted.specs.ManifestReading.{wanted_of_bytes}
use Rattle.misp_model.specs.declared.change.Change.{Change}
use Rattle.misp_model.specs.declared.package.PackageFields.{PackageFields}
use Rattle.misp_core.specs.Prelude.{Ask, EventId, FormatFault, Group, Refusal, RuleName, View, bare}
use Rattle.misp_admins.specs.declared.ask.AdminAsk.{AdminAsk}
use Rattle.misp_api.specs.GroupList.{groups_in}
use Rattle.misp_api.specs.declared.command.Command.{Command}
use Rattle.misp_api.specs.declared.path_kind.AdminRoute.{AdminRoute}
use Rattle.misp_api.specs.declared.query.PageQuery.{PageQuery}
use Rattle.misp_api.specs.declared.route.Route.{Route}
use Rattle.misp_api.specs.declared.request.AskFault.{AskFault}
use Rattle.misp_format.specs.Rows as rows

-- a request: the instance that is asked, its key, its method, its target, its body, and the word of
-- which identifiers are made for elements that have none
pub record RequestData : Type 0 where
  pub here : List ℕ
  pub key : Option (List ℕ)
  pub method : List ℕ
  pub target : List ℕ
  pub body : List ℕ
  pub word : ℕ

abbrev pub request_data : List ℕ → ℕ → Request → RequestData
request_data here word r =
    record {
      here = here;
      key = r.key;
      method = r.method;
      target = r.target;
      body = r.body;
      word = word;
    }

-- a value, or the refusal
abbrev pub Reading : Type 0 → Type 0
Reading A = Result A Refusal

-- What a function returned is what reading gives, unless memory ran out.
abbrev pub Gives : {A : Type 0} → Result A AskFault → Reading A → Type 0
Gives (Ok x) read = read ≡ Ok x
Gives (Err (AskFault.Refused refusal)) read = read ≡ Err refusal
Gives (Err AskFault.NoMemory) read = Unit {0}

-- the path of a faulty member, a space, and what was needed there
abbrev pub field_place : List ℕ → Need → List ℕ
field_place path need = path ++ 32 ∷ need_words need

-- the refusal of a body that is not of its form
abbrev pub refusal_of : FormatFault → Refusal
refusal_of FormatFault.NoJson = bare RuleName.BadJson
refusal_of (FormatFault.BadField path need) =
    record { name = RuleName.BadField; place = field_place path need }
refusal_of (FormatFault.BinaryType path) = record { name = RuleName.BinaryType; place = path }
refusal_of FormatFault.NoMemory = bare RuleName.NoMemory

-- what a body is, or the refusal
abbrev pub formed : {A : Type 0} → Result A FormatFault → Reading A
formed (Ok x) = Ok x
formed (Err fault) = Err (refusal_of fault)

-- ---- bodies

-- the ask that is made of what was read
abbrev pub ask_from : {A : Type 0} → (A → Ask) → rows.Reading A → rows.Reading Ask
ask_from ask read = read >>= λ x. Ok (ask x)

-- the same of a change
abbrev pub change_of : {A : Type 0} → (A → Change) → rows.Reading A → rows.Reading Ask
change_of change read = ask_from (λ x. Ask.Change (change x)) read

-- the addition of the event that a body is
abbrev pub event_in : List ℕ → ℕ → rows.Reading Ask
event_in body word = json_in body >>= λ d. change_of Change.AddEvent (event_at word d)

-- the edit that a body is, of an event, of an attribute and of an object
abbrev pub event_edit_in : EventId → List ℕ → rows.Reading Ask
event_edit_in event body =
    json_in body >>= λ d. change_of (Change.EditEvent event) (event_edit_at d)

abbrev pub attribute_edit_in : EventId → Place → List ℕ → rows.Reading Ask
attribute_edit_in event place body =
    json_in body >>= λ d. change_of (Change.EditAttribute event place) (attribute_edit_at d)

abbrev pub object_edit_in : EventId → ElemId → List ℕ → rows.Reading Ask
object_edit_in event object body =
    json_in body >>= λ d. change_of (Change.EditObject event object) (object_edit_at d)

-- the addition of the elements that a body brings to an event that is there
abbrev pub parts_in : EventId → Option ElemId → PartForm → List ℕ → ℕ → rows.Reading Ask
parts_in event object form body word =
    json_in body >>= λ d. change_of (Change.AddParts event) (parts_at event object form word d)

-- the tag that a body is, attached and removed by its name
abbrev pub tag_in : EventId → Place → List ℕ → rows.Reading Ask
tag_in event place body =
    json_in body >>= λ d. change_of (Change.Tag event place) (tag_body_at d)

abbrev pub untag_in : EventId → Place → List ℕ → rows.Reading Ask
untag_in event place body =
    json_in body >>= λ d. change_of (λ tag. Change.Untag event place tag.name) (tag_body_at d)

-- the proposal that a body is, for this target; the judgement of one; and the sighting
abbrev pub proposal_in : EventId → Place → List ℕ → ℕ → rows.Reading Ask
proposal_in event target body word =
    json_in body >>= λ d. ask_from Ask.Propose (proposal_at event target word d)

abbrev pub judgement_in : EventId → Bool → List ℕ → rows.Reading Ask
judgement_in event accept body =
    json_in body >>= λ d. ask_from (λ name. Ask.Judge event name accept) (judgement_at d)

abbrev pub sighting_in : EventId → Place → List ℕ → ℕ → rows.Reading Ask
sighting_in event target body word =
    json_in body >>= λ d. ask_from (Ask.Sight event target) (sighting_at word d)

-- the list of events that a query asks for a page of
abbrev pub index_in : PageQuery → rows.Reading Ask
index_in (PageQuery.Of page) = Ok (Ask.Index page)
index_in PageQuery.BadPage = Err (FormatFault.BadField (codes "query.page") Need.Range)
index_in PageQuery.BadLimit = Err (FormatFault.BadField (codes "query.limit") Need.Range)

-- the search that a body is, for whole events or for attributes
abbrev pub search_in : Bool → List ℕ → rows.Reading Ask
search_in whole body =
    json_in body >>= λ d. ask_from (λ filter. Ask.Search filter whole) (filter_at d)

-- whether a number is that of a byte
abbrev pub is_byte : ℕ → Bool
is_byte number = nat_lt number 256

-- the fault of a body that is no package
abbrev pub no_package : FormatFault
no_package = FormatFault.BadField (codes "package") Need.Row

-- the handing in of the package that was read
abbrev pub handed : Result PackageFields ℕ → rows.Reading Ask
handed (Ok p) = Ok (Ask.TakePart p)
handed (Err left) = Err no_package

-- that of the package that a body is; what is not all bytes is none
abbrev pub package_in : List ℕ → rows.Reading Ask
package_in body =
    if list_all is_byte body then handed (package_of_bytes body) else Err no_package

-- the request for the rows of the wanted list that was read
abbrev pub asked_rows : Result WantedFields ℕ → rows.Reading Ask
asked_rows (Ok w) = Ok (Ask.SyncRows w)
asked_rows (Err left) = Err (FormatFault.BadField (codes "wanted") Need.Row)

-- that of the wanted list that a body is
abbrev pub wanted_in : List ℕ → rows.Reading Ask
wanted_in body = asked_rows (wanted_of_bytes body)

-- ---- commands

-- an ask that was read, as a command
abbrev pub ask_command : rows.Reading Ask → rows.Reading Command
ask_command read = read >>= λ ask. Ok (Command.Asks ask)

-- the taking of the groups that were read
abbrev pub groups_command : rows.Reading (List Group) → rows.Reading Command
groups_command read = read >>= λ groups. Ok (Command.TakesGroups groups)

-- what a site administrator asks by what was read
abbrev pub admin_command : {A : Type 0} → (A → AdminAsk) → rows.Reading A → rows.Reading Command
admin_command ask read = read >>= λ x. Ok (Command.Manages (ask x))

-- the adding or editing of the group that was read
abbrev pub share_command : Bool → rows.Reading Group → rows.Reading Command
share_command add read = read >>= λ g. Ok (Command.Shares add g)

-- ---- what a request is, by its route

-- the ask of a request whose path says all of it
abbrev pub path_ask : Route → Option Ask
path_ask (Route.ViewEvent event owner) = Some (View event owner)
path_ask (Route.DeleteEvent event) = Some (Ask.Change (Change.DeleteEvent event))
path_ask (Route.Publish event) = Some (Ask.Change (Change.Publish event))
path_ask (Route.DeleteAttribute event place) = Some (Ask.Change (Change.Delete event place))
path_ask (Route.DeleteObject event object) =
    Some (Ask.Change (Change.Delete event (Place.Object object)))
path_ask (Route.DeleteReference event object reference) =
    Some (Ask.Change (Change.DeleteReference event object reference))
path_ask Route.Groups = Some Ask.Groups
path_ask Route.SyncGroups = Some Ask.SyncGroups
path_ask Route.SyncEvents = Some Ask.SyncEvents
path_ask (Route.SyncPart event part) = Some (Ask.SyncPart event part)
path_ask Route.SyncManifest = Some Ask.SyncManifest
path_ask route = None

-- what a request of a site administrator is by its body
abbrev pub managing_command : List ℕ → AdminRoute → List ℕ → rows.Reading Command
managing_command here AdminRoute.AddOrganisation body =
    admin_command AdminAsk.AddOrg (organisation_in_text body)
managing_command here AdminRoute.AddAuthKey body =
    admin_command AdminAsk.AddKey (key_in_text body)
managing_command here AdminRoute.RevokeAuthKey body =
    admin_command AdminAsk.RevokeKey (revoked_in_text body)
managing_command here AdminRoute.AddServer body =
    admin_command AdminAsk.AddLink (link_in_text here body)
managing_command here AdminRoute.EditServer body =
    admin_command AdminAsk.EditLink (link_edit_in_text body)

-- what another request is by its query or its body: the ask of its route, a group that is added or
-- edited, groups that are handed in, or what a site administrator asks of this instance
abbrev pub body_command : List ℕ → Route → List ℕ → ℕ → rows.Reading Command
body_command here Route.AddEvent body word = ask_command (event_in body word)
body_command here (Route.EditEvent event) body word = ask_command (event_edit_in event body)
body_command here (Route.AddAttributes event object) body word =
    ask_command (parts_in event object PartForm.Attributes body word)
body_command here (Route.EditAttribute event place) body word =
    ask_command (attribute_edit_in event place body)
body_command here (Route.AddObject event) body word =
    ask_command (parts_in event None PartForm.Object body word)
body_command here (Route.EditObject event object) body word =
    ask_command (object_edit_in event object body)
body_command here (Route.AddReference event object) body word =
    ask_command (parts_in event (Some object) PartForm.Reference body word)
body_command here (Route.Tag event place) body word = ask_command (tag_in event place body)
body_command here (Route.Untag event place) body word = ask_command (untag_in event place body)
body_command here (Route.Propose event target) body word =
    ask_command (proposal_in event target body word)
body_command here (Route.Judge event accept) body word =
    ask_command (judgement_in event accept body)
body_command here (Route.Sight event target) body word =
    ask_command (sighting_in event target body word)
body_command here (Route.Index page) body word = ask_command (index_in page)
body_command here Route.SearchEvents body word = ask_command (search_in true body)
body_command here Route.SearchAttributes body word = ask_command (search_in false body)
body_command here Route.SyncRows body word = ask_command (wanted_in body)
body_command here Route.TakePart body word = ask_command (package_in body)
body_command here Route.AddGroup body word = share_command true (group_in_text body)
body_command here Route.EditGroup body word = share_command false (group_in_text body)
body_command here (Route.Admin asked) body word = managing_command here asked body
body_command here route body word = groups_command (groups_in body)

-- the ask of the path, or what was read of the body
abbrev pub command_by : Option Ask → rows.Reading Command → Reading Command
command_by (Some ask) read = Ok (Command.Asks ask)
command_by None read = formed read

-- what a request of this route is, at this instance
unfoldable pub command_of : List ℕ → Route → List ℕ → ℕ → Reading Command
command_of here route body word =
    command_by (path_ask route) (body_command here route body word)
