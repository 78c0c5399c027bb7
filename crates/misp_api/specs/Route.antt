-- Which request a method and a target are.
use Rattle.std.specs.Prelude.{ℕ, ◌+◌, ◌==◌, Bool, true, false, List, [], take, drop, position, codes, bytes_eq, Option, Some, None, option_map, Result, Ok, Err, if◌then◌else◌}
use Rattle.std.specs.Option.{option_map_or}
use Rattle.misp_ids.specs.declared.refusal.RuleName.TheVariants.{NoRoute, NoMethod}
use Rattle.misp_groups.specs.Prelude.{OrgId, RuleName, Uid}
use Rattle.misp_core.specs.Prelude.{EventId}
use Rattle.misp_elem.specs.Prelude.{ElemId}
use Rattle.misp_elem.specs.declared.key.Place.{Place}
use Rattle.misp_api.specs.declared.route.Route.{Route}
use Rattle.misp_api.specs.declared.path_kind.PathKind.{PathKind}
use Rattle.misp_api.specs.declared.path_ids.PathIds.{PathIds}
use Rattle.misp_api.specs.Path.{kind_of, ids_of, part_of}
use Rattle.misp_api.specs.Query.{page_query}

-- ---- targets

abbrev pub is_question_mark : ℕ → Bool
is_question_mark byte = byte == 63

-- what stands before the first `?`
abbrev pub path_of : List ℕ → List ℕ
path_of target = option_map_or (λ at. take at target) (position is_question_mark target) target

-- what stands behind it
abbrev pub query_of : List ℕ → List ℕ
query_of target =
    option_map_or (λ at. drop (at + 1) target) (position is_question_mark target) []

-- ---- paths

abbrev pub event : Uid → EventId
event uuid = record { 0 = uuid }

abbrev pub element : Uid → ElemId
element uuid = record { 0 = uuid }

abbrev pub org : Uid → OrgId
org uuid = record { 0 = uuid }

-- the place of an attribute, outside objects and in one
abbrev pub outside : Uid → Place
outside attribute = Place.Attribute (element attribute)

abbrev pub inside : Uid → Uid → Place
inside object attribute = Place.ObjectAttribute (element object) (element attribute)

-- an event; with an object of it; with a reference of the object
abbrev pub event_in : PathIds → Option EventId
event_in (PathIds.One e) = Some (event e)
event_in ids = None

abbrev pub object_in : PathIds → Option (EventId × ElemId)
object_in (PathIds.Two e x) = Some (event e, element x)
object_in ids = None

abbrev pub reference_in : PathIds → Option (EventId × (ElemId × ElemId))
reference_in (PathIds.Three e x r) = Some (event e, (element x, element r))
reference_in ids = None

-- with an attribute of it
abbrev pub attribute_in : PathIds → Option (EventId × Place)
attribute_in (PathIds.Two e a) = Some (event e, outside a)
attribute_in (PathIds.Three e x a) = Some (event e, inside x a)
attribute_in ids = None

-- the event itself, or with an attribute of it
abbrev pub tagged_in : PathIds → Option (EventId × Place)
tagged_in (PathIds.One e) = Some (event e, Place.Event)
tagged_in ids = attribute_in ids

-- an event, with an owner or not
abbrev pub copy_in : PathIds → Option (EventId × Option OrgId)
copy_in (PathIds.One e) = Some (event e, None)
copy_in (PathIds.Two e o) = Some (event e, Some (org o))
copy_in ids = None

-- an event, with an object of it or not
abbrev pub parent_in : PathIds → Option (EventId × Option ElemId)
parent_in (PathIds.One e) = Some (event e, None)
parent_in (PathIds.Two e x) = Some (event e, Some (element x))
parent_in ids = None

-- nothing
abbrev pub alone : Route → PathIds → Option Route
alone route PathIds.Nobody = Some route
alone route ids = None

-- the route of paths of a kind that is for attributes, objects or references, with these
-- identifiers
abbrev pub element_route : PathKind → PathIds → Option Route
element_route PathKind.AddAttributes ids =
    option_map (λ p. Route.AddAttributes p.0 p.1) (parent_in ids)
element_route PathKind.EditAttribute ids =
    option_map (λ p. Route.EditAttribute p.0 p.1) (attribute_in ids)
element_route PathKind.DeleteAttribute ids =
    option_map (λ p. Route.DeleteAttribute p.0 p.1) (attribute_in ids)
element_route PathKind.EditObject ids = option_map (λ p. Route.EditObject p.0 p.1) (object_in ids)
element_route PathKind.DeleteObject ids =
    option_map (λ p. Route.DeleteObject p.0 p.1) (object_in ids)
element_route PathKind.AddReference ids =
    option_map (λ p. Route.AddReference p.0 p.1) (object_in ids)
element_route PathKind.DeleteReference ids =
    option_map (λ p. Route.DeleteReference p.0 p.1.0 p.1.1) (reference_in ids)
element_route kind ids = None

-- of paths of a kind that is for an event, or for what stands in one
abbrev pub event_route : PathKind → PathIds → Option Route
event_route PathKind.ViewEvent ids = option_map (λ p. Route.ViewEvent p.0 p.1) (copy_in ids)
event_route PathKind.EditEvent ids = option_map Route.EditEvent (event_in ids)
event_route PathKind.DeleteEvent ids = option_map Route.DeleteEvent (event_in ids)
event_route PathKind.Publish ids = option_map Route.Publish (event_in ids)
event_route PathKind.AddObject ids = option_map Route.AddObject (event_in ids)
event_route PathKind.Tag ids = option_map (λ p. Route.Tag p.0 p.1) (tagged_in ids)
event_route PathKind.Untag ids = option_map (λ p. Route.Untag p.0 p.1) (tagged_in ids)
event_route PathKind.Propose ids = option_map (λ p. Route.Propose p.0 p.1) (tagged_in ids)
event_route PathKind.Accept ids = option_map (λ e. Route.Judge e true) (event_in ids)
event_route PathKind.Discard ids = option_map (λ e. Route.Judge e false) (event_in ids)
event_route PathKind.Sight ids = option_map (λ p. Route.Sight p.0 p.1) (attribute_in ids)
event_route kind ids = element_route kind ids

-- of paths of any kind
abbrev pub route_with : PathKind → PathIds → Option Route
route_with PathKind.AddEvent ids = alone Route.AddEvent ids
route_with PathKind.Index ids = alone (Route.Index (page_query [])) ids
route_with PathKind.SearchEvents ids = alone Route.SearchEvents ids
route_with PathKind.SearchAttributes ids = alone Route.SearchAttributes ids
route_with PathKind.Groups ids = alone Route.Groups ids
route_with PathKind.AddGroup ids = alone Route.AddGroup ids
route_with PathKind.EditGroup ids = alone Route.EditGroup ids
route_with PathKind.SyncGroups ids = alone Route.SyncGroups ids
route_with PathKind.SyncEvents ids = alone Route.SyncEvents ids
route_with PathKind.SyncManifest ids = alone Route.SyncManifest ids
route_with PathKind.SyncRows ids = alone Route.SyncRows ids
route_with PathKind.TakePart ids = alone Route.TakePart ids
route_with kind ids = event_route kind ids

abbrev pub route_by : PathKind → Option PathIds → Option Route
route_by kind None = None
route_by kind (Some ids) = route_with kind ids

-- of the path of a part
abbrev pub part_route : List ℕ → Option Route
part_route path = option_map (λ p. Route.SyncPart (event p.0) p.1) (part_of path)

-- of a path of a kind
abbrev pub route_as : PathKind → List ℕ → Option Route
route_as PathKind.SyncPart path = part_route path
route_as (PathKind.Admin route) path = Some (Route.Admin route)
route_as kind path = route_by kind (ids_of path)

abbrev pub route_in : List ℕ → Option PathKind → Option Route
route_in path None = None
route_in path (Some kind) = route_as kind path

-- what a path is for
unfoldable pub path_route : List ℕ → Option Route
path_route path = route_in path (kind_of path)

-- ---- routes

-- what a path is for by this method: where groups are pulled they are handed in, too
abbrev pub at_method : List ℕ → Route → Route
at_method method Route.SyncGroups =
    if bytes_eq method (codes "POST") then Route.TakeGroups else Route.SyncGroups
at_method method route = route

-- with the page that a query asks for, where it is a list of pages
abbrev pub with_query : List ℕ → Route → Route
with_query query (Route.Index page) = Route.Index (page_query query)
with_query query route = route

-- what a target is for by this method: its query is looked at for the page of a list alone
abbrev pub route_at : List ℕ → List ℕ → Option Route
route_at method target =
    option_map (λ route. with_query (query_of target) (at_method method route))
    (path_route (path_of target))

-- by which method it is asked for
abbrev pub method_of : Route → List ℕ
method_of (Route.ViewEvent event owner) = codes "GET"
method_of (Route.Index page) = codes "GET"
method_of Route.Groups = codes "GET"
method_of Route.SyncGroups = codes "GET"
method_of Route.SyncEvents = codes "GET"
method_of (Route.SyncPart event part) = codes "GET"
method_of Route.SyncManifest = codes "GET"
method_of route = codes "POST"

-- the path must be for something, and the method be its own
abbrev pub by_method : List ℕ → Option Route → Result Route RuleName
by_method method None = Err NoRoute
by_method method (Some route) = if bytes_eq method (method_of route) then Ok route else Err NoMethod

-- the route of a target and its method; a path that is none, or another method, is refused
unfoldable pub route_of : List ℕ → List ℕ → Result Route RuleName
route_of method target = by_method method (route_at method target)
