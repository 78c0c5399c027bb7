-- What the laws of synchronisations speak of.
use Rattle.std.specs.Prelude.{◌≡◌, true, not, List, [], ◌∷◌, Contains, None, Ok, Option, Some, filter, flat_map, map}
use Rattle.std.specs.List.{AllByRecursion, list_any}
use Rattle.misp_lists.specs.Order.{ascend, in_order}
use Rattle.misp_levels.specs.Levels.{landed}
use Rattle.misp_elem.specs.Row.{AreRows}
use Rattle.misp_groups.specs.Groups.{by_name}
use Rattle.misp_groups.specs.Prelude.{IsStrictlySortedBy}
use Rattle.misp_outside.specs.Held.{admin_before}
use Rattle.misp_manifest.specs.declared.wanted.WantedFields.{WantedFields as Wanted}
use Rattle.misp_orgs.specs.declared.link.Link.{Link}
use Rattle.misp_model.specs.Packing.{arrived}
use Rattle.misp_model.specs.Passing.{Route}
use Rattle.misp_model.specs.Prelude.{IsTable, granted, is_row_of, stands_before}
use Rattle.misp_model.specs.Pulling.{pull_route, pulled_rows}
use Rattle.misp_model.specs.Scene.{Partner, Scene}
use Rattle.misp_model.specs.declared.package.PackageFields.{PackageFields as Package}
use Rattle.misp_history.specs.Merging.{handed, merged}
use Rattle.misp_store.specs.Raw.{raw_row}
use Rattle.misp_store.specs.declared.reach.Reach.{Reach}
use Rattle.misp_core.specs.Prelude.{Ask, Caller, EventId, Group, Held, Host, Inst, IsGroup, OrgId, Row, Seen, groups_in, is_permitted, scene_at, seeing, seen_in}
use Rattle.misp_core.specs.Taking.{groups_taken, with_groups_taken}
use Rattle.misp_dialogue.specs.Shares.{Exchange}
use Rattle.misp_protocol.specs.declared.part_keys.PartKeysFields.{PartKeysFields as PartKeys}
use Rattle.misp_protocol.specs.declared.request.Answer.{Answer}
use Rattle.misp_protocol.specs.declared.request.Request.{Request}
use Rattle.misp_wanted.specs.Wanting.{wanted_keys}
use Rattle.misp_sync.specs.OwnAnswers.{own_answer, wanted_list}
use Rattle.misp_sync.specs.Pulled.{events_sent, groups_sent}

-- ---- what is held

-- a keeper holds these rows, in their order, and these groups, in the order of their names; and its
-- rows of the administration ascend
pub record Holds (rows : List Row) (groups : List Group) (held : Held) : Type 0 where
  pub rows_are : held.rows ≡ map raw_row rows
  pub are_rows : AreRows rows
  pub groups_are : groups_in held.admin ≡ Ok groups
  pub are_groups : AllByRecursion IsGroup groups
  pub order : ascend admin_before held.admin ≡ true
  pub ascend : IsStrictlySortedBy by_name groups

-- of these rows those of which no other comes of the same owner and key
abbrev pub untouched : List Row → List Row → List Row
untouched coming rows = filter (λ row. not (list_any (is_row_of row.owner row.key) coming)) rows

-- ---- what a pull brings

-- the rows that pass of what the peer has, as they are handed in for the holder
abbrev pub rows_passed : OrgId → Host → Caller → List Group → List Row → List Row
rows_passed w peer caller groups rows =
    map (handed w) (pulled_rows (seeing (scene_at peer 0 caller groups) rows))

-- Who asks may pull. The peer reports these rows, and the own keeper holds those of mine; each has
-- one row of an owner and key, and the own keeper has them in their order.
pub record IsPullable (peer : Host) (caller : Caller) (own : Held) (there : Seen)
    (mine : List Row) (groups : List Group) (rows : List Row) : Type 0 where
  pub permitted : is_permitted caller Ask.SyncGroups ≡ true
  pub holds : Holds mine groups own
  pub own_apart : IsTable mine
  pub own_ascend : in_order stands_before mine ≡ mine
  pub reported : there.rows Reach.All ≡ Ok rows
  pub apart : IsTable rows
  pub are_rows : AreRows rows

-- the rows of all packages of an event
abbrev pub rows_of_packages : List (List Row) → List Row
rows_of_packages ps = flat_map (λ rows. rows) ps

-- the own rows of an event are what they are with all its packages merged
pub record BringsNothing (here : Inst) (w : OrgId) (own : Seen)
    (e : EventId × List (List Row)) : Type 0 where
  pub rows : List Row
  pub read : own.rows (Reach.Own w e.0) ≡ Ok rows
  pub same : merged here rows own.groups (map (handed w) (rows_of_packages e.1)) ≡ rows

-- Who asks may pull, and no group that passes is new; nor is a row of the events that pass.
pub record IsUpToDate (here : Inst) (w : OrgId) (peer : Host) (caller : Caller) (own there : Seen)
    : Type 0 where
  pub permitted : is_permitted caller Ask.SyncGroups ≡ true
  pub groups : groups_taken own.groups (groups_sent peer caller there.groups) ≡ []
  pub events : List (EventId × List (List Row))
  pub sent : events_sent peer caller there.groups (there.rows Reach.All) ≡ Ok events
  pub rows : AllByRecursion (BringsNothing here w own) events

-- ---- what is sent

-- It is a row of these as it arrives on the route, and that row is granted to the organisation of
-- the route. Its label is one step down where the way lowers labels, and the same where it does
-- not.
pub record IsGranted (rows : List Row) (groups : List Group) (route : Route) (x : Row)
    : Type 0 where
  pub row : Row
  pub among : Contains rows row
  pub granted_so : granted rows groups route.from route.«for» row ≡ true
  pub arrives : x ≡ arrived route row
  pub label : x.label ≡ landed route.way row.label

-- the caller's key has a partner, and the row is granted on the way of a pull by it
pub record IsGrantedToPartner (s : Scene) (rows : List Row) (x : Row) : Type 0 where
  pub partner : Partner
  pub is : s.partner ≡ Some partner
  pub on_route : IsGranted rows s.groups (pull_route s partner) x

-- ---- what a pull asks for

-- what a peer was asked, and what it answered
abbrev pub Asked : Type 0
Asked = Exchange Request Answer

-- Where rows of a part are wanted they are asked for, and just they, and the package that comes is
-- taken before the rest is asked. Where none are, nothing is asked.
abbrev pub AsksThen : Host → Link → Option Wanted → Held → (Held → List Asked → Type 0)
    → List Asked → Type 0
AsksThen here link None held rest asked = rest held asked
AsksThen here link (Some w) held rest asked =
    (p : Package) × (answer : Answer) × (next : Held) × (more : List Asked)
    × (asked ≡ record { request = Request.Rows w; reply = Answer.Part p } ∷ more)
    × (own_answer here link held (Request.TakePart p) ≡ Ok (answer, next)) × rest next more

-- Of each of these parts, one after another, that is asked for which the holder wants over its own
-- rows of the event, as they are then.
abbrev pub AsksInTurn : Host → Link → List PartKeys → Held → List Asked → Held → Type 0
AsksInTurn here link [] held asked new = (asked ≡ []) × (new ≡ held)
AsksInTurn here link (k ∷ ks) held asked new =
    (rows : List Row) × ((seen_in held).rows (Reach.Own link.holder k.event) ≡ Ok rows)
    × AsksThen here link (wanted_list k (wanted_keys here.name rows link.holder k.event k.keys))
    held (λ next more. AsksInTurn here link ks next more new) asked

-- A pull asks for the groups and for the manifest. Then it asks for the rows that are wanted of the
-- parts of that manifest, where the groups are taken. This is all that it asks of the peer.
pub record AsksAsWanted (here : Host) (link : Link) (own new : Held)
    (share : List Asked) : Type 0 where
  pub groups : List Group
  pub parts : List PartKeys
  pub later : List Asked
  pub first : share ≡ record { request = Request.Groups; reply = Answer.Groups groups }
      ∷ record { request = Request.Manifest; reply = Answer.Manifest parts } ∷ later
  pub wanted : AsksInTurn here link parts (with_groups_taken groups own) later new
