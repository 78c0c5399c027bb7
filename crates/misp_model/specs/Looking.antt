-- What a request looks at of its event: certain rows of one organisation, and certain rows of all
-- others.
use Rattle.std.specs.Prelude.{Bool, true, false, ◌&&◌, ◌||◌, cond, List, [], ◌∷◌, ◌++◌, map, filter, Option, None, Some, option_map}
use Rattle.misp_elem.specs.Prelude.{ElemId, EventId, Inst, OrgId, Submission, event_key, event_of, list_any, same_elem, same_event, same_key, same_org, uuid_at}
use Rattle.misp_elem.specs.KeyFacts.{is_statement}
use Rattle.misp_elem.specs.Parents.{up_to}
use Rattle.misp_elem.specs.declared.key.KeyForm.{KeyForm as Key}
use Rattle.misp_elem.specs.declared.key.KeyForm.TheVariants.{Element, Proposal, Reference, Sighting, Verdict}
use Rattle.misp_elem.specs.declared.key.Place.{Place}
use Rattle.misp_elem.specs.declared.key.ProposalName.{ProposalName}
use Rattle.misp_elem.specs.declared.row.RowFields.{RowFields as Row}
use Rattle.misp_model.specs.declared.ask.Ask.{Ask}
use Rattle.misp_model.specs.declared.ask.Ask.TheVariants.{Judge, Propose, Sight, View}
use Rattle.misp_model.specs.declared.change.Change.{Change}
use Rattle.misp_model.specs.declared.change.Change.TheVariants.{AddParts, Delete, DeleteEvent, DeleteReference, EditAttribute, EditEvent, EditObject, Publish}
use Rattle.misp_model.specs.declared.looks.Look.{Look}
use Rattle.misp_model.specs.declared.looks.Looks.{Looks}
use Rattle.misp_model.specs.declared.statement.ProposalDraftFields.{ProposalDraftFields as ProposalDraft}
use Rattle.misp_model.specs.Scene.{Scene, holds_copy}
use Rattle.misp_model.specs.Shown.{event_row}
use Rattle.misp_model.specs.Statements.{is_for_new}

-- ---- which rows

-- the element at the place is needed to say what these uuids are: the event and an object always,
-- and an attribute where it has one of them
unfoldable pub is_place_needed_for : List ElemId → Place → Bool
is_place_needed_for us Place.Event = true
is_place_needed_for us (Place.Object x) = true
is_place_needed_for us (Place.Attribute a) = list_any (same_elem a) us
is_place_needed_for us (Place.ObjectAttribute x a) = list_any (same_elem a) us

-- the key is needed so: that of the event and of an object always, and that of an attribute or a
-- reference where it has one of these uuids
unfoldable pub is_needed_for : List ElemId → Key → Bool
is_needed_for us (Element e p) = is_place_needed_for us p
is_needed_for us (Reference e x t u) = list_any (same_elem u) us
is_needed_for us (Proposal e n) = false
is_needed_for us (Verdict e n i o) = false
is_needed_for us (Sighting e t i o u) = false

-- the key is one of those of the event that are looked at
unfoldable pub is_in_look : Look → EventId → Key → Bool
is_in_look (Look.Keys keys) e k = list_any (same_key k) keys
is_in_look (Look.Uuids us keys) e k =
    same_event (event_of k) e && is_needed_for us k || list_any (same_key k) keys
is_in_look Look.Statements e k =
    same_event (event_of k) e && (is_statement k || same_key k (event_key e))
is_in_look Look.All e k = same_event (event_of k) e

-- the owner's row of this key is looked at
unfoldable pub looks_at : Looks → OrgId → Key → Bool
looks_at l w k =
    cond (same_org w l.of) (is_in_look l.own l.event k) (is_in_look l.others l.event k)

-- of these rows those that are looked at
unfoldable pub rows_seen_by : Looks → List Row → List Row
rows_seen_by l rows = filter (λ row. looks_at l row.owner row.key) rows

-- ---- what a request looks at first

-- these own rows alone
abbrev pub own_alone : OrgId → EventId → Look → Looks
own_alone by e look = record { event = e; of = by; own = look; others = Look.Keys [] }

-- an element, with what is above it
abbrev pub at_place : OrgId → EventId → Place → Looks
at_place by e p = own_alone by e (Look.Keys (up_to e p))

-- the own copy
abbrev pub at_copy : OrgId → EventId → Looks
at_copy by e = own_alone by e Look.All

-- the uuid of a place as an element's
abbrev pub elem_at : EventId → Place → ElemId
elem_at e p = record { 0 = record { 0 = uuid_at e p } }

-- the uuids of a body, and those to which its references refer
abbrev pub uuids_in : Submission → List ElemId
uuids_in b =
    map (λ d. elem_at b.event d.place) b.parts
    ++ (map (λ r. r.uuid) b.references ++ map (λ r. r.referenced) b.references)

-- what is added to an event: what has one of its uuids, and all objects
abbrev pub at_parts : OrgId → Submission → Looks
at_parts by b = own_alone by b.event (Look.Uuids (uuids_in b) [])

-- a statement on a place: the place with what is above it in each copy, and the own row of the
-- statement
abbrev pub at_target : OrgId → EventId → Place → Key → Looks
at_target by e p k = record {
  event = e;
  of = by;
  own = Look.Keys (up_to e p ++ k ∷ []);
  others = Look.Keys (up_to e p);
}

-- what a proposal is seen by: its target with what is above it, and the proposal
abbrev pub proposal_keys : EventId → ProposalName → List Key
proposal_keys e n = up_to e n.target ++ Proposal e n ∷ []

-- of the own rows for a judgement: those of the proposal and the verdict, and where a new attribute
-- is made, those that have its uuid
abbrev pub own_at_proposal : EventId → ProposalName → Bool → Key → Look
own_at_proposal e n makes k =
    cond makes (Look.Uuids (n.uuid ∷ []) (Proposal e n ∷ k ∷ []))
    (Look.Keys (proposal_keys e n ++ k ∷ []))

-- a proposal that is judged: that in each copy, and the own rows for the judgement
abbrev pub at_proposal : OrgId → EventId → ProposalName → Bool → Key → Looks
at_proposal by e n makes k = record {
  event = e;
  of = by;
  own = own_at_proposal e n makes k;
  others = Look.Keys (proposal_keys e n);
}

-- the event's row in each copy
abbrev pub at_event : OrgId → EventId → Looks
at_event by e = record {
  event = e;
  of = by;
  own = Look.Keys (event_key e ∷ []);
  others = Look.Keys (event_key e ∷ []);
}

-- a change: its own rows, where they are said here
abbrev pub change_looks : OrgId → Change → Option Looks
change_looks by (Change.AddEvent b) = None
change_looks by (AddParts e b) = Some (at_parts by b)
change_looks by (EditEvent e edit) = Some (at_place by e Place.Event)
change_looks by (EditAttribute e p edit) = Some (at_place by e p)
change_looks by (EditObject e x edit) = Some (at_place by e (Place.Object x))
change_looks by (Delete e p) = Some (at_place by e p)
change_looks by (DeleteReference e x u) = Some (at_copy by e)
change_looks by (Change.Tag e p tag) = Some (at_place by e p)
change_looks by (Change.Untag e p name) = Some (at_place by e p)
change_looks by (DeleteEvent e) = Some (at_place by e Place.Event)
change_looks by (Publish e) = Some (at_copy by e)

-- the own row of a proposal, and of a sighting
abbrev pub proposal_by : Inst → OrgId → ProposalDraft → Key
proposal_by i o d =
    Proposal d.event (record { target = d.target; at = i; by = o; uuid = d.uuid })

-- what a request at an instance looks at of its event, where that is said here
abbrev pub looks_of : Inst → OrgId → Ask → Option Looks
looks_of i o (Ask.Change c) = change_looks o c
looks_of i o (Propose d) = Some (at_target o d.event d.target (proposal_by i o d))
looks_of i o (Sight e t d) = Some (at_target o e t (Sighting e t i o d.uuid))
looks_of i o (Judge e n accept) =
    Some (at_proposal o e n (accept && is_for_new n) (Verdict e n i o))
looks_of i o (View e owner) = Some (at_event o e)
looks_of i o (Ask.Index page) = None
looks_of i o (Ask.Search filter whole) = None
looks_of i o Ask.Groups = None
looks_of i o Ask.SyncGroups = None
looks_of i o Ask.SyncEvents = None
looks_of i o (Ask.SyncPart e n) = None
looks_of i o Ask.SyncManifest = None
looks_of i o (Ask.SyncRows w) = None
looks_of i o (Ask.TakePart p) = None

-- ---- what it looks at then

-- a change by an organisation that has no copy: the event's row in each copy, besides
abbrev pub beside : Looks → Looks
beside l = record l { others = Look.Keys (event_key l.event ∷ []) }

abbrev pub more_for_change : Scene → Option Looks → Option Looks
more_for_change s None = None
more_for_change s (Some l) = cond (holds_copy s l.event) None (Some (beside l))

-- a copy that is shown: its rows, and in each other copy the event's and those of statements
abbrev pub at_shown : OrgId → EventId → Looks
at_shown w e = record { event = e; of = w; own = Look.All; others = Look.Statements }

-- in place of what it looks at first, by what is found there
abbrev pub more_looks : Scene → Ask → Option Looks
more_looks s (Ask.Change c) = more_for_change s (change_looks s.by c)
more_looks s (View e owner) = option_map (λ row. at_shown row.owner e) (event_row s e owner)
more_looks s (Propose d) = None
more_looks s (Sight e t d) = None
more_looks s (Judge e n accept) = None
more_looks s (Ask.Index page) = None
more_looks s (Ask.Search filter whole) = None
more_looks s Ask.Groups = None
more_looks s Ask.SyncGroups = None
more_looks s Ask.SyncEvents = None
more_looks s (Ask.SyncPart e n) = None
more_looks s Ask.SyncManifest = None
more_looks s (Ask.SyncRows w) = None
more_looks s (Ask.TakePart p) = None

-- the first, or what takes its place
abbrev pub last_looks : Looks → Option Looks → Looks
last_looks l None = l
last_looks l (Some m) = m

-- the surroundings with these rows, whether the caller knows them or not
abbrev pub over : Scene → List Row → Scene
over s rows = record s { rows = rows }
