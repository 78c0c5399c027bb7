-- How much of what is held an ask reads.
use Rattle.std.specs.Prelude.{Option, None, Some}
use Rattle.misp_ids.specs.Same.{Inst}
use Rattle.misp_ids.specs.declared.uid.OrgId.{OrgId}
use Rattle.misp_model.specs.declared.ask.Ask.{Ask}
use Rattle.misp_model.specs.declared.ask.Ask.TheVariants.{View}
use Rattle.misp_model.specs.declared.change.Change.{Change}
use Rattle.misp_model.specs.declared.change.Change.TheVariants.{AddEvent}
use Rattle.misp_model.specs.declared.looks.Looks.{Looks}
use Rattle.misp_model.specs.Looking.{looks_of}
use Rattle.misp_model.specs.Machine.{event_changed}
use Rattle.misp_store.specs.declared.reach.Reach.{Reach}

-- where a change by an organisation reads: its event, of an event that is added the rows of the
-- organisation alone
abbrev pub wide_change_reach : OrgId → Change → Reach
wide_change_reach by (AddEvent b) = Reach.Own by b.event
wide_change_reach by change = Reach.Event (event_changed change)

-- where an ask of an organisation reads: its event, all events, or none
abbrev pub wide_reach : OrgId → Ask → Reach
wide_reach by (View event owner) = Reach.Event event
wide_reach by (Ask.Change change) = wide_change_reach by change
wide_reach by (Ask.Propose draft) = Reach.Event draft.event
wide_reach by (Ask.Judge event proposal accept) = Reach.Event event
wide_reach by (Ask.Sight event target draft) = Reach.Event event
wide_reach by (Ask.Index page) = Reach.All
wide_reach by (Ask.Search filter whole) = Reach.All
wide_reach by Ask.Groups = Reach.Nothing
wide_reach by Ask.SyncGroups = Reach.Nothing
wide_reach by Ask.SyncEvents = Reach.All
wide_reach by (Ask.SyncPart event part) = Reach.Event event
wide_reach by Ask.SyncManifest = Reach.All
wide_reach by (Ask.SyncRows wanted) = Reach.Event wanted.event
wide_reach by (Ask.TakePart part) = Reach.Event part.event

-- what is looked at, or else all that is in this place
abbrev pub within : Option Looks → Reach → Reach
within None place = place
within (Some looks) place = Reach.Looked looks

-- how much an ask of an organisation at an instance reads: what it looks at
abbrev pub reach_of : Inst → OrgId → Ask → Reach
reach_of here by ask = within (looks_of here by ask) (wide_reach by ask)
