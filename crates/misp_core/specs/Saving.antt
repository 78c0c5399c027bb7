-- Requests that write rows of an event, and what the refusal of one names.
use Rattle.std.specs.Prelude.{◌≡◌, ℕ, List, [], IfSome}
use Rattle.misp_ids.specs.Uid.{text_of}
use Rattle.misp_model.specs.Prelude.{EventId, Scene}
use Rattle.misp_model.specs.Machine.{event_changed}
use Rattle.misp_copies.specs.Barring.{rule_of}
use Rattle.misp_copies.specs.declared.change_fault.ChangeFault.{ChangeFault}
use Rattle.misp_copies.specs.declared.change_fault.ChangeFault.TheVariants.{ElementExists, GroupNotUsable}
use Rattle.misp_edit.specs.Refusals.{place_of}
use Rattle.misp_core.specs.Prelude.{Ask}

-- the ask writes rows of this event
abbrev pub IsOfEvent : Ask → EventId → Type 0
IsOfEvent (Ask.Change change) e = event_changed change ≡ e
IsOfEvent (Ask.Propose draft) e = draft.event ≡ e
IsOfEvent (Ask.Judge event proposal accept) e = event ≡ e
IsOfEvent (Ask.Sight event target draft) e = event ≡ e
IsOfEvent ask e = ⊥

-- the uuid of the group or of the element that it names
abbrev pub place_named : ChangeFault → List ℕ
place_named (GroupNotUsable g) = text_of g.uuid
place_named (ElementExists u) = text_of u.0
place_named fault = []

-- a refusal of the ask by the rule of the fault names the same
abbrev pub NamesPlace : Scene → Ask → ChangeFault → Type 0
NamesPlace s ask fault = IfSome (rule_of fault) (λ rule. place_of s ask rule ≡ place_named fault)
