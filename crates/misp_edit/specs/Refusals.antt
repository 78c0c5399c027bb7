-- What the refusal of an ask says: its rule, and the place of what is refused.
use Rattle.std.specs.Prelude.{◌≡◌, ℕ, Bool, List, [], ◌∷◌, Option, Some, None, option_map}
use Rattle.misp_ids.specs.Uid.{text_of}
use Rattle.misp_ids.specs.declared.refusal.Refusal.{Refusal}
use Rattle.misp_ids.specs.declared.refusal.RuleName.{RuleName}
use Rattle.misp_model.specs.Prelude.{ElemId, Label, Rule, Scene, Submission, change_rules, clashes, first_rule, has_unusable}
use Rattle.misp_model.specs.declared.ask.Ask.{Ask}
use Rattle.misp_model.specs.declared.ask.Ask.TheVariants.{Judge, Propose, Sight}
use Rattle.misp_model.specs.declared.change.Change.{Change}
use Rattle.misp_model.specs.declared.change.Change.TheVariants.{AddEvent, AddParts, EditEvent, EditAttribute, EditObject}
use Rattle.misp_copies.specs.Barring.{rule_of}
use Rattle.misp_copies.specs.declared.change_fault.ChangeFault.{ChangeFault}
use Rattle.misp_edit.specs.Adding.{first_clash, first_unusable}
use Rattle.misp_edit.specs.declared.fault.AddFault.{AddFault}
use Rattle.misp_model.specs.Scene as asking

-- a rule of the requests, as a reply names it
abbrev pub named : Rule → RuleName
named asking.NotGranted = RuleName.NotGranted
named asking.NotOwner = RuleName.NotOwner
named asking.LockedCopy = RuleName.LockedCopy
named asking.EventExists = RuleName.EventExists
named asking.EventGone = RuleName.EventGone
named asking.ElementExists = RuleName.ElementExists
named asking.GroupNotUsable = RuleName.GroupNotUsable
named asking.OlderTime = RuleName.OlderTime
named asking.TimeLimit = RuleName.TimeLimit
named asking.ProposalExists = RuleName.ProposalExists
named asking.ProposalClosed = RuleName.ProposalClosed
named asking.ElementFull = RuleName.ElementFull

-- the rule that a fault names
abbrev pub rule_named : ChangeFault → Option RuleName
rule_named fault = option_map named (rule_of fault)

-- the text of a uuid, where there is one
abbrev pub uuid_text : Option ℕ → List ℕ
uuid_text None = []
uuid_text (Some u) = text_of (record { 0 = u })

-- the text of the uuid of the group that a label names
abbrev pub group_text : Option Label → List ℕ
group_text (Some (Label.Group g)) = text_of g.uuid
group_text label = []

-- of a body that brings a uuid again that uuid, of one with a label that is not usable its group
abbrev pub added_place : Option ℕ → Option Label → Rule → List ℕ
added_place clash unusable asking.ElementExists = uuid_text clash
added_place clash unusable asking.GroupNotUsable = group_text unusable
added_place clash unusable rule = []

-- the label that a refusal by rule 15 names the group of
abbrev pub label_place : Option Label → Rule → List ℕ
label_place given asking.GroupNotUsable = group_text given
label_place given rule = []

-- the uuid that a refusal by rule 14 names
abbrev pub uuid_place : ElemId → Rule → List ℕ
uuid_place uuid asking.ElementExists = text_of uuid.0
uuid_place uuid rule = []

-- the place that a refusal of an ask shows
abbrev pub place_of : Scene → Ask → Rule → List ℕ
place_of s (Ask.Change (AddEvent b)) rule =
    added_place (first_clash s b) (first_unusable s b) rule
place_of s (Ask.Change (AddParts e b)) rule =
    added_place (first_clash s b) (first_unusable s b) rule
place_of s (Ask.Change (EditEvent e edit)) rule = label_place edit.label rule
place_of s (Ask.Change (EditAttribute e p edit)) rule = label_place edit.label rule
place_of s (Ask.Change (EditObject e x edit)) rule = label_place edit.label rule
place_of s (Propose d) rule = uuid_place d.uuid rule
place_of s (Judge e proposal accept) rule = uuid_place proposal.uuid rule
place_of s (Sight e target d) rule = uuid_place d.uuid rule
place_of s ask rule = []

-- the refusal of an ask by a rule
abbrev pub refusal_of : Scene → Ask → Rule → Refusal
refusal_of s ask rule = record { name = named rule; place = place_of s ask rule }

-- the fault is the refusal by the first rule that refuses the change, or memory ran out
abbrev pub Refuses : Scene → Change → AddFault → Type 0
Refuses s c (AddFault.Refused refusal) =
    option_map (refusal_of s (Ask.Change c)) (first_rule (change_rules s c)) ≡ Some refusal
Refuses s c AddFault.NoMemory = Unit {0}

-- ---- the rules that look at what a body brings

unfoldable pub brought_rules : Scene → Submission → List (Bool × Rule)
brought_rules s b =
    (clashes s b, asking.ElementExists) ∷ (has_unusable s b, asking.GroupNotUsable) ∷ []

-- the refusal by the first of them that refuses
abbrev pub brought_refusal : Scene → Submission → Option Refusal
brought_refusal s b =
    option_map
    (λ rule.
    record { name = named rule; place = added_place (first_clash s b) (first_unusable s b) rule })
    (first_rule (brought_rules s b))

-- the fault is this refusal, or memory ran out
abbrev pub Tells : Option Refusal → AddFault → Type 0
Tells expected (AddFault.Refused refusal) = expected ≡ Some refusal
Tells expected AddFault.NoMemory = Unit {0}

-- the fault of a rule that names no place, and of running out of memory
unfoldable pub bare_fault : Option Rule → AddFault
bare_fault None = AddFault.NoMemory
bare_fault (Some rule) = AddFault.Refused (record { name = named rule; place = [] })
