-- Who may not change an event, and the fault that says so.
use Rattle.std.specs.Prelude.{◌≡◌, Bool, cond, List, Option, Some, None, Result, Ok, Err}
use Rattle.misp_model.specs.Prelude.{ElemId, Label, Rule, first_rule}
use Rattle.misp_copies.specs.declared.change_fault.ChangeFault.{ChangeFault}
use Rattle.misp_copies.specs.declared.change_fault.ChangeFault.TheVariants.{NotGranted, NotOwner, LockedCopy, EventGone, ElementExists, GroupNotUsable, OlderTime, TimeLimit, ProposalExists, ProposalClosed, ElementFull, NoMemory}
use Rattle.misp_model.specs.Scene as rule

-- ---- faults

-- the rule of a fault
unfoldable pub rule_of : ChangeFault → Option Rule
rule_of NotGranted = Some rule.NotGranted
rule_of NotOwner = Some rule.NotOwner
rule_of LockedCopy = Some rule.LockedCopy
rule_of EventGone = Some rule.EventGone
rule_of (ElementExists u) = Some rule.ElementExists
rule_of (GroupNotUsable g) = Some rule.GroupNotUsable
rule_of OlderTime = Some rule.OlderTime
rule_of TimeLimit = Some rule.TimeLimit
rule_of ProposalExists = Some rule.ProposalExists
rule_of ProposalClosed = Some rule.ProposalClosed
rule_of ElementFull = Some rule.ElementFull
rule_of NoMemory = None

-- the rule that refuses, where one does
abbrev pub outcome : {A : Type 0} → Result A ChangeFault → Option Rule
outcome (Ok x) = None
outcome (Err fault) = rule_of fault

-- the group that a fault names is that of the given label, and it names no uuid
abbrev pub Names : Option Label → ChangeFault → Type 0
Names given (GroupNotUsable g) = given ≡ Some (Label.Group g)
Names given (ElementExists u) = ⊥
Names given fault = Unit {0}

-- the uuid that a fault names is this one, and it names no group
abbrev pub NamesUuid : ElemId → ChangeFault → Type 0
NamesUuid uuid (ElementExists u) = uuid ≡ u
NamesUuid uuid (GroupNotUsable g) = ⊥
NamesUuid uuid fault = Unit {0}

-- the fault's is the first of these rules that holds; of running out of memory nothing is said
abbrev pub Refuses : List (Bool × Rule) → ChangeFault → Type 0
Refuses rules NoMemory = Unit {0}
Refuses rules fault = first_rule rules ≡ rule_of fault

-- ---- rules without a scene

-- who may not change an event: by whether its copy was added here, is there, is seen anywhere, and
-- has what is addressed
unfoldable pub barring : Bool → Bool → Bool → Bool → Option Rule
barring home copy seen fits =
    cond home (cond fits None (Some rule.NotGranted))
    (cond copy (Some rule.LockedCopy) (cond seen (Some rule.NotOwner) (Some rule.NotGranted)))

-- who may not delete it
unfoldable pub lacking : Bool → Bool → Option Rule
lacking copy seen = cond copy None (cond seen (Some rule.NotOwner) (Some rule.NotGranted))

-- the first of two
unfoldable pub or_else : Option Rule → Option Rule → Option Rule
or_else None r = r
or_else (Some r) s = Some r
