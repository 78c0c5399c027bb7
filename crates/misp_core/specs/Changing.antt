-- The refusal of a change by a fault.
use Rattle.std.specs.Prelude.{◌≡◌, Option}
use Rattle.misp_model.specs.Prelude.{Label, Rule}
use Rattle.misp_model.specs.declared.change.Change.{Change}
use Rattle.misp_edit.specs.Refusals.{label_place, place_of}
use Rattle.misp_core.specs.Prelude.{Ask, Scene}

-- a refusal of the change names the group of this label, and nothing else
abbrev pub NamesGroupOf : Scene → Change → Option Label → Type 0
NamesGroupOf s c given = (rule : Rule) → place_of s (Ask.Change c) rule ≡ label_place given rule

-- a deletion, a tag attached or removed, or a publishing
abbrev pub IsMark : Change → Type 0
IsMark (Change.AddEvent submission) = ⊥
IsMark (Change.AddParts event parts) = ⊥
IsMark (Change.EditEvent event edit) = ⊥
IsMark (Change.EditAttribute event place edit) = ⊥
IsMark (Change.EditObject event object edit) = ⊥
IsMark change = Unit {0}
