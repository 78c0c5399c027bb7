-- Changing what is there: which rule refuses, and what is written.
use Rattle.std.specs.Prelude.{◌≡◌, Bool, eqb, List, [], ◌∷◌, map, Option, None, is_some, option_to_list, find}
use Rattle.misp_model.specs.Prelude.{Element, EventId, Group, Inst, Label, OrgId, Place, Row, Rule, Scene, Stamp, change_rules, change_writes, event_key, first_rule, granted_somewhere, has_copy, has_home, is_newer_than}
use Rattle.misp_model.specs.Prelude.{is_row_of, last_stamp, row_passes}
use Rattle.misp_model.specs.declared.change.Change.{Change}
use Rattle.misp_history.specs.History.{fresh_row}
use Rattle.misp_copies.specs.Barring.{barring, lacking, or_else}
use Rattle.misp_edit.specs.Labels.{is_unusable}
use Rattle.misp_model.specs.Scene as rule

-- no rule refuses the change, and these are the rows of what is written
abbrev pub Changes : Scene → Change → List Row → Type 0
Changes s c rows =
    (first_rule (change_rules s c) ≡ None) × (rows ≡ map fresh_row (change_writes s c))

-- ---- rules without a scene

-- the given label, where it may not be used
unfoldable pub unusable_given : List Group → Inst → OrgId → Option Label → Option Label
unusable_given groups here o given = find (is_unusable groups here o) (option_to_list given)

-- the rules that look at the given label, at the given stamp and at that of the row
unfoldable pub late_rules :
    List Group → Inst → OrgId → Option Row → Option Label → Option Stamp → List (Bool × Rule)
late_rules groups here o own l t =
    (is_some (unusable_given groups here o l), rule.GroupNotUsable)
    ∷ (row_passes (is_newer_than t) own, rule.OlderTime)
    ∷ (row_passes (λ row. eqb row.stamp last_stamp) own, rule.TimeLimit) ∷ []

-- which rule refuses to change the event or this row of it, before new texts are looked at
unfoldable pub ruling : List Row → List Group → Inst → OrgId → EventId → Bool → Option Row
    → Option Label → Option Stamp → Option Rule
ruling rows groups here o e fits own l t =
    or_else (barring (has_home rows o e) (has_copy rows o e)
    (granted_somewhere rows groups here o (event_key e)) fits)
    (first_rule (late_rules groups here o own l t))

-- which rule refuses to delete the event
unfoldable pub event_deleting : List Row → List Group → Inst → OrgId → EventId → Option Rule
event_deleting rows groups here o e =
    or_else (lacking (has_copy rows o e) (granted_somewhere rows groups here o (event_key e)))
    (first_rule
    (late_rules groups here o (find (is_row_of o (Element e Place.Event)) rows) None None))
