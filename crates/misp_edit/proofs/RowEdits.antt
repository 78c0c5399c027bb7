-- An edit of the caller's row at a place, by what the caller has.
use Rattle.std.proofs.Common.{◌≡◌, List, [], ◌∷◌, ◌++◌, Bool, true, false, refl, ap, sym, ◌∙◌, arith, cond, eqb, map, Option, Some, None, is_some, option_to_list, find}
use Rattle.misp_elem.specs.Row.{barred_labels}
use Rattle.misp_model.specs.Prelude.{ElemId, Stamp, Tag, as_deleted, at_attribute, at_event, at_object, at_tags, change_rules, change_writes, changed_row, edit_rules, edited, edited_event, edited_object, event_key, first_rule}
use Rattle.misp_model.specs.Prelude.{granted_somewhere, has_home, is_newer_than, is_too_long, own_live, row_passes, tagged, wants_unusable}
use Rattle.misp_model.specs.Edits.{given}
use Rattle.misp_model.specs.Place.{IsAttributePlace}
use Rattle.misp_model.specs.declared.change.Change.TheVariants as changes
use Rattle.misp_model.specs.declared.edit.AttributeEditFields.{AttributeEditFields as AttributeEdit}
use Rattle.misp_model.specs.declared.edit.EventEditFields.{EventEditFields as EventEdit}
use Rattle.misp_model.specs.declared.edit.ObjectEditFields.{ObjectEditFields as ObjectEdit}
use Rattle.misp_history.proofs.Prelude.{Change, Content, Element, EventId, Key, Label, Place, Row, Rule, Scene, bars, changed, false≢true, has_copy, is_at_limit, is_row_of, last_stamp, own_row, own_row_is}
use Rattle.misp_copies.specs.OwnRows.{has_live}
use Rattle.misp_copies.specs.Barring.{Names, barring, lacking, or_else, rule_of}
use Rattle.misp_copies.proofs.Barred.{first_of, bars_are, or_assoc}
use Rattle.misp_copies.specs.declared.change_fault.ChangeFault.{ChangeFault}
use Rattle.misp_copies.specs.declared.change_fault.ChangeFault.TheVariants.{ElementExists, GroupNotUsable}
use Rattle.misp_edit.specs.Labels.{is_unusable}
use Rattle.misp_edit.specs.Changing.{late_rules, ruling, unusable_given}
use Rattle.misp_edit.proofs.LateRules.{usable_is}
use Rattle.misp_edit.proofs.OneRow.{WritesOne, own_owner, own_stamp, too_long}
use Rattle.misp_model.specs.Scene as rule

-- ---- the rules of an edit

row_test : (test : Row → Bool) (o : Option Row) → (elim o as (λ x. Bool) [ None ↦ false | Some row ↦ test row ]) ≡ row_passes test o
unfolding row_passes
row_test test None = refl
row_test test (Some row) = refl

pub own_row_test : (s : Scene) (k : Key) (test : Row → Bool) → own_row_is s k test ≡ row_passes test (own_row s k)
unfolding own_row_is
own_row_test s k test = row_test test (own_row s k)

one_found : {X : Type 0} (p : X → Bool) (x : X) → is_some (find p (x ∷ [])) ≡ p x
one_found p x = by (p x)
  where
    by : (b : Bool) → is_some (cond b (Some x) None) ≡ b
    by true = refl
    by false = refl

given_is : (s : Scene) (l : Option Label) → is_some (unusable_given s.groups s.at s.by l) ≡ wants_unusable s l
unfolding unusable_given wants_unusable
given_is s None = refl
given_is s (Some l) = one_found (is_unusable s.groups s.at s.by) l ∙ usable_is s l

module _ (s : Scene) (e : EventId) (p : Place) (fits : Bool) (l : Option Label) (t : Option Stamp) (f : Content → Content) where
  abbrev key : Key
  key = Element e p

  abbrev late : List (Bool × Rule)
  late = late_rules s.groups s.at s.by (own_row s key) l t

  edit_is : first_rule (edit_rules s e key fits l t f) ≡ or_else (ruling s.rows s.groups s.at s.by e fits (own_row s key) l t) (too_long f (own_row s key))
  unfolding edit_rules late_rules is_at_limit ruling
  edit_is =
      (λ i. first_rule (bars s e fits ++ (sym (given_is s l) i, rule.GroupNotUsable) ∷ (own_row_test s key (is_newer_than t) i, rule.OlderTime)
      ∷ (own_row_test s key (λ row. eqb row.stamp last_stamp) i, rule.TimeLimit) ∷ (own_row_test s key (λ row. is_too_long (f row.content)) i, rule.ElementFull) ∷ []))
      ∙ first_of (bars s e fits) (late ++ (row_passes (λ row. is_too_long (f row.content)) (own_row s key), rule.ElementFull) ∷ [])
      ∙ (λ i. or_else (bars_are s e fits i) (first_of late ((row_passes (λ row. is_too_long (f row.content)) (own_row s key), rule.ElementFull) ∷ []) i))
      ∙ or_assoc (barring (has_home s.rows s.by e) (has_copy s.rows s.by e) (granted_somewhere s.rows s.groups s.at s.by (event_key e)) fits) (first_rule late) (too_long f (own_row s key))

-- the change edits this row of the caller's
abbrev pub IsRowEdit : (s : Scene) (c : Change) (e : EventId) (fits : Bool) (own : Option Row) (l : Option Label) (t : Option Stamp) (f : Content → Content) (label_of : Row → Label) → Type 0
IsRowEdit s c e fits own l t f label_of = WritesOne s c (ruling s.rows s.groups s.at s.by e fits own l t) (too_long f own) own label_of f

row_edit : (s : Scene) (c : Change) (e : EventId) (p : Place) (fits : Bool) (own : Option Row) (l : Option Label) (t : Option Stamp) (f : Content → Content) (label_of : Row → Label) →
    own ≡ find (is_row_of s.by (Element e p)) s.rows → change_rules s c ≡ edit_rules s e (Element e p) fits l t f → change_writes s c ≡ changed_row s (Element e p) label_of f →
    IsRowEdit s c e fits own l t f label_of
unfolding ruling own_row changed_row
row_edit s c e p fits own l t f label_of is rules writes = record {
  rules = ap first_rule rules ∙ edit_is s e p fits l t f ∙ (λ i. or_else (ruling s.rows s.groups s.at s.by e fits (sym is i) l t) (too_long f (sym is i)));
  writes = writes ∙ ap (λ o. map (λ row. changed s row (label_of row) (f row.content)) (option_to_list o)) (sym is);
  owned = λ row h. own_owner s.by (Element e p) s.rows row (h ∙ is);
  stamp = own_stamp s.groups s.at s.by own l t (barring (has_home s.rows s.by e) (has_copy s.rows s.by e) (granted_somewhere s.rows s.groups s.at s.by (event_key e)) fits);
}

-- ---- the edits, each by what it gives

module _ (s : Scene) (e : EventId) {own : Option Row} where
  pub is_event_edit : own ≡ find (is_row_of s.by (Element e Place.Event)) s.rows → {fields edit : EventEdit} → fields ≡ edit →
      IsRowEdit s (changes.EditEvent e edit) e true own fields.label fields.stamp (at_event (edited_event fields)) (λ row. given fields.label row.label)
  unfolding change_rules change_writes event_key
  is_event_edit is {fields} {edit} same =
      row_edit s (changes.EditEvent e edit) e Place.Event true own fields.label fields.stamp (at_event (edited_event fields)) (λ row. given fields.label row.label) is
      (λ i. edit_rules s e (Element e Place.Event) true (sym same i).label (sym same i).stamp (at_event (edited_event (sym same i))))
      (λ i. changed_row s (Element e Place.Event) (λ row. given (sym same i).label row.label) (at_event (edited_event (sym same i))))

  pub is_object_edit : (x : ElemId) {fits : Bool} → fits ≡ has_live s.rows s.by (Element e (Place.Object x)) → own ≡ find (is_row_of s.by (Element e (Place.Object x))) s.rows →
      {fields edit : ObjectEdit} → fields ≡ edit → IsRowEdit s (changes.EditObject e x edit) e fits own fields.label fields.stamp (at_object (edited_object fields)) (λ row. given fields.label row.label)
  unfolding change_rules change_writes own_live has_live
  is_object_edit x {fits} live is {fields} {edit} same =
      row_edit s (changes.EditObject e x edit) e (Place.Object x) fits own fields.label fields.stamp (at_object (edited_object fields)) (λ row. given fields.label row.label) is
      (λ i. edit_rules s e (Element e (Place.Object x)) (sym live i) (sym same i).label (sym same i).stamp (at_object (edited_object (sym same i))))
      (λ i. changed_row s (Element e (Place.Object x)) (λ row. given (sym same i).label row.label) (at_object (edited_object (sym same i))))

  module _ {at p : Place} (here : at ≡ p) {fits : Bool} (live : fits ≡ has_live s.rows s.by (Element e at)) (is : own ≡ find (is_row_of s.by (Element e at)) s.rows) where
    live_there : has_live s.rows s.by (Element e p) ≡ fits
    live_there = ap (λ place. has_live s.rows s.by (Element e place)) (sym here) ∙ sym live

    pub is_attribute_edit : {fields edit : AttributeEdit} → fields ≡ edit → IsRowEdit s (changes.EditAttribute e p edit) e fits own fields.label fields.stamp (at_attribute (edited fields)) (λ row. given fields.label row.label)
    unfolding change_rules change_writes own_live has_live
    is_attribute_edit {fields} {edit} same =
        row_edit s (changes.EditAttribute e p edit) e at fits own fields.label fields.stamp (at_attribute (edited fields)) (λ row. given fields.label row.label) is
        (λ i. edit_rules s e (Element e (sym here i)) (live_there i) (sym same i).label (sym same i).stamp (at_attribute (edited (sym same i))))
        (λ i. changed_row s (Element e (sym here i)) (λ row. given (sym same i).label row.label) (at_attribute (edited (sym same i))))

    pub is_tagging : (tag : Tag) → IsRowEdit s (changes.Tag e p tag) e fits own None None (at_tags (tagged tag)) (λ row. row.label)
    unfolding change_rules change_writes own_live has_live
    is_tagging tag =
        row_edit s (changes.Tag e p tag) e at fits own None None (at_tags (tagged tag)) (λ row. row.label) is
        (λ i. edit_rules s e (Element e (sym here i)) (live_there i) None None (at_tags (tagged tag))) (λ i. changed_row s (Element e (sym here i)) (λ row. row.label) (at_tags (tagged tag)))

    pub is_deletion : IsRowEdit s (changes.Delete e p) e fits own None None as_deleted (λ row. row.label)
    unfolding change_rules change_writes own_live has_live
    is_deletion =
        row_edit s (changes.Delete e p) e at fits own None None as_deleted (λ row. row.label) is
        (λ i. edit_rules s e (Element e (sym here i)) (live_there i) None None as_deleted) (λ i. changed_row s (Element e (sym here i)) (λ row. row.label) as_deleted)

-- the row of an attribute may have any label
pub attribute_key : (e : EventId) (p : Place) → IsAttributePlace p → barred_labels (Element e p) ≡ []
attribute_key e Place.Event h = absurd (false≢true (sym h.0))
attribute_key e _ h = refl

-- ---- the group that a fault names

-- one that bars to delete names none
pub lacking_names : (l : Option Label) (copy seen : Bool) (fault : ChangeFault) → rule_of fault ≡ lacking copy seen → Names l fault
unfolding rule_of lacking
lacking_names l true seen (GroupNotUsable g) h = grind (arith, h)
lacking_names l false true (GroupNotUsable g) h = grind (arith, h)
lacking_names l false false (GroupNotUsable g) h = grind (arith, h)
lacking_names l true seen (ElementExists u) h = grind (arith, h)
lacking_names l false true (ElementExists u) h = grind (arith, h)
lacking_names l false false (ElementExists u) h = grind (arith, h)
lacking_names l copy seen _ h = tt
