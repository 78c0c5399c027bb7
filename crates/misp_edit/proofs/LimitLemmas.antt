-- Changes that only the event and the limit of stamps refuse.
use Rattle.std.proofs.Common.{◌≡◌, ℕ, List, [], ◌∷◌, ◌++◌, Bool, true, false, refl, ap, sym, ◌∙◌, map, cond, eqb, ◌&&◌, Option, Some, None, is_some, option_to_list, find}
use Rattle.misp_model.specs.Prelude.{ElemId, as_deleted, at_tags, first_rule, granted_somewhere, has_home, has_tag, is_newer_than, is_too_long, own_live, own_reference, row_passes, untagged}
use Rattle.misp_history.proofs.Prelude.{Change, Content, Element, EventId, Group, Inst, Key, OrgId, Place, Row, Rule, Scene, and_parts, bars, change_rules, change_writes, changed, changed_row, event_key}
use Rattle.misp_history.proofs.Prelude.{false≢true, find_passes, has_copy, is_row_of, last_stamp, own_row, same_org-sound}
use Rattle.misp_model.specs.declared.change.Change.TheVariants as changes
use Rattle.misp_copies.specs.OwnRows.{has_live}
use Rattle.misp_copies.proofs.Barred.{first_of, bars_are}
use Rattle.misp_copies.specs.Barring.{Names, Refuses, barring, or_else}
use Rattle.misp_copies.specs.declared.change_fault.ChangeFault.{ChangeFault}
use Rattle.misp_copies.specs.declared.change_fault.ChangeFault.TheVariants.{ElementFull, NoMemory}
use Rattle.misp_copies.specs.Renewing.{IsFull}
use Rattle.misp_edit.specs.Changing.{late_rules, ruling, unusable_given}
use Rattle.misp_edit.specs.Limits.{with_tag, is_live_reference, live_reference}
use Rattle.misp_edit.proofs.OneRow.{WritesOne, own_owner, own_stamp}
use Rattle.misp_edit.proofs.RowEdits.{own_row_test}
use Rattle.misp_model.specs.Scene as rule

-- ---- faults

-- where a content is not too long, memory ran out
pub full_memory : (c : Content) (fault : ChangeFault) → is_too_long c ≡ false → IsFull c fault → fault ≡ NoMemory
full_memory c ElementFull s h = absurd (false≢true (sym s ∙ h))
full_memory c NoMemory s h = refl
full_memory c _ s h = absurd h

pub memory_refuses : (rules : List (Bool × Rule)) (fault : ChangeFault) → fault ≡ NoMemory → Refuses rules fault
memory_refuses rules fault e = rw e tt

pub memory_names : (fault : ChangeFault) → fault ≡ NoMemory → Names None fault
memory_names fault e = rw e tt

-- ---- the rules

pub late_plain : (groups : List Group) (here : Inst) (o : OrgId) (own : Option Row) →
    first_rule ((row_passes (λ row. eqb row.stamp last_stamp) own, rule.TimeLimit) ∷ []) ≡ first_rule (late_rules groups here o own None None)
unfolding late_rules unusable_given row_passes is_newer_than first_rule
late_plain groups here o None = refl
late_plain groups here o (Some row) = refl

pub or_nothing : (r : Option Rule) → r ≡ or_else r None
unfolding or_else
or_nothing None = refl
or_nothing (Some r) = refl

limited : (s : Scene) (c : Change) (e : EventId) (fits : Bool) (own : Option Row) (f : Content → Content) →
    change_rules s c ≡ bars s e fits ++ (row_passes (λ row. eqb row.stamp last_stamp) own, rule.TimeLimit) ∷ [] →
    change_writes s c ≡ map (λ row. changed s row row.label (f row.content)) (option_to_list own) → ((row : Row) → Some row ≡ own → row.owner ≡ s.by) →
    WritesOne s c (ruling s.rows s.groups s.at s.by e fits own None None) None own (λ row. row.label) f
unfolding ruling
limited s c e fits own f rules writes owned = record {
  rules =
      ap first_rule rules ∙ first_of (bars s e fits) ((row_passes (λ row. eqb row.stamp last_stamp) own, rule.TimeLimit) ∷ [])
      ∙ (λ i. or_else (bars_are s e fits i) (late_plain s.groups s.at s.by own i)) ∙ or_nothing (ruling s.rows s.groups s.at s.by e fits own None None);
  writes = writes;
  owned = owned;
  stamp = own_stamp s.groups s.at s.by own None None (barring (has_home s.rows s.by e) (has_copy s.rows s.by e) (granted_somewhere s.rows s.groups s.at s.by (event_key e)) fits);
}

-- ---- tags

tag_test : (name : List ℕ) (o : Option Row) → row_passes (λ row. has_tag name row && eqb row.stamp last_stamp) o ≡ row_passes (λ row. eqb row.stamp last_stamp) (with_tag name o)
unfolding row_passes with_tag
tag_test name None = refl
tag_test name (Some row) = one (has_tag name row)
  where
    one : (b : Bool) → (b && eqb row.stamp last_stamp) ≡ row_passes (λ r. eqb r.stamp last_stamp) (cond b (Some row) None)
    one true = refl
    one false = refl

tag_list : {A : Type 0} (f : Row → A) (name : List ℕ) (o : Option Row) → cond (row_passes (has_tag name) o) (map f (option_to_list o)) [] ≡ map f (option_to_list (with_tag name o))
unfolding row_passes with_tag
tag_list f name None = refl
tag_list f name (Some row) = one (has_tag name row)
  where
    one : (b : Bool) → cond b (f row ∷ []) [] ≡ map f (option_to_list (cond b (Some row) None))
    one true = refl
    one false = refl

kept_row : (name : List ℕ) (o : Option Row) (row : Row) → Some row ≡ with_tag name o → Some row ≡ o
unfolding with_tag
kept_row name None row h = h
kept_row name (Some own) row h = one (has_tag name own) h
  where
    one : (b : Bool) → Some row ≡ cond b (Some own) None → Some row ≡ Some own
    one true g = g
    one false g = absurd (false≢true (sym (ap is_some g)))

-- removing a tag, by what the caller has at the place
module _ (s : Scene) (e : EventId) {at p : Place} (here : at ≡ p) {fits : Bool} (live : fits ≡ has_live s.rows s.by (Element e at))
    (name : List ℕ) {own : Option Row} (is : own ≡ with_tag name (find (is_row_of s.by (Element e at)) s.rows)) where
  abbrev key : Key
  key = Element e at

  untag_rules : change_rules s (changes.Untag e p name) ≡ bars s e fits ++ (row_passes (λ row. eqb row.stamp last_stamp) own, rule.TimeLimit) ∷ []
  unfolding change_rules own_live has_live own_row
  untag_rules =
      (λ i. change_rules s (changes.Untag e (sym here i) name))
      ∙ (λ i. bars s e (sym live i) ++ ((own_row_test s key (λ row. has_tag name row && eqb row.stamp last_stamp) ∙ tag_test name (own_row s key) ∙ ap (row_passes (λ row. eqb row.stamp last_stamp)) (sym is)) i, rule.TimeLimit) ∷ [])

  untag_writes : change_writes s (changes.Untag e p name) ≡ map (λ row. changed s row row.label (at_tags (untagged name) row.content)) (option_to_list own)
  unfolding change_writes changed_row own_row
  untag_writes =
      (λ i. change_writes s (changes.Untag e (sym here i) name))
      ∙ (λ i. cond (own_row_test s key (has_tag name) i) (changed_row s key (λ row. row.label) (at_tags (untagged name))) [])
      ∙ tag_list (λ row. changed s row row.label (at_tags (untagged name) row.content)) name (own_row s key)
      ∙ ap (λ o. map (λ row. changed s row row.label (at_tags (untagged name) row.content)) (option_to_list o)) (sym is)

  pub is_untagging : WritesOne s (changes.Untag e p name) (ruling s.rows s.groups s.at s.by e fits own None None) None own (λ row. row.label) (at_tags (untagged name))
  is_untagging =
      limited s (changes.Untag e p name) e fits own (at_tags (untagged name)) untag_rules untag_writes
      (λ row h. own_owner s.by key s.rows row (kept_row name (find (is_row_of s.by key) s.rows) row (h ∙ is)))

-- ---- references

some_is : (o : Option Row) → row_passes (λ row. true) o ≡ is_some o
unfolding row_passes
some_is None = refl
some_is (Some row) = refl

-- deleting a reference, by the caller's live one
module _ (s : Scene) (e : EventId) (x u : ElemId) {own : Option Row} (is : own ≡ live_reference s.rows s.by e x u) {there : Bool} (found : there ≡ is_some own) where
  reference_is : own_reference s e x u ≡ own
  unfolding own_reference live_reference is_live_reference
  reference_is = sym is

  pub is_reference_deletion : WritesOne s (changes.DeleteReference e x u) (ruling s.rows s.groups s.at s.by e there own None None) None own (λ row. row.label) as_deleted
  unfolding change_rules change_writes live_reference is_live_reference
  is_reference_deletion =
      limited s (changes.DeleteReference e x u) e there own as_deleted
      ((λ i. bars s e (row_passes (λ row. true) (reference_is i)) ++ (row_passes (λ row. eqb row.stamp last_stamp) (reference_is i), rule.TimeLimit) ∷ [])
      ∙ (λ i. bars s e ((some_is own ∙ sym found) i) ++ (row_passes (λ row. eqb row.stamp last_stamp) own, rule.TimeLimit) ∷ []))
      (λ i. map (λ row. changed s row row.label (as_deleted row.content)) (option_to_list (reference_is i)))
      (λ row h. same_org-sound row.owner s.by (and_parts _ _ (find_passes (is_live_reference s.rows s.by e x u) s.rows row (sym (h ∙ is)))).0)
