-- A change that writes a row of the caller's anew, by what the caller has.
use Rattle.std.proofs.Common.{◌≡◌, List, [], ◌∷◌, Bool, true, false, refl, ap, sym, ◌∙◌, map, eqb, not, ◌||◌, max, ◌+◌, Option, Some, None, is_some, option_to_list, find}
use Rattle.misp_model.specs.Prelude.{Stamp, first_rule, is_too_long, row_passes}
use Rattle.misp_history.proofs.Prelude.{Change, Content, Group, Inst, Key, Label, OrgId, Row, Rule, Scene, and_parts, change_rules, change_writes, changed, false≢true, find_passes, fresh_row}
use Rattle.misp_history.proofs.Prelude.{is_gone, is_published, is_row_of, is_statement, last_stamp, next_stamp, same_key-sound, same_org-sound, written}
use Rattle.misp_copies.proofs.Barred.{refuses_first}
use Rattle.misp_copies.specs.Barring.{rule_of, Refuses, or_else}
use Rattle.misp_copies.specs.declared.change_fault.ChangeFault.{ChangeFault}
use Rattle.misp_copies.specs.declared.change_fault.ChangeFault.TheVariants.{ElementFull, NoMemory}
use Rattle.misp_copies.specs.Renewing.{IsFull, renewed}
use Rattle.misp_edit.specs.Changing.{Changes, late_rules}
use Rattle.misp_edit.proofs.LateRules.{not_last}
use Rattle.misp_model.specs.Scene as rule

-- a change of the caller's row, as a row
changed_is : (s : Scene) (row : Row) (l : Label) (c : Content) → row.owner ≡ s.by → fresh_row (changed s row l c) ≡ renewed s.now row l c
unfolding fresh_row changed written renewed next_stamp is_published
changed_is s row l c h = λ i. record {
  owner = sym h i;
  key = row.key;
  stamp = max s.now (row.stamp + 1);
  label = l;
  held = no_more (is_statement row.key || is_gone c) i;
  carried = false;
  content = c;
}
  where
    no_more : (b : Bool) → not (b || false) ≡ not b
    no_more true = refl
    no_more false = refl

-- the owner's row of a key
module _ (o : OrgId) (k : Key) (rows : List Row) (row : Row) (own : Some row ≡ find (is_row_of o k) rows) where
  pub own_key : row.key ≡ k
  unfolding is_row_of
  own_key = same_key-sound row.key k (and_parts _ _ (find_passes (is_row_of o k) rows row (sym own))).1

  pub own_owner : row.owner ≡ o
  unfolding is_row_of
  own_owner = same_org-sound row.owner o (and_parts _ _ (find_passes (is_row_of o k) rows row (sym own))).0

-- where the later rules are passed, the row has not the last stamp
pub own_stamp : (groups : List Group) (here : Inst) (o : OrgId) (own : Option Row) (l : Option Label) (t : Option Stamp) (early : Option Rule) (row : Row) →
    None ≡ or_else early (first_rule (late_rules groups here o own l t)) → Some row ≡ own → eqb row.stamp last_stamp ≡ false
unfolding or_else
own_stamp groups here o own l t None row h k = not_last groups here o l t row (h ∙ ap (λ x. first_rule (late_rules groups here o x l t)) (sym k))
own_stamp groups here o own l t (Some r) row h k = absurd (false≢true (ap is_some h))

-- the change writes this row anew, if there is one: some rules come before its new content is looked at, and some after
pub record WritesOne (s : Scene) (c : Change) (before after : Option Rule) (own : Option Row) (label_of : Row → Label) (f : Content → Content) : Type 0 where
  pub rules : first_rule (change_rules s c) ≡ or_else before after
  pub writes : change_writes s c ≡ map (λ row. changed s row (label_of row) (f row.content)) (option_to_list own)
  pub owned : (row : Row) → Some row ≡ own → row.owner ≡ s.by
  pub stamp : (row : Row) → None ≡ before → Some row ≡ own → eqb row.stamp last_stamp ≡ false

-- the new content is too long
abbrev pub too_long : (Content → Content) → Option Row → Option Rule
too_long f own = first_rule ((row_passes (λ row. is_too_long (f row.content)) own, rule.ElementFull) ∷ [])

module _ {s : Scene} {c : Change} {before after : Option Rule} {own : Option Row} {label_of : Row → Label} {f : Content → Content} (one : WritesOne s c before after own label_of f) where
  abbrev all_written : Option Row → List Row
  all_written o = map fresh_row (map (λ row. changed s row (label_of row) (f row.content)) (option_to_list o))

  pub one_refused : (fault : ChangeFault) → rule_of fault ≡ before → Refuses (change_rules s c) fault
  one_refused fault h = refuses_first fault before after (change_rules s c) one.rules h

  module _ (h : None ≡ before) where
    pub one_left : first_rule (change_rules s c) ≡ after
    unfolding or_else
    one_left = one.rules ∙ ap (λ x. or_else x after) (sym h)

    pub one_absent : None ≡ after → None ≡ own → (rows : List Row) → rows ≡ [] → Changes s c rows
    one_absent a o rows same = (one_left ∙ sym a, same ∙ ap all_written o ∙ ap (map fresh_row) (sym one.writes))

    pub one_written : None ≡ after → (row : Row) → Some row ≡ own → (rows : List Row) → rows ≡ renewed s.now row (label_of row) (f row.content) ∷ [] → Changes s c rows
    one_written a row o rows same = (
      one_left ∙ sym a,
      same ∙ (λ i. sym (changed_is s row (label_of row) (f row.content) (one.owned row o)) i ∷ []) ∙ ap all_written o ∙ ap (map fresh_row) (sym one.writes),
    )

-- the same where no rule comes after
module _ {s : Scene} {c : Change} {before : Option Rule} {own : Option Row} {label_of : Row → Label} {f : Content → Content} (one : WritesOne s c before None own label_of f) (h : None ≡ before) where
  pub plain_absent : None ≡ own → (rows : List Row) → rows ≡ [] → Changes s c rows
  plain_absent o rows same = one_absent one h refl o rows same

  pub plain_written : (row : Row) → Some row ≡ own → (rows : List Row) → rows ≡ renewed s.now row (label_of row) (f row.content) ∷ [] → Changes s c rows
  plain_written row o rows same = one_written one h refl row o rows same

-- the same where the new content may be too long
module _ {s : Scene} {c : Change} {before : Option Rule} {own : Option Row} {label_of : Row → Label} {f : Content → Content} (one : WritesOne s c before (too_long f own) own label_of f) (h : None ≡ before) where
  pub edit_absent : None ≡ own → (rows : List Row) → rows ≡ [] → Changes s c rows
  unfolding row_passes first_rule
  edit_absent o rows same = one_absent one h (ap (too_long f) o) o rows same

  module _ (row : Row) (o : Some row ≡ own) where
    long_is : first_rule ((is_too_long (f row.content), rule.ElementFull) ∷ []) ≡ too_long f own
    unfolding row_passes
    long_is = ap (too_long f) o

    pub edit_full : (fault : ChangeFault) → IsFull (f row.content) fault → Refuses (change_rules s c) fault
    unfolding first_rule rule_of
    edit_full ElementFull g = one_left one h ∙ sym long_is ∙ ap (λ b. first_rule ((b, rule.ElementFull) ∷ [])) g
    edit_full NoMemory g = tt
    edit_full _ g = absurd g

    pub edit_written : (rows : List Row) → (rows ≡ renewed s.now row (label_of row) (f row.content) ∷ []) × (is_too_long (f row.content) ≡ false) → Changes s c rows
    unfolding first_rule
    edit_written rows g = one_written one h (sym (ap (λ b. first_rule ((b, rule.ElementFull) ∷ [])) g.1) ∙ long_is) row o rows g.0
