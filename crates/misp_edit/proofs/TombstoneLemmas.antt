-- Deleting an event, by what the caller has.
use Rattle.std.proofs.Common.{◌≡◌, ℕ, List, [], ◌∷◌, Bool, true, false, refl, ap, ◌∙◌, eqb, ◌&&◌, ◌||◌, not, None, find}
use Rattle.misp_elem.specs.Prelude.{IsLabelBut, IsRow, IsStamp, barred_labels, text_size}
use Rattle.misp_elem.specs.Row.{fits}
use Rattle.misp_model.specs.Prelude.{first_rule, granted_somewhere, is_too_long, sees}
use Rattle.misp_history.proofs.Prelude.{Content, DeleteEvent, Element, EventId, Key, Label, Place, Row, Rule, Scene, change_rules, change_writes, changed_row}
use Rattle.misp_history.proofs.Prelude.{event_key, false≢true, has_copy, holds_copy, is_at_limit, is_gone, is_row_of, is_statement, last_stamp, own_row}
use Rattle.misp_copies.specs.Copies.{is_event_key}
use Rattle.misp_copies.specs.Barring.{Refuses, lacking, or_else}
use Rattle.misp_copies.proofs.Barred.{first_of}
use Rattle.misp_copies.specs.declared.change_fault.ChangeFault.{ChangeFault}
use Rattle.misp_copies.specs.declared.change_fault.ChangeFault.TheVariants.{ElementFull, NoMemory}
use Rattle.misp_copies.specs.Renewing.{IsFull, renewed}
use Rattle.misp_edit.specs.Changing.{event_deleting}
use Rattle.misp_edit.proofs.LimitLemmas.{late_plain, or_nothing}
use Rattle.misp_edit.proofs.OneRow.{WritesOne, own_owner, own_stamp}
use Rattle.misp_edit.proofs.RowEdits.{own_row_test}
use Rattle.misp_copies.proofs.RenewedRows.{later_stamp}
use Rattle.misp_model.specs.Scene as rule

two_by : (copy seen : Bool) → first_rule ((not copy && not seen, rule.NotGranted) ∷ (not copy && seen, rule.NotOwner) ∷ []) ≡ lacking copy seen
unfolding first_rule lacking
two_by true seen = refl
two_by false true = refl
two_by false false = refl

module _ (s : Scene) (e : EventId) where
  event_deleting_is : first_rule (change_rules s (DeleteEvent e)) ≡ event_deleting s.rows s.groups s.at s.by e
  unfolding change_rules event_deleting holds_copy sees is_at_limit event_key own_row
  event_deleting_is =
      first_of ((not copy && not seen, rule.NotGranted) ∷ (not copy && seen, rule.NotOwner) ∷ []) ((is_at_limit s (Element e Place.Event), rule.TimeLimit) ∷ [])
      ∙ (λ i. or_else (two_by copy seen i) ((ap (λ b. first_rule ((b, rule.TimeLimit) ∷ [])) (own_row_test s (Element e Place.Event) (λ row. eqb row.stamp last_stamp)) ∙ late_plain s.groups s.at s.by (own_row s (Element e Place.Event))) i))
    where
      copy : Bool
      copy = has_copy s.rows s.by e

      seen : Bool
      seen = granted_somewhere s.rows s.groups s.at s.by (Element e Place.Event)

  pub is_event_deletion : WritesOne s (DeleteEvent e) (event_deleting s.rows s.groups s.at s.by e) None (find (is_row_of s.by (Element e Place.Event)) s.rows) (λ row. Label.Own) (λ c. Content.Gone)
  unfolding change_writes changed_row own_row event_key event_deleting
  is_event_deletion = record {
    rules = event_deleting_is ∙ or_nothing (event_deleting s.rows s.groups s.at s.by e);
    writes = refl;
    owned = own_owner s.by (Element e Place.Event) s.rows;
    stamp = own_stamp s.groups s.at s.by (find (is_row_of s.by (Element e Place.Event)) s.rows) None None (lacking (has_copy s.rows s.by e) (granted_somewhere s.rows s.groups s.at s.by (Element e Place.Event)));
  }

-- a tombstone has no text
pub tombstone_full : (rules : List (Bool × Rule)) (fault : ChangeFault) → IsFull Content.Gone fault → Refuses rules fault
unfolding is_too_long text_size
tombstone_full rules ElementFull g = absurd (false≢true g)
tombstone_full rules NoMemory g = tt
tombstone_full rules _ g = absurd g

pub tombstone_row : (now : ℕ) (row : Row) → IsStamp now → IsRow row → eqb row.stamp last_stamp ≡ false → is_event_key row.key ≡ true → IsRow (renewed now row Label.Own Content.Gone)
unfolding renewed is_event_key is_statement is_gone
tombstone_row now row s is t a = (is.0, (is.1.0, (later_stamp now row.stamp s is.1.1.0 t, (label row.key a, (tt, (flags row.key a, tt))))))
  where
    label : (k : Key) → is_event_key k ≡ true → IsLabelBut (barred_labels k) Label.Own
    label (Element e Place.Event) a = (refl, tt)
    label _ a = absurd (false≢true a)

    flags : (k : Key) → is_event_key k ≡ true → fits k 0 (not (is_statement k || is_gone Content.Gone), false) 7 ≡ true
    flags (Element e Place.Event) a = refl
    flags _ a = absurd (false≢true a)
