-- What an edit makes of the row of an event is a row, where it is no tombstone and its texts are not too long.
use Rattle.std.proofs.Common.{◌≡◌, ℕ, ◌+◌, ◌-◌, ◌≤◌, [], ◌∷◌, length, Bool, true, false, refl, sym, subst, arith, eqb, ◌&&◌, ◌||◌, not, ◌==◌, ltb-false, List}
use Rattle.misp_elem.specs.Prelude.{IsLabelBut, IsText, barred_labels, text_limit, text_size}
use Rattle.misp_elem.specs.declared.content.EventBody.{EventBody}
use Rattle.misp_elem.specs.Contents.{IsEventBody}
use Rattle.misp_elem.specs.Fields.{IsBetween, IsDate, IsOptionalUid, tags_size}
use Rattle.misp_model.proofs.Prelude.{Content, Element, IsContent, IsRow, IsStamp, Key, Place, Row, content_kind, false≢true, fits}
use Rattle.misp_model.proofs.Prelude.{given, is_gone, is_statement, is_too_long, label_kind, last_stamp, may_remove}
use Rattle.misp_model.specs.declared.edit.EventEditFields.{EventEditFields as EventEdit}
use Rattle.misp_model.specs.Edits.{at_event, edited_event}
use Rattle.misp_model.specs.Edit.{IsEventEdit}
use Rattle.misp_elem.specs.RowFacts.{is_tombstone}
use Rattle.misp_copies.specs.Copies.{is_event_key}
use Rattle.misp_copies.specs.Renewing.{renewed}
use Rattle.misp_copies.proofs.RenewedRows.{later_stamp}
use Rattle.misp_copies.proofs.FittingTexts.{fit_tags}
use Rattle.misp_edit.proofs.EditedRows.{given_holds}

event_fits : (e : EventEdit) (b : EventBody) → IsEventEdit e → IsEventBody b → is_too_long (Content.Event (edited_event e b)) ≡ false → IsEventBody (edited_event e b)
unfolding edited_event is_too_long text_size
event_fits e b ok is h =
    let info : List ℕ = given e.info b.info in
    let size : length info + tags_size b.tags ≤ 16384 = ltb-false 16384 (length info + tags_size b.tags) h in
    let told : IsText 1 text_limit info = given_holds (IsText 1 text_limit) e.info b.info ok.1.0 is.0 in
    let dated : IsDate (given e.date b.date) = given_holds IsDate e.date b.date ok.1.1.0 is.1.0 in
    let level : IsBetween 1 4 (given e.threat_level_id b.threat_level_id) = given_holds (IsBetween 1 4) e.threat_level_id b.threat_level_id ok.1.1.1.0 is.1.1.0 in
    let stage : IsBetween 0 2 (given e.analysis b.analysis) = given_holds (IsBetween 0 2) e.analysis b.analysis ok.1.1.1.1.0 is.1.1.1.0 in
    let extended : IsOptionalUid (given e.extends_uuid b.extends_uuid) = given_holds IsOptionalUid e.extends_uuid b.extends_uuid ok.1.1.1.1.1 is.1.1.1.1.1.0 in
    let tags = fit_tags (text_limit - length b.info) (text_limit - length info) b.tags is.1.1.1.1.1.1.1.1 (omega arith) in
    (told, (dated, (level, (stage, (is.1.1.1.1.0, (extended, (is.1.1.1.1.1.1.0, (is.1.1.1.1.1.1.1.0, tags))))))))

event_content : (e : EventEdit) (may : Bool) (c : Content) → IsEventEdit e → IsContent may c → is_too_long (at_event (edited_event e) c) ≡ false → IsContent may (at_event (edited_event e) c)
unfolding at_event
event_content e may (Content.Event b) ok is h = event_fits e b ok is h
event_content e may _ ok is h = is

-- the content of an event's row, where it is no tombstone
event_kind : (e : EventEdit) (c : Content) (l : ℕ) (held carried : Bool) → is_gone c ≡ false →
    ((content_kind c == 0) || ((content_kind c == 7) && (l == 0) && not held && not carried)) ≡ true → 0 ≡ content_kind (at_event (edited_event e) c)
unfolding at_event is_gone
event_kind e (Content.Event b) l held carried n g = refl
event_kind e Content.Gone l held carried n g = absurd (false≢true (sym n))
event_kind e _ l held carried n g = absurd (false≢true g)

module _ (now : ℕ) (row : Row) (key : is_event_key row.key ≡ true) (there : is_tombstone row ≡ false) (s : IsStamp now) (is : IsRow row) (t : eqb row.stamp last_stamp ≡ false) where
  pub event_row : (edit : EventEdit) → IsEventEdit edit → is_too_long (at_event (edited_event edit) row.content) ≡ false →
      IsRow (renewed now row (given edit.label row.label) (at_event (edited_event edit) row.content))
  unfolding renewed is_event_key is_tombstone
  event_row edit ok h =
      let content : IsContent (may_remove row.key) (at_event (edited_event edit) row.content) = event_content edit (may_remove row.key) row.content ok is.1.1.1.1.1.1 h in
      (is.0, (is.1.0, (later_stamp now row.stamp s is.1.1.0 t, (label row.key key is.1.1.1.0, (tt, (flags row.key key is.1.1.1.1.1.0, content))))))
    where
      label : (k : Key) → is_event_key k ≡ true → IsLabelBut (barred_labels k) row.label → IsLabelBut (barred_labels k) (given edit.label row.label)
      label (Element e Place.Event) a g = given_holds (IsLabelBut (5 ∷ [])) edit.label row.label ok.0 g
      label _ a g = absurd (false≢true a)

      flags : (k : Key) → is_event_key k ≡ true → fits k (label_kind row.label) (row.held, row.carried) (content_kind row.content) ≡ true →
          fits k (label_kind (given edit.label row.label)) (not (is_statement row.key || is_gone (at_event (edited_event edit) row.content)), false) (content_kind (at_event (edited_event edit) row.content)) ≡ true
      flags (Element e Place.Event) a g =
          subst (λ n. ((n == 0) || ((n == 7) && (label_kind (given edit.label row.label) == 0) && not (not (is_statement row.key || is_gone (at_event (edited_event edit) row.content))) && not false)) ≡ true)
          (event_kind edit row.content (label_kind row.label) row.held row.carried there g) refl
      flags _ a g = absurd (false≢true a)
