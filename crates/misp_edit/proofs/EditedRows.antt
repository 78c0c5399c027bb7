-- What an edit makes of the row of an attribute or an object is a row, where its texts are not too long.
use Rattle.std.proofs.Common.{◌≡◌, ℕ, ◌+◌, ◌-◌, ◌≤◌, List, [], ◌∷◌, length, Bool, true, false, refl, ap, sym, subst, ◌∙◌, arith, eqb, ◌||◌, not, ◌==◌, Option, Some, None, ltb-false}
use Rattle.misp_elem.specs.Prelude.{IsAttributeBody, IsBetween, IsLabel, IsLabelBut, IsOptionalMoment, IsText, barred_labels, earliest, text_limit, text_size}
use Rattle.misp_elem.specs.declared.content.AttributeBody.{AttributeBody}
use Rattle.misp_elem.specs.declared.content.ObjectBody.{ObjectBody}
use Rattle.misp_elem.specs.Contents.{IsObjectBody}
use Rattle.misp_model.proofs.Prelude.{Content, Element, IsContent, IsRow, IsStamp, Key, Label, Place, Proposal, Reference, Row, Sighting, Verdict, at_attribute, content_kind, edited, fits}
use Rattle.misp_model.proofs.Prelude.{given, is_gone, is_statement, is_too_long, label_kind, last_stamp, may_remove}
use Rattle.misp_model.specs.declared.edit.AttributeEditFields.{AttributeEditFields as AttributeEdit}
use Rattle.misp_model.specs.declared.edit.ObjectEditFields.{ObjectEditFields as ObjectEdit}
use Rattle.misp_model.specs.declared.edit.Seen.{Seen}
use Rattle.misp_model.specs.Edits.{at_object, edited_object}
use Rattle.misp_model.specs.Edit.{IsGiven, IsKindValue, IsSeen, IsAttributeEdit, IsObjectEdit}
use Rattle.misp_copies.specs.Renewing.{renewed}
use Rattle.misp_copies.proofs.FittingTexts.{attribute_fits, fit_text}
use Rattle.misp_copies.proofs.RenewedRows.{later_stamp}

-- what holds of what is given and of what was there
pub given_holds : {A : Type 0} (P : A → Type 0) (o : Option A) (x : A) → IsGiven P o → P x → P (given o x)
unfolding given
given_holds P None x g h = h
given_holds P (Some y) x g h = g

-- the attribute after an edit
module _ (e : AttributeEdit) (b : AttributeBody) (ok : IsAttributeEdit e) (is : IsAttributeBody b) where
  -- the attribute with these
  abbrev with_these : Option (List ℕ × List ℕ) → Option (List ℕ) → Option Seen → AttributeBody
  with_these k c w = record b {
    category = given e.category b.category;
    to_ids = given e.to_ids b.to_ids;
    comment = given c b.comment;
    kind = elim k [ None ↦ b.kind | Some p ↦ p.0 ];
    value = elim k [ None ↦ b.value | Some p ↦ p.1 ];
    first_seen = elim w [ None ↦ b.first_seen | Some s ↦ s.first ];
    last_seen = elim w [ None ↦ b.last_seen | Some s ↦ s.last ];
  }

  category_is : IsBetween 0 15 (given e.category b.category)
  category_is = given_holds (IsBetween 0 15) e.category b.category ok.1.0 is.1.0

  abbrev WasSeen : Option ℕ → Option ℕ → Type 0
  WasSeen first last = IsOptionalMoment 0 first × IsOptionalMoment (earliest first) last

  seen_fits : (w : Option Seen) → IsGiven IsSeen w → WasSeen (elim w [ None ↦ b.first_seen | Some s ↦ s.first ]) (elim w [ None ↦ b.last_seen | Some s ↦ s.last ])
  seen_fits None g = is.1.1.1.1.1.1.1.1
  seen_fits (Some s) g = g

  these_fit : (k : Option (List ℕ × List ℕ)) (c : Option (List ℕ)) (w : Option Seen) → IsGiven IsKindValue k → IsGiven (IsText 0 text_limit) c → IsGiven IsSeen w → is_too_long (Content.Attribute (with_these k c w)) ≡ false → IsAttributeBody (with_these k c w)
  unfolding given
  these_fit None None w g d s h = attribute_fits (with_these None None w) _ _ _ _ is.0 category_is is.1.1.1.0 is.1.1.1.1.1.0 is.1.1.1.1.1.1.0 is.1.1.1.1.1.1.1.0 (seen_fits w s) h
  these_fit None (Some c) w g d s h = attribute_fits (with_these None (Some c) w) _ _ _ _ is.0 category_is d is.1.1.1.1.1.0 is.1.1.1.1.1.1.0 is.1.1.1.1.1.1.1.0 (seen_fits w s) h
  these_fit (Some p) None w g d s h = attribute_fits (with_these (Some p) None w) _ _ _ _ g.0 category_is is.1.1.1.0 g.1 is.1.1.1.1.1.1.0 is.1.1.1.1.1.1.1.0 (seen_fits w s) h
  these_fit (Some p) (Some c) w g d s h = attribute_fits (with_these (Some p) (Some c) w) _ _ _ _ g.0 category_is d g.1 is.1.1.1.1.1.1.0 is.1.1.1.1.1.1.1.0 (seen_fits w s) h

  edited_fits : is_too_long (Content.Attribute (edited e b)) ≡ false → IsAttributeBody (edited e b)
  unfolding edited
  edited_fits h = these_fit e.kind_value e.comment e.seen ok.1.1.1.0 ok.1.1.0 ok.1.1.1.1.0 h

edited_content : (e : AttributeEdit) (may : Bool) (c : Content) → IsAttributeEdit e → IsContent may c → is_too_long (at_attribute (edited e) c) ≡ false → IsContent may (at_attribute (edited e) c)
unfolding at_attribute
edited_content e may (Content.Attribute b) ok is h = edited_fits e b ok is h
edited_content e may _ ok is h = is

edited_kind : (e : AttributeEdit) (c : Content) → content_kind (at_attribute (edited e) c) ≡ content_kind c
unfolding at_attribute
edited_kind e (Content.Attribute b) = refl
edited_kind e _ = refl

-- a text that is given or was there fits where it has the room
given_text : (most room : ℕ) (o : Option (List ℕ)) (x : List ℕ) → IsGiven (IsText 0 text_limit) o → IsText 0 most x → length (given o x) ≤ room → IsText 0 room (given o x)
unfolding given
given_text most room None x g h k = fit_text 0 most room x h k
given_text most room (Some y) x g h k = fit_text 0 text_limit room y g k

object_fits : (e : ObjectEdit) (b : ObjectBody) → IsObjectEdit e → IsObjectBody b → is_too_long (Content.Object (edited_object e b)) ≡ false → IsObjectBody (edited_object e b)
unfolding edited_object is_too_long text_size
object_fits e b ok is h =
    let description : List ℕ = given e.description b.description in
    let comment : List ℕ = given e.comment b.comment in
    let size : length b.name + length b.meta_category + length description + length comment ≤ 16384 = ltb-false 16384 (length b.name + length b.meta_category + length description + length comment) h in
    let room : ℕ = text_limit - length b.name - length b.meta_category in
    let one : IsText 0 room description = given_text room room e.description b.description ok.1.1.0 is.1.1.0 (omega arith) in
    (is.0, (is.1.0, (one, (given_text (room - length b.description) (room - length description) e.comment b.comment ok.1.0 is.1.1.1.0 (omega arith), is.1.1.1.1))))

object_content : (e : ObjectEdit) (may : Bool) (c : Content) → IsObjectEdit e → IsContent may c → is_too_long (at_object (edited_object e) c) ≡ false → IsContent may (at_object (edited_object e) c)
unfolding at_object
object_content e may (Content.Object b) ok is h = object_fits e b ok is h
object_content e may _ ok is h = is

object_kind : (e : ObjectEdit) (c : Content) → content_kind (at_object (edited_object e) c) ≡ content_kind c
unfolding at_object
object_kind e (Content.Object b) = refl
object_kind e _ = refl

-- ---- rows that may have any label

some_barred : (n : ℕ) (ns : List ℕ) → (n ∷ ns) ≡ [] → ⊥
some_barred n ns h = let e : length (n ∷ ns) ≡ 0 = ap length h in omega arith

module _ (now : ℕ) (row : Row) (free : barred_labels row.key ≡ []) (s : IsStamp now) (is : IsRow row) (t : eqb row.stamp last_stamp ≡ false) where
  free_row : (l : Label) (c : Content) → IsLabel l → content_kind c ≡ content_kind row.content → IsContent (may_remove row.key) c → IsRow (renewed now row l c)
  unfolding renewed
  free_row l c label kind content =
      (is.0, (is.1.0, (later_stamp now row.stamp s is.1.1.0 t, (subst (λ barred. IsLabelBut barred l) (sym free) (refl, label), (tt, (any_fits row.key free is.1.1.1.1.1.0, content))))))
    where
      any_fits : (k : Key) → barred_labels k ≡ [] → fits k (label_kind row.label) (row.held, row.carried) (content_kind row.content) ≡ true →
          fits k (label_kind l) (not (is_statement row.key || is_gone c), false) (content_kind c) ≡ true
      any_fits (Element e Place.Event) f g = absurd (some_barred 5 [] f)
      any_fits (Element e (Place.Object x)) f g = ap (λ n. n == 1) kind ∙ g
      any_fits (Element e (Place.Attribute x)) f g = ap (λ n. n == 2) kind ∙ g
      any_fits (Element e (Place.ObjectAttribute x y)) f g = ap (λ n. n == 2) kind ∙ g
      any_fits (Reference e x u v) f g = absurd (some_barred 0 (1 ∷ 2 ∷ 3 ∷ 4 ∷ []) f)
      any_fits (Proposal e n) f g = absurd (some_barred 0 (1 ∷ 2 ∷ 3 ∷ 4 ∷ []) f)
      any_fits (Verdict e n i o) f g = absurd (some_barred 0 (1 ∷ 2 ∷ 3 ∷ 4 ∷ []) f)
      any_fits (Sighting e u i o v) f g = absurd (some_barred 0 (1 ∷ 2 ∷ 3 ∷ 4 ∷ []) f)

  pub attribute_row : (edit : AttributeEdit) → IsAttributeEdit edit → is_too_long (at_attribute (edited edit) row.content) ≡ false →
      IsRow (renewed now row (given edit.label row.label) (at_attribute (edited edit) row.content))
  attribute_row edit ok h =
      free_row (given edit.label row.label) (at_attribute (edited edit) row.content) (given_holds IsLabel edit.label row.label ok.0 is.1.1.1.0.1)
      (edited_kind edit row.content) (edited_content edit (may_remove row.key) row.content ok is.1.1.1.1.1.1 h)

  pub object_row : (edit : ObjectEdit) → IsObjectEdit edit → is_too_long (at_object (edited_object edit) row.content) ≡ false →
      IsRow (renewed now row (given edit.label row.label) (at_object (edited_object edit) row.content))
  object_row edit ok h =
      free_row (given edit.label row.label) (at_object (edited_object edit) row.content) (given_holds IsLabel edit.label row.label ok.0 is.1.1.1.0.1)
      (object_kind edit row.content) (object_content edit (may_remove row.key) row.content ok is.1.1.1.1.1.1 h)
