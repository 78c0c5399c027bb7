-- What an accepted proposal makes is a row, where its texts are not too long.
use Rattle.std.proofs.Common.{◌≡◌, ℕ, ◌-◌, length, Bool, true, false, refl, sym, subst, ◌∙◌, arith, cond, eqb, not, ap, ◌==◌}
use Rattle.misp_elem.specs.Prelude.{IsAttributeBody, IsText, text_limit}
use Rattle.misp_elem.specs.Contents.{IsProposalBody, IsProposed, IsRemoval, least_kind}
use Rattle.misp_elem.specs.Key.{place_kind}
use Rattle.misp_elem.specs.declared.content.AttributeBody.{AttributeBody}
use Rattle.misp_elem.proofs.ShortTexts.{no_text}
use Rattle.misp_model.proofs.Prelude.{Content, Element, EventId, IsContent, IsRow, IsStamp, IsUid, OrgId, Place, ProposalBody, ProposalName, Row, accepted, at_attribute, content_kind, false≢true, is_for_new, is_too_long}
use Rattle.misp_model.proofs.Prelude.{judged_place, last_stamp, made, may_remove}
use Rattle.misp_model.specs.Statements.{judged_at}
use Rattle.misp_copies.specs.Renewing.{renewed}
use Rattle.misp_copies.proofs.FittingTexts.{attribute_fits}
use Rattle.misp_copies.proofs.RenewedRows.{renewed_row}
use Rattle.misp_statements.specs.Judging.{held_row}

-- ---- the row that is changed

-- deleted, or with the texts of the proposal
accepted_fits : (p : ProposalBody) (b : AttributeBody) → IsProposalBody true p → IsAttributeBody b → is_too_long (Content.Attribute (accepted p b)) ≡ false → IsAttributeBody (accepted p b)
unfolding accepted
accepted_fits p b ok is h = by p.remove ok.1.1.0 ok.1.1.1.1.1.1 h
  where
    changed : AttributeBody
    changed = record b { kind = p.kind; category = p.category; to_ids = p.to_ids; comment = p.comment; value = p.value }

    by : (r : Bool) → IsText (least_kind r) 100 p.kind → IsProposed r (text_limit - length p.kind - length p.comment) p.kind p.value →
        is_too_long (Content.Attribute (cond r (record b { deleted = true }) changed)) ≡ false → IsAttributeBody (cond r (record b { deleted = true }) changed)
    by true kind value g = is
    by false kind value g = attribute_fits changed _ _ _ _ kind ok.1.1.1.0 ok.1.1.1.1.1.0 value is.1.1.1.1.1.1.0 is.1.1.1.1.1.1.1.0 is.1.1.1.1.1.1.1.1 g

accepted_content : (p : ProposalBody) (may : Bool) (c : Content) → IsProposalBody true p → IsContent may c → is_too_long (at_attribute (accepted p) c) ≡ false → IsContent may (at_attribute (accepted p) c)
unfolding at_attribute
accepted_content p may (Content.Attribute b) ok is h = accepted_fits p b ok is h
accepted_content p may (Content.Event b) ok is h = is
accepted_content p may (Content.Object b) ok is h = is
accepted_content p may (Content.Reference b) ok is h = is
accepted_content p may (Content.Proposal b) ok is h = is
accepted_content p may (Content.Verdict b) ok is h = is
accepted_content p may (Content.Sighting b) ok is h = is
accepted_content p may Content.Gone ok is h = is

accepted_kind : (p : ProposalBody) (c : Content) → content_kind (at_attribute (accepted p) c) ≡ content_kind c
unfolding at_attribute
accepted_kind p (Content.Attribute b) = refl
accepted_kind p (Content.Event b) = refl
accepted_kind p (Content.Object b) = refl
accepted_kind p (Content.Reference b) = refl
accepted_kind p (Content.Proposal b) = refl
accepted_kind p (Content.Verdict b) = refl
accepted_kind p (Content.Sighting b) = refl
accepted_kind p Content.Gone = refl

pub accepted_row : (p : ProposalBody) (now : ℕ) (row : Row) → IsProposalBody true p → IsStamp now → IsRow row → eqb row.stamp last_stamp ≡ false → is_too_long (at_attribute (accepted p) row.content) ≡ false →
    IsRow (renewed now row row.label (at_attribute (accepted p) row.content))
accepted_row p now row ok s is e h =
    renewed_row now row (at_attribute (accepted p) row.content) s is e (accepted_kind p row.content) (accepted_content p (may_remove row.key) row.content ok is.1.1.1.1.1.1 h)

-- ---- the row that is new

made_fits : (p : ProposalBody) → IsProposalBody false p → IsAttributeBody (made p)
unfolding made
made_fits p ok = by p.remove ok.0 ok.1.1.0 ok.1.1.1.1.1.1
  where
    by : (r : Bool) → IsRemoval false r → IsText (least_kind r) 100 p.kind → IsProposed r (text_limit - length p.kind - length p.comment) p.kind p.value → IsAttributeBody (made p)
    by true may kind value = absurd (false≢true may)
    by false may kind value = (kind, (ok.1.1.1.0, (tt, (ok.1.1.1.1.1.0, (tt, (value, ((omega arith, tt), (no_text _, (tt, tt)))))))))

new_place : (n : ProposalName) → is_for_new n ≡ true → judged_place n ≡ Place.Attribute n.uuid
unfolding is_for_new judged_place judged_at
new_place n h = by n.target h
  where
    by : (t : Place) → (elim t as (λ x. Bool) [ Place.Event ↦ true | Place.Object x ↦ false | Place.Attribute a ↦ false | Place.ObjectAttribute x a ↦ false ]) ≡ true → judged_at t n.uuid ≡ Place.Attribute n.uuid
    by Place.Event g = refl
    by (Place.Object x) g = absurd (false≢true g)
    by (Place.Attribute a) g = absurd (false≢true g)
    by (Place.ObjectAttribute x a) g = absurd (false≢true g)

pub made_is_row : (o : OrgId) (e : EventId) (n : ProposalName) (now : ℕ) (p : ProposalBody) → IsUid o.0 → IsUid e.0 → IsUid n.uuid.0 → IsStamp now → is_for_new n ≡ true → IsProposalBody false p →
    IsRow (held_row o (Element e (judged_place n)) now (Content.Attribute (made p)))
unfolding held_row
made_is_row o e n now p w f u s new ok =
    subst (λ place. IsRow (held_row o (Element e place) now (Content.Attribute (made p)))) (sym (new_place n new))
    (w, ((f, (refl, u)), (s, ((refl, tt), (tt, (refl, made_fits p ok))))))

-- a proposal asks to delete only what is there
pub new_removes : (n : ProposalName) (new : Bool) → is_for_new n ≡ new → not (place_kind n.target == 0) ≡ not new
unfolding is_for_new
new_removes n new h = by n.target ∙ ap not h
  where
    by : (t : Place) → not (place_kind t == 0) ≡ not (elim t as (λ x. Bool) [ Place.Event ↦ true | Place.Object x ↦ false | Place.Attribute a ↦ false | Place.ObjectAttribute x a ↦ false ])
    by Place.Event = refl
    by (Place.Object x) = refl
    by (Place.Attribute a) = refl
    by (Place.ObjectAttribute x a) = refl
