-- What a change makes of a row is a row.
use Rattle.std.proofs.Common.{◌≡◌, ◌≢◌, ℕ, ◌+◌, Bool, true, false, refl, ap, ◌∙◌, arith, eqb, ◌&&◌, ◌||◌, not, max, ◌==◌}
use Rattle.std.proofs.lemmas.Bool.{eqb-false}
use Rattle.misp_model.proofs.Prelude.{Content, Element, IsContent, IsRow, IsStamp, Key, Place, Proposal, Reference, Row, Sighting, Verdict, content_kind, fits, is_gone, is_statement, label_kind, last_stamp, may_remove}
use Rattle.misp_copies.specs.Renewing.{renewed}

pub later_stamp : (now old : ℕ) → IsStamp now → IsStamp old → eqb old last_stamp ≡ false → IsStamp (max now (old + 1))
unfolding last_stamp
later_stamp now old h k e = let d : old ≢ 253402300799 = eqb-false old 253402300799 e in omega arith

-- the content of the event's row: the event or its tombstone
event_fits : (c : Content) (l : ℕ) (h a : Bool) (k : ℕ) → content_kind c ≡ k →
    ((k == 0) || ((k == 7) && (l == 0) && not h && not a)) ≡ true →
    ((content_kind c == 0) || ((content_kind c == 7) && (l == 0) && not (not (false || is_gone c)) && not false)) ≡ true
unfolding is_gone
event_fits (Content.Event b) l h a k e g = refl
event_fits Content.Gone l h a k e g = grind (arith, e, g)
event_fits (Content.Object b) l h a k e g = grind (arith, e, g)
event_fits (Content.Attribute b) l h a k e g = grind (arith, e, g)
event_fits (Content.Reference b) l h a k e g = grind (arith, e, g)
event_fits (Content.Proposal b) l h a k e g = grind (arith, e, g)
event_fits (Content.Verdict b) l h a k e g = grind (arith, e, g)
event_fits (Content.Sighting b) l h a k e g = grind (arith, e, g)

still_fits : (key : Key) (c old : Content) (l : ℕ) (h a : Bool) → content_kind c ≡ content_kind old → fits key l (h, a) (content_kind old) ≡ true →
    fits key l (not (is_statement key || is_gone c), false) (content_kind c) ≡ true
unfolding is_statement
still_fits (Element e Place.Event) c old l h a k g = event_fits c l h a (content_kind old) k g
still_fits (Element e (Place.Object x)) c old l h a k g = ap (λ n. n == 1) k ∙ g
still_fits (Element e (Place.Attribute x)) c old l h a k g = ap (λ n. n == 2) k ∙ g
still_fits (Element e (Place.ObjectAttribute x y)) c old l h a k g = ap (λ n. n == 2) k ∙ g
still_fits (Reference e x t u) c old l h a k g = ap (λ n. n == 3) k ∙ g
still_fits (Proposal e n) c old l h a k g = ap (λ m. m == 4) k ∙ g
still_fits (Verdict e n i o) c old l h a k g = ap (λ m. m == 5) k ∙ g
still_fits (Sighting e t i o u) c old l h a k g = ap (λ m. m == 6) k ∙ g

-- under its label, and with a content of its kind
pub renewed_row : (now : ℕ) (row : Row) (c : Content) → IsStamp now → IsRow row → eqb row.stamp last_stamp ≡ false → content_kind c ≡ content_kind row.content → IsContent (may_remove row.key) c →
    IsRow (renewed now row row.label c)
unfolding renewed
renewed_row now row c s is e kind content =
    (is.0, (is.1.0, (later_stamp now row.stamp s is.1.1.0 e, (is.1.1.1.0, (tt, (still_fits row.key c row.content (label_kind row.label) row.held row.carried kind is.1.1.1.1.1.0, content))))))
