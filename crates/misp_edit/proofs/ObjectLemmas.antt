-- Objects of the caller's copy, and what belongs to them.
use Rattle.std.proofs.Common.{◌≡◌, ◌∙◌, Bool, true, false, not, ◌&&◌, ◌||◌, List, [], ◌∷◌, Option, Some, None, is_some, ap, sym, refl}
use Rattle.misp_model.proofs.Prelude.{AreRows, Element, ElemId, EventId, OrgId, Place, ReferenceDraft, Row, Scene, Submission, and_parts, event_of, has_gone, has_target, is_deleted, is_live, is_row_of, list_all, list_any, same_key-sound}
use Rattle.misp_model.proofs.Prelude.{same_org-sound, target_of}
use Rattle.misp_model.specs.Adding.{brings_object, fits_parts, object_is_there, part_fits, reference_fits}
use Rattle.misp_model.specs.Scene.{own_live}
use Rattle.misp_copies.specs.OwnRows.{has_live}
use Rattle.misp_edit.specs.Objects.{is_object_row, has_object_row, is_live_object, is_brought, part_belongs, reference_belongs, all_belong}
use Rattle.misp_edit.specs.Targets.{is_under}
use Rattle.misp_edit.proofs.TargetLemmas.{live_is, not_live}

module _ (rows : List Row) (w : OrgId) (e : EventId) where
  module _ (x : ElemId) (row : Row) (is : is_row_of w (Element e (Place.Object x)) row ≡ true) where
    owned : row.owner ≡ w
    unfolding is_row_of
    owned = same_org-sound row.owner w (and_parts _ _ is).0

    keyed : row.key ≡ Element e (Place.Object x)
    unfolding is_row_of
    keyed = same_key-sound row.key (Element e (Place.Object x)) (and_parts _ _ is).1

  -- a test of the rows of an object is another where both say the same of each of them
  rows_alike : (x : ElemId) (p q : Row → Bool) → ((row : Row) → is_row_of w (Element e (Place.Object x)) row ≡ true → p row ≡ q row) → (rs : List Row) →
      list_any (λ row. is_row_of w (Element e (Place.Object x)) row && p row) rs ≡ list_any (λ row. is_row_of w (Element e (Place.Object x)) row && q row) rs
  rows_alike x p q same rs = λ i. list_any (λ row. one row (is_row_of w (Element e (Place.Object x)) row) refl i) rs
    where
      one : (row : Row) (b : Bool) → is_row_of w (Element e (Place.Object x)) row ≡ b → (is_row_of w (Element e (Place.Object x)) row && p row) ≡ (is_row_of w (Element e (Place.Object x)) row && q row)
      one row true h = ap (λ a. is_row_of w (Element e (Place.Object x)) row && a) (same row h)
      one row false h = rw h refl

  -- where there is no tombstone, an object that is not deleted is live
  pub live_there : AreRows rows → has_gone rows w e ≡ false → (x : ElemId) → has_object_row rows w e false x ≡ is_live_object rows w e x
  unfolding has_object_row is_object_row is_live_object has_live is_under
  live_there are none x = rows_alike x (λ row. not (is_deleted row)) (is_live rows) one rows
    where
      one : (row : Row) → is_row_of w (Element e (Place.Object x)) row ≡ true → not (is_deleted row) ≡ is_live rows row
      one row h = sym (live_is rows w e are none (λ u. has_object_row rows w e true (record { 0 = record { 0 = u } })) (λ y. refl) row (Place.Object x) (owned x row h) (keyed x row h) ∙ two (is_deleted row))
        where
          two : (b : Bool) → (not b && not false) ≡ not b
          two true = refl
          two false = refl

  -- where there is one, none is live
  pub none_live : has_gone rows w e ≡ true → (x : ElemId) → is_live_object rows w e x ≡ false
  unfolding is_live_object has_live event_of
  none_live gone x = rows_alike x (is_live rows) (λ row. false) (λ row h. not_live rows w e gone row (owned x row h) (ap event_of (keyed x row h))) rows ∙ none rows
    where
      one : (b : Bool) → (b && false) ≡ false
      one true = refl
      one false = refl

      none : (rs : List Row) → list_any (λ row. is_row_of w (Element e (Place.Object x)) row && false) rs ≡ false
      none [] = refl
      none (r ∷ rs) = rw (one (is_row_of w (Element e (Place.Object x)) r), none rs) refl

-- what belongs to its objects fits
module _ (s : Scene) (b : Submission) (target : ElemId → Option Place) (is : (u : ElemId) → target u ≡ target_of s b.event b.parts u) where
  abbrev brought : ElemId → Bool
  brought = is_brought b.parts

  abbrev live : ElemId → Bool
  live = is_live_object s.rows s.by b.event

  part_is : (p : Place) → part_belongs brought live p ≡ part_fits s b p
  unfolding part_belongs part_fits object_is_there brings_object is_brought own_live is_live_object has_live
  part_is (Place.ObjectAttribute x a) = refl
  part_is _ = refl

  has_one : (u : ElemId) → is_some (target u) ≡ (elim (target_of s b.event b.parts u) as (λ o. Bool) [ Some t ↦ true | None ↦ false ])
  has_one u = ap is_some (is u) ∙ one (target_of s b.event b.parts u)
    where
      one : (o : Option Place) → is_some o ≡ (elim o as (λ x. Bool) [ Some t ↦ true | None ↦ false ])
      one None = refl
      one (Some t) = refl

  reference_is : (r : ReferenceDraft) → reference_belongs brought live target r ≡ reference_fits s b r
  unfolding reference_belongs reference_fits has_target brings_object is_brought own_live is_live_object has_live
  reference_is r = λ i. brings_object b r.object || own_live s (Element b.event (Place.Object r.object)) && has_one r.referenced i

  pub fits_is : all_belong brought live target b ≡ fits_parts s b
  unfolding all_belong fits_parts
  fits_is = λ i. list_all (λ d. part_is d.place i) b.parts && list_all (λ r. reference_is r i) b.references
