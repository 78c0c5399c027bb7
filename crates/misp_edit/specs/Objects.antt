-- Objects of the caller's copy and of a body, and what belongs to them, without a scene.
use Rattle.std.specs.Prelude.{◌≡◌, ℕ, Bool, true, not, cond, is_some, ◌&&◌, ◌||◌, List, Option}
use Rattle.misp_model.specs.Prelude.{BTreeSet, Draft, Element, ElemId, EventId, OrgId, Place, ReferenceDraft, Row, Submission, contains, is_deleted, is_row_of, list_all, list_any, nat_cmp}
use Rattle.misp_elem.specs.Prelude.{same_place}
use Rattle.misp_copies.specs.OwnRows.{has_live}

-- ---- sets

-- the set has the object
abbrev pub has_object : BTreeSet ℕ → ElemId → Bool
has_object objects x = contains nat_cmp objects x.0.0

-- the set has these objects
abbrev pub AreObjects : BTreeSet ℕ → (ElemId → Bool) → Type 0
AreObjects objects those = (x : ElemId) → has_object objects x ≡ those x

-- the row is the owner's of the object, and is deleted, or is not
unfoldable pub is_object_row : OrgId → EventId → Bool → ElemId → Row → Bool
is_object_row w e deleted x row =
    is_row_of w (Element e (Place.Object x)) row
    && cond deleted (is_deleted row) (not (is_deleted row))

-- the owner has such a row
unfoldable pub has_object_row : List Row → OrgId → EventId → Bool → ElemId → Bool
has_object_row rows w e deleted x = list_any (is_object_row w e deleted x) rows

-- the object is live in the owner's copy
unfoldable pub is_live_object : List Row → OrgId → EventId → ElemId → Bool
is_live_object rows w e x = has_live rows w (Element e (Place.Object x))

-- the object is among the parts
unfoldable pub is_brought : List Draft → ElemId → Bool
is_brought parts x = list_any (λ d. same_place d.place (Place.Object x)) parts

-- ---- what belongs to an object

-- an attribute in an object has it among those that are brought or live
unfoldable pub part_belongs : (ElemId → Bool) → (ElemId → Bool) → Place → Bool
part_belongs brought live Place.Event = true
part_belongs brought live (Place.Object x) = true
part_belongs brought live (Place.Attribute a) = true
part_belongs brought live (Place.ObjectAttribute x a) = brought x || live x

-- the object of a reference is brought, or is live and the reference has a target
unfoldable pub reference_belongs :
    (ElemId → Bool) → (ElemId → Bool) → (ElemId → Option Place) → ReferenceDraft → Bool
reference_belongs brought live target r =
    brought r.object || live r.object && is_some (target r.referenced)

-- each part and each reference of a body does so
unfoldable pub all_belong :
    (ElemId → Bool) → (ElemId → Bool) → (ElemId → Option Place) → Submission → Bool
all_belong brought live target b =
    list_all (λ d. part_belongs brought live d.place) b.parts
    && list_all (reference_belongs brought live target) b.references
