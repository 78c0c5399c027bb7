-- What rows of a whole event are known to be.
use Rattle.std.proofs.Common.{◌≡◌, ℕ, ◌+◌, ◌≤◌, Bool, true, false, length, Option, Some, None, refl, subst, arith, nat_lt, ◌==◌}
use Rattle.misp_lists.proofs.Prelude.{nat_tests}
use Rattle.misp_elem.specs.declared.key.KeyForm.TheVariants.{Element, Reference}
use Rattle.misp_elem.specs.declared.content.ReferenceBody.{ReferenceBody}
use Rattle.misp_elem.specs.Prelude.{IsAttributeBody, IsContentOf, IsKey, IsPlace, IsRow, IsUid, content_kind, text_limit}
use Rattle.misp_elem.specs.Contents.{IsContent, IsEventBody, IsObjectBody, IsReferenceBody}
use Rattle.misp_elem.specs.Visible.{place_in}
use Rattle.misp_format.specs.Prelude.{AttributeBody, Content, ElemId, EventBody, EventId, KeyForm, ObjectBody, Place, RowFields, label_kind, tags_size, text_size}
use Rattle.misp_elem.proofs.Sizes.{size_within}

-- ---- texts

pub not_longer : (n : ℕ) → n ≤ text_limit → nat_lt text_limit n ≡ false
not_longer n h = grind (arith, nat_tests)

pub attribute_size : (b : AttributeBody) → IsAttributeBody b → nat_lt text_limit (text_size (Content.Attribute b)) ≡ false
attribute_size b h = not_longer (text_size (Content.Attribute b)) (size_within true (Content.Attribute b) h)

pub reference_size : (b : ReferenceBody) → IsReferenceBody b → nat_lt text_limit (text_size (Content.Reference b)) ≡ false
reference_size b h = not_longer (text_size (Content.Reference b)) (size_within true (Content.Reference b) h)

pub object_size : (b : ObjectBody) → IsObjectBody b → nat_lt text_limit (text_size (Content.Object b)) ≡ false
object_size b h = not_longer (text_size (Content.Object b)) (size_within true (Content.Object b) h)

pub event_size : (b : EventBody) → IsEventBody b → nat_lt text_limit (length b.info + tags_size b.tags) ≡ false
unfolding text_size
event_size b h = not_longer (text_size (Content.Event b)) (size_within true (Content.Event b) h)

-- ---- contents

attribute_content : (content : Content) → (content_kind content == 2) ≡ true → IsContent true content → (b : AttributeBody) × ((content ≡ Content.Attribute b) × IsAttributeBody b)
attribute_content (Content.Attribute b) h is = (b, (refl, is))
attribute_content _ h is = absurd cc

object_content : (content : Content) → (content_kind content == 1) ≡ true → IsContent true content → (b : ObjectBody) × ((content ≡ Content.Object b) × IsObjectBody b)
object_content (Content.Object b) h is = (b, (refl, is))
object_content _ h is = absurd cc

reference_content : (content : Content) → (content_kind content == 3) ≡ true → IsContent true content → (b : ReferenceBody) × ((content ≡ Content.Reference b) × IsReferenceBody b)
reference_content (Content.Reference b) h is = (b, (refl, is))
reference_content _ h is = absurd cc

event_content : (content : Content) → content_kind content ≡ 0 → IsContent true content → (b : EventBody) × ((content ≡ Content.Event b) × IsEventBody b)
event_content (Content.Event b) h is = (b, (refl, is))
event_content _ h is = absurd (omega arith)

-- ---- by the keys of rows

of_key : (key : KeyForm) (r : RowFields) → IsRow r → r.key ≡ key → IsContentOf key (label_kind r.label) (r.held, r.carried) r.content
of_key key r row is = subst (λ k. IsContentOf k (label_kind r.label) (r.held, r.carried) r.content) is row.1.1.1.1.1

in_either : (event : EventId) (object : Option ElemId) (uuid : ElemId) (label : ℕ) (flags : Bool × Bool) (content : Content)
    → IsContentOf (Element event (place_in object uuid)) label flags content → ((content_kind content == 2) ≡ true) × IsContent true content
in_either event None uuid label flags content h = h
in_either event (Some o) uuid label flags content h = h

pub attribute_of_row : (event : EventId) (object : Option ElemId) (uuid : ElemId) (r : RowFields) → IsRow r → r.key ≡ Element event (place_in object uuid)
    → (b : AttributeBody) × ((r.content ≡ Content.Attribute b) × IsAttributeBody b)
attribute_of_row event object uuid r row key =
    let fits = in_either event object uuid (label_kind r.label) (r.held, r.carried) r.content (of_key (Element event (place_in object uuid)) r row key) in
    attribute_content r.content fits.0 fits.1

pub object_of_row : (event : EventId) (uuid : ElemId) (r : RowFields) → IsRow r → r.key ≡ Element event (Place.Object uuid)
    → (b : ObjectBody) × ((r.content ≡ Content.Object b) × IsObjectBody b)
object_of_row event uuid r row key = let fits = of_key (Element event (Place.Object uuid)) r row key in object_content r.content fits.0 fits.1

pub reference_of_row : (event : EventId) (owner : ElemId) (target : Place) (uuid : ElemId) (r : RowFields) → IsRow r → r.key ≡ Reference event owner target uuid
    → (b : ReferenceBody) × ((r.content ≡ Content.Reference b) × IsReferenceBody b)
reference_of_row event owner target uuid r row key = let fits = of_key (Reference event owner target uuid) r row key in reference_content r.content fits.0 fits.1

pub event_of_row : (event : EventId) (r : RowFields) → IsRow r → r.key ≡ Element event Place.Event → content_kind r.content ≡ 0
    → (b : EventBody) × ((r.content ≡ Content.Event b) × IsEventBody b)
event_of_row event r row key kind = event_content r.content kind (of_key (Element event Place.Event) r row key).1

pub key_of_row : (key : KeyForm) (r : RowFields) → IsRow r → r.key ≡ key → IsKey key
key_of_row key r row is = subst IsKey is row.1.0

pub uuid_in_place : (object : Option ElemId) (uuid : ElemId) → IsPlace (place_in object uuid) → IsUid uuid.0
uuid_in_place None uuid h = h
uuid_in_place (Some o) uuid h = h.1
