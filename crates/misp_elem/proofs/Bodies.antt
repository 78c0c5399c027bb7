-- What is in a row is read as it is written.
use Rattle.std.proofs.Common.{ℕ, ◌-◌, ◌<◌, ◌^◌, Bool, true, false, List, ◌∷◌, ◌++◌, [], length, Option, None, refl, sym, arith, w64}
use Rattle.std.proofs.lemmas.Bool.{and_parts, and_from}
use Rattle.misp_lists.proofs.Bytes.{wide64}
use Rattle.misp_elem.specs.Prelude.{AreTags, Content, IsAttributeBody, IsBetween, IsOptionalUid, IsStamp, IsText, IsUid, IsValue, OrgId, Tag, Uid, is_kept, text_limit}
use Rattle.misp_elem.specs.Fields.{is_date, IsDate, earliest, tags_size}
use Rattle.misp_elem.specs.declared.content.AttributeBody.{AttributeBody}
use Rattle.misp_elem.specs.declared.row.RowForm.{RowForm}
use Rattle.misp_elem.specs.declared.row.RowForm.TheVariants.{First, Second}
use Rattle.misp_elem.specs.Contents.{IsEventBody, IsObjectBody, IsReferenceBody, is_removal, IsRemoval, least_kind, IsProposed, IsProposalBody, IsSightingBody}
use Rattle.misp_elem.specs.Spelling.{IsOfFirstForm, uid, text, flag, optional_uid, stamp, tags, event_body, object_body, attribute_body, reference_body, proposal_body, sighting_body}
use Rattle.misp_elem.specs.Reading.{number_at, text_at, date_at, value_at}
use Rattle.misp_elem.specs.ContentReading.{relation_at, seen_at, event_body_at, object_body_at, attribute_body_at, reference_body_at, removal_at, proposed_value_at, proposal_body_at, sighting_body_at}
use Rattle.misp_elem.proofs.Exact.{IsField, IsMade, last, first, whole, whole_where, nothing, tested, under}
use Rattle.misp_elem.proofs.Keys.{org_field}
use Rattle.misp_elem.proofs.Numbers.{number_field, between_field, stamp_field, text_field, flag_field, optional_field, optional_moment_field}
use Rattle.misp_elem.proofs.ShortTexts.{is_text-date, no_text}
use Rattle.misp_elem.proofs.TagFields.{tags_field}

-- ---- fields

date_field : IsField IsDate text date_at
unfolding date_at
date_field = under IsDate (λ t h. h.1) (λ t h. (is_text-date t h, h)) (tested is_date (text_field 10 10 (omega arith)))

value_field : (room : ℕ) (kind : List ℕ) → room < 2 ^ 32 → IsField (IsValue room kind) text (value_at room kind)
unfolding value_at
value_field room kind small = under (IsValue room kind) (λ v h. and_from _ _ h.0 h.1) (λ v h. and_parts _ _ h) (tested (is_kept kind) (text_field 0 room small))

version_field : IsField (λ n. n < 2 ^ 64) stamp (number_at w64)
unfolding stamp
version_field = number_field w64 (2 ^ 64) wide64

removal_field : (may : Bool) → IsField (IsRemoval may) flag (removal_at may)
unfolding removal_at
removal_field may = under (IsRemoval may) (λ r h. h.1) (λ r h. (tt, h)) (tested (is_removal may) flag_field)

proposed_field : (remove : Bool) (room : ℕ) (kind : List ℕ) → room < 2 ^ 32 → IsField (IsProposed remove room kind) text (proposed_value_at remove room kind)
unfolding proposed_value_at
proposed_field true room kind small = text_field 0 0 (omega arith)
proposed_field false room kind small = value_field room kind small

kind_field : (remove : Bool) → IsField (IsText (least_kind remove) 100) text (text_at (least_kind remove) 100)
kind_field remove = text_field (least_kind remove) 100 (omega arith)

-- ---- bodies

event_made : IsMade
    (λ (p : List ℕ × (List ℕ × (ℕ × (ℕ × (ℕ × (Option Uid × (OrgId × (List ℕ × List Tag)))))))).
    IsText 1 text_limit p.0
    × (IsDate p.1.0
    × (IsBetween 1 4 p.1.1.0
    × (IsBetween 0 2 p.1.1.1.0 × (IsStamp p.1.1.1.1.0 × (IsOptionalUid p.1.1.1.1.1.0 × (IsUid p.1.1.1.1.1.1.0.0 × (IsText 0 64 p.1.1.1.1.1.1.1.0 × AreTags (text_limit - length p.0) p.1.1.1.1.1.1.1.1))))))))
    (λ p. record { info = p.0; date = p.1.0; threat_level_id = p.1.1.0; analysis = p.1.1.1.0; publish_stamp = p.1.1.1.1.0; extends_uuid = p.1.1.1.1.1.0; orgc = p.1.1.1.1.1.1.0; orgc_name = p.1.1.1.1.1.1.1.0; tags = p.1.1.1.1.1.1.1.1 })
    (λ p. text p.0 ++ (text p.1.0 ++ ((p.1.1.0 ∷ []) ++ ((p.1.1.1.0 ∷ []) ++ (stamp p.1.1.1.1.0 ++ (optional_uid p.1.1.1.1.1.0 ++ (uid p.1.1.1.1.1.1.0.0 ++ (text p.1.1.1.1.1.1.1.0 ++ tags p.1.1.1.1.1.1.1.1))))))))
    event_body_at
unfolding event_body_at
event_made =
    first (text_field 1 text_limit (omega arith)) (λ info. first date_field (λ date. first (between_field 1 4 (omega arith)) (λ threat. first (between_field 0 2 (omega arith)) (λ analysis.
    first stamp_field (λ published. first optional_field (λ extends. first org_field (λ orgc. first (text_field 0 64 (omega arith)) (λ name.
    last (λ ts. record { info = info; date = date; threat_level_id = threat; analysis = analysis; publish_stamp = published; extends_uuid = extends; orgc = orgc; orgc_name = name; tags = ts }) (tags_field (text_limit - length info))))))))))

pub event_field : IsField IsEventBody event_body event_body_at
event_field =
    whole (λ b. (b.info, (b.date, (b.threat_level_id, (b.analysis, (b.publish_stamp, (b.extends_uuid, (b.orgc, (b.orgc_name, b.tags))))))))) IsEventBody event_body (λ b. refl) (λ b h. h) (λ p h. h) (λ p h. refl) event_made

pub object_field : IsField IsObjectBody object_body object_body_at
unfolding object_body_at
object_field =
    whole (λ b. (b.name, (b.meta_category, (b.description, (b.comment, (b.template_uuid, (b.template_version, b.deleted))))))) IsObjectBody object_body (λ b. refl) (λ b h. h) (λ p h. h) (λ p h. refl)
    (first (text_field 1 text_limit (omega arith)) (λ name. first (text_field 0 (text_limit - length name) (omega arith)) (λ category.
    first (text_field 0 (text_limit - length name - length category) (omega arith)) (λ description.
    first (text_field 0 (text_limit - length name - length category - length description) (omega arith)) (λ comment.
    first optional_field (λ template. first version_field (λ version.
    last (λ deleted. record { name = name; meta_category = category; description = description; comment = comment; template_uuid = template; template_version = version; deleted = deleted }) flag_field)))))))

-- what the first form spells of an attribute has no part of an object and no moment
attribute_field_1 : IsField (λ b. IsAttributeBody b × IsOfFirstForm (Content.Attribute b)) (attribute_body First) (attribute_body_at First)
unfolding attribute_body_at relation_at seen_at
attribute_field_1 =
    whole_where (λ b. (b.kind, (b.category, (b.to_ids, (b.comment, (b.deleted, (b.value, (b.tags, tt)))))))) (λ b. IsAttributeBody b × IsOfFirstForm (Content.Attribute b)) (attribute_body First)
    (λ b h i. record b { object_relation = sym h.1.0 i; first_seen = sym h.1.1.0 i; last_seen = sym h.1.1.1 i })
    (λ b h. (h.0.0, (h.0.1.0, (h.0.1.1.0, (h.0.1.1.1.0, (h.0.1.1.1.1.0, (h.0.1.1.1.1.1.0, (h.0.1.1.1.1.1.1.0, tt))))))))
    (λ p h. ((h.0, (h.1.0, (h.1.1.0, (h.1.1.1.0, (h.1.1.1.1.0, (h.1.1.1.1.1.0, (h.1.1.1.1.1.1.0, (no_text (text_limit - length p.0 - length p.1.1.1.0 - length p.1.1.1.1.1.0 - tags_size p.1.1.1.1.1.1.0), (tt, tt))))))))), (refl, (refl, refl))))
    (λ p h. refl)
    (first (text_field 1 100 (omega arith)) (λ kind. first (between_field 0 15 (omega arith)) (λ category. first flag_field (λ to_ids.
    first (text_field 0 (text_limit - length kind) (omega arith)) (λ comment. first flag_field (λ deleted.
    first (value_field (text_limit - length kind - length comment) kind (omega arith)) (λ value.
    first (tags_field (text_limit - length kind - length comment - length value)) (λ ts.
    nothing (record { kind = kind; category = category; to_ids = to_ids; comment = comment; deleted = deleted; value = value; tags = ts; object_relation = []; first_seen = None; last_seen = None })))))))))

attribute_field_2 : IsField IsAttributeBody (attribute_body Second) (attribute_body_at Second)
unfolding attribute_body_at relation_at seen_at
attribute_field_2 =
    whole (λ b. (b.kind, (b.category, (b.to_ids, (b.comment, (b.deleted, (b.value, (b.tags, (b.object_relation, (b.first_seen, b.last_seen)))))))))) IsAttributeBody (attribute_body Second)
    (λ b. refl) (λ b h. h) (λ p h. h) (λ p h. refl)
    (first (text_field 1 100 (omega arith)) (λ kind. first (between_field 0 15 (omega arith)) (λ category. first flag_field (λ to_ids.
    first (text_field 0 (text_limit - length kind) (omega arith)) (λ comment. first flag_field (λ deleted.
    first (value_field (text_limit - length kind - length comment) kind (omega arith)) (λ value.
    first (tags_field (text_limit - length kind - length comment - length value)) (λ ts.
    first (text_field 0 (text_limit - length kind - length comment - length value - tags_size ts) (omega arith)) (λ relation.
    first (optional_moment_field 0) (λ seen.
    last (λ until. record { kind = kind; category = category; to_ids = to_ids; comment = comment; deleted = deleted; value = value; tags = ts; object_relation = relation; first_seen = seen; last_seen = until })
    (optional_moment_field (earliest seen))))))))))))

-- this form spells all of an attribute
abbrev pub IsAllOf : RowForm → AttributeBody → Type 0
IsAllOf First b = IsOfFirstForm (Content.Attribute b)
IsAllOf Second b = Unit {0}

pub attribute_field : (form : RowForm) → IsField (λ b. IsAttributeBody b × IsAllOf form b) (attribute_body form) (attribute_body_at form)
attribute_field First = attribute_field_1
attribute_field Second = under (λ b. IsAttributeBody b × Unit {0}) (λ b h. (h, tt)) (λ b h. h.0) attribute_field_2

pub reference_field : IsField IsReferenceBody reference_body reference_body_at
unfolding reference_body_at
reference_field =
    whole (λ b. (b.relationship_type, (b.comment, b.deleted))) IsReferenceBody reference_body (λ b. refl) (λ b h. h) (λ p h. h) (λ p h. refl)
    (first (text_field 0 text_limit (omega arith)) (λ kind. first (text_field 0 (text_limit - length kind) (omega arith)) (λ comment.
    last (λ deleted. record { relationship_type = kind; comment = comment; deleted = deleted }) flag_field)))

pub proposal_field : (may : Bool) → IsField (IsProposalBody may) proposal_body (proposal_body_at may)
unfolding proposal_body_at
proposal_field may =
    whole (λ b. (b.remove, (b.by_name, (b.kind, (b.category, (b.to_ids, (b.comment, b.value))))))) (IsProposalBody may) proposal_body (λ b. refl) (λ b h. h) (λ p h. h) (λ p h. refl)
    (first (removal_field may) (λ remove. first (text_field 0 64 (omega arith)) (λ name. first (kind_field remove) (λ kind.
    first (between_field 0 15 (omega arith)) (λ category. first flag_field (λ to_ids.
    first (text_field 0 (text_limit - length kind) (omega arith)) (λ comment.
    last (λ value. record { remove = remove; by_name = name; kind = kind; category = category; to_ids = to_ids; comment = comment; value = value })
    (proposed_field remove (text_limit - length kind - length comment) kind (omega arith)))))))))

pub sighting_field : IsField IsSightingBody sighting_body sighting_body_at
unfolding sighting_body_at
sighting_field =
    whole (λ b. (b.by_name, (b.kind, (b.date, b.source)))) IsSightingBody sighting_body (λ b. refl) (λ b h. h) (λ p h. h) (λ p h. refl)
    (first (text_field 0 64 (omega arith)) (λ name. first (between_field 0 2 (omega arith)) (λ kind. first stamp_field (λ date.
    last (λ source. record { by_name = name; kind = kind; date = date; source = source }) (text_field 0 text_limit (omega arith))))))
