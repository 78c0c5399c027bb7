-- Texts that fit where there is room for them, and an attribute whose parts together are not too long.
use Rattle.std.proofs.Common.{◌≡◌, ℕ, ◌+◌, ◌-◌, ◌≤◌, List, [], ◌∷◌, length, Bool, true, false, refl, sym, ◌∙◌, arith, min, ◌&&◌, nat_le, sum_by, ltb-false}
use Rattle.std.proofs.lemmas.List.Sums.{sum_by-cons}
use Rattle.misp_elem.specs.Prelude.{AreTags, AreTagsAfter, IsAttributeBody, IsBetween, IsOptionalMoment, IsTagName, IsText, IsValue, earliest, is_after, is_kept, is_text, is_utf8, text_limit, text_size}
use Rattle.misp_elem.specs.declared.content.AttributeBody.{AttributeBody}
use Rattle.misp_elem.specs.Fields.{tags_size}
use Rattle.misp_model.proofs.Prelude.{Content, Tag, and_from, and_parts, false≢true, is_too_long, nat_tests}

-- a text fits where it has the room
room_for : (most room n : ℕ) (least utf8 : Bool) → (least && nat_le n most && utf8) ≡ true → n ≤ room → (least && nat_le n room && utf8) ≡ true
room_for most room n true true h k = grind (arith, nat_tests)
room_for most room n true false h k = absurd (false≢true (sym (never (nat_le n most)) ∙ h))
  where
    never : (b : Bool) → (true && b && false) ≡ false
    never true = refl
    never false = refl
room_for most room n false utf8 h k = absurd (false≢true h)

pub fit_text : (least most room : ℕ) (text : List ℕ) → IsText least most text → length text ≤ room → IsText least room text
fit_text least most room text h k = room_for most room (length text) (nat_le least (length text)) (is_utf8 text) h k

pub fit_value : (most room : ℕ) (kind value : List ℕ) → IsValue most kind value → length value ≤ room → IsValue room kind value
fit_value most room kind value h k = and_from (is_text 0 room value) (is_kept kind value) (fit_text 0 most room value (and_parts (is_text 0 most value) (is_kept kind value) h).0 k) (and_parts (is_text 0 most value) (is_kept kind value) h).1

-- the length of a name
pub name_size : (old : ℕ) (before name : List ℕ) → IsTagName old before name → (nat_le 1 (length name) ≡ true) × (nat_le (length name) (min 255 old) ≡ true)
name_size old before name h =
    and_parts (nat_le 1 (length name)) (nat_le (length name) (min 255 old))
    (and_parts (nat_le 1 (length name) && nat_le (length name) (min 255 old)) (is_utf8 name) (and_parts (is_text 1 (min 255 old) name) (is_after before name) h).0).0

-- a name of at most 255 bytes has room where there is room
pub fit_name : (old room : ℕ) (before name : List ℕ) → IsTagName old before name → length name ≤ room → IsTagName room before name
fit_name old room before name h k =
    let a : (is_text 1 (min 255 old) name ≡ true) × (is_after before name ≡ true) = and_parts (is_text 1 (min 255 old) name) (is_after before name) h in
    and_from (is_text 1 (min 255 room) name) (is_after before name) (fit_text 1 (min 255 old) (min 255 room) name a.0 (short_enough (length name) old room (name_size old before name h).1 k)) a.1
  where
    short_enough : (n old room : ℕ) → nat_le n (min 255 old) ≡ true → n ≤ room → n ≤ min 255 room
    short_enough n old room g l = grind (arith, nat_tests)

fit_after : (old room : ℕ) (before : List ℕ) (ts : List Tag) → AreTagsAfter old before ts → sum_by (λ (t : Tag). length t.name) ts ≤ room → AreTagsAfter room before ts
fit_after old room before [] a k = tt
fit_after old room before (t ∷ ts) a k =
    let e : sum_by (λ (u : Tag). length u.name) (t ∷ ts) ≡ length t.name + sum_by (λ (u : Tag). length u.name) ts = sum_by-cons (λ (u : Tag). length u.name) t ts in
    ((fit_name old room before t.name a.0.0 (omega arith), a.0.1), fit_after (old - length t.name) (room - length t.name) t.name ts a.1 (omega arith))

pub fit_tags : (old room : ℕ) (ts : List Tag) → AreTags old ts → tags_size ts ≤ room → AreTags room ts
unfolding tags_size
fit_tags old room ts a k = (a.0, fit_after old room [] ts a.1 k)

-- the parts of an attribute, where together they are not too long
pub attribute_fits : (b : AttributeBody) (m n old most : ℕ) → IsText 1 100 b.kind → IsBetween 0 15 b.category → IsText 0 m b.comment → IsValue n b.kind b.value → AreTags old b.tags →
    IsText 0 most b.object_relation → IsOptionalMoment 0 b.first_seen × IsOptionalMoment (earliest b.first_seen) b.last_seen → is_too_long (Content.Attribute b) ≡ false → IsAttributeBody b
unfolding is_too_long text_size
attribute_fits b m n old most kind category comment value tags relation seen h =
    let size : length b.kind + length b.comment + length b.value + tags_size b.tags + length b.object_relation ≤ 16384 = ltb-false 16384 (length b.kind + length b.comment + length b.value + tags_size b.tags + length b.object_relation) h in
    let room : ℕ = text_limit - length b.kind in
    let short : IsText 0 room b.comment = fit_text 0 m room b.comment comment (omega arith) in
    let kept : IsValue (room - length b.comment) b.kind b.value = fit_value n (room - length b.comment) b.kind b.value value (omega arith) in
    let tagged : AreTags (room - length b.comment - length b.value) b.tags = fit_tags old (room - length b.comment - length b.value) b.tags tags (omega arith) in
    let part : IsText 0 (room - length b.comment - length b.value - tags_size b.tags) b.object_relation = fit_text 0 most (room - length b.comment - length b.value - tags_size b.tags) b.object_relation relation (omega arith) in
    (kind, (category, (tt, (short, (tt, (kept, (tagged, (part, seen))))))))
