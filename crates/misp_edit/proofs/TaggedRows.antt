-- What a tag more or less makes of a row is a row.
use Rattle.std.proofs.Common.{◌≡◌, ℕ, ◌+◌, ◌-◌, ◌≤◌, List, [], ◌∷◌, length, Bool, true, false, refl, sym, ◌∙◌, arith, eqb, min, cond, inl, inr, not, nat_le, sum_by, bytes_eq, filter, ltb-false}
use Rattle.misp_lists.proofs.Prelude.{sum_by-cons}
use Rattle.misp_lists.proofs.Orders.{bytes_on}
use Rattle.misp_elem.specs.Fields.{is_text, is_after, IsTagName, IsTag, AreTags, AreTagsAfter, tags_size, text_limit}
use Rattle.misp_elem.specs.Contents.{text_size}
use Rattle.misp_model.proofs.Prelude.{Content, IsContent, IsRow, IsStamp, Row, Tag, and_from, and_parts, at_tags, bytes_eq-Decides, content_kind, false≢true, is_less, is_too_long, last_stamp, less_is, less_or, list_all, may_remove}
use Rattle.misp_model.proofs.Prelude.{nat_tests, not-true, put, tagged, untagged}
use Rattle.misp_copies.proofs.FittingTexts.{fit_name, fit_text, name_size}
use Rattle.misp_copies.proofs.RenewedRows.{renewed_row}
use Rattle.misp_copies.specs.Renewing.{renewed}

-- names in order, each of at most 255 bytes, whatever the room
abbrev pub Named : List ℕ → List Tag → Type 0
Named before [] = Unit {0}
Named before (t ∷ ts) = IsTag 255 before t × Named t.name ts

after_is : (a b : List ℕ) → is_after a b ≡ is_less a b
after_is a b = sym (less_is a b)

-- what is after a name is after those before it
named_before : (a b : List ℕ) (ts : List Tag) → is_after a b ≡ true → Named b ts → Named a ts
named_before a b [] h n = tt
named_before a b (t ∷ ts) h n = ((further n.0.0, n.0.1), n.1)
  where
    further : IsTagName 255 b t.name → IsTagName 255 a t.name
    further g =
        let p : (is_text 1 (min 255 255) t.name ≡ true) × (is_after b t.name ≡ true) = and_parts (is_text 1 (min 255 255) t.name) (is_after b t.name) g in
        and_from (is_text 1 (min 255 255) t.name) (is_after a t.name) p.0 (bytes_on a b t.name h p.1)

name_after : (before : List ℕ) (t : Tag) → IsTag 255 before t → is_after before t.name ≡ true
name_after before t h = (and_parts (is_text 1 (min 255 255) t.name) (is_after before t.name) h.0).1

named_part : (q : Tag → Bool) (before : List ℕ) (ts : List Tag) → Named before ts → Named before (filter q ts)
named_part q before [] n = tt
named_part q before (t ∷ ts) n = one (q t) (named_part q t.name ts n.1)
  where
    one : (b : Bool) → Named t.name (filter q ts) → Named before (cond b (t ∷ filter q ts) (filter q ts))
    one true ih = (n.0, ih)
    one false ih = named_before before t.name (filter q ts) (name_after before t n.0) ih

renamed : (a b : List ℕ) (t : Tag) → IsTag 255 a t → is_after b t.name ≡ true → IsTag 255 b t
renamed a b t h k = (and_from (is_text 1 (min 255 255) t.name) (is_after b t.name) (and_parts (is_text 1 (min 255 255) t.name) (is_after a t.name) h.0).0 k, h.1)

named_put : (tag : Tag) (before : List ℕ) (ts : List Tag) → IsTag 255 before tag → Named before ts → list_all (λ t. not (bytes_eq t.name tag.name)) ts ≡ true →
    Named before (put (λ a b. is_less a.name b.name) tag ts)
unfolding put
named_put tag before [] g n d = (g, tt)
named_put tag before (t ∷ ts) g n d = one (is_less tag.name t.name) refl (λ h. named_put tag t.name ts h n.1 (and_parts (not (bytes_eq t.name tag.name)) (list_all (λ u. not (bytes_eq u.name tag.name)) ts) d).1)
  where
    differs : (tag.name ≡ t.name) → ⊥
    differs e = false≢true (sym (not-true (bytes_eq t.name tag.name) (and_parts (not (bytes_eq t.name tag.name)) (list_all (λ u. not (bytes_eq u.name tag.name)) ts) d).0) ∙ (bytes_eq-Decides t.name tag.name).1 (sym e))

    behind : is_less tag.name t.name ≡ false → is_less t.name tag.name ≡ true
    behind e = elim (less_or tag.name t.name) [ inl x ↦ absurd (differs x) | inr y ↦ elim y [ inl x ↦ absurd (false≢true (sym e ∙ x)) | inr x ↦ x ] ]

    one : (b : Bool) → is_less tag.name t.name ≡ b → (IsTag 255 t.name tag → Named t.name (put (λ a b. is_less a.name b.name) tag ts)) → Named before (cond b (tag ∷ t ∷ ts) (t ∷ put (λ a b. is_less a.name b.name) tag ts))
    one true e ih = (g, (renamed before tag.name t n.0 (after_is tag.name t.name ∙ e), n.1))
    one false e ih = (n.0, ih (renamed before t.name tag g (after_is t.name tag.name ∙ behind e)))

-- ---- with the room

short_name : (old : ℕ) (before name : List ℕ) → IsTagName old before name → length name ≤ 255
short_name old before name h = at_most (length name) old (name_size old before name h).1
  where
    at_most : (n old : ℕ) → nat_le n (min 255 old) ≡ true → n ≤ 255
    at_most n old h = grind (arith, nat_tests)

pub named : (old : ℕ) (before : List ℕ) (ts : List Tag) → AreTagsAfter old before ts → Named before ts
named old before [] a = tt
named old before (t ∷ ts) a = ((fit_name old 255 before t.name a.0.0 (short_name old before t.name a.0.0), a.0.1), named (old - length t.name) t.name ts a.1)

with_room : (room : ℕ) (before : List ℕ) (ts : List Tag) → Named before ts → sum_by (λ (t : Tag). length t.name) ts ≤ room → AreTagsAfter room before ts
with_room room before [] n k = tt
with_room room before (t ∷ ts) n k =
    let e : sum_by (λ (u : Tag). length u.name) (t ∷ ts) ≡ length t.name + sum_by (λ (u : Tag). length u.name) ts = sum_by-cons (λ (u : Tag). length u.name) t ts in
    ((fit_name 255 room before t.name n.0.0 (omega arith), n.0.1), with_room (room - length t.name) t.name ts n.1 (omega arith))

-- no more names than bytes
name_here : (before : List ℕ) (t : Tag) → IsTag 255 before t → 1 ≤ length t.name
name_here before t h = at_least (length t.name) (name_size 255 before t.name h.0).0
  where
    at_least : (n : ℕ) → nat_le 1 n ≡ true → 1 ≤ n
    at_least n h = grind (arith, nat_tests)

few : (before : List ℕ) (ts : List Tag) → Named before ts → length ts ≤ sum_by (λ (t : Tag). length t.name) ts
few before [] n = omega arith
few before (t ∷ ts) n =
    let e : sum_by (λ (u : Tag). length u.name) (t ∷ ts) ≡ length t.name + sum_by (λ (u : Tag). length u.name) ts = sum_by-cons (λ (u : Tag). length u.name) t ts in
    let one : 1 ≤ length t.name = name_here before t n.0 in
    let rest : length ts ≤ sum_by (λ (u : Tag). length u.name) ts = few t.name ts n.1 in
    omega arith

pub are_tags : (room : ℕ) (ts : List Tag) → Named [] ts → tags_size ts ≤ room → room ≤ 16384 → AreTags room ts
unfolding tags_size
are_tags room ts n k m = let f : length ts ≤ sum_by (λ (t : Tag). length t.name) ts = few [] ts n in (omega arith, with_room room [] ts n k)

-- tags after one was taken away, and after one was put
pub untagged_named : (name : List ℕ) (ts : List Tag) → Named [] ts → Named [] (untagged name ts)
unfolding untagged
untagged_named name ts n = named_part (λ t. not (bytes_eq t.name name)) [] ts n

kept_differ : (name : List ℕ) (ts : List Tag) → list_all (λ t. not (bytes_eq t.name name)) (filter (λ t. not (bytes_eq t.name name)) ts) ≡ true
kept_differ name [] = refl
kept_differ name (t ∷ ts) = one (not (bytes_eq t.name name)) refl (kept_differ name ts)
  where
    one : (b : Bool) → not (bytes_eq t.name name) ≡ b → list_all (λ u. not (bytes_eq u.name name)) (filter (λ u. not (bytes_eq u.name name)) ts) ≡ true →
        list_all (λ (u : Tag). not (bytes_eq u.name name)) (cond b (t ∷ filter (λ u. not (bytes_eq u.name name)) ts) (filter (λ u. not (bytes_eq u.name name)) ts)) ≡ true
    one true e ih = and_from (not (bytes_eq t.name name)) (list_all (λ u. not (bytes_eq u.name name)) (filter (λ u. not (bytes_eq u.name name)) ts)) e ih
    one false e ih = ih

pub tagged_named : (tag : Tag) (ts : List Tag) → IsTag 255 [] tag → Named [] ts → Named [] (tagged tag ts)
unfolding tagged untagged
tagged_named tag ts g n = named_put tag [] (filter (λ t. not (bytes_eq t.name tag.name)) ts) g (named_part (λ t. not (bytes_eq t.name tag.name)) [] ts n) (kept_differ tag.name ts)

-- ---- contents

module _ (f : List Tag → List Tag) (keeps : (ts : List Tag) → Named [] ts → Named [] (f ts)) where
  tags_content : (may : Bool) (c : Content) → IsContent may c → is_too_long (at_tags f c) ≡ false → IsContent may (at_tags f c)
  unfolding at_tags is_too_long text_size
  tags_content may (Content.Event b) h s =
      let size : length b.info + tags_size (f b.tags) ≤ 16384 = ltb-false 16384 (length b.info + tags_size (f b.tags)) s in
      let room : ℕ = text_limit - length b.info in
      let tags = are_tags room (f b.tags) (keeps b.tags (named room [] b.tags h.1.1.1.1.1.1.1.1.1)) (omega arith) (omega arith) in
      (h.0, (h.1.0, (h.1.1.0, (h.1.1.1.0, (h.1.1.1.1.0, (h.1.1.1.1.1.0, (h.1.1.1.1.1.1.0, (h.1.1.1.1.1.1.1.0, tags))))))))
  tags_content may (Content.Attribute b) h s =
      let size : length b.kind + length b.comment + length b.value + tags_size (f b.tags) + length b.object_relation ≤ 16384 = ltb-false 16384 (length b.kind + length b.comment + length b.value + tags_size (f b.tags) + length b.object_relation) s in
      let room : ℕ = text_limit - length b.kind - length b.comment - length b.value in
      let tags = are_tags room (f b.tags) (keeps b.tags (named room [] b.tags h.1.1.1.1.1.1.0.1)) (omega arith) (omega arith) in
      let relation = fit_text 0 (room - tags_size b.tags) (room - tags_size (f b.tags)) b.object_relation h.1.1.1.1.1.1.1.0 (omega arith) in
      (h.0, (h.1.0, (h.1.1.0, (h.1.1.1.0, (h.1.1.1.1.0, (h.1.1.1.1.1.0, (tags, (relation, h.1.1.1.1.1.1.1.1))))))))
  tags_content may _ h s = h

  tags_kind : (c : Content) → content_kind (at_tags f c) ≡ content_kind c
  unfolding at_tags
  tags_kind (Content.Event b) = refl
  tags_kind _ = refl

  tags_row : (now : ℕ) (row : Row) → IsStamp now → IsRow row → eqb row.stamp last_stamp ≡ false → is_too_long (at_tags f row.content) ≡ false → IsRow (renewed now row row.label (at_tags f row.content))
  tags_row now row s is t h = renewed_row now row (at_tags f row.content) s is t (tags_kind row.content) (tags_content (may_remove row.key) row.content is.1.1.1.1.1.1 h)

pub tagged_row : (tag : Tag) → IsTag 255 [] tag → (now : ℕ) (row : Row) → IsStamp now → IsRow row → eqb row.stamp last_stamp ≡ false → is_too_long (at_tags (tagged tag) row.content) ≡ false →
    IsRow (renewed now row row.label (at_tags (tagged tag) row.content))
tagged_row tag g now row s is t h = tags_row (tagged tag) (λ ts n. tagged_named tag ts g n) now row s is t h

pub untagged_row : (name : List ℕ) (now : ℕ) (row : Row) → IsStamp now → IsRow row → eqb row.stamp last_stamp ≡ false → is_too_long (at_tags (untagged name) row.content) ≡ false →
    IsRow (renewed now row row.label (at_tags (untagged name) row.content))
untagged_row name now row s is t h = tags_row (untagged name) (λ ts n. untagged_named name ts n) now row s is t h
