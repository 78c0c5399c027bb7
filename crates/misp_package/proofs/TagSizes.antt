-- How many bytes spell the tags of a row: each name stands behind the one before it, so that few
-- names are of one byte.
use Rattle.std.proofs.Common.{◌≡◌, ℕ, ◌+◌, ◌*◌, ◌-◌, ◌<◌, ◌≤◌, min, Bool, true, false, ◌||◌, ◌&&◌, cond, eqb, ltb, List, [], ◌∷◌, ◌++◌, length, refl, sym, ap, ◌∙◌, arith, flat_map, is_lt, nat_cmp, length-append}
use Rattle.std.proofs.Math.Utf8.{encode, encodes}
use Rattle.std.proofs.lemmas.List.Sums.{sum_by-cons}
use Rattle.std.specs.Cmp.Lexicographic.{slice_cmp}
use Rattle.misp_lists.proofs.Orders.{lt_then}
use Rattle.misp_lists.proofs.Prelude.{IsUtf8-from_is_utf8, and_parts, is_utf8, nat_tests}
use Rattle.misp_elem.specs.Fields.{tags_size}
use Rattle.misp_elem.specs.Prelude.{AreTagsAfter, is_after, is_text}
use Rattle.misp_elem.specs.Spelling.{flag, tag, tags, text}
use Rattle.misp_elem.proofs.Sizes.{least_of}
use Rattle.misp_model.specs.Prelude.{Tag}
use Rattle.misp_package.proofs.FieldSizes.{flag_size, text_size}

-- ---- names

longer : (q r : Bool) (x1 x2 y1 y2 y3 z1 z2 z3 z4 : ℕ) → 2 ≤ length (cond q (x1 ∷ x2 ∷ []) (cond r (y1 ∷ y2 ∷ y3 ∷ []) (z1 ∷ z2 ∷ z3 ∷ z4 ∷ [])))
longer true r x1 x2 y1 y2 y3 z1 z2 z3 z4 = omega arith
longer false true x1 x2 y1 y2 y3 z1 z2 z3 z4 = omega arith
longer false false x1 x2 y1 y2 y3 z1 z2 z3 z4 = omega arith

-- a character of one byte is that byte
one_byte : (c d : ℕ) (rest : List ℕ) → encode d ++ rest ≡ c ∷ [] → c < 256
unfolding encode
one_byte c d rest = by (ltb d 128) _ refl (longer (ltb d 2048) (ltb d 65536) _ _ _ _ _ _ _ _ _)
  where
    by : (p : Bool) (others : List ℕ) → ltb d 128 ≡ p → 2 ≤ length others → cond p (d ∷ []) others ++ rest ≡ c ∷ [] → c < 256
    by true others low long e = let same : d ≡ c = cc in grind (arith, nat_tests)
    by false others low long e = let two : length (others ++ rest) ≡ 1 = ap length e in absurd (omega (arith, length-append others rest))

byte_of_text : (c : ℕ) → is_utf8 (c ∷ []) ≡ true → c < 256
byte_of_text c h = let f = IsUtf8-from_is_utf8 (c ∷ []) h in by f.0 f.1.1
  where
    by : (cs : List ℕ) → encodes cs ≡ c ∷ [] → c < 256
    by [] e = absurd cc
    by (d ∷ ds) e = one_byte c d (encodes ds) e

-- how many names of one byte there are at most after this one
abbrev ones_after : List ℕ → ℕ
ones_after [] = 256
ones_after (b ∷ bs) = 255 - b

at_least : (b c : ℕ) (more : Bool) → (ltb b c || eqb b c && more) ≡ true → b ≤ c
at_least b c more h = grind (arith, nat_tests)

greater : (b c : ℕ) → (ltb b c || eqb b c && false) ≡ true → b < c
greater b c h = grind (arith, nat_tests)

none_before : (bs : List ℕ) → is_lt (slice_cmp nat_cmp bs []) ≡ false
none_before [] = refl
none_before (b ∷ bs) = refl

-- a later name leaves fewer where it has one byte, and else no more
one_less : (before : List ℕ) (c : ℕ) → is_utf8 (c ∷ []) ≡ true → is_after before (c ∷ []) ≡ true → 256 - c ≤ ones_after before
one_less [] c good h = omega arith
one_less (b ∷ bs) c good h =
    let more : (ltb b c || eqb b c && false) ≡ true = ap (λ t. ltb b c || eqb b c && t) (sym (none_before bs)) ∙ sym (lt_then b c (slice_cmp nat_cmp bs [])) ∙ h in
    omega (arith, greater b c more, byte_of_text c good)

no_more : (before : List ℕ) (c : ℕ) (cs : List ℕ) → is_after before (c ∷ cs) ≡ true → 255 - c ≤ ones_after before
no_more [] c cs h = omega arith
no_more (b ∷ bs) c cs h = omega (arith, at_least b c (is_lt (slice_cmp nat_cmp bs cs)) (sym (lt_then b c (slice_cmp nat_cmp bs cs)) ∙ h))

-- so that eight bytes beside each name are at most four for each of its own, and those of the names
-- of one byte
beside_name : (before name : List ℕ) → 1 ≤ length name → is_utf8 name ≡ true → is_after before name ≡ true → 8 + 4 * ones_after name ≤ 4 * length name + 4 * ones_after before
beside_name before [] long good h = absurd (omega (arith, long))
beside_name before (c ∷ []) long good h = omega (arith, one_less before c good h, byte_of_text c good)
beside_name before (c ∷ d ∷ cs) long good h = omega (arith, no_more before c (d ∷ cs) h)

-- ---- tags

each_tag_size : (room : ℕ) (before : List ℕ) (ts : List Tag) → AreTagsAfter room before ts → length (flat_map tag ts) ≤ 5 * tags_size ts + 4 * ones_after before
unfolding tags_size
each_tag_size room before [] h = omega arith
each_tag_size room before (t ∷ ts) h =
    let name : (is_text 1 (min 255 room) t.name ≡ true) × (is_after before t.name ≡ true) = and_parts (is_text 1 (min 255 room) t.name) (is_after before t.name) h.0.0 in
    let colour : length t.colour ≡ 3 = h.0.1.0.0 in
    omega (
      arith,
      each_tag_size (room - length t.name) t.name ts h.1,
      sum_by-cons (λ (u : Tag). length u.name) t ts,
      beside_name before t.name (least_of 1 (min 255 room) t.name name.0) (and_parts _ _ name.0).1 name.1,
      length-append (tag t) (flat_map tag ts),
      length-append (text t.name) (t.colour ++ flag t.exportable),
      length-append t.colour (flag t.exportable),
      text_size t.name,
      colour,
      flag_size t.exportable,
    )

pub all_tags_size : (room : ℕ) (ts : List Tag) → AreTagsAfter room [] ts → length (tags ts) ≤ 5 * tags_size ts + 1028
unfolding tags
all_tags_size room ts h = omega (arith, each_tag_size room [] ts h)
