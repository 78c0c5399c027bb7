-- Tags that ascend by name fit where there is room for their names.
use Rattle.std.proofs.Common.{◌≡◌, ℕ, ◌+◌, ◌-◌, ◌<◌, ◌≤◌, Bool, true, ◌&&◌, List, [], ◌∷◌, length, map, min, refl, subst, sym, ap, arith, lit<, le-leb, ◌^◌, nat_le, nat_cmp, Less, Equal, Greater}
use Rattle.std.specs.Ordering.{match_ordering}
use Rattle.misp_lists.proofs.Prelude.{AllByRecursion, IsStrictlySortedBy, and_parts, insert_entry, is_utf8, keys_of, nat_tests, slice_cmp, sum_by-cons}
use Rattle.misp_elem.specs.declared.content.Tag.{Tag}
use Rattle.misp_elem.specs.Fields.{IsTag, IsTagName, IsColour, AreTagsAfter, tags_size, text_limit, is_text}
use Rattle.misp_format.specs.Elements.{tag_of}
use Rattle.misp_format.specs.Entries.{FitTags, IsNamed}

abbrev pub name_of : Tag → List ℕ
name_of t = t.name

at_most : (n room : ℕ) → nat_le n 255 ≡ true → n ≤ room → n ≤ min 255 room
at_most n room short fits = grind (arith, nat_tests)

-- a tag, where there is room for its name, after a name before it
pub name_fits : (room : ℕ) (before name : List ℕ) → IsTagName text_limit [] name → slice_cmp nat_cmp before name ≡ Less → length name ≤ room → IsTagName room before name
name_fits room before name h less fits =
    let text : is_text 1 255 name ≡ true = (and_parts _ _ h).0 in
    let lengths : (nat_le 1 (length name) && nat_le (length name) 255) ≡ true = (and_parts _ _ text).0 in
    let utf8 : is_utf8 name ≡ true = (and_parts _ _ text).1 in
    let least : nat_le 1 (length name) ≡ true = (and_parts _ _ lengths).0 in
    let most : length name ≤ min 255 room = at_most (length name) room ((and_parts _ _ lengths).1) fits in
    rw (least, le-leb (length name) (min 255 room) most, utf8, less) refl

pub some_byte : (name : List ℕ) → IsTagName text_limit [] name → 1 ≤ length name
some_byte name h =
    at_least (length name) (and_parts _ _ (and_parts _ _ (and_parts _ _ h).0).0).0
  where
    at_least : (n : ℕ) → nat_le 1 n ≡ true → 1 ≤ n
    at_least n h = grind (arith, nat_tests)

size_cons : (t : Tag) (ts : List Tag) → tags_size (t ∷ ts) ≡ length t.name + tags_size ts
unfolding tags_size
size_cons t ts = sum_by-cons (λ (t : Tag). length t.name) t ts

tags_after : (room : ℕ) (before : List ℕ) (ts : List Tag) → AllByRecursion (IsTag text_limit []) ts
    → IsStrictlySortedBy (slice_cmp nat_cmp) (before ∷ map name_of ts) → tags_size ts ≤ room → AreTagsAfter room before ts
unfolding IsStrictlySortedBy
tags_after room before [] all up fits = tt
tags_after room before (t ∷ ts) all up fits =
    let size = size_cons t ts in (
      (name_fits room before t.name all.0.0 up.0.0 (omega arith), all.0.1),
      tags_after (room - length t.name) t.name ts all.1 up.1 (omega arith),
    )

count : (ts : List Tag) → AllByRecursion (IsTag text_limit []) ts → length ts ≤ tags_size ts
count [] all = omega arith
count (t ∷ ts) all =
    let size = size_cons t ts in
    let here = some_byte t.name all.0.0 in
    let others = count ts all.1 in
    omega arith

-- every name is after the empty one
above_none : (name : List ℕ) → 1 ≤ length name → slice_cmp nat_cmp [] name ≡ Less
above_none [] h = absurd (omega arith)
above_none (b ∷ bs) h = refl

all_above : (ts : List Tag) → AllByRecursion (IsTag text_limit []) ts → AllByRecursion (λ y. slice_cmp nat_cmp [] y ≡ Less) (map name_of ts)
all_above [] all = tt
all_above (t ∷ ts) all = (above_none t.name (some_byte t.name all.0.0), all_above ts all.1)

below : (n : ℕ) → n ≤ text_limit → n < 2 ^ 32
below n h = let large : text_limit < 2 ^ 32 = lit< tt in omega arith

pub fit_tags : (ts : List Tag) → AllByRecursion (IsTag text_limit []) ts → IsStrictlySortedBy (slice_cmp nat_cmp) (map name_of ts) → FitTags ts
unfolding IsStrictlySortedBy
fit_tags ts all up room small fits =
    let many = count ts all in
    (below (length ts) (omega arith), tags_after room [] ts all (all_above ts all, up) fits)

-- ---- tags by their names

-- what holds of the names and of what stands by them holds with one more
pub named_with : (es : List (List ℕ × (List ℕ × Bool))) (name : List ℕ) (look : List ℕ × Bool) → AllByRecursion IsNamed es → IsTagName text_limit [] name → IsColour look.0
    → AllByRecursion IsNamed (insert_entry (slice_cmp nat_cmp) es name look)
named_with [] name look all key colour = ((key, colour), tt)
named_with (e ∷ es) name look all key colour =
    elim (slice_cmp nat_cmp name e.0) as (λ o. AllByRecursion IsNamed (match_ordering o ((name, look) ∷ e ∷ es) ((e.0, look) ∷ es) (e ∷ insert_entry (slice_cmp nat_cmp) es name look))) [
      | Less ↦ ((key, colour), all)
      | Equal ↦ ((all.0.0, colour), all.1)
      | Greater ↦ (all.0, named_with es name look all.1 key colour)
    ]

are_tags : (es : List (List ℕ × (List ℕ × Bool))) → AllByRecursion IsNamed es → AllByRecursion (IsTag text_limit []) (map tag_of es)
are_tags [] all = tt
are_tags (e ∷ es) all = ((all.0.0, (all.0.1, tt)), are_tags es all.1)

same_names : (es : List (List ℕ × (List ℕ × Bool))) → map name_of (map tag_of es) ≡ keys_of es
same_names [] = refl
same_names (e ∷ es) = ap (λ ks. e.0 ∷ ks) (same_names es)

pub fit_named : (es : List (List ℕ × (List ℕ × Bool))) (tags : List Tag) → AllByRecursion IsNamed es → IsStrictlySortedBy (slice_cmp nat_cmp) (keys_of es) → tags ≡ map tag_of es → FitTags tags
fit_named es tags all up is =
    rw is (fit_tags (map tag_of es) (are_tags es all) (subst (IsStrictlySortedBy (slice_cmp nat_cmp)) (sym (same_names es)) up))
