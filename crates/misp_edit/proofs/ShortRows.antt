-- The texts of a row are within the limit, and so are those of a row with a tag less, or deleted.
use Rattle.std.proofs.Common.{◌≡◌, ℕ, ◌+◌, ◌≤◌, Bool, true, false, List, [], ◌∷◌, length, cond, filter, not, arith, ltb, ltb-false, bytes_eq}
use Rattle.std.proofs.lemmas.List.Sums.{sum_by-cons}
use Rattle.misp_elem.specs.Prelude.{text_size}
use Rattle.misp_elem.specs.Fields.{tags_size}
use Rattle.misp_elem.proofs.Sizes.{size_within}
use Rattle.misp_model.proofs.Prelude.{Content, IsContent, IsRow, Row, Tag, as_deleted, at_tags, is_too_long, may_remove, nat_tests, untagged}

not_longer : (n : ℕ) → n ≤ 16384 → ltb 16384 n ≡ false
not_longer n h = grind (arith, nat_tests)

-- what a row says is not too long
pub short : (may : Bool) (c : Content) → IsContent may c → is_too_long c ≡ false
unfolding is_too_long
short may c h = not_longer (text_size c) (size_within may c h)

short_deleted : (may : Bool) (c : Content) → IsContent may c → is_too_long (as_deleted c) ≡ false
unfolding as_deleted
short_deleted may (Content.Object b) h = short may (Content.Object (record b { deleted = true })) h
short_deleted may (Content.Attribute b) h = short may (Content.Attribute (record b { deleted = true })) h
short_deleted may (Content.Reference b) h = short may (Content.Reference (record b { deleted = true })) h
short_deleted may c h = short may c h

pub deleted_short : (row : Row) → IsRow row → is_too_long (as_deleted row.content) ≡ false
deleted_short row is = short_deleted (may_remove row.key) row.content is.1.1.1.1.1.1

-- tags that are left are no longer than all
left_size : (q : Tag → Bool) (ts : List Tag) → tags_size (filter q ts) ≤ tags_size ts
unfolding tags_size
left_size q [] = omega arith
left_size q (t ∷ ts) = one (q t) (left_size q ts)
  where
    one : (b : Bool) → tags_size (filter q ts) ≤ tags_size ts → tags_size (cond b (t ∷ filter q ts) (filter q ts)) ≤ tags_size (t ∷ ts)
    one true ih = omega (arith, sum_by-cons (λ (u : Tag). length u.name) t ts, sum_by-cons (λ (u : Tag). length u.name) t (filter q ts))
    one false ih = omega (arith, sum_by-cons (λ (u : Tag). length u.name) t ts)

less_long : (old new rest : ℕ) → ltb 16384 (rest + old) ≡ false → new ≤ old → ltb 16384 (rest + new) ≡ false
less_long old new rest h k = not_longer (rest + new) (let l : rest + old ≤ 16384 = ltb-false 16384 (rest + old) h in omega arith)

less_amid : (old new rest more : ℕ) → ltb 16384 (rest + old + more) ≡ false → new ≤ old → ltb 16384 (rest + new + more) ≡ false
less_amid old new rest more h k = not_longer (rest + new + more) (let l : rest + old + more ≤ 16384 = ltb-false 16384 (rest + old + more) h in omega arith)

short_untagged : (name : List ℕ) (may : Bool) (c : Content) → IsContent may c → is_too_long (at_tags (untagged name) c) ≡ false
unfolding at_tags untagged is_too_long text_size
short_untagged name may (Content.Event b) h =
    less_long (tags_size b.tags) (tags_size (untagged name b.tags)) (length b.info) (short may (Content.Event b) h) (left_size (λ t. not (bytes_eq t.name name)) b.tags)
short_untagged name may (Content.Attribute b) h =
    less_amid (tags_size b.tags) (tags_size (untagged name b.tags)) (length b.kind + length b.comment + length b.value) (length b.object_relation) (short may (Content.Attribute b) h) (left_size (λ t. not (bytes_eq t.name name)) b.tags)
short_untagged name may c h = short may c h

pub untagged_short : (name : List ℕ) (row : Row) → IsRow row → is_too_long (at_tags (untagged name) row.content) ≡ false
untagged_short name row is = short_untagged name (may_remove row.key) row.content is.1.1.1.1.1.1
