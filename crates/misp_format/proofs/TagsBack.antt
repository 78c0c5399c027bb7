-- Tags that are written are read back.
use Rattle.std.proofs.Common.{◌≡◌, ℕ, ◌+◌, ◌-◌, ◌≤◌, Bool, true, ◌&&◌, List, [], ◌∷◌, ◌++◌, length, map, min, Some, Ok, refl, sym, ap, ◌∙◌, append_assoc, subst, arith, codes, nat_le, nat_cmp, is_lt, Less, Greater, append-nil}
use Rattle.misp_lists.proofs.Prelude.{and_parts, less_of, nat_list_cmp_total, nat_tests, ordering_reverse}
use Rattle.misp_elem.specs.Fields.{IsTag, AreTagsAfter, is_text}
use Rattle.misp_format.specs.Prelude.{◌>>=◌, AllByRecursion, Body, Data, IsStrictlySortedBy, Reading, Tag, each, items_of, list_data, list_of, member_of, member_path, slice_cmp, tag_data, tags_at}
use Rattle.misp_format.specs.Elements.{Named, tag_of, with_tag, next_tag, tag_at}
use Rattle.misp_format.proofs.Tags.{name_of}
use Rattle.misp_format.proofs.Back.{row_back, colour_back}

-- ---- what is known of tags

pub record IsRead (room : ℕ) (before : List ℕ) (t : Tag) : Type 0 where
  pub long : (nat_le 1 (length t.name) && nat_le (length t.name) 255) ≡ true
  pub fits : length t.name ≤ room
  pub above : slice_cmp nat_cmp before t.name ≡ Less

upto : (n room : ℕ) → nat_le n (min 255 room) ≡ true → (n ≤ 255) × (n ≤ room)
upto n room h =
    let most : n ≤ min 255 room = grind (arith, nat_tests) in
    (omega arith, omega arith)

short : (n : ℕ) → n ≤ 255 → nat_le n 255 ≡ true
short n h = grind (arith, nat_tests)

is_read : (room : ℕ) (before : List ℕ) (t : Tag) → IsTag room before t → IsRead room before t
is_read room before t h =
    let text : is_text 1 (min 255 room) t.name ≡ true = (and_parts _ _ h.0).0 in
    let less : is_lt (slice_cmp nat_cmp before t.name) ≡ true = (and_parts _ _ h.0).1 in
    let lengths : (nat_le 1 (length t.name) && nat_le (length t.name) (min 255 room)) ≡ true = (and_parts _ _ text).0 in
    let least : nat_le 1 (length t.name) ≡ true = (and_parts _ _ lengths).0 in
    let most = upto (length t.name) room (and_parts _ _ lengths).1 in
    record { long = rw (least, short (length t.name) most.0) refl; fits = most.1; above = less_of _ less }

through : (b n : List ℕ) (ts : List Tag) → slice_cmp nat_cmp b n ≡ Less → AllByRecursion (λ y. slice_cmp nat_cmp n y ≡ Less) (map name_of ts) → AllByRecursion (λ y. slice_cmp nat_cmp b y ≡ Less) (map name_of ts)
through b n [] less all = tt
through b n (t ∷ ts) less all = (nat_list_cmp_total.trans b n t.name less all.0, through b n ts less all.1)

all_above : (room : ℕ) (before : List ℕ) (ts : List Tag) → AreTagsAfter room before ts → AllByRecursion (λ y. slice_cmp nat_cmp before y ≡ Less) (map name_of ts)
all_above room before [] h = tt
all_above room before (t ∷ ts) h =
    let here = (is_read room before t h.0).above in
    (here, through before t.name ts here (all_above (room - length t.name) t.name ts h.1))

pub ascending : (room : ℕ) (before : List ℕ) (ts : List Tag) → AreTagsAfter room before ts → IsStrictlySortedBy (slice_cmp nat_cmp) (map name_of ts)
unfolding IsStrictlySortedBy
ascending room before [] h = tt
ascending room before (t ∷ ts) h = (all_above (room - length t.name) t.name ts h.1, ascending (room - length t.name) t.name ts h.1)

-- ---- reading them

named : Tag → List ℕ × (List ℕ × Bool)
named t = (t.name, (t.colour, t.exportable))

named_again : (ts : List Tag) → map tag_of (map named ts) ≡ ts
unfolding named
named_again [] = refl
named_again (t ∷ ts) = ap (λ xs. t ∷ xs) (named_again ts)

tag_back : (room : ℕ) (before path : List ℕ) (n : ℕ) (so_far : Named) (t : Tag) → IsTag room before t → next_tag path n so_far (tag_data t) ≡ Ok (with_tag so_far t)
unfolding tag_data tag_at
tag_back room before path n so_far t h = rw ((is_read room before t h).long, colour_back t.colour h.1.0) refl

below_middle : (first : List ℕ) (done : List Tag) (t : Tag) (more : List Tag) → AllByRecursion (λ y. slice_cmp nat_cmp first y ≡ Less) (map name_of (done ++ t ∷ more)) → slice_cmp nat_cmp first t.name ≡ Less
below_middle first [] t more h = h.0
below_middle first (x ∷ done) t more h = below_middle first done t more h.1

-- a name above those before it goes last
insert_last : (done : List Tag) (t : Tag) (more : List Tag) → IsStrictlySortedBy (slice_cmp nat_cmp) (map name_of (done ++ t ∷ more)) → with_tag (map named done) t ≡ map named (done ++ t ∷ [])
unfolding IsStrictlySortedBy named
insert_last [] t more h = refl
insert_last (first ∷ done) t more h =
    let above : slice_cmp nat_cmp t.name first.name ≡ Greater = nat_list_cmp_total.antisymm t.name first.name ∙ ap ordering_reverse (below_middle first.name done t more h.0) in
    rw above (ap (λ es. (first.name, (first.colour, first.exportable)) ∷ es) (insert_last done t more h.1))

tags_each : (path : List ℕ) (n room : ℕ) (before : List ℕ) (done more : List Tag) → AreTagsAfter room before more → IsStrictlySortedBy (slice_cmp nat_cmp) (map name_of (done ++ more))
    → each (next_tag path) n (map named done) (items_of (map tag_data more)) ≡ Ok (map named (done ++ more))
tags_each path n room before done [] all up = ap (λ (ts : List Tag). Ok (map named ts)) (sym (append-nil done))
tags_each path n room before done (t ∷ more) all up =
    ap (λ (r : Reading Named). r >>= λ named. each (next_tag path) (n + 1) named (items_of (map tag_data more))) (tag_back room before path n (map named done) t all.0)
    ∙ ap (λ (es : Named). each (next_tag path) (n + 1) es (items_of (map tag_data more))) (insert_last done t more up)
    ∙ tags_each path (n + 1) (room - length t.name) t.name (done ++ t ∷ []) more all.1 (subst (λ ts. IsStrictlySortedBy (slice_cmp nat_cmp) (map name_of ts)) (sym (append_assoc done (t ∷ []) more)) up)
    ∙ ap (λ (ts : List Tag). Ok (map named ts)) (append_assoc done (t ∷ []) more)

pub tags_back : (room : ℕ) (path : List ℕ) (d : Data) (ts : List Tag) → AreTagsAfter room [] ts → member_of (codes "Tag") d ≡ Some (list_data tag_data ts)
    → tags_at (record { path = path; value = d }) ≡ Ok ts
unfolding tags_at
tags_back room path d ts all found =
    let it : Body = record { path = path; value = d } in
    let at = member_path path (codes "Tag") in
    let items = row_back it (codes "Tag") list_of (Ok _) (list_data tag_data ts) (items_of (map tag_data ts)) found refl in
    ap (λ r. r >>= λ items. each (next_tag at) 0 [] items >>= λ named. Ok (map tag_of named)) items
    ∙ ap (λ (r : Reading Named). r >>= λ named. Ok (map tag_of named)) (tags_each at 0 room [] [] ts all (ascending room [] ts all))
    ∙ ap (λ ts. Ok ts) (named_again ts)
