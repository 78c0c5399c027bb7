-- Members that are written are read back.
use Rattle.std.proofs.Common.{◌≡◌, ℕ, ◌+◌, ◌*◌, ◌<◌, ◌≤◌, ◌^◌, zero, suc, Bool, true, false, List, [], ◌∷◌, length, map, Option, Some, None, Result, Ok, Err, refl, ap, ◌∙◌, subst, arith, lit<, le-leb, codes, option_and_then, decimal}
use Rattle.std.proofs.Common.{nat_lt, fold, bytes_eq}
use Rattle.std.specs.Char.{is_ascii_digit}
use Rattle.std.specs.Str.Parse.{AllDigits}
use Rattle.std.proofs.lemmas.Fmt.{decimal_is_IsNumeral, length-decimal-le}
use Rattle.std.proofs.lemmas.Str.Parse.{digit_from_value}
use Rattle.hex.specs.Hex.{decode_sized, encode_lower, lower_digits}
use Rattle.hex.proofs.HexLemmas.{length-encode_with, decode_sized-twice, decode_of-encode_lower}
use Rattle.serde_json.specs.Find.{get_member}
use Rattle.serde_json.proofs.Views.{get_member-put, get_member-put_other}
use Rattle.misp_lists.proofs.Prelude.{bytes_eq-Decides, list_all, nat_tests, option_map_or}
use Rattle.misp_ids.specs.Uid.{text_of, read_uid, IsUid}
use Rattle.misp_ids.proofs.UidLemmas.{reads_back}
use Rattle.misp_types.specs.Checked.{Checked}
use Rattle.misp_types.specs.Kinds.{rule_of}
use Rattle.misp_types.specs.Values.{is_kept, keeps}
use Rattle.misp_fields.specs.Fields.{present, is_number_text, optional_uuid_in, colour_of}
use Rattle.misp_elem.specs.Fields.{IsColour, IsOptionalUid, IsBetween}
use Rattle.misp_elem.specs.Row.{IsLabel}
use Rattle.misp_format.specs.Prelude.{◌>>=◌, AllByRecursion, Body, Data, GroupId, GroupNames, Label, Members, Need, Reading, Uid, category_of, each, group_data, items_of, kept_of, label_at, label_kind, member_of, member_path, must_be}
use Rattle.misp_format.specs.Prelude.{number_data, number_of, number_within, object, optional_uuid_data, optional_uuid_of, put, string, uuid_data, uuid_of, with_group}
use Rattle.misp_format.specs.Kinds.{category_name, is_file_type}
use Rattle.misp_format.specs.Labels.{group_at, named_group_at, numbered_at}
use Rattle.misp_format.specs.Readers.{any_of}
use Rattle.misp_format.specs.Rows.{at, row}
use Rattle.misp_format.specs.Written.{colour_text}

-- ---- rows

pub row_back : {A : Type 0} (it : Body) (name : List ℕ) (reader : Data → Result A Need) (absent : Result A Need) (d : Data) (x : A)
    → member_of name it.value ≡ Some d → reader d ≡ Ok x → row it name reader absent ≡ Ok x
row_back it name reader absent d x found read = rw (found, read) refl

-- items that are read one by one, each bringing what it was written for
pub each_back : {A S : Type 0} {Is : A → Type 0} (reads : ℕ → S → Data → Reading S) (one : A → Data) (step : S → A → S)
    → ((n : ℕ) (so_far : S) (a : A) → Is a → reads n so_far (one a) ≡ Ok (step so_far a))
    → (n : ℕ) (so_far : S) (xs : List A) → AllByRecursion Is xs → each reads n so_far (items_of (map one xs)) ≡ Ok (fold step so_far xs)
each_back reads one step h n so_far [] all = refl
each_back {A} {S} reads one step h n so_far (x ∷ xs) all =
    ap (λ (r : Reading S). r >>= λ more. each reads (n + 1) more (items_of (map one xs))) (h n so_far x all.0)
    ∙ each_back reads one step h (n + 1) (step so_far x) xs all.1

-- ---- numbers

lt_true : (m n : ℕ) → m < n → nat_lt m n ≡ true
lt_true m n h = grind (arith, nat_tests)

one_digit : (c : ℕ) → 48 ≤ c → c ≤ 57 → is_ascii_digit c ≡ true
one_digit c low high = rw (le-leb 48 c low, le-leb c 57 high) refl

all_ascii : (ds : List ℕ) → AllDigits 10 ds → list_all is_ascii_digit ds ≡ true
all_ascii [] d = refl
all_ascii (c ∷ cs) d =
    let range = digit_from_value c d.0 in
    rw (one_digit c (omega arith) (omega arith), all_ascii cs d.1) refl

pub number_back : (n : ℕ) → n < 2 ^ 64 → number_of (number_data n) ≡ Ok n
number_back n h =
    let numeral = decimal_is_IsNumeral n h in
    let text : is_number_text (decimal n) ≡ true =
    rw (lt_true 0 (length (decimal n)) numeral.0.0, le-leb (length (decimal n)) 20 (length-decimal-le 20 n (omega arith) (omega arith) h), all_ascii (decimal n) numeral.0.1, numeral.1, lt_true n (2 ^ 64) h) refl in
    rw (text, numeral.1) refl

pub within_back : (least most n : ℕ) → IsBetween least most n → n < 2 ^ 64 → number_within least most (number_data n) ≡ Ok n
within_back least most n between h = rw (number_back n h, between) refl

pub at_most_5 : (label : Label) → label_kind label ≤ 5
at_most_5 (Label.Group group) = omega arith
at_most_5 _ = omega arith

-- ---- identifiers

pub uuid_back : (u : Uid) → IsUid u → uuid_of (uuid_data u) ≡ Ok u
uuid_back u h = rw (reads_back u h) refl

optional_in : (s : List ℕ) (u : Uid) → read_uid s ≡ Some u → optional_uuid_in s ≡ Ok (Some u)
optional_in [] u h = absurd cc
optional_in (b ∷ bs) u h = rw h refl

pub optional_back : (u : Option Uid) → IsOptionalUid u → optional_uuid_of (optional_uuid_data u) ≡ Ok u
optional_back None h = refl
optional_back (Some u) h = optional_in (text_of u) u (reads_back u h)

-- ---- members beside a sharing group

apart : (name : List ℕ) → bytes_eq name (codes "SharingGroup") ≡ false → name ≡ codes "SharingGroup" → ⊥
apart name differs is = let yes : bytes_eq name (codes "SharingGroup") ≡ true = (bytes_eq-Decides name (codes "SharingGroup")).1 is in absurd cc

-- the other names have what they have without it
pub beside : (names : GroupNames) (label : Label) (ms : Members) (name : List ℕ) → bytes_eq name (codes "SharingGroup") ≡ false → get_member name (with_group names label ms) ≡ get_member name ms
beside names (Label.Group group) ms name differs = get_member-put_other name (codes "SharingGroup") (group_data names group) ms (apart name differs)
beside names _ ms name differs = refl

pub found_beside : (names : GroupNames) (label : Label) (ms : Members) (name : List ℕ) (d : Data) → bytes_eq name (codes "SharingGroup") ≡ false
    → member_of name (object ms) ≡ Some d → member_of name (object (with_group names label ms)) ≡ Some d
found_beside names label ms name d differs found = ap (λ o. option_and_then present o) (beside names label ms name differs) ∙ found

pub row_beside : {A : Type 0} (path : List ℕ) (names : GroupNames) (label : Label) (ms : Members) (name : List ℕ) (reader : Data → Result A Need) (absent : Result A Need) (x : A)
    → bytes_eq name (codes "SharingGroup") ≡ false → row (record { path = path; value = object ms }) name reader absent ≡ Ok x
    → row (record { path = path; value = object (with_group names label ms) }) name reader absent ≡ Ok x
row_beside {A} path names label ms name reader absent x differs h =
    ap (λ o. at {A = A} (record { path = path; value = object ms }) name (option_map_or reader (option_and_then present o) absent)) (beside names label ms name differs) ∙ h

-- ---- labels

group_read : (path : List ℕ) (names : GroupNames) (group : GroupId) → IsLabel (Label.Group group) → group_at path (group_data names group) ≡ Ok group
unfolding group_at
group_read path names group h = rw (uuid_back group.creator.0 h.0, uuid_back group.uuid h.1) refl

named_back : (path : List ℕ) (names : GroupNames) (group : GroupId) (ms : Members) → IsLabel (Label.Group group)
    → named_group_at (record { path = path; value = object (put (codes "SharingGroup") (group_data names group) ms) }) ≡ Ok group
named_back path names group ms h =
    let it : Body = record { path = path; value = object (put (codes "SharingGroup") (group_data names group) ms) } in
    let there : row it (codes "SharingGroup") any_of must_be ≡ Ok (group_data names group) =
    row_back it (codes "SharingGroup") any_of must_be (group_data names group) (group_data names group) (ap (λ o. option_and_then present o) (get_member-put (codes "SharingGroup") (group_data names group) ms)) refl in
    ap (λ (r : Reading Data). r >>= λ group. group_at (member_path path (codes "SharingGroup")) group) there ∙ group_read (member_path path (codes "SharingGroup")) names group h

numbered_back : (path : List ℕ) (names : GroupNames) (label : Label) (ms : Members) → IsLabel label → numbered_at (record { path = path; value = object (with_group names label ms) }) (label_kind label) ≡ Ok label
numbered_back path names Label.Own ms h = refl
numbered_back path names Label.Community ms h = refl
numbered_back path names Label.Connected ms h = refl
numbered_back path names Label.All ms h = refl
numbered_back path names (Label.Group group) ms h = ap (λ (r : Reading GroupId). r >>= λ group. Ok (Label.Group group)) (named_back path names group ms h)
numbered_back path names Label.Inherit ms h = refl

pub label_back : (path : List ℕ) (names : GroupNames) (label : Label) (ms : Members) (most absent : ℕ) → label_kind label ≤ most → IsLabel label
    → member_of (codes "distribution") (object ms) ≡ Some (number_data (label_kind label))
    → label_at (record { path = path; value = object (with_group names label ms) }) most absent ≡ Ok label
unfolding label_at
label_back path names label ms most absent le fits here =
    let it : Body = record { path = path; value = object (with_group names label ms) } in
    let n = label_kind label in
    let between : IsBetween 0 most n = rw (le-leb 0 n (omega arith), le-leb n most le) refl in
    let small : n < 2 ^ 64 = let five = at_most_5 label in let large : 5 < 2 ^ 64 = lit< tt in omega arith in
    let number : row it (codes "distribution") (number_within 0 most) (Ok absent) ≡ Ok n =
    row_back it (codes "distribution") (number_within 0 most) (Ok absent) (number_data n) n (found_beside names label ms (codes "distribution") (number_data n) refl here) (within_back 0 most n between small) in
    ap (λ (r : Reading ℕ). r >>= λ number. numbered_at it number) number ∙ numbered_back path names label ms fits

-- ---- colours

pub colour_back : (colour : List ℕ) → IsColour colour → colour_of (string (colour_text colour)) ≡ Ok colour
colour_back colour h =
    let long : length (encode_lower colour) ≡ 2 * 3 = length-encode_with lower_digits colour ∙ ap (λ n. 2 * n) h.0 in
    let read : decode_sized (encode_lower colour) 3 ≡ Ok colour = decode_sized-twice (encode_lower colour) 3 long ∙ decode_of-encode_lower colour h.1 in
    rw read refl

-- ---- categories

pub category_back : (n : ℕ) → n ≤ 15 → category_of (string (category_name n)) ≡ Ok n
unfolding category_name
category_back zero le = refl
category_back (suc zero) le = refl
category_back (suc (suc zero)) le = refl
category_back (suc (suc (suc zero))) le = refl
category_back (suc (suc (suc (suc zero)))) le = refl
category_back (suc (suc (suc (suc (suc zero))))) le = refl
category_back (suc (suc (suc (suc (suc (suc zero)))))) le = refl
category_back (suc (suc (suc (suc (suc (suc (suc zero))))))) le = refl
category_back (suc (suc (suc (suc (suc (suc (suc (suc zero)))))))) le = refl
category_back (suc (suc (suc (suc (suc (suc (suc (suc (suc zero))))))))) le = refl
category_back (suc (suc (suc (suc (suc (suc (suc (suc (suc (suc zero)))))))))) le = refl
category_back (suc (suc (suc (suc (suc (suc (suc (suc (suc (suc (suc zero))))))))))) le = refl
category_back (suc (suc (suc (suc (suc (suc (suc (suc (suc (suc (suc (suc zero)))))))))))) le = refl
category_back (suc (suc (suc (suc (suc (suc (suc (suc (suc (suc (suc (suc (suc zero))))))))))))) le = refl
category_back (suc (suc (suc (suc (suc (suc (suc (suc (suc (suc (suc (suc (suc (suc zero)))))))))))))) le = refl
category_back (suc (suc (suc (suc (suc (suc (suc (suc (suc (suc (suc (suc (suc (suc (suc zero))))))))))))))) le = refl
category_back (suc (suc (suc (suc (suc (suc (suc (suc (suc (suc (suc (suc (suc (suc (suc (suc n)))))))))))))))) le = absurd (omega arith)

-- ---- values

kept_again : (value : List ℕ) (r : Checked) → keeps value r ≡ true → r ≡ Ok value
kept_again value (Ok kept) h = ap (λ v. Ok v) ((bytes_eq-Decides kept value).0 h)
kept_again value (Err fault) h = absurd cc

pub kept_back : (kind value : List ℕ) → is_kept kind value ≡ true → kept_of kind value ≡ Ok value
unfolding is_kept
kept_back kind value h = kept_again value (kept_of kind value) h

not_true : (b : Bool) → (b ≡ true → ⊥) → b ≡ false
not_true true h = absurd (h refl)
not_true false h = refl

file_fails : (value : List ℕ) → is_kept (codes "attachment") value ≡ true → ⊥
unfolding is_kept kept_of rule_of
file_fails value h = absurd cc

sample_fails : (value : List ℕ) → is_kept (codes "malware-sample") value ≡ true → ⊥
unfolding is_kept kept_of rule_of
sample_fails value h = absurd cc

-- no value of a file is kept
pub no_file_type : (kind value : List ℕ) → is_kept kind value ≡ true → is_file_type kind ≡ false
no_file_type kind value h =
    let file : bytes_eq kind (codes "attachment") ≡ false = not_true _ (λ e. file_fails value (subst (λ k. is_kept k value ≡ true) ((bytes_eq-Decides kind (codes "attachment")).0 e) h)) in
    let sample : bytes_eq kind (codes "malware-sample") ≡ false = not_true _ (λ e. sample_fails value (subst (λ k. is_kept k value ≡ true) ((bytes_eq-Decides kind (codes "malware-sample")).0 e) h)) in
    rw (file, sample) refl
