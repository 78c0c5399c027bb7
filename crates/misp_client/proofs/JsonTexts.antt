-- The text of data whose numbers are small counts is read to the data.
use Rattle.std.proofs.Common.{◌≡◌, ◌<◌, ◌≤◌, ◌^◌, Bool, true, false, List, [], ◌∷◌, map, Some, None, Ok, IsUtf8, decimal, refl, ap, ◌∙◌, if◌then◌else◌}
use Rattle.std.specs.Prelude.{⊤}
use Rattle.std.proofs.lemmas.Fmt.{IsAscii-decimal}
use Rattle.std.proofs.lemmas.Str.{IsUtf8-append, IsUtf8-from_ascii, IsUtf8-nil}
use Rattle.json.specs.Print.{quoted}
use Rattle.json.specs.Tree.{HasNumbers, ItemsHaveNumbers, MembersHaveNumbers}
use Rattle.json.proofs.Printed.Decimals.{IsNumber-decimal}
use Rattle.json.proofs.Printed.Utf8.{are_ascii, IsUtf8-are_ascii, IsUtf8-quoted, IsUtf8-boolean}
use Rattle.serde_json.specs.Data.{Data, Items, Members, Num, unsigned, negative, float, null, boolean, number, string, array, object, no_items, item, no_members, member, depth}
use Rattle.serde_json.specs.Read.{max_depth, of_json, read}
use Rattle.serde_json.specs.View.{items_of}
use Rattle.serde_json.specs.Written.{comma_if, compact_text, items_outline, items_text, members_outline, members_text, outline}
use Rattle.misp_lists.proofs.Prelude.{AllByRecursion, is_utf8, is_utf8-from_IsUtf8}
use Rattle.misp_format.specs.Json.{json_in, json_or_fault}
use Rattle.misp_format.proofs.ReadBack.{read_again}
use Rattle.misp_format.proofs.Utf8.{behind}

-- ---- data whose text is plain

-- its texts are UTF-8, its names ASCII, and its numbers are counts of eight bytes
abbrev pub IsCount : Num → Type 0
IsCount (unsigned n) = n < 2 ^ 64
IsCount (negative z) = ⊥
IsCount (float x) = ⊥

abbrev mutual
  pub IsPlain : Data → Type 0
  IsPlain null = ⊤
  IsPlain (boolean b) = ⊤
  IsPlain (number n) = IsCount n
  IsPlain (string s) = IsUtf8 s
  IsPlain (array ds) = ArePlain ds
  IsPlain (object ms) = HasPlain ms

  pub ArePlain : Items → Type 0
  ArePlain no_items = ⊤
  ArePlain (item d ds) = IsPlain d × ArePlain ds

  pub HasPlain : Members → Type 0
  HasPlain no_members = ⊤
  HasPlain (member k d ms) = (are_ascii k ≡ true) × (IsPlain d × HasPlain ms)

-- ---- its text is UTF-8

comma : (later : Bool) → IsUtf8 (comma_if later)
comma true = IsUtf8-are_ascii (44 ∷ []) refl
comma false = IsUtf8-nil

count_utf8 : (n : Num) → IsCount n → IsUtf8 (compact_text (number n))
count_utf8 (unsigned n) h = IsUtf8-from_ascii (decimal n) (IsAscii-decimal n h)
count_utf8 (negative z) h = absurd h
count_utf8 (float x) h = absurd h

mutual
  plain_utf8 : (d : Data) → IsPlain d → IsUtf8 (compact_text d)
  plain_utf8 null h = IsUtf8-are_ascii _ refl
  plain_utf8 (boolean b) h = IsUtf8-boolean b
  plain_utf8 (number n) h = count_utf8 n h
  plain_utf8 (string s) h = IsUtf8-quoted s h
  plain_utf8 (array ds) h = behind 91 _ refl (items_utf8 false ds h)
  plain_utf8 (object ms) h = behind 123 _ refl (members_utf8 false ms h)

  items_utf8 : (later : Bool) (ds : Items) → ArePlain ds → IsUtf8 (items_text later ds)
  items_utf8 later no_items h = IsUtf8-are_ascii (93 ∷ []) refl
  items_utf8 later (item d ds) h = IsUtf8-append (comma_if later) _ (comma later) (IsUtf8-append (compact_text d) _ (plain_utf8 d h.0) (items_utf8 true ds h.1))

  members_utf8 : (later : Bool) (ms : Members) → HasPlain ms → IsUtf8 (members_text later ms)
  members_utf8 later no_members h = IsUtf8-are_ascii (125 ∷ []) refl
  members_utf8 later (member k d ms) h =
      IsUtf8-append (comma_if later) _ (comma later) (IsUtf8-append (quoted k) _ (IsUtf8-quoted k (IsUtf8-are_ascii k h.0)) (behind 58 _ refl (IsUtf8-append (compact_text d) _ (plain_utf8 d h.1.0) (members_utf8 true ms h.1.1))))

-- ---- its numbers are numbers

count_number : (n : Num) → IsCount n → HasNumbers (outline (number n))
count_number (unsigned n) h = IsNumber-decimal n h
count_number (negative z) h = absurd h
count_number (float x) h = absurd h

mutual
  plain_numbers : (d : Data) → IsPlain d → HasNumbers (outline d)
  plain_numbers null h = tt
  plain_numbers (boolean b) h = tt
  plain_numbers (number n) h = count_number n h
  plain_numbers (string s) h = tt
  plain_numbers (array ds) h = items_numbers ds h
  plain_numbers (object ms) h = members_numbers ms h

  items_numbers : (ds : Items) → ArePlain ds → ItemsHaveNumbers (items_outline ds)
  items_numbers no_items h = tt
  items_numbers (item d ds) h = (plain_numbers d h.0, items_numbers ds h.1)

  members_numbers : (ms : Members) → HasPlain ms → MembersHaveNumbers (members_outline ms)
  members_numbers no_members h = tt
  members_numbers (member k d ms) h = (plain_numbers d h.1.0, members_numbers ms h.1.1)

-- ---- its text is read

pub plain_read : (d : Data) → IsPlain d → of_json (outline d) ≡ Some d → depth d ≤ max_depth → json_in (compact_text d) ≡ Ok d
unfolding json_in
plain_read d plain back shallow =
    let utf8 : is_utf8 (compact_text d) ≡ true = is_utf8-from_IsUtf8 (compact_text d) (plain_utf8 d plain) in
    ap (λ b. json_or_fault (if b then read (compact_text d) else None)) utf8
    ∙ ap json_or_fault (read_again d (plain_numbers d plain) back shallow)

pub are_plain : {A : Type 0} {Is : A → Type 0} (one : A → Data) → ((a : A) → Is a → IsPlain (one a)) → (xs : List A) → AllByRecursion Is xs → ArePlain (items_of (map one xs))
are_plain one h [] all = tt
are_plain one h (x ∷ xs) all = (h x all.0, are_plain one h xs all.1)
