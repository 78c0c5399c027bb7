-- The summary of the lines that a run of the generated script writes.
use Rattle.std.specs.Prelude.{ℕ, ◌+◌, ◌*◌, List, [], ◌∷◌, ◌++◌, codes, decimal, drop, filter, if◌then◌else◌, is_some, length, map, nat_eq, Option, None, Some, option_and_then, option_map}
use Rattle.std.specs.List.{range_with_len, slice_get, starts_with}
use Rattle.std.specs.Str.{is_utf8}
use Rattle.serde_json.specs.Data.{Data, Items, item, no_items}
use Rattle.serde_json.specs.Find.{as_array, as_number, as_u64, get}
use Rattle.serde_json.specs.Read.{read}

-- ---- replies

-- what stands before the body on the line of a number, where the status is 200
abbrev pub accepted_head : ℕ → List ℕ
accepted_head number = decimal number ++ codes " 200 "

-- what is behind this, where the line begins so
abbrev pub behind : List ℕ → List ℕ → Option (List ℕ)
behind head line =
    if starts_with nat_eq line head then Some (drop (length head) line) else None

-- the body of the reply on a line, counted from 0, where its status is 200
abbrev pub reply_at : List (List ℕ) → ℕ → Option (List ℕ)
reply_at lines place =
    option_and_then (behind (accepted_head (place + 1))) (slice_get lines place)

-- the value of a body that is JSON
abbrev pub value_of : List ℕ → Option Data
value_of body = if is_utf8 body then read body else None

-- the value in a reply, and its member of this name
abbrev pub value_at : List (List ℕ) → ℕ → Option Data
value_at lines place = option_and_then value_of (reply_at lines place)

abbrev pub member_at : List (List ℕ) → ℕ → List ℕ → Option Data
member_at lines place name = option_and_then (get name) (value_at lines place)

-- the number in a member of a reply, and how many items the list in a member has
abbrev pub count_at : List (List ℕ) → ℕ → List ℕ → Option ℕ
count_at lines place name =
    option_and_then as_u64 (option_and_then as_number (member_at lines place name))

abbrev pub items_count : Items → ℕ
items_count no_items = 0
items_count (item d ds) = items_count ds + 1

abbrev pub length_at : List (List ℕ) → ℕ → List ℕ → Option ℕ
length_at lines place name =
    option_map items_count (option_and_then as_array (member_at lines place name))

-- ---- what is written

-- a number, or a dash where there is none
abbrev pub count_text : Option ℕ → List ℕ
count_text None = codes "-"
count_text (Some count) = decimal count

-- the sum, where there is each of them
abbrev pub sum_of : List (Option ℕ) → Option ℕ
sum_of [] = Some 0
sum_of (None ∷ counts) = None
sum_of (Some count ∷ counts) = option_map (λ sum. count + sum) (sum_of counts)

-- how many of so many events were added; each has two lines, of which this is the first
abbrev pub added : List (List ℕ) → ℕ → ℕ
added lines count =
    length (filter is_some (map (λ index. reply_at lines (2 * index)) (range_with_len 0 count)))

abbrev pub added_text : List (List ℕ) → ℕ → List ℕ
added_text lines count = codes "events " ++ decimal (added lines count) ++ codes "\n"

-- an instance, and the elements and events that it pulled
abbrev pub pull_text : List (List ℕ) → ℕ → List ℕ → List ℕ
pull_text lines place inst =
    inst ++ codes " " ++ count_text (count_at lines place (codes "elements"))
    ++ codes " " ++ count_text (count_at lines place (codes "events")) ++ codes "\n"

-- four pulls, of which this is the first
abbrev pub pulls_text : List (List ℕ) → ℕ → List ℕ
pulls_text lines first =
    pull_text lines first (codes "b") ++ pull_text lines (first + 1) (codes "c")
    ++ pull_text lines (first + 2) (codes "d") ++ pull_text lines (first + 3) (codes "a")

-- the elements of four pulls
abbrev pub again : List (List ℕ) → ℕ → Option ℕ
again lines first =
    sum_of (map (λ place. count_at lines place (codes "elements")) (range_with_len first 4))

abbrev pub again_text : List (List ℕ) → ℕ → List ℕ
again_text lines first = codes "again " ++ count_text (again lines first) ++ codes "\n"

-- how many attributes a search found, and each of four
abbrev pub hits_text : List (List ℕ) → ℕ → List ℕ
hits_text lines place = codes " " ++ count_text (length_at lines place (codes "Attribute"))

abbrev pub all_hits_text : List (List ℕ) → ℕ → List ℕ
all_hits_text lines first =
    codes "hits" ++ hits_text lines first ++ hits_text lines (first + 1)
    ++ hits_text lines (first + 2) ++ hits_text lines (first + 3) ++ codes "\n"

-- SUMMARY: how many events were added; what each instance pulled once around the ring; what came
-- again the second time; and how many attributes were found at each
unfoldable pub summary_text : ℕ → List (List ℕ) → List ℕ
summary_text count lines =
    added_text lines count ++ pulls_text lines (2 * count) ++ again_text lines (2 * count + 4)
    ++ all_hits_text lines (2 * count + 8)
