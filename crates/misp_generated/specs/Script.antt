-- The script that is run over the generated network.
use Rattle.std.specs.Prelude.{ℕ, ◌+◌, ◌*◌, ◌^◌, ◌%◌, List, [], ◌∷◌, ◌++◌, codes, decimal, flat_map}
use Rattle.std.specs.List.{range_with_len}
use Rattle.misp_ids.specs.Uid.{text_of}
use Rattle.misp_ids.specs.declared.uid.Uid.{Uid}
use Rattle.misp_generated.specs.Network.{description_text, key_of}

-- ---- identifiers

-- of the k-th event: 00000000-0000-4000-8000- and k in twelve hexadecimal digits
abbrev pub event_uuid : ℕ → Uid
event_uuid k = record { 0 = 0x40008000 * 2 ^ 48 + k }

-- of its attribute: 00000001-0000-4000-8000- and the same digits
abbrev pub attribute_uuid : ℕ → Uid
attribute_uuid k = record { 0 = 2 ^ 96 + 0x40008000 * 2 ^ 48 + k }

-- ---- lines

-- a moment and a word, in front of each command
abbrev pub step_head : List ℕ
step_head = codes "1700000000 00000000000000000000000000000000 "

-- a request at an instance with the key of this letter
abbrev pub request_line : List ℕ → ℕ → List ℕ → List ℕ
request_line inst letter request =
    step_head ++ codes "req " ++ inst ++ codes " " ++ key_of letter ++ codes " " ++ request
    ++ codes "\n"

-- the k-th event, with one attribute; its level is one of three by turns
abbrev pub event_body : ℕ → List ℕ
event_body k =
    codes "{\"Event\":{\"uuid\":\"" ++ text_of (event_uuid k)
    ++ codes "\",\"info\":\"event " ++ decimal k
    ++ codes "\",\"date\":\"2023-11-14\",\"distribution\":\"" ++ decimal (1 + k % 3)
    ++ codes "\",\"Attribute\":[{\"uuid\":\"" ++ text_of (attribute_uuid k)
    ++ codes "\",\"type\":\"text\",\"value\":\"value " ++ decimal k ++ codes "\"}]}}"

-- it is added and published at the first instance
abbrev pub event_lines : ℕ → List ℕ
event_lines k =
    request_line (codes "a") 65 (codes "POST /events/add " ++ event_body k)
    ++ request_line (codes "a") 65 (codes "POST /events/publish/" ++ text_of (event_uuid k))

-- a pull by an instance over a link
abbrev pub pull_line : List ℕ → List ℕ
pull_line command = step_head ++ codes "pull " ++ command ++ codes "\n"

-- once around the ring
abbrev pub pull_lines : List ℕ
pull_lines =
    flat_map pull_line (codes "b ba" ∷ codes "c cb" ∷ codes "d dc" ∷ codes "a ad" ∷ [])

-- the search for one value at an instance
abbrev pub search_line : List ℕ → ℕ → List ℕ
search_line inst letter =
    request_line inst letter (codes "POST /attributes/restSearch {\"value\":\"value 1\"}")

abbrev pub search_lines : List ℕ
search_lines =
    search_line (codes "a") 65 ++ search_line (codes "b") 66 ++ search_line (codes "c") 67
    ++ search_line (codes "d") 68

-- SCRIPT: so many events, twice around the ring, and a search at each instance
unfoldable pub script_text : ℕ → List ℕ
script_text count =
    flat_map event_lines (range_with_len 1 count) ++ pull_lines ++ pull_lines ++ search_lines

-- SOURCE: the description, the line between, and the script
unfoldable pub source_text : ℕ → List ℕ
source_text count = description_text ++ codes "---\n" ++ script_text count
