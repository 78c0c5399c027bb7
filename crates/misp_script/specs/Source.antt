-- A source: a description, and a script after the first line that is exactly `---`.
use Rattle.std.specs.Prelude.{ℕ, ◌+◌, ◌-◌, ◌==◌, ◌&&◌, ◌||◌, Bool, true, nat_eq, List, [], ◌∷◌, length, take, drop, slice_index, codes, Option, find}
use Rattle.std.specs.List.{range_with_len, starts_with}
use Rattle.std.specs.Option.{option_map_or}
use Rattle.misp_script.specs.Lines.{is_line_feed}

-- a line ends here: at LF, or where all ends
abbrev pub ends_line : List ℕ → Bool
ends_line [] = true
ends_line (byte ∷ rest) = is_line_feed byte

-- three hyphens and the end of a line
abbrev pub is_mark : List ℕ → Bool
is_mark text = starts_with nat_eq text (codes "---") && ends_line (drop 3 text)

-- a line begins at the place: the first, or after an LF
abbrev pub begins_line : List ℕ → ℕ → Bool
begins_line source at = (at == 0) || is_line_feed (slice_index source (at - 1))

-- a line that is exactly `---` begins at the place
abbrev pub begins_mark : List ℕ → ℕ → Bool
begins_mark source at = begins_line source at && is_mark (drop at source)

-- the first place at which one begins
abbrev pub mark_at : List ℕ → Option ℕ
mark_at source = find (begins_mark source) (range_with_len 0 (length source))

-- what stands before that line, or all
abbrev pub description_part : List ℕ → List ℕ
description_part source = option_map_or (λ at. take at source) (mark_at source) source

-- what stands after that line, or nothing
abbrev pub script_part : List ℕ → List ℕ
script_part source = option_map_or (λ at. drop (at + 4) source) (mark_at source) []
