-- The forms of addresses.
use Rattle.std.specs.Prelude.{ℕ, Bool, ◌&&◌, ◌||◌, ◌==◌, nat_le, List, length, count_by, if◌then◌else◌}
use Rattle.std.specs.Char.{is_ascii_hexdigit}
use Rattle.std.specs.List.{list_all, list_any, slice_split}
use Rattle.misp_types.specs.Numbers.{is_number}

-- `/`
abbrev pub is_slash : ℕ → Bool
is_slash byte = byte == 47

-- `:`
abbrev pub is_colon : ℕ → Bool
is_colon byte = byte == 58

-- `.`
abbrev pub is_dot : ℕ → Bool
is_dot byte = byte == 46

-- a hexadecimal digit, a colon or a dot
abbrev pub is_colon_byte : ℕ → Bool
is_colon_byte byte = is_ascii_hexdigit byte || is_colon byte || is_dot byte

-- some byte is a colon
abbrev pub has_colon : List ℕ → Bool
has_colon text = list_any is_colon text

-- 2 to 45 such bytes, with at least two colons
abbrev pub is_colon_form : List ℕ → Bool
is_colon_form text =
    nat_le 2 (length text) && nat_le (length text) 45
    && list_all is_colon_byte text && nat_le 2 (count_by is_colon text)

-- four numbers from 0 to 255 between single dots
abbrev pub is_dotted_form : List ℕ → Bool
is_dotted_form text =
    (count_by is_dot text == 3) && list_all (is_number 0 255) (slice_split is_dot text)

-- a text with a colon is of the one form, a text without of the other
abbrev pub is_address : List ℕ → Bool
is_address text = if has_colon text then is_colon_form text else is_dotted_form text

-- the greatest number after the slash
abbrev pub most_bits : List ℕ → ℕ
most_bits address = if has_colon address then 128 else 32
