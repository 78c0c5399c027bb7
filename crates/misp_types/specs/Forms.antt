-- A text of one form, as it is kept, or its fault.
use Rattle.std.specs.Prelude.{ℕ, ◌+◌, Bool, ◌&&◌, ◌||◌, ◌==◌, not, nat_lt, List, [], ◌∷◌, ◌++◌, length, take, drop, map, position, codes, decimal, Option, Some, None, Ok, Err, if◌then◌else◌}
use Rattle.std.specs.Char.{is_ascii_hexdigit, to_ascii_lowercase}
use Rattle.misp_types.specs.declared.fault.ValueFault.{ValueFault}
use Rattle.misp_types.specs.declared.kinds.Form.{Form}
use Rattle.misp_types.specs.Checked.{Checked}
use Rattle.misp_types.specs.Numbers.{number_in, is_number}
use Rattle.misp_types.specs.Addresses.{is_slash, is_address, most_bits}

-- the ASCII letters in lower case
abbrev pub lower : List ℕ → List ℕ
lower text = map to_ascii_lowercase text

-- the text in lower case, unless the byte at this place is wrong
abbrev pub lower_unless_at : Option ℕ → List ℕ → Checked
lower_unless_at None text = Ok (lower text)
lower_unless_at (Some place) text = Err (ValueFault.WrongDigit place)

-- so many hexadecimal digits
abbrev pub digest : ℕ → List ℕ → Checked
digest digits text =
    if length text == digits
    then lower_unless_at (position (λ byte. not (is_ascii_hexdigit byte)) text) text
    else Err ValueFault.WrongLength

-- a space, a tab, a line feed, a carriage return or a slash
abbrev pub is_barred : ℕ → Bool
is_barred byte = (byte == 32) || (byte == 9) || (byte == 10) || (byte == 13) || (byte == 47)

-- at most 255 bytes, of which none is barred
abbrev pub domain : List ℕ → Checked
domain text =
    if nat_lt 255 (length text) then Err ValueFault.WrongLength
    else lower_unless_at (position is_barred text) text

-- the wrong part of an address and what is after its slash
abbrev pub parts_fault : List ℕ → List ℕ → Option ℕ
parts_fault address bits =
    if not (is_address address) then Some 1
    else if is_number 0 (most_bits address) bits then None
    else Some 2

-- the wrong part of an address, which may have a slash and a number after it
abbrev pub address_fault_at : Option ℕ → List ℕ → Option ℕ
address_fault_at None text = if is_address text then None else Some 1
address_fault_at (Some at) text = parts_fault (take at text) (drop (at + 1) text)

-- the same, with what stands before the first slash as the address
abbrev pub address_fault : List ℕ → Option ℕ
address_fault text = address_fault_at (position is_slash text) text

-- the text in lower case, unless this part of it is wrong
abbrev pub lower_unless_part : Option ℕ → List ℕ → Checked
lower_unless_part None text = Ok (lower text)
lower_unless_part (Some part) text = Err (ValueFault.WrongPart part)

-- an address, with or without a slash and a number
abbrev pub address : List ℕ → Checked
address text = lower_unless_part (address_fault text) text

-- a number from 1 to 65535
abbrev pub port : List ℕ → Checked
port text = if is_number 1 65535 text then Ok text else Err (ValueFault.WrongPart 1)

-- `AS` or `as`
abbrev pub is_mark : ℕ → ℕ → Bool
is_mark a s = ((a == 65) && (s == 83)) || ((a == 97) && (s == 115))

-- what is after `AS` or `as`, or the text that does not begin so
abbrev pub after_mark : List ℕ → List ℕ
after_mark [] = []
after_mark (a ∷ []) = a ∷ []
after_mark (a ∷ s ∷ number) = if is_mark a s then number else a ∷ s ∷ number

-- `AS` and the number, where there is one
abbrev pub numbered : Option ℕ → Checked
numbered None = Err (ValueFault.WrongPart 1)
numbered (Some number) = Ok (codes "AS" ++ decimal number)

-- the number of an autonomous system, below 2 ^ 32
abbrev pub system : List ℕ → Checked
system text = numbered (number_in 0 4294967295 (after_mark text))

-- each form has its rule, and any text is kept as it is given
abbrev pub by_form : Form → List ℕ → Checked
by_form (Form.Digest digits) text = digest digits text
by_form Form.Address text = address text
by_form Form.Domain text = domain text
by_form Form.Port text = port text
by_form Form.System text = system text
by_form Form.Any text = Ok text

-- a text of a form as it is kept; no text is empty
abbrev pub text_of : Form → List ℕ → Checked
text_of form text = if length text == 0 then Err ValueFault.WrongLength else by_form form text
