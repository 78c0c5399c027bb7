-- The form in which the value of an attribute is kept, or its fault.
use Rattle.std.specs.Prelude.{◌≡◌, ℕ, ◌+◌, ◌==◌, Bool, false, List, ◌++◌, length, take, drop, codes, Option, Some, None, option_map, Ok, Err, if◌then◌else◌, bytes_eq}
use Rattle.std.specs.Path.{rfind_below}
use Rattle.misp_types.specs.declared.fault.ValueFault.{ValueFault}
use Rattle.misp_types.specs.declared.kinds.Form.{Form}
use Rattle.misp_types.specs.declared.kinds.Rule.{Rule}
use Rattle.misp_types.specs.Checked.{Checked}
use Rattle.misp_types.specs.Forms.{text_of}
use Rattle.misp_types.specs.Kinds.{rule_of}

-- the place of the last `|`
abbrev pub last_bar : List ℕ → Option ℕ
last_bar value = rfind_below 124 value (length value)

-- what is before and after a place
abbrev pub around : List ℕ → ℕ → List ℕ × List ℕ
around text at = (take at text, drop (at + 1) text)

-- what is before and after the last `|`
abbrev pub split_value : List ℕ → Option (List ℕ × List ℕ)
split_value value = option_map (around value) (last_bar value)

-- each fault of a part is a fault of the part
abbrev pub part_of : ℕ → Checked → Checked
part_of part (Ok kept) = Ok kept
part_of part (Err fault) = Err (ValueFault.WrongPart part)

-- both as they are kept, the first fault counting
abbrev pub joined : Checked → Checked → Checked
joined (Ok front) (Ok back) = Ok (front ++ codes "|" ++ back)
joined (Ok front) (Err fault) = Err fault
joined (Err fault) back = Err fault

-- each part by its own form
abbrev pub pair_of : Form → Form → List ℕ → List ℕ → Checked
pair_of first second front back =
    joined (part_of 1 (text_of first front)) (part_of 2 (text_of second back))

-- without a `|` the second part is missing
abbrev pub two_at : Form → Form → Option (List ℕ × List ℕ) → Checked
two_at first second None = Err (ValueFault.WrongPart 2)
two_at first second (Some (front, back)) = pair_of first second front back

-- a value of two parts, parted by its last `|`
abbrev pub two_of : Form → Form → List ℕ → Checked
two_of first second value =
    if length value == 0 then Err ValueFault.WrongLength
    else two_at first second (split_value value)

-- values of one part, of two, and files
abbrev pub by_rule : Rule → List ℕ → Checked
by_rule (Rule.One form) value = text_of form value
by_rule (Rule.Two first second) value = two_of first second value
by_rule Rule.File value = Err ValueFault.BinaryType

-- what is kept of a value of a type, or its fault
unfoldable pub kept_of : List ℕ → List ℕ → Checked
kept_of kind value = by_rule (rule_of kind) value

-- what is kept is this value
abbrev pub keeps : List ℕ → Checked → Bool
keeps value (Ok kept) = bytes_eq kept value
keeps value (Err fault) = false

-- whether a value of a type is kept as it is
unfoldable pub is_kept : List ℕ → List ℕ → Bool
is_kept kind value = keeps value (kept_of kind value)

-- a value of a type that is kept as it is
abbrev pub IsKept : List ℕ → List ℕ → Type 0
IsKept kind value = kept_of kind value ≡ Ok value
