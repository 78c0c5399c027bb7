-- The fields of a line, and the place of the first that is missing or not of its form.
use Rattle.std.specs.Prelude.{◌≡◌, ℕ, ◌+◌, ◌-◌, ◌==◌, Bool, List, length, take, drop, position, Option, Some, None, option_map, Result, Ok, Err, ⊤}
use Rattle.std.specs.Option.{option_map_or}
pub use Rattle.misp_lists.specs.Reading.{◌>>=◌}
use Rattle.misp_script.specs.declared.field.BadLine.{BadLine}

-- a value, or the place of the first field that is missing or not so
abbrev pub Reading : Type 0 → Type 0
Reading A = Result A BadLine

-- what a function returned, seen by view, is what reading gives
abbrev pub Shows : {X A : Type 0} → (X → A) → Reading X → Reading A → Type 0
Shows view (Ok x) read = read ≡ Ok (view x)
Shows view (Err bad) read = read ≡ Err bad

-- a field: where it begins, its bytes, and what follows the space after it, if there is one
pub record FieldData : Type 0 where
  pub place : ℕ
  pub text : List ℕ
  pub rest : Option (List ℕ)

abbrev pub is_space : ℕ → Bool
is_space byte = byte == 32

abbrev pub up_to_space : List ℕ → List ℕ
up_to_space text = option_map_or (λ at. take at text) (position is_space text) text

abbrev pub after_space : List ℕ → Option (List ℕ)
after_space text = option_map (λ at. drop (at + 1) text) (position is_space text)

-- the first field of what is left of a line
abbrev pub field_in : List ℕ → List ℕ → FieldData
field_in line left =
    record { place = length line - length left; text = up_to_space left; rest = after_space left }

-- the same, where something is left; a field that is missing is at the line's end
abbrev pub next_field : List ℕ → Option (List ℕ) → Reading FieldData
next_field line None = Err (record { place = length line })
next_field line (Some left) = Ok (field_in line left)

-- what a field says, or its place
abbrev pub kept : {A : Type 0} → ℕ → Option A → Reading A
kept place None = Err (record { place = place })
kept place (Some x) = Ok x

-- no field is left; one too many is one that is not so
abbrev pub no_field : List ℕ → Option (List ℕ) → Reading ⊤
no_field line None = Ok tt
no_field line (Some left) = Err (record { place = length line - length left })
