-- Readers that take a part of what the readers of fields take.
use Rattle.std.specs.Prelude.{ℕ, Bool, false, ◌&&◌, nat_lt, nat_le, List, length, Option, Some, Result, Ok, Err, if◌then◌else◌}
use Rattle.serde_json.specs.Data.{Data, string}
use Rattle.misp_ids.specs.Names.{is_inst_name}
use Rattle.misp_fields.specs.declared.need.Need.{Need}
use Rattle.misp_fields.specs.Fields.{number_of, text_of, date_text_of}

-- READER: any value
abbrev pub any_of : Data → Result Data Need
any_of d = Ok d

-- what is read, where the test holds of it, or else a need
abbrev pub fitting : {A : Type 0} → (A → Bool) → Need → Result A Need → Result A Need
fitting fits need (Ok x) = if fits x then Ok x else Err need
fitting fits need (Err other) = Err other

-- ---- numbers

-- a number between two, both among them
abbrev pub within : ℕ → ℕ → Result ℕ Need → Result ℕ Need
within least most (Ok n) = if nat_le least n && nat_le n most then Ok n else Err Need.Range
within least most (Err need) = Err need

-- READER: a number between two, both among them
abbrev pub number_within : ℕ → ℕ → Data → Result ℕ Need
number_within least most d = within least most (number_of d)

-- ---- texts

-- of so many bytes
abbrev pub is_long : ℕ → ℕ → List ℕ → Bool
is_long least most s = nat_le least (length s) && nat_le (length s) most

-- READER: a text of so many bytes
abbrev pub text_within : ℕ → ℕ → Data → Result (List ℕ) Need
text_within least most d = fitting (is_long least most) Need.Range (text_of d)

-- READER: a text of one byte or more
abbrev pub some_text_of : Data → Result (List ℕ) Need
some_text_of d = fitting (λ s. nat_lt 0 (length s)) Need.Range (text_of d)

-- READER: the name of an instance
abbrev pub inst_name_of : Data → Result (List ℕ) Need
inst_name_of d = fitting is_inst_name Need.Range (text_of d)

abbrev pub some_in : Result (List ℕ) Need → Result (Option (List ℕ)) Need
some_in (Ok s) = Ok (Some s)
some_in (Err need) = Err need

-- READER: a date of the calendar, where there may be none
abbrev pub some_date_of : Data → Result (Option (List ℕ)) Need
some_date_of d = some_in (date_text_of d)

-- ---- files

-- a text that is not empty; other values are dropped
abbrev pub is_file : Data → Bool
is_file (string s) = nat_lt 0 (length s)
is_file _ = false
