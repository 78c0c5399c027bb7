-- What each reader makes of a value, or the need that it then names.
use Rattle.std.specs.Prelude.{◌≡◌, ℕ, ◌^◌, Bool, true, false, ◌&&◌, ◌==◌, nat_lt, nat_le, List, [], ◌∷◌, length, codes, Option, Some, None, option_and_then, option_map, Result, Ok, Err, if◌then◌else◌, bytes_eq}
use Rattle.std.specs.Char.{is_ascii_digit}
use Rattle.std.specs.List.{list_all}
use Rattle.std.specs.Result.{result_ok}
use Rattle.std.specs.Str.Parse.{digits_value}
use Rattle.serde_json.specs.Data.{Num, unsigned, negative, float, Data, null, boolean, number, string, array, object, Items}
use Rattle.serde_json.specs.Find.{get, as_u64, as_str, as_array}
use Rattle.hex.specs.Hex.{decode_sized}
use Rattle.misp_ids.specs.declared.uid.Uid.{Uid}
use Rattle.misp_ids.specs.declared.stamp.TheConstants.{LAST_SECOND}
use Rattle.misp_ids.specs.Uid.{read_uid}
use Rattle.misp_dates.specs.Dates.{is_date}
use Rattle.misp_dates.specs.Moments.{read_moment}
use Rattle.misp_fields.specs.declared.need.Need.{Need}

-- what a function returned, seen by view, is what is read
abbrev pub Shown : {X A : Type 0} → (X → A) → Result X Need → Result A Need → Type 0
Shown view (Ok x) read = read ≡ Ok (view x)
Shown view (Err need) read = read ≡ Err need

-- what there is, or else a need
abbrev pub or_need : {A : Type 0} → Need → Option A → Result A Need
or_need need None = Err need
or_need need (Some x) = Ok x

-- null counts as absent
abbrev pub present : Data → Option Data
present null = None
present (boolean b) = Some (boolean b)
present (number n) = Some (number n)
present (string s) = Some (string s)
present (array ds) = Some (array ds)
present (object ms) = Some (object ms)

abbrev pub member_of : List ℕ → Data → Option Data
member_of name d = option_and_then present (get name d)

abbrev pub text_of : Data → Result (List ℕ) Need
text_of d = or_need Need.Text (as_str d)

abbrev pub list_of : Data → Result Items Need
list_of d = or_need Need.List (as_array d)

-- 1 to 20 decimal digits of a number below 2 ^ 64
abbrev pub is_number_text : List ℕ → Bool
is_number_text s =
    nat_lt 0 (length s) && nat_le (length s) 20 && list_all is_ascii_digit s
    && nat_lt (digits_value 10 s) (2 ^ 64)

abbrev pub number_in : List ℕ → Result ℕ Need
number_in s = if is_number_text s then Ok (digits_value 10 s) else Err Need.Number

abbrev pub number_of : Data → Result ℕ Need
number_of (number n) = or_need Need.Number (as_u64 n)
number_of (string s) = number_in s
number_of _ = Err Need.Number

abbrev pub stamp_in : Result ℕ Need → Result ℕ Need
stamp_in (Ok n) = if nat_le n LAST_SECOND then Ok n else Err Need.Stamp
stamp_in (Err need) = Err Need.Stamp

abbrev pub stamp_of : Data → Result ℕ Need
stamp_of d = stamp_in (number_of d)

abbrev pub flag_num : Num → Result Bool Need
flag_num (unsigned n) = if n == 0 then Ok false else (if n == 1 then Ok true else Err Need.Flag)
flag_num (negative z) = Err Need.Flag
flag_num (float x) = Err Need.Flag

abbrev pub flag_in : List ℕ → Result Bool Need
flag_in s =
    if bytes_eq s (codes "0") then Ok false
    else (if bytes_eq s (codes "1") then Ok true else Err Need.Flag)

abbrev pub flag_of : Data → Result Bool Need
flag_of null = Err Need.Flag
flag_of (boolean b) = Ok b
flag_of (number n) = flag_num n
flag_of (string s) = flag_in s
flag_of (array ds) = Err Need.Flag
flag_of (object ms) = Err Need.Flag

abbrev pub uuid_of : Data → Result Uid Need
uuid_of (string s) = or_need Need.Uuid (read_uid s)
uuid_of _ = Err Need.Uuid

-- the empty text is no identifier
abbrev pub optional_uuid_in : List ℕ → Result (Option Uid) Need
optional_uuid_in [] = Ok None
optional_uuid_in (b ∷ bs) = or_need Need.Uuid (option_map Some (read_uid (b ∷ bs)))

abbrev pub optional_uuid_of : Data → Result (Option Uid) Need
optional_uuid_of (string s) = optional_uuid_in s
optional_uuid_of _ = Err Need.Uuid

-- a date of the calendar, `YYYY-MM-DD`
abbrev pub date_text_of : Data → Result (List ℕ) Need
date_text_of (string s) = if is_date s then Ok s else Err Need.Date
date_text_of _ = Err Need.Date

-- the empty text is no moment
abbrev pub moment_in : List ℕ → Result (Option ℕ) Need
moment_in [] = Ok None
moment_in (b ∷ bs) = or_need Need.Moment (option_map Some (read_moment (b ∷ bs)))

-- a moment, in microseconds since 1970, or none
abbrev pub moment_of : Data → Result (Option ℕ) Need
moment_of (string s) = moment_in s
moment_of _ = Err Need.Moment

-- the three bytes that six hexadecimal digits after `#` write, in either case
abbrev pub colour_in : List ℕ → Option (List ℕ)
colour_in [] = None
colour_in (mark ∷ digits) = if mark == 35 then result_ok (decode_sized digits 3) else None

-- red, green and blue
abbrev pub colour_of : Data → Result (List ℕ) Need
colour_of (string s) = or_need Need.Colour (colour_in s)
colour_of _ = Err Need.Colour
