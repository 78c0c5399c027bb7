-- Reading from left to right. A fault is how many bytes were left where the first field stands that
-- is not of its form.
use Rattle.std.specs.Prelude.{◌≡◌, ℕ, ◌-◌, List, [], ◌∷◌, length, take, drop, Bool, true, false, ◌&&◌, Option, Some, None, Result, Ok, Err, nat_lt, nat_le, ◌==◌, if◌then◌else◌}
use Rattle.std.specs.Int.{Width, w32, w64, w128, byte_len, from_be_bytes}
use Rattle.misp_ids.specs.declared.uid.Uid.{Uid}
use Rattle.misp_ids.specs.declared.uid.EventId.{EventId}
use Rattle.misp_ids.specs.declared.uid.OrgId.{OrgId}
use Rattle.misp_ids.specs.declared.uid.ElemId.{ElemId}
use Rattle.misp_ids.specs.Names.{is_inst_name}
use Rattle.misp_ids.specs.declared.stamp.TheConstants.{LAST_SECOND}
use Rattle.misp_dates.specs.declared.moment.TheConstants.{LAST_MICROSECOND}
use Rattle.misp_types.specs.Values.{is_kept}
pub use Rattle.misp_lists.specs.Reading.{◌>>=◌}
use Rattle.misp_elem.specs.declared.fault.BadField.{BadField}
use Rattle.misp_elem.specs.declared.fault.DecodeFault.{DecodeFault}
use Rattle.misp_elem.specs.declared.fault.DecodeFault.TheVariants.{BadRow}
use Rattle.misp_elem.specs.declared.fault.Stop.{Stop}
use Rattle.misp_elem.specs.Fields.{is_text, is_date}

-- ---- what a reader answers

-- a value and the bytes after it, or the fault
abbrev pub Reading : Type 0 → Type 0
Reading A = Result (A × List ℕ) ℕ

-- A function that returned this, and left these bytes, read what reading gives.
abbrev pub Reads : {A : Type 0} → Result A BadField → List ℕ → Reading A → Type 0
Reads (Ok x) rest read = read ≡ Ok (x, rest)
Reads (Err e) rest read = read ≡ Err e.left

-- the same of all the bytes
abbrev pub ReadsAll : {A : Type 0} → Result A BadField → Result A ℕ → Type 0
ReadsAll (Ok x) read = read ≡ Ok x
ReadsAll (Err e) read = read ≡ Err e.left

-- the same where memory may run out
abbrev pub Fails : {A : Type 0} → Stop → Reading A → Type 0
Fails Stop.NoMemory read = Unit {0}
Fails (Stop.Bad e) read = read ≡ Err e.left

abbrev pub Gives : {A : Type 0} → Result A Stop → List ℕ → Reading A → Type 0
Gives (Ok x) rest read = read ≡ Ok (x, rest)
Gives (Err e) rest read = Fails e read

-- the same of all the bytes
abbrev pub GivesAll : {A : Type 0} → Result A Stop → Result A ℕ → Type 0
GivesAll (Ok x) read = read ≡ Ok x
GivesAll (Err Stop.NoMemory) read = Unit {0}
GivesAll (Err (Stop.Bad e)) read = read ≡ Err e.left

-- nothing follows
abbrev pub ended : {A : Type 0} → A × List ℕ → Result A ℕ
ended x = if length x.1 == 0 then Ok x.0 else Err (length x.1)

-- the answer to all of the bytes
abbrev pub answer : {A : Type 0} → List ℕ → Result A ℕ → Result A DecodeFault
answer bytes (Ok x) = Ok x
answer bytes (Err left) = Err (BadRow (length bytes - left))

-- An answer is the one expected, unless memory ran out.
abbrev pub Answers : {A : Type 0} → Result A DecodeFault → Result A DecodeFault → Type 0
Answers (Ok x) expected = expected ≡ Ok x
Answers (Err DecodeFault.NoMemory) expected = Unit {0}
Answers (Err (DecodeFault.BadRow p)) expected = expected ≡ Err (BadRow p)

-- ---- fields

abbrev pub byte_at : List ℕ → Reading ℕ
byte_at [] = Err 0
byte_at (b ∷ rest) = Ok (b, rest)

abbrev pub uid_at : List ℕ → Reading Uid
uid_at bytes =
    if nat_lt (length bytes) 16 then Err (length bytes)
    else Ok (record { 0 = from_be_bytes w128 (take 16 bytes) }, drop 16 bytes)

abbrev pub elem_at : List ℕ → Reading ElemId
elem_at bytes = uid_at bytes >>= λ u. Ok (record { 0 = u.0 }, u.1)

abbrev pub event_at : List ℕ → Reading EventId
event_at bytes = uid_at bytes >>= λ u. Ok (record { 0 = u.0 }, u.1)

abbrev pub org_at : List ℕ → Reading OrgId
org_at bytes = uid_at bytes >>= λ u. Ok (record { 0 = u.0 }, u.1)

-- the name after its length, where all are its bytes
abbrev pub inst_of : List ℕ → ℕ → List ℕ → Reading (List ℕ)
inst_of bytes len rest =
    if nat_lt (length rest) len then Err (length bytes)
    else if is_inst_name (take len rest) then Ok (take len rest, drop len rest)
    else Err (length bytes)

unfoldable pub inst_at : List ℕ → Reading (List ℕ)
inst_at bytes = byte_at bytes >>= λ len. inst_of bytes len.0 len.1

abbrev pub number_at : Width → List ℕ → Reading ℕ
number_at w bytes =
    if nat_lt (length bytes) (byte_len w) then Err (length bytes)
    else Ok (from_be_bytes w (take (byte_len w) bytes), drop (byte_len w) bytes)

-- a byte between these
unfoldable pub between_at : ℕ → ℕ → List ℕ → Reading ℕ
between_at least most bytes = do
  b ← byte_at bytes
  if nat_le least b.0 && nat_le b.0 most then Ok b else Err (length bytes)

unfoldable pub stamp_at : List ℕ → Reading ℕ
stamp_at bytes = do
  n ← number_at w64 bytes
  if nat_le n.0 LAST_SECOND then Ok n else Err (length bytes)

-- the text after its length
abbrev pub text_of : (List ℕ → Bool) → List ℕ → ℕ → List ℕ → Reading (List ℕ)
text_of is_good bytes len rest =
    if nat_lt (length rest) len then Err (length bytes)
    else if is_good (take len rest) then Ok (take len rest, drop len rest)
    else Err (length bytes)

unfoldable pub text_at : ℕ → ℕ → List ℕ → Reading (List ℕ)
text_at least most bytes = do
  len ← number_at w32 bytes
  text_of (is_text least most) bytes len.0 len.1

unfoldable pub date_at : List ℕ → Reading (List ℕ)
date_at bytes = do
  date ← text_at 10 10 bytes
  if is_date date.0 then Ok date else Err (length bytes)

-- a value of this type that is kept as it is
unfoldable pub value_at : ℕ → List ℕ → List ℕ → Reading (List ℕ)
value_at room kind bytes = do
  value ← text_at 0 room bytes
  if is_kept kind value.0 then Ok value else Err (length bytes)

abbrev pub flag_of : List ℕ → ℕ → List ℕ → Reading Bool
flag_of bytes b rest =
    if b == 0 then Ok (false, rest)
    else if b == 1 then Ok (true, rest)
    else Err (length bytes)

unfoldable pub flag_at : List ℕ → Reading Bool
flag_at bytes = byte_at bytes >>= λ b. flag_of bytes b.0 b.1

abbrev pub optional_of : Bool → List ℕ → Reading (Option Uid)
optional_of false rest = Ok (None, rest)
optional_of true rest = uid_at rest >>= λ u. Ok (Some u.0, u.1)

unfoldable pub optional_at : List ℕ → Reading (Option Uid)
optional_at bytes = flag_at bytes >>= λ f. optional_of f.0 f.1

-- a moment that is no earlier than this
unfoldable pub moment_at : ℕ → List ℕ → Reading ℕ
moment_at least bytes = do
  n ← number_at w64 bytes
  if nat_le least n.0 && nat_le n.0 LAST_MICROSECOND then Ok n else Err (length bytes)

abbrev pub optional_moment_of : ℕ → Bool → List ℕ → Reading (Option ℕ)
optional_moment_of least false rest = Ok (None, rest)
optional_moment_of least true rest = moment_at least rest >>= λ m. Ok (Some m.0, m.1)

unfoldable pub optional_moment_at : ℕ → List ℕ → Reading (Option ℕ)
optional_moment_at least bytes =
    flag_at bytes >>= λ f. optional_moment_of least f.0 f.1
