-- Reading packages from left to right. A fault is how many bytes were left where the first field
-- stands that is not of its form.
use Rattle.std.specs.Prelude.{◌≡◌, ℕ, zero, suc, ◌+◌, ◌&&◌, List, [], ◌∷◌, length, take, drop, Option, Some, None, Result, Ok, Err, nat_eq, nat_lt, nat_le, if◌then◌else◌}
use Rattle.std.specs.Int.{w32}
use Rattle.std.specs.List.{starts_with}
use Rattle.misp_elem.specs.Prelude.{◌>>=◌, Reading, event_at}
use Rattle.misp_elem.specs.Reading.{ended, number_at}
use Rattle.misp_elem.specs.WireReading.{row_of_wire}
use Rattle.misp_model.specs.Prelude.{EventId, Key, Row}
use Rattle.misp_model.specs.declared.package.PackageFields.{PackageFields}
use Rattle.misp_package.specs.Spelling.{form}
use Rattle.misp_package.specs.declared.reading.Stop.{Stop}

-- ---- what a reader answers

-- A function that stopped so is at the fault, unless memory ran out.
abbrev pub Fails : {A : Type 0} → Stop → Result A ℕ → Type 0
Fails Stop.NoMemory read = Unit {0}
Fails (Stop.Bad left) read = read ≡ Err left

-- A function that returned this, and left these bytes, read what reading gives.
abbrev pub Gives : {A : Type 0} → Result A Stop → List ℕ → Reading A → Type 0
Gives (Ok x) rest read = read ≡ Ok (x, rest)
Gives (Err stop) rest read = Fails stop read

-- the same of all the bytes
abbrev pub GivesAll : {A : Type 0} → Result A Stop → Result A ℕ → Type 0
GivesAll (Ok x) read = read ≡ Ok x
GivesAll (Err stop) read = Fails stop read

-- ---- fields

-- what bytes of a form begin with
unfoldable pub form_at : List ℕ → List ℕ → Reading (Unit {0})
form_at front bytes =
    if starts_with nat_eq bytes front then Ok (tt, drop (length front) bytes)
    else Err (length bytes)

-- a number of four bytes between these
unfoldable pub count_at : ℕ → ℕ → List ℕ → Reading ℕ
count_at least most bytes = do
  count ← number_at w32 bytes
  if nat_le least count.0 && nat_le count.0 most then Ok count else Err (length bytes)

-- a number of parts, more than this part
unfoldable pub parts_at : ℕ → List ℕ → Reading ℕ
parts_at part bytes = do
  parts ← number_at w32 bytes
  if nat_lt part parts.0 then Ok parts else Err (length bytes)

-- ---- rows

-- what all of some bytes are, where these follow: they are left at a fault, too
abbrev pub before_others : {A : Type 0} → List ℕ → Result A ℕ → Reading A
before_others rest (Ok x) = Ok (x, rest)
before_others rest (Err left) = Err (left + length rest)

-- so many bytes, all of which are a row after the row of this key
abbrev pub row_of_length : EventId → Option Key → List ℕ → ℕ → List ℕ → Reading Row
row_of_length event before bytes len rest =
    if nat_lt (length rest) len then Err (length bytes)
    else before_others (drop len rest) (row_of_wire event before (take len rest))

-- a row after its length
unfoldable pub framed_row_at : EventId → Option Key → List ℕ → Reading Row
framed_row_at event before bytes = do
  len ← number_at w32 bytes
  row_of_length event before bytes len.0 len.1

-- so many rows, after the row of this key
unfoldable pub rows_after : EventId → Option Key → ℕ → List ℕ → Reading (List Row)
rows_after event before zero bytes = Ok ([], bytes)
rows_after event before (suc n) bytes = do
  first ← framed_row_at event before bytes
  others ← rows_after event (Some first.0.key) n first.1
  Ok (first.0 ∷ others.0, others.1)

-- the rows after their number
unfoldable pub framed_rows_at : EventId → List ℕ → Reading (List Row)
framed_rows_at event bytes = do
  count ← count_at 1 65 bytes
  rows_after event None count.0 count.1

-- ---- packages

-- a package, before other bytes
unfoldable pub package_at : List ℕ → Reading PackageFields
package_at bytes = do
  front ← form_at form bytes
  event ← event_at front.1
  part ← number_at w32 event.1
  parts ← parts_at part.0 part.1
  rows ← framed_rows_at event.0 parts.1
  Ok (
    record { event = event.0; part = part.0; parts = parts.0; rows = rows.0 },
    rows.1,
  )

-- the package that all of the bytes are
unfoldable pub package_of_bytes : List ℕ → Result PackageFields ℕ
package_of_bytes bytes = package_at bytes >>= λ p. ended p
