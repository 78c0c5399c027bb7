-- What is readable is read back; and why a batch is not its bytes.
use Rattle.std.proofs.Common.{◌≡◌, ◌≤◌, ◌^◌, false, ℕ, Ok, refl, arith}
use Rattle.misp_elem.specs.Prelude.{IsRow, Label, row_of}
use Rattle.misp_elem.specs.declared.key.Place.{Place}
use Rattle.misp_elem.specs.declared.key.KeyForm.{KeyForm as Key}
use Rattle.misp_elem.specs.declared.content.Content.{Content}
use Rattle.misp_elem.specs.declared.row.RowFields.{RowFields as Row}
use Rattle.misp_elem.specs.Spelling.{stamp}
use Rattle.misp_elem.proofs.Rows.{row_of_again}
use Rattle.misp_elem.specs.Spelling as spelling

-- the bytes of a row are read as this row
pub reads_back : (r : Row) → IsRow r → row_of (spelling.row r) ≡ Ok r
reads_back r is = row_of_again r is

-- the tombstone of the event 7, with this stamp
abbrev pub tombstone : ℕ → Row
tombstone stamp = record {
  owner = record { 0 = record { 0 = 5 } };
  key = Key.Element (record { 0 = record { 0 = 7 } }) Place.Event;
  stamp = stamp;
  label = Label.Own;
  held = false;
  carried = false;
  content = Content.Gone;
}

-- it is a row where the stamp is one
pub is_tombstone : (stamp : ℕ) → stamp ≤ 253402300799 → IsRow (tombstone stamp)
is_tombstone stamp is = (omega arith, ((omega arith, (refl, tt)), (is, ((refl, tt), (tt, (refl, tt))))))

-- its bytes are those of another, which is no row: so the bytes of a batch do not tell whether what was put is a row
pub one_spelling : spelling.row (tombstone (2 ^ 64)) ≡ spelling.row (tombstone 0)
unfolding stamp
one_spelling = refl

-- the row with this stamp is none
pub is_no_row : IsRow (tombstone (2 ^ 64)) → ⊥
is_no_row is =
    let late : 2 ^ 64 ≤ 253402300799 = is.1.1.0 in omega (arith, late)
