-- How many bytes spell a package of rows.
use Rattle.std.proofs.Common.{◌≡◌, ℕ, ◌+◌, ◌*◌, ◌≤◌, List, [], ◌∷◌, length, refl, ap, arith, flat_map, length-append}
use Rattle.std.proofs.lemmas.List.Concat.{flat_map-cons}
use Rattle.misp_elem.specs.Spelling.{row, uid}
use Rattle.misp_model.proofs.Prelude.{AreRows}
use Rattle.misp_model.specs.Prelude.{Row}
use Rattle.misp_model.specs.declared.package.PackageFields.{PackageFields as Package}
use Rattle.misp_package.specs.Spelling.{form, framed_row, number, spell_package}
use Rattle.misp_package.proofs.FieldSizes.{number_size, pieces_size, text_size, uid_size}
use Rattle.misp_package.proofs.RowSizes.{row_size}

rows_size : (rows : List Row) → AreRows rows → length (flat_map framed_row rows) ≤ 83_584 * length rows
rows_size [] are = omega arith
rows_size (r ∷ rows) are =
    omega (
      arith,
      ap length (flat_map-cons framed_row r rows),
      length-append (framed_row r) (flat_map framed_row rows),
      text_size (row r),
      row_size r are.0,
      rows_size rows are.1,
    )

pub package_size : (p : Package) → AreRows p.rows → length (spell_package p) ≤ 32 + 83_584 * length p.rows
package_size p are =
    let rows : List ℕ = flat_map framed_row p.rows in
    let front : length form ≡ 4 = refl in
    omega (
      arith,
      front,
      pieces_size form (uid p.event.0 ∷ number p.part ∷ number p.parts ∷ number (length p.rows) ∷ rows ∷ []),
      uid_size p.event.0,
      number_size p.part,
      number_size p.parts,
      number_size (length p.rows),
      rows_size p.rows are,
    )
