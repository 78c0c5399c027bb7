-- The one spelling of a package.
use Rattle.std.specs.Prelude.{ℕ, List, ◌++◌, codes, length, flat_map}
use Rattle.std.specs.Int.{w32, to_be_bytes}
use Rattle.misp_elem.specs.Spelling as spelling
use Rattle.misp_model.specs.Prelude.{Row}
use Rattle.misp_model.specs.declared.package.PackageFields.{PackageFields}

-- what a package begins with
abbrev pub form : List ℕ
form = codes "MSP1"

-- four bytes
unfoldable pub number : ℕ → List ℕ
number n = to_be_bytes w32 n

-- four bytes of length, and the row
abbrev pub framed_row : Row → List ℕ
framed_row row = spelling.text (spelling.row row)

-- four bytes of their number, and each
abbrev pub framed_rows : List Row → List ℕ
framed_rows rows = number (length rows) ++ flat_map framed_row rows

abbrev pub spell_package : PackageFields → List ℕ
spell_package p =
    form
    ++ (spelling.uid p.event.0
    ++ (number p.part
    ++ (number p.parts
    ++ framed_rows p.rows)))
