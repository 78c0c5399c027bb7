use Rattle.std.proofs.Common.{◌+◌, ◌≤◌, arith, codes, le-leb}
use Rattle.misp_elem.specs.Prelude.{IsBetween, text_limit}
use Rattle.misp_model.specs.Edit.{given_size, pair_size}
use Rattle.misp_format.specs.Prelude.{body_of, category_of}
use Rattle.misp_format.proofs.Fitting.{passed_limit}
use Rattle.misp_format.proofs.Kept.{category_ok}
use Rattle.misp_format.proofs.Edits.{given_row_keeps, text_given, pair_given}
use Rattle.misp_format.proofs.reading.attribute_edit.read_attribute_edit.Goals as goal

-- what is read fits a row
pub of-requires-2 : goal.of-requires-2
of-requires-2 c =
    let it = body_of c.in_ok-it.it in
    let small = passed_limit it _ c.in_ok-fields.ensures.gives in
    let short : given_size c.in_ok-comment.comment + pair_size c.in_ok-kind_value.kind_value ≤ text_limit = omega (arith, c.saturating_add-bytes.ensures, c.given_size.ensures, c.pair_size.ensures) in rw c.in_ok-fields.ensures.same (
      c.in_ok-label.ensures.fits,
      (
        given_row_keeps (IsBetween 0 15) it (codes "category") category_of category_ok _ c.in_ok-category.ensures,
        (
          text_given _ c.in_ok-comment.ensures.utf8 (omega (arith, short)),
          (pair_given _ c.in_ok-kind_value.ensures.fits (omega (arith, short)), (c.in_ok-seen.ensures.fits, le-leb _ _ short)),
        ),
      ),
    )
