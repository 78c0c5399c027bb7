use Rattle.std.proofs.Common.{◌≡◌, true, refl, arith}
use Rattle.misp_format.specs.Prelude.{body_of, is_utf8}
use Rattle.misp_format.proofs.Fitting.{within_limit, object_fits}
use Rattle.misp_format.proofs.reading.object.object.Goals as goal

-- what is read fits a row
pub invariant_of-result : goal.invariant_of-result
invariant_of-result c =
    let it = body_of c.args.it.now in
    let name : is_utf8 c.in_ok-name.name ≡ true = rw (← c.name.view_is) c.name.invariant in
    let meta_category : is_utf8 c.in_ok-meta_category.meta_category ≡ true = rw (← c.meta_category.view_is) c.meta_category.invariant in
    let description : is_utf8 c.in_ok-description.description ≡ true = rw (← c.description.view_is) c.description.invariant in
    let comment : is_utf8 c.in_ok-comment.comment ≡ true = rw (← c.comment.view_is) c.comment.invariant in
    let short = within_limit it _ _ c.in_ok-body.ensures.gives c.size-bytes.ensures in rw c.in_ok-body.ensures.same (
      (refl, omega arith),
      (
        c.in_ok-label.ensures.fits,
        (refl, object_fits _ c.in_ok-name.ensures.long name meta_category description comment c.in_ok-template_uuid.ensures.in_range (omega arith) short),
      ),
    )
