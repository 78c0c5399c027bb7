use Rattle.std.proofs.Common.{◌≡◌, true, subst}
use Rattle.misp_types.specs.Values.{IsKept}
use Rattle.misp_format.specs.Prelude.{body_of, is_utf8}
use Rattle.misp_format.proofs.Fitting.{within_limit, attribute_fits}
use Rattle.misp_format.proofs.reading.attribute.attribute.Goals as goal

-- what is read fits a row
pub invariant_of-result : goal.invariant_of-result
invariant_of-result c =
    let it = body_of c.in_ok-it.it in
    let kind : is_utf8 c.in_ok-kind.kind ≡ true = rw (← c.kind-2.view_is) c.kind-2.invariant in
    let comment : is_utf8 c.in_ok-comment.comment ≡ true = rw (← c.comment.view_is) c.comment.invariant in
    let value : is_utf8 c.in_ok-value.value ≡ true = rw (← c.value-2.view_is) c.value-2.invariant in
    let relation : is_utf8 c.in_ok-object_relation.object_relation ≡ true = rw (← c.object_relation.view_is) c.object_relation.invariant in
    let short = within_limit it _ _ c.in_ok-body.ensures.gives c.size-bytes.ensures in rw c.in_ok-body.ensures.same (
      c.place_in.ensures.fits.0,
      (
        c.in_ok-label.ensures.fits,
        (
          c.place_in.ensures.fits.1,
          attribute_fits it _ c.in_ok-kind.ensures.long c.in_ok-category.ensures kind comment value (subst (λ k. IsKept k c.in_ok-value.value) c.as_str.ensures c.in_ok-value.ensures.kept) c.in_ok-tags.ensures.fits relation c.in_ok-seen.ensures.fits short,
        ),
      ),
    )
