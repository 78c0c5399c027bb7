use Rattle.std.proofs.Common.{◌≡◌, true, arith}
use Rattle.misp_format.specs.Prelude.{body_of, is_utf8}
use Rattle.misp_format.proofs.Fitting.{within_limit, reference_fits}
use Rattle.misp_format.proofs.reading.reference.reference.Goals as goal

-- what is read fits a row
pub invariant_of-result : goal.invariant_of-result
invariant_of-result c =
    let relationship : is_utf8 c.in_ok-relationship_type.relationship_type ≡ true = rw (← c.relationship_type.view_is) c.relationship_type.invariant in
    let comment : is_utf8 c.in_ok-comment.comment ≡ true = rw (← c.comment.view_is) c.comment.invariant in
    let short = within_limit (body_of c.in_ok-it.it) _ _ c.in_ok-body.ensures.gives c.size-bytes.ensures in
    rw c.in_ok-body.ensures.same (omega arith, (omega arith, (omega arith, reference_fits _ relationship comment short)))
