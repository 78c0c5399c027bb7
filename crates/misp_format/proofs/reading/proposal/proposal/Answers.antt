use Rattle.std.proofs.Common.{◌≡◌, [], true, arith, subst}
use Rattle.misp_format.specs.Prelude.{body_of, is_utf8}
use Rattle.misp_format.specs.Entries.{IsKeptUnless}
use Rattle.misp_format.proofs.Fitting.{within_limit}
use Rattle.misp_format.proofs.Statements.{proposal_fits}
use Rattle.misp_format.proofs.reading.proposal.proposal.Goals as goal

-- what is read fits a row
pub of-requires-3 : goal.of-requires-3
of-requires-3 c =
    let it = body_of c.in_ok-it.it in
    let none : c.of-2.result ≡ [] = let new = c.new.ensures.bytes in let of = c.of-2.ensures in cc in
    let comment : is_utf8 c.in_ok-comment.comment ≡ true = rw (← c.comment.view_is) c.comment.invariant in
    let value = subst (λ k. IsKeptUnless c.in_ok-remove.remove k c.in_ok-value.value) c.as_str.ensures c.in_ok-value.ensures.kept in
    let removal = rw c.is_there.ensures at c.in_ok-remove.ensures in
    let short = within_limit it _ _ c.in_ok-body.ensures.gives c.size-bytes.ensures in rw c.in_ok-body.ensures.same (
      omega arith,
      (
        c.get-target.ensures.fits,
        (
          omega arith,
          (none, proposal_fits it _ _ removal none c.in_ok-kind.ensures.fits c.in_ok-category.ensures comment value short),
        ),
      ),
    )
