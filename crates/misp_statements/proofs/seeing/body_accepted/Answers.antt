use Rattle.std.proofs.Common.{◌∙◌, subst, IfSome}
use Rattle.misp_elem.specs.Contents.{IsProposalBody}
use Rattle.misp_elem.specs.Row.{may_remove}
use Rattle.misp_statements.proofs.SeenProposals.{seen_key}
use Rattle.misp_statements.proofs.seeing.body_accepted.Goals as goal

pub returns-in-Some-clause-fits : goal.returns-in-Some-clause-fits
returns-in-Some-clause-fits c =
    subst (λ k. IfSome c.body_of.result (λ body. IsProposalBody (may_remove k) body.now))
    (seen_key c.args.rows.now c.args.who.now.groups.now c.args.who.now.here c.args.who.now.org c.proposal_key.result c.in-Some.row.now c.in-Some.ensures ∙ c.proposal_key.ensures) c.body_of.ensures.fits
