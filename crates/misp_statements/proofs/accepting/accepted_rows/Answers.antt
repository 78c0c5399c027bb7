use Rattle.std.proofs.Common.{IfSome, subst, sym, true}
use Rattle.misp_elem.specs.Contents.{IsProposalBody}
use Rattle.misp_elem.specs.Row.{may_remove}
use Rattle.misp_model.specs.Prelude.{Proposal}
use Rattle.misp_statements.proofs.AcceptedRows.{new_removes}
use Rattle.misp_statements.proofs.accepting.accepted_rows.Goals as goal

pub made_rows-requires-clause-body : goal.made_rows-requires-clause-body
made_rows-requires-clause-body c =
    subst (λ may. IsProposalBody may c.in-Some.body.now) (new_removes c.args.proposal.now true (sym c.if-is_for_new.ensures))
    (subst (λ given. IfSome given (λ body. IsProposalBody (may_remove (Proposal c.args.event c.args.proposal.now)) body.now)) c.in-Some.is c.requires.body)
