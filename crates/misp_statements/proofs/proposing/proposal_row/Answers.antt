use Rattle.std.proofs.Common.{subst, ◌∙◌}
use Rattle.misp_elem.specs.Fields.{IsStamp}
use Rattle.misp_statements.proofs.StatementLemmas.{proposal_is_row}
use Rattle.misp_statements.proofs.proposing.proposal_row.Goals as goal

pub statement_row-requires : goal.statement_row-requires
statement_row-requires c =
    proposal_is_row c.args.at c.args.by c.args.name.now c.args.now c.args.draft.now c.key.inside.form c.in_ok-named.field-0 (c.key.view_is ∙ c.proposal_key-key.ensures) c.in_ok-named.ensures
    c.key.invariant c.requires.name (subst IsStamp c.get-now.ensures.value c.get-now.ensures.in_range) c.requires.draft
