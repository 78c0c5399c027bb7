use Rattle.std.proofs.Common.{subst, ◌∙◌}
use Rattle.misp_elem.specs.Fields.{IsStamp}
use Rattle.misp_statements.proofs.StatementLemmas.{sighting_is_row}
use Rattle.misp_statements.proofs.sighting.sighting_row.Goals as goal

pub statement_row-requires : goal.statement_row-requires
statement_row-requires c =
    sighting_is_row c.args.at c.args.by c.args.name.now c.args.now c.args.event c.args.target c.args.draft.now c.key.inside.form c.in_ok-sighting_body.field-0
    (c.key.view_is ∙ c.sighting_key-key.ensures) c.in_ok-sighting_body.ensures.value
    c.key.invariant c.requires.name (subst IsStamp c.get-now.ensures.value c.get-now.ensures.in_range) c.in_ok-sighting_body.ensures.is_date c.requires.draft
