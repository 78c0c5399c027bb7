use Rattle.std.proofs.Common.{◌∙◌, ◌&&◌, not}
use Rattle.misp_statements.specs.Judging.{is_below}
use Rattle.misp_statements.proofs.SeenProposals.{seen_is}
use Rattle.misp_statements.proofs.seeing.is_seen.Goals as goal

pub returns-then-is_granted_of : goal.returns-then-is_granted_of
returns-then-is_granted_of c =
    (λ i. c.if-is_granted_of.ensures i && not (c.is_owned_below.ensures i))
    ∙ seen_is c.args.rows.now c.args.who.now.groups.now c.args.who.now.here c.args.who.now.org c.args.key.now c.args.least c.args.row.now c.requires

pub returns-else-is_granted_of : goal.returns-else-is_granted_of
returns-else-is_granted_of c =
    c.if-is_granted_of.false ∙ (λ i. c.if-is_granted_of.ensures i && not (is_below c.args.least c.args.row.now.owner.0.0))
    ∙ seen_is c.args.rows.now c.args.who.now.groups.now c.args.who.now.here c.args.who.now.org c.args.key.now c.args.least c.args.row.now c.requires
