use Rattle.std.proofs.Common.{sym, ◌∙◌}
use Rattle.misp_package.specs.Stamps.{stamp_at}
use Rattle.misp_package.proofs.StampLemmas.{added, not_added}
use Rattle.misp_package.proofs.stamps.add.Goals as goal

pub returns-in_ok-put : goal.returns-in_ok-put
returns-in_ok-put c =
    added c.args.owner.now c.args.row.now (stamp_at c.args.stamps.now) (stamp_at c.put.new.stamps) (sym c.is_new.ensures ∙ c.if-is_new.true) c.in_ok-put.ensures

pub returns-else-is_new : goal.returns-else-is_new
returns-else-is_new c =
    not_added c.args.owner.now c.args.row.now (stamp_at c.args.stamps.now) (stamp_at c.args.stamps.now) (sym c.is_new.ensures ∙ c.if-is_new.false)
