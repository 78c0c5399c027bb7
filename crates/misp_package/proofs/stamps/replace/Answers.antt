use Rattle.std.proofs.Common.{sym, ◌∙◌}
use Rattle.misp_package.specs.Stamps.{stamp_at}
use Rattle.misp_package.proofs.StampLemmas.{replaced, not_replaced}
use Rattle.misp_package.proofs.stamps.replace.Goals as goal

pub returns-in_ok-put : goal.returns-in_ok-put
returns-in_ok-put c =
    replaced c.args.owner.now c.args.row.now (stamp_at c.args.stamps.now) (stamp_at c.put.new.stamps) (sym c.is_owned.ensures ∙ c.if-is_owned.true) c.in_ok-put.ensures

pub returns-else-is_owned : goal.returns-else-is_owned
returns-else-is_owned c =
    not_replaced c.args.owner.now c.args.row.now (stamp_at c.args.stamps.now) (stamp_at c.args.stamps.now) (sym c.is_owned.ensures ∙ c.if-is_owned.false)
