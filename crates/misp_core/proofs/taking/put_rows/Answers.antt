use Rattle.std.proofs.Common.{ap, arith, length}
use Rattle.misp_core.proofs.TakenRows.{groups_stay, none_put_held}
use Rattle.misp_core.proofs.taking.put_rows.Goals as goal

pub returns-in_default-clause-put : goal.returns-in_default-clause-put
returns-in_default-clause-put g c = none_put_held (g.K.Keeper.state c.args.keeper.now).held _ (omega (arith, c.in_default.len_below, ap length c.as_slice.ensures.value))

pub returns-clause-groups : goal.returns-clause-groups
returns-clause-groups g c = groups_stay c.settle.result c.rows_alone.result _ _ _ c.rows_alone.ensures c.settle.ensures.groups c.settle.ensures.same
