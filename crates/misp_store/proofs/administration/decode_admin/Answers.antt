use Rattle.std.proofs.Common.{◌∙◌, arith, rules}
use Rattle.misp_store.proofs.AdminRows.{bad_next, items_all, items_next, put_all_done, put_next}
use Rattle.misp_store.proofs.administration.decode_admin.Goals as goal

pub loop-row-preserved : goal.loop-row-preserved
loop-row-preserved c = record {
  groups =
      put_next c.args.rows.now c.loop-row.row-index c.loop-row.groups _ c.loop-row.invariant.groups c.row-item.result c.add_held.new.groups
      c.loop-row-test.true c.row-item.is c.in_ok-add_held.ensures.groups;
  items =
      items_next c.args.rows.now c.loop-row.row-index c.loop-row.items.items c.loop-row.invariant.items c.row-item.result c.add_held.new.items.items
      c.loop-row-test.true c.row-item.is c.in_ok-add_held.ensures.items;
}

pub returns-in_err-add_held-clause-bad : goal.returns-in_err-add_held-clause-bad
returns-in_err-add_held-clause-bad c =
    let bad = bad_next c.args.rows.now c.loop-row.row-index c.loop-row.groups c.row-item.result _ c.loop-row.invariant.groups
    c.loop-row-test.true c.row-item.is c.in_err-add_held.ensures.bad in
    search (rules, bad)

pub returns-clause-groups : goal.returns-clause-groups
returns-clause-groups c = put_all_done c.args.rows.now c.loop-row.row-index c.loop-row.groups _ c.loop-row.invariant.groups (omega (arith, c.loop-row-test.false))

pub returns-clause-items : goal.returns-clause-items
returns-clause-items c = c.of.ensures ∙ items_all c.args.rows.now c.loop-row.row-index c.loop-row.items.items c.loop-row.invariant.items (omega (arith, c.loop-row-test.false))
