use Rattle.misp_store.proofs.GroupRows.{row_told}
use Rattle.misp_store.proofs.sharing.is_row_of.Goals as goal

pub returns : goal.returns
returns c = row_told c.args.row.now c.in_ok-own.own c.args.group.now c.same_row.result c.in_ok-own.ensures.storable.is_group c.in_ok-own.ensures.row c.same_row.ensures
