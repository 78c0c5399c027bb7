use Rattle.std.proofs.Common.{arith}
use Rattle.misp_format.proofs.GroupNames.{same_by_order, one_more, all_names}
use Rattle.misp_ids.specs.contracts.uid.GroupIdOrd.TheImpl as group_order
use Rattle.misp_format.proofs.writing.group_names.group_names.Goals as goal

pub loop-index-preserved : goal.loop-index-preserved
loop-index-preserved c =
    let behind = c.loop-index.invariant in (
      omega (arith, behind.0),
      one_more group_order.cmp-value.it same_by_order c.loop-index.names.entries c.insert.new.self.entries c.args.listed.now c.loop-index.index c.index-listed-index.result
          c.loop-index-test.true behind.0 c.index-listed-index.is (rw (← c.in_ok-clone.ensures.cases) c.in_ok-insert.ensures.updates.0) behind.1,
    )

pub returns : goal.returns
returns c = all_names c.loop-index.names.entries c.args.listed.now c.loop-index.index c.loop-index-test.false c.loop-index.invariant.1
