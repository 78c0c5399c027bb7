use Rattle.std.proofs.Common.{ap, ◌∙◌, ◌++◌, ◌∷◌, []}
use Rattle.misp_package.proofs.Listed.{key_more, row_more}
use Rattle.misp_package.proofs.listing.keys_of.Goals as goal

pub loop-row-preserved : goal.loop-row-preserved
loop-row-preserved c = record {
  keys =
      c.in_ok-push-2.ensures.items ∙ ap (λ k. c.loop-row.keys.items ++ k ∷ []) c.key_stamp-in-loop-row.ensures.value
      ∙ key_more c.args.own.now c.args.others.now c.loop-row.row-index c.row-item.result c.loop-row-test.true c.row-item.is c.loop-row.keys.items c.loop-row.invariant.keys;
  rows = row_more c.args.own.now c.args.others.now c.loop-row.row-index c.row-item.result c.loop-row-test.true c.row-item.is c.loop-row.invariant.rows c.key_stamp-in-loop-row.ensures.row;
}
