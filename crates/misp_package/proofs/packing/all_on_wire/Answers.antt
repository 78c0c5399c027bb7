use Rattle.std.proofs.Common.{◌∙◌, map}
use Rattle.misp_model.proofs.Prelude.{and_parts, list_all}
use Rattle.misp_package.specs.Packing.{is_whole}
use Rattle.misp_package.proofs.Wired.{wire_more, whole_at, wired_more}
use Rattle.misp_package.proofs.packing.all_on_wire.Goals as goal

pub on_wire-requires-in-loop-row : goal.on_wire-requires-in-loop-row
on_wire-requires-in-loop-row c =
    whole_at c.args.others.now c.loop-row.row-index c.row-item.result c.loop-row-test.true c.row-item.is
    (and_parts (is_whole c.args.own.now) (list_all is_whole (map (λ r. r.now) c.args.others.now)) c.requires).1

pub loop-row-preserved : goal.loop-row-preserved
loop-row-preserved c = record {
  wired =
      c.in_ok-push-2.ensures.items
      ∙ wire_more c.args.way c.args.own.now c.args.others.now c.loop-row.row-index c.row-item.result c.in_ok-on_wire-2.field-0 c.loop-row.rows.items c.loop-row-test.true c.row-item.is c.loop-row.invariant.wired c.in_ok-on_wire-2.ensures.wired;
  rows = wired_more c.args.way c.args.own.now c.args.others.now c.loop-row.row-index c.row-item.result c.loop-row-test.true c.row-item.is c.loop-row.invariant.rows c.on_wire-in-loop-row.ensures.row;
}
