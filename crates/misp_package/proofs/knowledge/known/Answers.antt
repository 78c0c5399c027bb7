use Rattle.std.proofs.Common.{ap, sym, ◌∙◌, map}
use Rattle.misp_model.proofs.Prelude.{map-append}
use Rattle.misp_copies.proofs.RowLists.{rows_more}
use Rattle.misp_package.specs.Knowledge.{is_known_in}
use Rattle.misp_package.proofs.Kept.{kept_more, kept_same}
use Rattle.misp_package.proofs.knowledge.known.Goals.{then-is_known+in_ok-push, else-is_known}
use Rattle.misp_package.proofs.knowledge.known.Goals as goal

pub loop-row-preserved : goal.loop-row-preserved
loop-row-preserved c = record {
  known = elim c.if-is_known.branch [
    | then-is_known+in_ok-push w ↦
        ap (λ l. map (λ r. r.now) l.items) w.list-is ∙ ap (map (λ r. r.now)) w.in_ok-push.ensures.items ∙ map-append (λ r. r.now) c.loop-row.list.items _
        ∙ kept_more (is_known_in c.args.grants.now c.args.who.now) c.args.rows.now c.loop-row.row-index c.row-item.result (map (λ r. r.now) c.loop-row.list.items) c.loop-row-test.true
        c.row-item.is c.loop-row.invariant.known
        (sym c.is_known.ensures.known ∙ w.if-is_known.true)
    | else-is_known w ↦
        ap (λ l. map (λ r. r.now) l.items) w.list-is
        ∙ kept_same (is_known_in c.args.grants.now c.args.who.now) c.args.rows.now c.loop-row.row-index c.row-item.result (map (λ r. r.now) c.loop-row.list.items) c.loop-row-test.true
        c.row-item.is c.loop-row.invariant.known
        (sym c.is_known.ensures.known ∙ w.if-is_known.false)
  ];
  rows = rows_more c.args.rows.now c.loop-row.row-index c.row-item.result c.loop-row-test.true c.row-item.is c.loop-row.invariant.rows c.is_known.ensures.row;
}
