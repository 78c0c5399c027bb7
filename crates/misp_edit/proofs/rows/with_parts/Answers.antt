use Rattle.std.proofs.Common.{rules}
use Rattle.std.proofs.lemmas.Iterator.Adapters.{YieldsList-from_vec}
use Rattle.std.proofs.lemmas.Iterator.Consumers.{YieldsList-end}
use Rattle.misp_elem.proofs.RowLists.{are_rows_push}
use Rattle.misp_edit.specs.Rows.{part_row}
use Rattle.misp_edit.proofs.ListLemmas.{map_push, map_all}
use Rattle.misp_edit.proofs.rows.with_parts.Goals as goal

pub loop-draft-preserved : goal.loop-draft-preserved
loop-draft-preserved c = record {
  so_far = rw (c.in_ok-push.ensures.items, c.part_row.ensures.value) (map_push (part_row c.args.owner c.args.event c.args.now) c.args.rows.items _ c.loop-draft.yielded c.in-Some.draft c.loop-draft.invariant.so_far);
  are_rows = rw c.in_ok-push.ensures.items (are_rows_push _ _ c.loop-draft.invariant.are_rows c.part_row.ensures.is_row);
}

pub returns-clause-all : goal.returns-clause-all
returns-clause-all c =
    let road = YieldsList-from_vec {s = c.into_iter-draft-iterator.result} c.args.parts.items (search rules) (search rules) in
    let ends = YieldsList-end road c.loop-draft.yielded c.loop-draft.draft-iterator c.loop-draft.yielded_by c.next.result c.next.new.self c.in-None.is c.next.ensures.steps in
    map_all (part_row c.args.owner c.args.event c.args.now) c.args.rows.items c.loop-draft.rows.items c.loop-draft.yielded c.args.parts.items ends.0 c.loop-draft.invariant.so_far
