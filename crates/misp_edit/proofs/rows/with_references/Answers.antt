use Rattle.std.proofs.Common.{◌∙◌, sym, Option}
use Rattle.misp_model.proofs.Prelude.{ReferenceDraft, Row, are_rows_push}
use Rattle.misp_edit.specs.Targets.{target_in}
use Rattle.misp_edit.specs.Rows.{row_with_target}
use Rattle.misp_edit.proofs.ListLemmas.{filter_map_push_some, filter_map_push_none}
use Rattle.misp_edit.proofs.rows.with_references.Goals as goal

pub loop-draft-preserved-in-Continue-1 : goal.loop-draft-preserved-in-Continue-1
loop-draft-preserved-in-Continue-1 c =
    let row : ReferenceDraft → Option Row = row_with_target (target_in c.args.targets.now) c.args.owner c.args.event c.args.now in
    record {
      so_far =
          c.in_ok-push.ensures.items
          ∙ filter_map_push_some row c.args.rows.items c.loop-draft.rows.items c.loop-draft.yielded c.in-Some.draft c.in-Some-row_with_target.row
          (sym c.row_with_target.ensures.value ∙ c.in-Some-row_with_target.is) c.loop-draft.invariant.so_far;
      are_rows = rw c.in_ok-push.ensures.items (are_rows_push _ _ c.loop-draft.invariant.are_rows c.in-Some-row_with_target.ensures.is_row);
    }

pub loop-draft-preserved : goal.loop-draft-preserved
loop-draft-preserved c =
    let row : ReferenceDraft → Option Row = row_with_target (target_in c.args.targets.now) c.args.owner c.args.event c.args.now in
    record {
      so_far =
          filter_map_push_none row c.args.rows.items c.loop-draft.rows.items c.loop-draft.yielded c.in-Some.draft
          (sym c.row_with_target.ensures.value ∙ c.in_default.is) c.loop-draft.invariant.so_far;
      are_rows = c.loop-draft.invariant.are_rows;
    }
