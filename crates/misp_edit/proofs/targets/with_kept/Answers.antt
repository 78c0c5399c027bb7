use Rattle.std.proofs.Common.{◌∙◌, ◌+◌, ◌++◌, List, take, sym, subst, filter_map, nat_cmp, Option}
use Rattle.misp_model.specs.Prelude.{Place, Row, contains}
use Rattle.misp_edit.specs.Targets.{AreTargets, kept_place}
use Rattle.misp_edit.proofs.ListLemmas.{filter_map_some, filter_map_none}
use Rattle.misp_edit.proofs.TargetLemmas.{targets_push}
use Rattle.misp_edit.proofs.targets.with_kept.Goals.{in-Some+in_ok-note, in_default}
use Rattle.misp_edit.proofs.targets.with_kept.Goals as goal

pub loop-row-preserved : goal.loop-row-preserved
loop-row-preserved c = λ places first.
    let kept : Row → Option Place = kept_place (contains nat_cmp c.args.deleted.now) c.args.owner c.args.event in
    let i = c.loop-row.row-index in
    let row = c.row-item.result in
    let after : List Place = places ++ filter_map kept (take (i + 1) c.args.rows.now) in
    let before = c.loop-row.invariant places first in
    elim c.match-kept_place.branch [
      | in-Some+in_ok-note w ↦
          subst (λ m. AreTargets m after) (sym w.targets-is)
          (subst (AreTargets w.note.new.targets)
          (sym (filter_map_some kept places c.args.rows.now i row w.in-Some.place c.loop-row-test.true c.row-item.is (sym c.kept_place.ensures ∙ w.in-Some.is)))
          (targets_push c.loop-row.targets w.note.new.targets _ w.in-Some.place before w.in_ok-note.ensures))
      | in_default w ↦
          subst (λ m. AreTargets m after) (sym w.targets-is)
          (subst (AreTargets c.loop-row.targets)
          (sym (filter_map_none kept places c.args.rows.now i row c.loop-row-test.true c.row-item.is (sym c.kept_place.ensures ∙ w.in_default.is))) before)
    ]
