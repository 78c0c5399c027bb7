use Rattle.std.proofs.Common.{List, ◌++◌, take, filter_map, nat_cmp}
use Rattle.misp_model.specs.Prelude.{Place, contains}
use Rattle.misp_edit.specs.Targets.{AreTargets, kept_place}
use Rattle.misp_edit.proofs.targets.with_kept.Given as goal

abbrev pub invariant-loop-row : goal.invariant-loop-row
invariant-loop-row l = (places : List Place) → AreTargets l.fn.targets places → AreTargets l.targets (places ++ filter_map (kept_place (contains nat_cmp l.deleted) l.owner l.event) (take l.row-index l.rows))
