use Rattle.std.proofs.Common.{take, filter, option_copied}
use Rattle.misp_view.specs.View.{IsBestOf, is_granted_itself}
use Rattle.misp_view.proofs.choice.chosen_row.Given as goal

abbrev pub invariant-loop-row : goal.invariant-loop-row
invariant-loop-row l = IsBestOf (option_copied l.best) (filter (is_granted_itself l.who.groups.now l.who.here l.who.org l.event l.rows) (take l.row-index l.rows))
