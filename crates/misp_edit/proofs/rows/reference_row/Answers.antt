use Rattle.std.proofs.Common.{rules}
use Rattle.misp_edit.proofs.TargetLemmas.{not_the_event}
use Rattle.misp_edit.proofs.rows.reference_row.Goals as goal

pub held_row-requires : goal.held_row-requires
held_row-requires c = search (rules, not_the_event)
