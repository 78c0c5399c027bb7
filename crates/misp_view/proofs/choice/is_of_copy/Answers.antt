use Rattle.std.proofs.Common.{sym, ◌∙◌}
use Rattle.misp_view.proofs.Candidates.{is_copy}
use Rattle.misp_view.proofs.choice.is_of_copy.Goals as goal

pub returns-then-not-is_tombstone : goal.returns-then-not-is_tombstone
returns-then-not-is_tombstone c = λ h k. is_copy c.args.rows.now c.args.row.now c.args.event.now h k (sym c.is_tombstone.ensures ∙ c.if-not-is_tombstone.true)
