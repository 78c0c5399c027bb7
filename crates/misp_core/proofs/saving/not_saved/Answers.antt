use Rattle.std.proofs.Common.{sym, ◌∙◌}
use Rattle.misp_core.proofs.Decisions.{by_fault}
use Rattle.misp_core.proofs.saving.not_saved.Goals as goal

pub returns-in-Ok : goal.returns-in-Ok
returns-in-Ok c = λ admin s ask why places. by_fault admin s ask c.args.fault c.in-Some.name c.in-Ok.place why places (sym c.in-Some.is ∙ c.rule_name.ensures) c.in-Ok.ensures
