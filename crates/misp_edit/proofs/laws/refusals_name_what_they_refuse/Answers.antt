use Rattle.misp_edit.proofs.RuleLemmas.{clash_known, unusable_known}
use Rattle.misp_edit.proofs.laws.refusals_name_what_they_refuse.Goals as goal

pub returns : goal.returns
returns c = record { clash = clash_known; group = unusable_known }
