use Rattle.misp_format.specs.GroupText.{group_in_text}
use Rattle.misp_api.specs.Administering.{group_form}
use Rattle.misp_api.proofs.Formed.{refused_form}
use Rattle.misp_api.proofs.administering.group.Goals as goal

pub returns-in-Err-clause-read : goal.returns-in-Err-clause-read
unfolding group_form
returns-in-Err-clause-read c = refused_form c.in-Err.stopped c.fault.result (group_in_text c.args.text.now) c.in-Err.ensures c.fault.ensures
