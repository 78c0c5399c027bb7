use Rattle.misp_script.proofs.Uuids.{no_uuid}
use Rattle.misp_script.proofs.command.uuid.Goals as goal

pub returns-in-Err : goal.returns-in-Err
returns-in-Err c = no_uuid _ c.in-Err.ensures.cases.0
