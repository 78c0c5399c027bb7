use Rattle.misp_script.proofs.Documents.{of_text, of_no_text}
use Rattle.misp_script.proofs.document.document.Goals as goal

pub returns-in-Ok : goal.returns-in-Ok
returns-in-Ok c = rw (of_text c.args.bytes.now c.in-Ok.ensures.cases.1) (rw c.in-Ok.ensures.cases.0 at c.parsed.ensures)

pub returns-in-Err : goal.returns-in-Err
returns-in-Err c = rw (of_no_text c.args.bytes.now c.in-Err.ensures.cases.0) c.no_table.ensures
