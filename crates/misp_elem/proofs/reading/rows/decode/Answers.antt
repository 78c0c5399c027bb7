use Rattle.std.proofs.Common.{sym, ap, ◌∙◌, arith}
use Rattle.misp_elem.specs.Reading.{answer}
use Rattle.misp_elem.proofs.Exact.{no_error}
use Rattle.misp_elem.proofs.Rows.{row_of_takes, row_of_spelled}
use Rattle.misp_elem.proofs.reading.rows.decode.Goals as goal

pub of-requires : goal.of-requires
of-requires c = (row_of_takes c.args.bytes.now c.in-Ok.fields (λ i. omega (arith, c.type_inv.bytes i)) c.in-Ok.ensures).0

pub returns-in-Ok-clause-found : goal.returns-in-Ok-clause-found
returns-in-Ok-clause-found c = rw c.of.ensures (row_of_takes c.args.bytes.now c.in-Ok.fields (λ i. omega (arith, c.type_inv.bytes i)) c.in-Ok.ensures)

pub returns-in-Ok-clause-only : goal.returns-in-Ok-clause-only
returns-in-Ok-clause-only c = λ r is e. rw c.of.ensures (ap (answer c.args.bytes.now) (sym (row_of_spelled c.args.bytes.now r is e) ∙ c.in-Ok.ensures))

pub returns-in-Err-Bad-clause-only : goal.returns-in-Err-Bad-clause-only
returns-in-Err-Bad-clause-only c = λ r is e.
    let fault = rw c.in-Err-Bad.field-0-is at c.in-Err-Bad.ensures in
    absurd (no_error c.in-Err-Bad.bad.left r (sym fault ∙ row_of_spelled c.args.bytes.now r is e))
