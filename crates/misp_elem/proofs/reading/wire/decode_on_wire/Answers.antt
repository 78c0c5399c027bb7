use Rattle.std.proofs.Common.{sym, ap, ◌∙◌, arith}
use Rattle.misp_elem.specs.Reading.{answer}
use Rattle.misp_elem.specs.WireReading.{row_of_wire}
use Rattle.misp_elem.proofs.Exact.{no_error}
use Rattle.misp_elem.proofs.Wire.{row_of_wire_takes, row_of_wire_again}
use Rattle.misp_elem.proofs.reading.wire.decode_on_wire.Goals as goal

pub of-requires : goal.of-requires
of-requires c = (row_of_wire_takes c.args.event c.args.before c.args.bytes.now c.in-Ok.fields (λ i. omega (arith, c.type_inv.bytes i)) c.in-Ok.ensures).0.0

pub returns-in-Ok-clause-found : goal.returns-in-Ok-clause-found
returns-in-Ok-clause-found c =
    let t = row_of_wire_takes c.args.event c.args.before c.args.bytes.now c.in-Ok.fields (λ i. omega (arith, c.type_inv.bytes i)) c.in-Ok.ensures in
    rw c.of.ensures (t.0.0, t.0.1, t.1)

pub returns-in-Ok-clause-only : goal.returns-in-Ok-clause-only
returns-in-Ok-clause-only c = λ r is on e.
    rw c.of.ensures (ap (answer c.args.bytes.now) (sym (row_of_wire_again c.args.event c.args.before r is on) ∙ sym (ap (row_of_wire c.args.event c.args.before) e) ∙ c.in-Ok.ensures))

pub returns-in-Err-Bad-clause-only : goal.returns-in-Err-Bad-clause-only
returns-in-Err-Bad-clause-only c = λ r is on e.
    let fault = rw c.in-Err-Bad.field-0-is at c.in-Err-Bad.ensures in
    absurd (no_error c.in-Err-Bad.bad.left r (sym fault ∙ ap (row_of_wire c.args.event c.args.before) e ∙ row_of_wire_again c.args.event c.args.before r is on))
