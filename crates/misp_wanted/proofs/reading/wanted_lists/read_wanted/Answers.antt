use Rattle.std.proofs.Common.{sym, ap, ◌∙◌, arith}
use Rattle.misp_elem.specs.Reading.{answer}
use Rattle.misp_elem.proofs.Exact.{no_error}
use Rattle.misp_wanted.specs.ManifestReading.{wanted_of_bytes}
use Rattle.misp_wanted.proofs.ManifestFields.{wanted_again, wanted_takes}
use Rattle.misp_wanted.proofs.reading.wanted_lists.read_wanted.Goals as goal

pub of-requires : goal.of-requires
of-requires c = (wanted_takes c.args.bytes.now c.in-Ok.fields (λ i. omega (arith, c.type_inv.bytes i)) c.in-Ok.ensures).0

pub returns-in-Ok-clause-found : goal.returns-in-Ok-clause-found
returns-in-Ok-clause-found c = rw c.of.ensures (wanted_takes c.args.bytes.now c.in-Ok.fields (λ i. omega (arith, c.type_inv.bytes i)) c.in-Ok.ensures)

pub returns-in-Ok-clause-only : goal.returns-in-Ok-clause-only
returns-in-Ok-clause-only c = λ w is e.
    rw c.of.ensures (ap (answer c.args.bytes.now) (sym (wanted_again w is) ∙ sym (ap wanted_of_bytes e) ∙ c.in-Ok.ensures))

pub returns-in-Err-Bad-clause-only : goal.returns-in-Err-Bad-clause-only
returns-in-Err-Bad-clause-only c = λ w is e.
    let fault = rw c.in-Err-Bad.field-0-is at c.in-Err-Bad.ensures in
    absurd (no_error c.in-Err-Bad.left w (sym fault ∙ ap wanted_of_bytes e ∙ wanted_again w is))
