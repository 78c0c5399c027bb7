use Rattle.std.proofs.Common.{sym, ap, ◌∙◌, arith}
use Rattle.misp_elem.specs.Reading.{answer}
use Rattle.misp_elem.proofs.Exact.{no_error}
use Rattle.misp_package.specs.PackageReading.{package_of_bytes}
use Rattle.misp_package.proofs.SpelledPackages.{package_of_bytes_takes, package_of_bytes_again}
use Rattle.misp_package.proofs.reading.read_package.Goals as goal

pub of-requires : goal.of-requires
of-requires c = (package_of_bytes_takes c.args.bytes.now c.in-Ok.fields (λ i. omega (arith, c.type_inv.bytes i)) c.in-Ok.ensures).0

pub returns-in-Ok-clause-found : goal.returns-in-Ok-clause-found
returns-in-Ok-clause-found c = rw c.of.ensures (package_of_bytes_takes c.args.bytes.now c.in-Ok.fields (λ i. omega (arith, c.type_inv.bytes i)) c.in-Ok.ensures)

pub returns-in-Ok-clause-only : goal.returns-in-Ok-clause-only
returns-in-Ok-clause-only c = λ p is e.
    rw c.of.ensures (ap (answer c.args.bytes.now) (sym (package_of_bytes_again p is) ∙ sym (ap package_of_bytes e) ∙ c.in-Ok.ensures))

pub returns-in-Err-Bad-clause-only : goal.returns-in-Err-Bad-clause-only
returns-in-Err-Bad-clause-only c = λ p is e.
    let fault = rw c.in-Err-Bad.field-0-is at c.in-Err-Bad.ensures in
    absurd (no_error c.in-Err-Bad.left p (sym fault ∙ ap package_of_bytes e ∙ package_of_bytes_again p is))
