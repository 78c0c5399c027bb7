use Rattle.std.proofs.Common.{sym, ap, ◌∙◌, arith}
use Rattle.misp_elem.specs.Reading.{answer}
use Rattle.misp_elem.specs.KeyReading.{key_of}
use Rattle.misp_elem.proofs.Exact.{no_error}
use Rattle.misp_elem.proofs.Keys.{key_of_takes, key_of_again}
use Rattle.misp_elem.proofs.reading.keys.decode_key.Goals as goal

pub invariant_of-result : goal.invariant_of-result
invariant_of-result c = (key_of_takes c.args.bytes.now c.in-Ok.form (λ i. omega (arith, c.type_inv.bytes i)) c.in-Ok.ensures).0

pub returns-in-Ok-clause-found : goal.returns-in-Ok-clause-found
returns-in-Ok-clause-found c = key_of_takes c.args.bytes.now c.in-Ok.form (λ i. omega (arith, c.type_inv.bytes i)) c.in-Ok.ensures

pub returns-in-Ok-clause-only : goal.returns-in-Ok-clause-only
returns-in-Ok-clause-only c = λ k is e. ap (answer c.args.bytes.now) (sym c.in-Ok.ensures ∙ ap key_of e ∙ key_of_again k is)

pub returns-in-Err-clause-only : goal.returns-in-Err-clause-only
returns-in-Err-clause-only c = λ k is e. absurd (no_error c.in-Err.bad.left k (sym c.in-Err.ensures ∙ ap key_of e ∙ key_of_again k is))
