use Rattle.std.proofs.Common.{◌≡◌, sym, ap, ◌∙◌, arith, subst}
use Rattle.misp_elem.specs.Prelude.{AllByRecursion}
use Rattle.misp_elem.specs.Reading.{answer}
use Rattle.misp_elem.proofs.Exact.{no_error}
use Rattle.misp_manifest.specs.Manifest.{IsManifestEvent}
use Rattle.misp_wanted.specs.Manifests.{IsManifest}
use Rattle.misp_wanted.specs.ManifestReading.{manifest_of_bytes}
use Rattle.misp_wanted.specs.ManifestSpelling.{spell_manifest}
use Rattle.misp_wanted.proofs.ManifestFields.{each_event, manifest_again, manifest_takes}
use Rattle.misp_wanted.proofs.reading.manifests.read_manifest.Goals as goal

pub events_with-requires : goal.events_with-requires
events_with-requires c =
    let t = manifest_takes c.args.bytes.now c.in-Ok.fields (λ i. omega (arith, c.type_inv.bytes i)) c.in-Ok.ensures in
    subst (AllByRecursion IsManifestEvent) (sym c.into_vec.ensures) (each_event c.in-Ok.fields t.0)

pub returns-in-Ok-events_with-clause-found : goal.returns-in-Ok-events_with-clause-found
returns-in-Ok-events_with-clause-found c =
    let t = manifest_takes c.args.bytes.now c.in-Ok.fields (λ i. omega (arith, c.type_inv.bytes i)) c.in-Ok.ensures in
    subst (λ ms. IsManifest ms × (c.args.bytes.now ≡ spell_manifest ms)) (sym (c.in-Ok-events_with.ensures ∙ c.into_vec.ensures)) t

pub returns-in-Ok-events_with-clause-only : goal.returns-in-Ok-events_with-clause-only
returns-in-Ok-events_with-clause-only c = λ ms is e.
    rw (c.in-Ok-events_with.ensures ∙ c.into_vec.ensures) (ap (answer c.args.bytes.now) (sym (manifest_again ms is) ∙ sym (ap manifest_of_bytes e) ∙ c.in-Ok.ensures))

pub returns-in-Err-Bad-clause-only : goal.returns-in-Err-Bad-clause-only
returns-in-Err-Bad-clause-only c = λ ms is e.
    let fault = rw c.in-Err-Bad.field-0-is at c.in-Err-Bad.ensures in
    absurd (no_error c.in-Err-Bad.left ms (sym fault ∙ ap manifest_of_bytes e ∙ manifest_again ms is))
