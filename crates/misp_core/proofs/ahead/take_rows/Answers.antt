use Rattle.std.proofs.Common.{refl, subst}
use Rattle.misp_manifest.specs.declared.wanted.WantedFields.{WantedFields as Wanted}
use Rattle.std.specs.Prelude.{IsSomeAnd}
use Rattle.misp_core.specs.Ahead.{IsKept}
use Rattle.misp_core.proofs.KeptParts.{rows_kept}
use Rattle.misp_core.proofs.ahead.take_rows.Goals as goal

pub returns-in_ok-only-in-Some-clause-kept : goal.returns-in_ok-only-in-Some-clause-kept
returns-in_ok-only-in-Some-clause-kept c =
    rows_kept c.args.ahead.now c.args.caller.now c.args.wanted.now c.in-Some.whole c.in_ok-only-in-Some.field-0
    (rw (c.in_ok-only-in-Some.ensures, c.as_slice.ensures, c.get-fields.ensures.value) refl)
    (subst (λ (w : Wanted). IsSomeAnd c.args.ahead.now (λ a. IsKept a c.args.caller.now w.event w.part c.in-Some.whole)) c.get-fields.ensures.value c.in-Some.ensures.kept)
