use Rattle.std.proofs.Common.{◌∙◌, ◌++◌, ◌∷◌, [], ℕ, ap, sym, Option}
use Rattle.misp_elem.specs.Draft.{ReferenceDraftFields as ReferenceDraft}
use Rattle.misp_edit.specs.Targets.{target_in}
use Rattle.misp_edit.specs.Uuids.{reference_uuid}
use Rattle.misp_edit.proofs.ListLemmas.{filter_map_some, filter_map_none}
use Rattle.misp_edit.proofs.clash.with_references.Goals.{in-Some+in_ok-push, in_default}
use Rattle.misp_edit.proofs.clash.with_references.Goals as goal

pub loop-reference-preserved : goal.loop-reference-preserved
loop-reference-preserved c =
    let uuid : ReferenceDraft → Option (ℕ × ℕ) = reference_uuid (target_in c.args.targets.now) in
    elim c.match-reference_uuid.branch [
      | in-Some+in_ok-push w ↦
          ap (λ v. v.items) w.uuids-is ∙ w.in_ok-push.ensures.items ∙ ap (λ us. us ++ w.in-Some.uuid ∷ []) c.loop-reference.invariant
          ∙ sym (filter_map_some uuid c.args.uuids.items c.args.references.now c.loop-reference.reference-index c.reference-item.result w.in-Some.uuid
          c.loop-reference-test.true c.reference-item.is (sym c.reference_uuid.ensures ∙ w.in-Some.is))
      | in_default w ↦
          ap (λ v. v.items) w.uuids-is ∙ c.loop-reference.invariant
          ∙ sym (filter_map_none uuid c.args.uuids.items c.args.references.now c.loop-reference.reference-index c.reference-item.result
          c.loop-reference-test.true c.reference-item.is (sym c.reference_uuid.ensures ∙ w.in_default.is))
    ]
