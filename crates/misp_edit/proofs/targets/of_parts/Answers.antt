use Rattle.std.proofs.Common.{◌∙◌, ◌++◌, ◌∷◌, [], ap, sym, map, take, subst}
use Rattle.std.proofs.lemmas.List.{map_more}
use Rattle.misp_model.specs.Prelude.{Draft, Place}
use Rattle.misp_edit.specs.Targets.{AreTargets}
use Rattle.misp_edit.proofs.TargetLemmas.{targets_push}
use Rattle.misp_edit.proofs.targets.of_parts.Goals as goal

pub loop-draft-preserved : goal.loop-draft-preserved
loop-draft-preserved c =
    let place : Draft → Place = λ d. d.place in
    subst (AreTargets c.note.new.targets)
    (sym (map_more place c.args.parts.now c.loop-draft.draft-index c.draft-item.result c.loop-draft-test.true
    ∙ ap (λ d. map place (take c.loop-draft.draft-index c.args.parts.now) ++ place d ∷ []) (sym c.draft-item.is ∙ sym c.draft.view_is)))
    (targets_push c.loop-draft.targets c.note.new.targets _ c.draft.inside.place c.loop-draft.invariant c.in_ok-note.ensures)
