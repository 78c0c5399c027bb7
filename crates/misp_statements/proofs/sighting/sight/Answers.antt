use Rattle.std.proofs.Common.{ap, subst, ◌∙◌, [], ◌∷◌}
use Rattle.misp_model.specs.Prelude.{Row, Scene, ask_rules, sight_rules}
use Rattle.misp_model.specs.declared.ask.Ask.TheVariants.{Sight}
use Rattle.misp_copies.specs.Barring.{NamesUuid, Refuses}
use Rattle.misp_copies.specs.Scenes.{scene_for}
use Rattle.misp_statements.specs.Saving.{Saves}
use Rattle.misp_statements.proofs.StatementLemmas.{sighted, refused}
use Rattle.misp_statements.proofs.sighting.sight.Goals as goal

pub returns-in-Err-clause-err : goal.returns-in-Err-clause-err
unfolding ask_rules
returns-in-Err-clause-err c = λ act today.
    let s : Scene = scene_for act c.args.who.now c.args.name.now c.args.now today c.args.rows.now in
    subst (λ t. Refuses (sight_rules s c.args.event.now t c.args.draft.now) c.in-Err.fault) c.get-target.ensures.value
    (subst (λ d. Refuses (sight_rules s c.args.event.now c.get-target.result d) c.in-Err.fault) c.get-draft.ensures.value
    (refused (sight_rules s c.args.event.now c.get-target.result c.get-draft.result.now) c.in-Err.fault (c.in-Err.ensures.rule act c.args.name.now today c.args.now)))

pub returns-in-Err-clause-names : goal.returns-in-Err-clause-names
returns-in-Err-clause-names c = subst (λ d. NamesUuid d.uuid c.in-Err.fault) c.get-draft.ensures.value c.in-Err.ensures.names

pub returns-in_ok-alone-in-Ok-clause-ok : goal.returns-in_ok-alone-in-Ok-clause-ok
returns-in_ok-alone-in-Ok-clause-ok c = λ act today.
    let s : Scene = scene_for act c.args.who.now c.args.name.now c.args.now today c.args.rows.now in
    subst (λ t. Saves s (Sight c.args.event.now t c.args.draft.now) c.in_ok-alone-in-Ok.field-0.items) c.get-target.ensures.value
    (subst (λ d. Saves s (Sight c.args.event.now c.get-target.result d) c.in_ok-alone-in-Ok.field-0.items) c.get-draft.ensures.value
    (sighted s c.args.event.now c.get-target.result c.get-draft.result.now c.in_ok-alone-in-Ok.field-0.items (c.in-Ok.ensures.rule act c.args.name.now today c.args.now)
    (c.in_ok-alone-in-Ok.ensures.ok ∙ ap (λ (row : Row). row ∷ []) c.in_ok-row-in-Ok.ensures.value)))
