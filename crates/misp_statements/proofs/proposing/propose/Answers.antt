use Rattle.std.proofs.Common.{ap, subst, ◌∙◌, [], ◌∷◌}
use Rattle.misp_model.specs.Prelude.{Row, Scene, ask_rules, propose_rules}
use Rattle.misp_model.specs.declared.ask.Ask.TheVariants.{Propose}
use Rattle.misp_copies.specs.Barring.{NamesUuid, Refuses}
use Rattle.misp_copies.specs.Scenes.{scene_for}
use Rattle.misp_statements.specs.Saving.{Saves}
use Rattle.misp_statements.proofs.StatementLemmas.{proposed, refused}
use Rattle.misp_statements.proofs.proposing.propose.Goals as goal

pub returns-in-Err-clause-err : goal.returns-in-Err-clause-err
unfolding ask_rules
returns-in-Err-clause-err c = λ act today.
    let s : Scene = scene_for act c.args.who.now c.args.name.now c.args.now today c.args.rows.now in
    subst (λ d. Refuses (propose_rules s d) c.in-Err.fault) c.get-draft.ensures.value
    (refused (propose_rules s c.get-draft.result.now) c.in-Err.fault (c.in-Err.ensures.rule act c.args.name.now today c.args.now))

pub returns-in-Err-clause-names : goal.returns-in-Err-clause-names
returns-in-Err-clause-names c = subst (λ d. NamesUuid d.uuid c.in-Err.fault) c.get-draft.ensures.value c.in-Err.ensures.names

pub returns-in_ok-alone-in-Ok-clause-ok : goal.returns-in_ok-alone-in-Ok-clause-ok
returns-in_ok-alone-in-Ok-clause-ok c = λ act today.
    let s : Scene = scene_for act c.args.who.now c.args.name.now c.args.now today c.args.rows.now in
    subst (λ d. Saves s (Propose d) c.in_ok-alone-in-Ok.field-0.items) c.get-draft.ensures.value
    (proposed s c.get-draft.result.now c.in_ok-alone-in-Ok.field-0.items (c.in-Ok.ensures.rule act c.args.name.now today c.args.now)
    (c.in_ok-alone-in-Ok.ensures.ok ∙ ap (λ (row : Row). row ∷ []) c.in_ok-row-in-Ok.ensures.value))
