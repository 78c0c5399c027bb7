use Rattle.std.proofs.Common.{ap, sym, ◌∙◌}
use Rattle.misp_manifest.specs.declared.wanted.WantedFields.{WantedFields as Wanted}
use Rattle.misp_model.specs.Machine.{seeing}
use Rattle.misp_model.specs.Pulling.{pulled_part}
use Rattle.misp_core.specs.Handing.{pull_scene}
use Rattle.misp_core.specs.Prelude.{Scene}
use Rattle.misp_core.proofs.Decisions.{rows_refused, rows_shown}
use Rattle.misp_core.proofs.pulling.plan_rows.Goals as goal

pub returns-in_ok-some-in-Some-clause-plan : goal.returns-in_ok-some-in-Some-clause-plan
returns-in_ok-some-in-Some-clause-plan c = λ table.
    let s : Scene = seeing (pull_scene c.args.site.now) c.args.rows.items in
    rw (c.show_part.ensures.plan, c.in_ok-some-in-Some.ensures, c.as_slice.ensures, c.get-fields.ensures.value)
    (rows_shown c.args.site.now.admin.now s c.args.wanted.now c.in-Some.package
    (ap (λ (w : Wanted). pulled_part s w.event w.part) (sym c.get-fields.ensures.value) ∙ sym (c.in_ok-package.ensures.part table) ∙ c.in-Some.is))

pub returns-in_ok-some-in-Some-clause-kept : goal.returns-in_ok-some-in-Some-clause-kept
returns-in_ok-some-in-Some-clause-kept c = λ table.
    let s : Scene = seeing (pull_scene c.args.site.now) c.args.rows.items in
    rw (← c.get-fields.ensures.value) (c.handed_out.ensures.kept table)

pub returns-in-None-clause-plan : goal.returns-in-None-clause-plan
returns-in-None-clause-plan c = λ table.
    let s : Scene = seeing (pull_scene c.args.site.now) c.args.rows.items in
    rw c.bare-refusal.ensures
    (rows_refused c.args.site.now.admin.now s c.args.wanted.now
    (ap (λ (w : Wanted). pulled_part s w.event w.part) (sym c.get-fields.ensures.value) ∙ sym (c.in_ok-package.ensures.part table) ∙ c.in-None.is))
