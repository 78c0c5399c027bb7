use Rattle.std.proofs.Common.{◌≡◌, ap, subst, sym, ◌∙◌, Option, IfOk}
use Rattle.misp_model.specs.declared.looks.Looks.{Looks}
use Rattle.misp_model.specs.Looking.{more_looks, over}
use Rattle.misp_store.specs.Reach.{reach_of}
use Rattle.misp_core.specs.Handing.{scene_in}
use Rattle.misp_core.proofs.LooksThen.{by_first}
use Rattle.misp_core.proofs.reading.more.Goals as goal

pub returns-in-Change-Looked-clause-value : goal.returns-in-Change-Looked-clause-value
returns-in-Change-Looked-clause-value c =
    subst (λ (then : Option Looks). IfOk c.more_for_change.result (λ more. more ≡ then))
    (by_first (scene_in c.args.site.now) c.args.rows.now c.in-Change-Looked.field-0-0 c.in-Change-Looked.looks
    (sym (ap (reach_of c.args.site.now.here.now c.args.site.now.caller.now.org) c.in-Change-Looked.is-0) ∙ sym c.requires.reach ∙ c.in-Change-Looked.is-1)
    ∙ ap (more_looks (over (scene_in c.args.site.now) c.args.rows.now)) (sym c.in-Change-Looked.is-0))
    (c.more_for_change.ensures.value (scene_in c.args.site.now) (sym c.asker.ensures))
