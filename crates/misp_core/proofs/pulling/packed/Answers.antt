use Rattle.std.proofs.Common.{◌∙◌}
use Rattle.misp_model.specs.Machine.{seeing}
use Rattle.misp_model.specs.Pulling.{pulled_part}
use Rattle.misp_core.specs.Handing.{pull_scene}
use Rattle.misp_core.proofs.KeptParts.{slots_hold}
use Rattle.misp_core.proofs.Pulled.{part_is}
use Rattle.misp_core.proofs.pulling.packed.Goals as goal

pub returns-clause-parts : goal.returns-clause-parts
returns-clause-parts c = λ table.
    slots_hold c.of.result c.in_ok-packages.packages.items (pulled_part (seeing (pull_scene c.args.site.now) c.args.rows.items) c.args.event.now) c.of.ensures.parts
    (λ n. part_is (pull_scene c.args.site.now) c.args.event.now c.args.rows.items c.deref.result.now table (c.deref.ensures.value ∙ c.of_event-rows.ensures) n c.in_ok-packages.packages.items
    c.in_ok-packages.ensures.packed c.in_ok-packages.ensures.numbered)
