use Rattle.std.proofs.Common.{ap}
use Rattle.misp_outside.proofs.Reporting.{reported_later}
use Rattle.misp_core.specs.Wanting.{TakesOf}
use Rattle.misp_core.proofs.OwnRows.{takes}
use Rattle.misp_core.proofs.Reported.{groups_still}
use Rattle.misp_core.proofs.taking.take_part.Goals as goal

pub returns-in-Ok-take_package-clause-taken : goal.returns-in-Ok-take_package-clause-taken
returns-in-Ok-take_package-clause-taken g c =
    reported_later (g.K.Keeper.state c.args.keeper.now).held (g.K.Keeper.state c.own_landing.new.keeper).held (g.K.Keeper.state c.take_package.new.keeper).held
    (TakesOf c.args.here.now c.args.owner.now c.args.coming.now c.in-Ok-take_package.count) c.in-Ok.ensures.held
    (takes c.args.here.now c.args.owner.now c.args.coming.now c.in-Ok.landing c.args.groups.now _ _ c.in-Ok-take_package.ensures.put c.in-Ok-take_package.count
    c.in-Ok-take_package.ensures.count c.get.result.now.event (ap (λ p. p.event) c.get.ensures.value)
    (groups_still _ _ _ c.in-Ok.ensures.held c.requires.groups) c.in-Ok.ensures.landing)

pub returns-in-Ok-take_package-clause-beside : goal.returns-in-Ok-take_package-clause-beside
returns-in-Ok-take_package-clause-beside g c = c.take_package.ensures.beside (groups_still _ _ _ c.in-Ok.ensures.held c.requires.groups)
