use Rattle.std.proofs.Common.{◌∷◌, []}
use Rattle.misp_search.specs.Window.{HaveCome}
use Rattle.misp_core.proofs.Windowed.{come_if, come_not, none_comes}
use Rattle.misp_core.proofs.listing.put_if.Goals as goal

pub returns-in_ok-put : goal.returns-in_ok-put
returns-in_ok-put c = come_if c.args.has_hit (c.args.event ∷ []) (λ events. HaveCome events c.args.found.now c.put.new.self) c.if-has_hit.true c.in_ok-put.ensures

pub returns-else-has_hit : goal.returns-else-has_hit
returns-else-has_hit c = come_not c.args.has_hit (c.args.event ∷ []) (λ events. HaveCome events c.args.found.now c.args.found.now) c.if-has_hit.false (none_comes c.args.found.now)
