use Rattle.std.proofs.Common.{[], ◌∷◌}
use Rattle.misp_search.proofs.Coming.{come_if, come_not}
use Rattle.misp_search.proofs.searching.put_if.Goals as goal

pub returns-in_ok-put : goal.returns-in_ok-put
returns-in_ok-put c = come_if c.args.fits (c.args.attribute ∷ []) c.args.hits.now c.put.new.self c.if-fits.true c.in_ok-put.ensures

pub returns-else-fits : goal.returns-else-fits
returns-else-fits c = come_not c.args.fits (c.args.attribute ∷ []) c.args.hits.now c.if-fits.false
