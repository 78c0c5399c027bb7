use Rattle.misp_api.specs.Path.{paths}
use Rattle.misp_api.specs.Router.{rows}
use Rattle.misp_api.proofs.routes.Routes.new.Goals as goal

-- the patterns in the code are those of the table
pub invariant_of-result : goal.invariant_of-result
unfolding paths rows
invariant_of-result c = c.in-Ok.ensures
