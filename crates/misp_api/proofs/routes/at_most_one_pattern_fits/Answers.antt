use Rattle.misp_api.proofs.Table.{at_most_one}
use Rattle.misp_api.proofs.routes.at_most_one_pattern_fits.Goals as goal

pub returns : goal.returns
returns c = at_most_one
