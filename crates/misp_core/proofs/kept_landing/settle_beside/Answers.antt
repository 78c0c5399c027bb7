use Rattle.misp_core.proofs.KeptLandings.{lands_taken, none_lands}
use Rattle.misp_core.proofs.kept_landing.settle_beside.Goals as goal

pub returns-in-Ok-clause-landed : goal.returns-in-Ok-clause-landed
returns-in-Ok-clause-landed g c = λ here lands.
    lands_taken here _ _ c.args.put c.as_slice.result.now c.args.landed.now c.take.result c.going_on-after.result c.take.ensures.value c.as_slice.ensures c.in-Ok.ensures.put lands
    c.going_on-after.ensures

pub returns-in-Err-clause-landed : goal.returns-in-Err-clause-landed
returns-in-Err-clause-landed g c = λ here lands. none_lands here _ _ c.take.ensures.after
