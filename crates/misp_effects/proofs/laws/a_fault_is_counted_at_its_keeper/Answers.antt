use Rattle.misp_effects.proofs.Places.{fault_rose}
use Rattle.misp_effects.proofs.laws.a_fault_is_counted_at_its_keeper.Goals as goal

pub returns : goal.returns
returns g c = fault_rose
