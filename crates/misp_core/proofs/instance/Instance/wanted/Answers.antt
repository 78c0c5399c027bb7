use Rattle.misp_core.proofs.Reported.{beside_still}
use Rattle.misp_core.proofs.instance.Instance.wanted.Goals as goal

pub invariant_of-self : goal.invariant_of-self
invariant_of-self g c = record { beside = beside_still _ _ _ _ _ _ c.wanted_keys.ensures.held c.self.invariant.beside; synced = c.wanted_keys.ensures.synced }
