use Rattle.misp_core.proofs.instance.Instance.settle.Goals as goal

pub invariant_of-self : goal.invariant_of-self
invariant_of-self g c = record {
  beside = record {
    groups = c.settle_beside.ensures.groups c.self.invariant.beside.groups;
    ahead = tt;
    landed = c.settle_beside.ensures.landed _ c.self.invariant.beside.landed;
  };
  synced = tt;
}
