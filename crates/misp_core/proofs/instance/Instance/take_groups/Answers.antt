use Rattle.misp_core.proofs.instance.Instance.take_groups.Goals as goal

pub invariant_of-self : goal.invariant_of-self
invariant_of-self g c = record {
  beside = record { groups = c.take_groups.ensures.beside c.self.invariant.beside.groups; ahead = tt; landed = tt };
  synced = tt;
}
