use Rattle.misp_core.proofs.instance.Instance.take_part.Goals as goal

pub take_part-requires-clause-groups : goal.take_part-requires-clause-groups
take_part-requires-clause-groups g c = c.self.invariant.beside.groups

pub invariant_of-self : goal.invariant_of-self
invariant_of-self g c = record {
  beside = record { groups = c.take_part.ensures.beside; ahead = tt; landed = tt };
  synced = c.take_part.ensures.synced;
}
