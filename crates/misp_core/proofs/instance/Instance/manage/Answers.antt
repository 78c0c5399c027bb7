use Rattle.misp_core.proofs.instance.Instance.manage.Goals as goal

pub invariant_of-self : goal.invariant_of-self
invariant_of-self g c = record {
  beside = record { groups = c.settle_item.ensures.beside _ c.self.invariant.beside.groups; ahead = tt; landed = tt };
  synced = tt;
}
