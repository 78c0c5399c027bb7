use Rattle.std.proofs.Common.{rules, ◌∙◌}
use Rattle.misp_net.proofs.Openings.{put_back}
use Rattle.misp_net.proofs.places.close_all.Goals as goal

pub loop-instance-preserved : goal.loop-instance-preserved
loop-instance-preserved g c = record {
  same =
      put_back g.K.Keeper.state c.into_keeper.result c.pop.new.self.items c.loop-instance.instances.items c.in-Some.instance c.loop-instance.keepers.items c.put_first.new.keepers.items
      c.in-Some.ensures.items c.put_first.ensures.first c.into_keeper.ensures.held c.into_keeper.ensures.faults
      ∙ c.loop-instance.invariant.same;
  room = search rules;
}
