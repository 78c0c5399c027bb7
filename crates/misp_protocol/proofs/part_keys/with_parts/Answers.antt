use Rattle.std.proofs.Common.{arith}
use Rattle.std.proofs.lemmas.Grind.{common_steps}
use Rattle.misp_protocol.proofs.PartsInTurn.{is_added}
use Rattle.misp_protocol.proofs.part_keys.with_parts.Goals as goal

pub loop-keys-preserved : goal.loop-keys-preserved
loop-keys-preserved c = record {
  added = is_added c.manifest.inside.fields.event c.args.parts.items c.loop-keys.parts.items c.push.new.self.items
      c.loop-keys.yielded c.in-Some.keys c.of.result c.loop-keys.part (c.in_ok-push.ensures).items c.of.ensures
      c.loop-keys.invariant.added c.loop-keys.invariant.count;
  count = grind (arith, common_steps, c.loop-keys.invariant.count);
}
