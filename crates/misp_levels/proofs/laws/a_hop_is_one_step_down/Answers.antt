-- The laws are a lemma of proofs/Steps.antt.
use Rattle.std.proofs.Common.{refl}
use Rattle.misp_ids.specs.declared.label.Way.TheVariants.{Pull, Push}
use Rattle.misp_levels.specs.Levels.{hop, landed, lowering}
use Rattle.misp_levels.proofs.Steps.{hop_is_landed}
use Rattle.misp_levels.proofs.laws.a_hop_is_one_step_down.Goals as goal

pub returns : goal.returns
unfolding hop landed lowering
returns c = record {
  pull = λ before after h. hop_is_landed Pull before after h;
  push = λ before after h. hop_is_landed Push before after h;
  internal = λ before. refl;
  landed = λ way before after h. hop_is_landed way before after h;
}
