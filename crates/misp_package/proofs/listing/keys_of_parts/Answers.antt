use Rattle.std.proofs.Common.{◌∙◌, ◌∷◌, map}
use Rattle.misp_manifest.specs.Manifest.{key_stamp}
use Rattle.misp_model.proofs.Prelude.{AreRows}
use Rattle.misp_package.proofs.Listed.{part_more}
use Rattle.misp_package.proofs.Wired.{rows_more}
use Rattle.misp_package.proofs.listing.keys_of_parts.Goals as goal

pub loop-part-preserved : goal.loop-part-preserved
loop-part-preserved c = record {
  keys =
      c.in_ok-push.ensures.items
      ∙ rows_more (λ part. map key_stamp (c.args.own.now ∷ part)) c.args.parts.now c.loop-part.part-index c.part-item.result c.loop-part.keys.items c.in_ok-keys_of.field-0 c.loop-part-test.true c.part-item.is c.loop-part.invariant.keys c.in_ok-keys_of.ensures.keys;
  rows = part_more (λ part. AreRows (c.args.own.now ∷ part)) c.args.parts.now c.loop-part.part-index c.part-item.result c.loop-part-test.true c.part-item.is c.loop-part.invariant.rows c.in_ok-keys_of.ensures.rows;
}
