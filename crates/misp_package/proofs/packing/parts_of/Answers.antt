use Rattle.std.proofs.Common.{ap, ◌∙◌, ◌++◌, ◌+◌, map, drop, arith}
use Rattle.misp_model.proofs.Prelude.{map-append}
use Rattle.misp_history.specs.Merging.{cut}
use Rattle.misp_package.proofs.Cutting.{next_part, last_part}
use Rattle.misp_package.proofs.packing.parts_of.Goals as goal

pub loop-from-preserved : goal.loop-from-preserved
loop-from-preserved c =
    let lt = c.loop-from-test.true in record {
      inside = omega arith;
      parts =
          ap (λ l. l ++ cut 64 (drop (c.loop-from.from + 64) c.args.others.now)) (ap (map (λ part. part.now)) c.in_ok-push.ensures.items ∙ map-append (λ part. part.now) c.loop-from.parts.items _)
          ∙ next_part (cut 64 c.args.others.now) (map (λ part. part.now) c.loop-from.parts.items) c.args.others.now c.loop-from.from c.loop-from.invariant.parts c.loop-from-test.true;
    }

pub returns : goal.returns
returns c =
    ap (map (λ part. part.now)) c.in_ok-push-2.ensures.items ∙ map-append (λ part. part.now) c.loop-from.parts.items _
    ∙ last_part (cut 64 c.args.others.now) (map (λ part. part.now) c.loop-from.parts.items) c.args.others.now c.loop-from.from c.loop-from.invariant.parts c.loop-from-test.false
