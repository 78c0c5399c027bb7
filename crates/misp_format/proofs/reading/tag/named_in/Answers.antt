use Rattle.std.proofs.Common.{sym, subst, arith}
use Rattle.misp_lists.proofs.Prelude.{AllByRecursion, common_steps}
use Rattle.misp_format.specs.Entries.{IsNamed}
use Rattle.misp_format.proofs.Tags.{named_with}
use Rattle.misp_format.proofs.reading.tag.named_in.Goals as goal

pub loop-index-preserved : goal.loop-index-preserved
loop-index-preserved c =
    let tag = c.in_ok-tag.ensures.fits in
    let with = named_with c.loop-index.named.entries c.in_ok-tag.tag.name (c.in_ok-tag.tag.colour, c.in_ok-tag.tag.exportable) c.loop-index.invariant.1 tag.0 tag.1.0 in
    (grind (arith, common_steps), subst (AllByRecursion IsNamed) (sym c.in_ok-insert.ensures.entries) with)
