use Rattle.std.proofs.Common.{refl, ap, sym, ◌∙◌, ◌∷◌, ◌+◌, map, length, subst, List, arith, ◌≡◌}
use Rattle.misp_model.proofs.Prelude.{Row, map-append}
use Rattle.misp_model.specs.declared.package.PackageFields.{PackageFields as Package}
use Rattle.misp_package.specs.Packing.{AreNumberedFrom, IsPart, on_wire}
use Rattle.misp_package.proofs.Wired.{count_done, numbered_more, part_at, rows_more}
use Rattle.misp_package.proofs.packing.packed.Goals as goal

pub loop-part-init : goal.loop-part-init
unfolding AreNumberedFrom
loop-part-init c = record {
  number = refl;
  packed = ap (map (λ p. p.rows)) c.new-packages.ensures.items;
  numbered = subst (AreNumberedFrom 0 c.args.event.now c.in-Ok.count) (sym c.new-packages.ensures.items) tt;
}

pub package-requires-clause-part : goal.package-requires-clause-part
package-requires-clause-part c =
    part_at (λ (part : List Row). IsPart c.args.event.now (c.args.own.now ∷ part)) c.args.parts.now c.loop-part.part-index c.part-item.result c.loop-part-test.true c.part-item.is c.requires

pub loop-part-preserved : goal.loop-part-preserved
loop-part-preserved c =
    let done = map (λ (p : Package). p.rows) c.loop-part.packages.items in
    let wire : List Row → List Row = λ part. map (on_wire c.args.way) (c.args.own.now ∷ part) in
    let lt = c.loop-part-test.true in
    let from_zero : length c.loop-part.packages.items ≡ 0 + length c.loop-part.packages.items = omega arith in record {
      number = ap (λ n. n + 1) c.loop-part.invariant.number;
      packed =
          ap (map (λ (p : Package). p.rows)) c.in_ok-push.ensures.items ∙ map-append (λ (p : Package). p.rows) c.loop-part.packages.items _
          ∙ rows_more wire c.args.parts.now c.loop-part.part-index c.part-item.result done c.in_ok-package.field-0.rows c.loop-part-test.true c.part-item.is c.loop-part.invariant.packed (ap (λ (p : Package). p.rows) c.in_ok-package.ensures);
      numbered =
          subst (AreNumberedFrom 0 c.args.event.now c.in-Ok.count) (sym c.in_ok-push.ensures.items)
          (numbered_more 0 c.args.event.now c.in-Ok.count c.loop-part.packages.items c.in_ok-package.field-0 c.loop-part.invariant.numbered (ap (λ (p : Package). p.event) c.in_ok-package.ensures)
          (ap (λ (p : Package). p.part) c.in_ok-package.ensures ∙ c.loop-part.invariant.number
          ∙ sym (count_done wire c.args.parts.now c.loop-part.part-index c.loop-part.packages.items (omega arith) c.loop-part.invariant.packed) ∙ from_zero) (ap (λ (p : Package). p.parts) c.in_ok-package.ensures));
    }
