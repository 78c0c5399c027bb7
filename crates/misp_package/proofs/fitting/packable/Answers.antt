use Rattle.std.proofs.Common.{map, ap, sym, subst, ◌∙◌, List, Bor}
use Rattle.misp_model.proofs.Prelude.{Row, false≢true}
use Rattle.misp_package.specs.Packing.{ArePackable, IsPacking}
use Rattle.misp_package.proofs.KeyOrders.{ascending_by_keys}
use Rattle.misp_package.proofs.fitting.packable.Goals as goal

pub returns-then-are_packable : goal.returns-then-are_packable
unfolding IsPacking
returns-then-are_packable c =
    let packable = subst (λ (l : List (Bor Row)). ArePackable c.args.event.now (map (λ r. r.now) l)) c.as_slice.ensures.value (c.are_packable.ensures.0 c.if-are_packable.true) in
    (ascending_by_keys (map (λ r. r.now) c.args.rows.items) packable.ascend, packable)

pub returns-then-are_packable-2 : goal.returns-then-are_packable-2
unfolding IsPacking
returns-then-are_packable-2 c = (
  c.in_ok-list.ensures,
  subst (λ (l : List (Bor Row)). ArePackable c.args.event.now (map (λ r. r.now) l)) c.as_slice-2.ensures.value (c.are_packable-2.ensures.0 c.if-are_packable-2.true),
)

pub returns : goal.returns
unfolding IsPacking
returns c = λ packable.
    absurd (false≢true (sym c.if-are_packable-2.false
    ∙ c.are_packable-2.ensures.1 (subst (ArePackable c.args.event.now) (sym c.in_ok-list.ensures ∙ ap (map (λ r. r.now)) (sym c.as_slice-2.ensures.value)) packable)))
