use Rattle.std.proofs.Common.{sym, eqb, map, subst}
use Rattle.misp_lists.proofs.Prelude.{IsDistinct}
use Rattle.misp_edit.proofs.DistinctUuids.{no_clash}
use Rattle.misp_edit.proofs.clash.first_among.Goals as goal

pub returns-then-all_differ : goal.returns-then-all_differ
returns-then-all_differ c =
    sym (no_clash c.args.used.now (map (λ p. p.1) c.args.uuids.now)
    (subst (IsDistinct eqb) c.in_ok-with_body.ensures (c.all_differ.ensures.0 c.if-all_differ.true)))
