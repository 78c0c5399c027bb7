use Rattle.std.proofs.Common.{ap, sym, ◌∙◌}
use Rattle.misp_ids.specs.Stamp.{next_stamp as next_of}
use Rattle.misp_model.proofs.Prelude.{Row, false≢true}
use Rattle.misp_copies.proofs.Stamps.{next_none}
use Rattle.misp_copies.proofs.renewing.stamp_after.Goals as goal

pub unreachable-requires : goal.unreachable-requires
unreachable-requires c = false≢true (sym c.requires ∙ next_none c.args.row.now.stamp c.args.now (ap (λ (r : Row). next_of r.stamp c.args.now) (sym c.row.view_is) ∙ sym c.in-None.ensures))
