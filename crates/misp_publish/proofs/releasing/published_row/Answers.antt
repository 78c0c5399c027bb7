use Rattle.std.proofs.Common.{subst}
use Rattle.misp_elem.specs.Prelude.{IsRow, IsStamp}
use Rattle.misp_publish.specs.Release.{at_stamp}
use Rattle.misp_publish.proofs.ReleaseLemmas.{published_is_row}
use Rattle.misp_publish.proofs.releasing.published_row.Goals as goal

pub of-requires : goal.of-requires
unfolding at_stamp
of-requires c =
    rw (c.owner_of-owner.ensures, c.key_of-key.ensures, c.label_of-label.ensures, c.in_ok-content.ensures)
    (published_is_row c.args.stamp c.args.now c.args.row.now (subst IsStamp c.get-stamp.ensures.value c.get-stamp.ensures.in_range)
    (subst IsStamp c.get-now.ensures.value c.get-now.ensures.in_range) (subst IsRow c.row.view_is c.row.invariant))
