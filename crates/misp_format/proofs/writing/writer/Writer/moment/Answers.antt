use Rattle.std.proofs.Common.{◌≤◌, subst}
use Rattle.misp_dates.specs.declared.moment.TheConstants.{LAST_MICROSECOND}
use Rattle.misp_format.proofs.Moments.{moment_utf8}
use Rattle.misp_format.proofs.writing.writer.Writer.moment.Goals as goal

pub unreachable-requires : goal.unreachable-requires
unreachable-requires c =
    c.in-Err.ensures.cases.0 (rw c.text.ensures (moment_utf8 c.args.moment.now (subst (λ n. n ≤ LAST_MICROSECOND) c.get-microseconds.ensures.value c.get-microseconds.ensures.in_range)))
