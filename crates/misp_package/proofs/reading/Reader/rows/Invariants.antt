use Rattle.std.proofs.Common.{◌≡◌, ◌-◌, None}
use Rattle.misp_package.specs.PackageReading.{rows_after}
use Rattle.misp_package.proofs.RowLoop.{with_front}
use Rattle.misp_package.proofs.reading.Reader.rows.Given as goal

abbrev pub invariant-loop : goal.invariant-loop
invariant-loop l = with_front l.rows.items (rows_after l.event l.before (l.count - l.counter) l.self) ≡ rows_after l.event None l.count l.fn.self
