use Rattle.std.proofs.Common.{◌≡◌, ◌-◌, length, vec_len}
use Rattle.std.specs.Io.KnownBytes.{prepend_known, Keeps}
use Rattle.misp_http.proofs.reading.read_at_least.Given as goal

abbrev pub invariant-loop-source : goal.invariant-loop-source
invariant-loop-source g l = record {
  kept : Keeps (prepend_known l.fn.rest.items (g.S.Source.left l.fn.source)) (prepend_known l.rest.items (g.S.Source.left l.source));
  room : length l.buffer ≡ length l.fn.buffer;
  same : g.S.Source.faults l.source ≡ g.S.Source.faults l.fn.source;
}

abbrev pub decreases-loop-source : goal.decreases-loop-source
decreases-loop-source g l = l.size - vec_len l.rest
