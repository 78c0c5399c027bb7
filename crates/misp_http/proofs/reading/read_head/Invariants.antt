use Rattle.std.proofs.Common.{◌≡◌, ◌-◌, length, vec_len}
use Rattle.std.specs.Io.KnownBytes.{prepend_known, Keeps}
use Rattle.misp_http.specs.Limits.{head_limit}
use Rattle.misp_http.proofs.Prompt.{Unasked}
use Rattle.misp_http.proofs.reading.read_head.Given as goal

abbrev pub invariant-loop-lines : goal.invariant-loop-lines
invariant-loop-lines g l = record {
  kept : Keeps (prepend_known l.fn.rest.items (g.S.Source.left l.fn.source)) (prepend_known l.rest.items (g.S.Source.left l.source));
  first : Unasked l.source l.fn.source l.rest.items l.fn.rest.items l.lines.scanned l.lines.begun l.lines.empty;
  room : length l.buffer ≡ length l.fn.buffer;
  same : g.S.Source.faults l.source ≡ g.S.Source.faults l.fn.source;
}

abbrev pub decreases-loop-lines : goal.decreases-loop-lines
decreases-loop-lines g l = head_limit - vec_len l.rest
