use Rattle.std.proofs.Common.{◌≡◌, ℕ, List, ◌++◌, length}
use Rattle.std.specs.Io.KnownBytes.{Appends}
use Rattle.misp_outside.specs.Streams.{HasRoom}
use Rattle.misp_http.proofs.writing.write_all.Given as goal

abbrev pub invariant-loop-rest : goal.invariant-loop-rest
invariant-loop-rest g l = record {
  sent : (sent : List ℕ) × (sent ++ l.rest ≡ l.fn.bytes) × Appends (g.W.Sink.written l.fn.sink) (g.W.Sink.written l.sink) sent;
  room : HasRoom (g.W.Sink.space l.sink) (length l.rest);
  same : g.W.Sink.faults l.sink ≡ g.W.Sink.faults l.fn.sink;
}

abbrev pub decreases-loop-rest : goal.decreases-loop-rest
decreases-loop-rest g l = length l.rest
