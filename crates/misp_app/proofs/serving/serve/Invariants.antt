use Rattle.std.proofs.Common.{◌≡◌, ◌≤◌, ◌-◌, ℕ, List, Some}
use Rattle.std.specs.Prelude.{All}
use Rattle.std.specs.Io.KnownBytes.{Appends}
use Rattle.misp_outside.specs.Wires.{Connection}
use Rattle.misp_app.specs.Serving.{Server, IsServer, IsTold, Serves}
use Rattle.misp_app.proofs.serving.serve.Given as goal

-- so many connections were served
abbrev pub invariant-loop-served : goal.invariant-loop-served
invariant-loop-served g l = record {
  done : (time : ℕ) (s : Server) (coming : List Connection) → g.T.Clock.time l.fn.clock ≡ Some time
      → IsServer l.fn.instance (g.T.Clock.next_word l.fn.clock) (g.D.Door.back l.fn.door) s
      → g.D.Door.coming l.fn.door ≡ Some coming → All IsTold coming
      → (after : Server) × (left : List Connection) × (lines : List ℕ)
      × Serves time l.served s coming after left lines
      × IsServer l.instance (g.T.Clock.next_word l.clock) (g.D.Door.back l.door) after
      × (g.D.Door.coming l.door ≡ Some left) × All IsTold left
      × Appends (g.W.Sink.written l.fn.sink) (g.W.Sink.written l.sink) lines;
  few : l.served ≤ l.count;
  time_is : g.T.Clock.time l.clock ≡ g.T.Clock.time l.fn.clock;
  door_later : g.D.Door.faults l.fn.door ≤ g.D.Door.faults l.door;
  write_later : g.W.Sink.faults l.fn.sink ≤ g.W.Sink.faults l.sink;
}

abbrev pub decreases-loop-served : goal.decreases-loop-served
decreases-loop-served g l = l.count - l.served
