use Rattle.std.proofs.Common.{◌≡◌, ◌≤◌, ◌-◌, ℕ, Some}
use Rattle.std.specs.Io.KnownBytes.{prepend_known}
use Rattle.misp_api.specs.Session.{Runs}
use Rattle.misp_api.specs.Turn.{Point, IsAt}
use Rattle.misp_api.specs.declared.TheConstants.{MAX_REQUESTS}
use Rattle.misp_api.proofs.sessions.session.Given as goal

-- so many requests were answered
abbrev pub invariant-loop-requests : goal.invariant-loop-requests
invariant-loop-requests g l = record {
  ran : (time : ℕ) (p : Point) → g.T.Clock.time l.fn.clock ≡ Some time
      → IsAt (g.S.Source.left l.fn.source) l.fn.instance (g.T.Clock.next_word l.fn.clock) (g.W.Sink.written l.fn.sink) p
      → (q : Point) × Runs time l.requests p q
      × IsAt (prepend_known l.buffers.rest.items (g.S.Source.left l.source)) l.instance (g.T.Clock.next_word l.clock) (g.W.Sink.written l.sink) q;
  few : l.requests ≤ MAX_REQUESTS;
  time_is : g.T.Clock.time l.clock ≡ g.T.Clock.time l.fn.clock;
  read_later : g.S.Source.faults l.fn.source ≤ g.S.Source.faults l.source;
  write_later : g.W.Sink.faults l.fn.sink ≤ g.W.Sink.faults l.sink;
}

abbrev pub decreases-loop-requests : goal.decreases-loop-requests
decreases-loop-requests g l = MAX_REQUESTS - l.requests
