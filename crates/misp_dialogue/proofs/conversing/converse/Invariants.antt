use Rattle.std.proofs.Common.{◌≡◌}
use Rattle.misp_dialogue.specs.Conversed.{Conversed, between}
use Rattle.misp_dialogue.specs.Parties.{PartyState}
use Rattle.misp_dialogue.specs.declared.ending.Ending.{Ending}
use Rattle.misp_dialogue.proofs.conversing.converse.Given as goal

-- whatever the dialogue still comes to, it comes to from the beginning
abbrev pub invariant-loop-ending : goal.invariant-loop-ending
invariant-loop-ending g l = record {
  source : g.A.Party.setting l.source ≡ g.A.Party.setting l.fn.source;
  sink : g.B.Party.setting l.sink ≡ g.B.Party.setting l.fn.sink;
  so_far : (new : PartyState g.A.Party.Holds × PartyState g.B.Party.Holds) (ending : Ending g.row.N.Denot g.row.C.Denot)
      → Conversed g.L.Leader.memory (between (g.A.Party.conduct (g.A.Party.setting l.source)) (g.B.Party.conduct (g.B.Party.setting l.sink)))
      (g.L.Leader.dialogue l.leader) (g.A.Party.state l.source, g.B.Party.state l.sink) new ending
      → Conversed g.L.Leader.memory (between (g.A.Party.conduct (g.A.Party.setting l.fn.source)) (g.B.Party.conduct (g.B.Party.setting l.fn.sink)))
      (g.L.Leader.dialogue l.fn.leader) (g.A.Party.state l.fn.source, g.B.Party.state l.fn.sink) new ending;
}

abbrev pub decreases-loop-ending : goal.decreases-loop-ending
decreases-loop-ending g l = g.L.Leader.left l.leader
