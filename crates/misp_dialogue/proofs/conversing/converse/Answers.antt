use Rattle.std.proofs.Common.{◌∙◌}
use Rattle.misp_dialogue.proofs.Courses.{by_replies, by_states}
use Rattle.misp_dialogue.proofs.Steps.{held_after}
use Rattle.misp_dialogue.proofs.conversing.converse.Goals as goal

pub loop-ending-preserved : goal.loop-ending-preserved
loop-ending-preserved g c = record {
  source = c.in-Ok.ensures.source ∙ c.loop-ending.invariant.source;
  sink = c.in-Ok.ensures.sink ∙ c.loop-ending.invariant.sink;
  so_far = λ new ending held.
      c.loop-ending.invariant.so_far new ending
      (held_after g.L.Leader.memory g.A.Party.conduct g.B.Party.conduct (g.A.Party.setting c.loop-ending.source) (g.A.Party.setting c.exchange.new.source)
      (g.B.Party.setting c.loop-ending.sink) (g.B.Party.setting c.exchange.new.sink) c.in-Ok.ensures.source c.in-Ok.ensures.sink
      (g.L.Leader.dialogue c.loop-ending.leader) (g.L.Leader.dialogue c.exchange.new.leader)
      (g.A.Party.state c.loop-ending.source, g.B.Party.state c.loop-ending.sink) (g.A.Party.state c.exchange.new.source, g.B.Party.state c.exchange.new.sink)
      new ending c.in-Ok.ensures.step held);
}

pub returns-in-Err-clause-conversed : goal.returns-in-Err-clause-conversed
returns-in-Err-clause-conversed g c = c.loop-ending.invariant.so_far _ c.in-Err.ending c.in-Err.ensures.ended

pub returns-in-Err-clause-replies : goal.returns-in-Err-clause-replies
returns-in-Err-clause-replies g c =
    by_replies g.L.Leader.memory (g.A.Party.conduct (g.A.Party.setting c.args.source.now)) (g.B.Party.conduct (g.B.Party.setting c.args.sink.now))
    (g.L.Leader.dialogue c.args.leader.now) _ _ c.in-Err.ending
    (c.loop-ending.invariant.so_far _ c.in-Err.ending c.in-Err.ensures.ended)

pub returns-in-Err-clause-states : goal.returns-in-Err-clause-states
returns-in-Err-clause-states g c = λ s s1 t t1 a b a1 b1.
    by_states g.L.Leader.memory (g.A.Party.conduct (g.A.Party.setting c.args.source.now)) (g.B.Party.conduct (g.B.Party.setting c.args.sink.now))
    (g.L.Leader.dialogue c.args.leader.now) _ _ c.in-Err.ending s s1 t t1
    (by_replies g.L.Leader.memory (g.A.Party.conduct (g.A.Party.setting c.args.source.now)) (g.B.Party.conduct (g.B.Party.setting c.args.sink.now))
    (g.L.Leader.dialogue c.args.leader.now) _ _ c.in-Err.ending
    (c.loop-ending.invariant.so_far _ c.in-Err.ending c.in-Err.ensures.ended))
    a b a1 b1
