use Rattle.misp_dialogue.specs.Conversed.{between}
use Rattle.misp_dialogue.proofs.Steps.{stopped, unmade}
use Rattle.misp_dialogue.proofs.conversing.exchange.Goals as goal

pub returns-in-Err-clause-ended : goal.returns-in-Err-clause-ended
returns-in-Err-clause-ended g c =
    unmade g.L.Leader.memory _ (g.L.Leader.dialogue c.args.leader.now) _ _ _ c.in-Err.ensures.asking c.count-count.ensures c.in-Err.ensures.memory

pub returns-in-Err-ask-clause-ended : goal.returns-in-Err-ask-clause-ended
returns-in-Err-ask-clause-ended g c =
    stopped g.L.Leader.memory
    (between (g.A.Party.conduct (g.A.Party.setting c.args.source.now)) (g.B.Party.conduct (g.B.Party.setting c.args.sink.now)))
    (g.L.Leader.dialogue c.args.leader.now) _ _ _ c.in-Ok-Ask.side c.in-Ok-Ask.request _ _
    (rw c.in-Ok-Ask.field-0-is at c.in-Ok-Ask.ensures.turn) c.count-count.ensures c.in-Err-ask.ensures.asked
