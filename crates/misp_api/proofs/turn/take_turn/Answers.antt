use Rattle.std.proofs.Common.{◌||◌, ◌∙◌, ap, sym}
use Rattle.misp_api.proofs.Turns.{goes, shuts, breaks}
use Rattle.misp_api.proofs.turn.take_turn.Goals as goal

pub returns-in-Written-clause-turned : goal.returns-in-Written-clause-turned
returns-in-Written-clause-turned g c = λ time p time_is at.
    rw c.reply_to.ensures.rest
    (shuts time c.args.last p _ _ _ _ _ (g.T.Clock.next_word c.reply_to.new.clock) _ _ at _ c.in-Ok.read c.in-Ok.is c.read_request.ensures.read c.either-close.result
    (c.either-close.ensures ∙ ap (λ asks. asks || c.args.last) c.closes-asks.ensures) _
    (c.reply_to.ensures.went time p.word time_is at.word_is) (c.reply_to.ensures.word p.word at.word_is) (sym c.closes-asks.ensures ∙ c.if-asks.true) c.in-Written.is)

pub returns-in-Written-2-clause-turned : goal.returns-in-Written-2-clause-turned
returns-in-Written-2-clause-turned g c = λ time p time_is at.
    rw c.reply_to.ensures.rest
    (goes time c.args.last p _ _ _ _ _ (g.T.Clock.next_word c.reply_to.new.clock) _ _ at _ c.in-Ok.read c.in-Ok.is c.read_request.ensures.read c.either-close.result
    (c.either-close.ensures ∙ ap (λ asks. asks || c.args.last) c.closes-asks.ensures) _
    (c.reply_to.ensures.went time p.word time_is at.word_is) (c.reply_to.ensures.word p.word at.word_is) (sym c.closes-asks.ensures ∙ c.if-asks.false) c.in-Written-2.is)

pub returns-in-WriteFault-clause-turned : goal.returns-in-WriteFault-clause-turned
returns-in-WriteFault-clause-turned g c = λ time p time_is at.
    rw c.reply_to.ensures.rest
    (breaks time c.args.last p _ _ _ _ _ (g.T.Clock.next_word c.reply_to.new.clock) _ _ at _ c.in-Ok.read c.in-Ok.is c.read_request.ensures.read c.either-close.result
    (c.either-close.ensures ∙ ap (λ asks. asks || c.args.last) c.closes-asks.ensures) _
    (c.reply_to.ensures.went time p.word time_is at.word_is) (c.reply_to.ensures.word p.word at.word_is) c.in-WriteFault.is)
