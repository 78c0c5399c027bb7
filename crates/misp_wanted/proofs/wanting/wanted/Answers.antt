use Rattle.std.proofs.Common.{◌∙◌}
use Rattle.std.proofs.lemmas.Result.{IfOk-weaker}
use Rattle.misp_wanted.proofs.HeldRows.{wanted_same}
use Rattle.misp_wanted.proofs.wanting.wanted.Goals as goal

pub returns : goal.returns
returns c = λ up.
    IfOk-weaker c.keys_wanted_at.result _ _
    (λ wanted are. are ∙ wanted_same c.args.here.now c.args.held.now c.args.owner.now c.args.event.now c.state-state.result (c.state-state.ensures up) c.args.keys.now)
    (c.keys_wanted_at.ensures up)
