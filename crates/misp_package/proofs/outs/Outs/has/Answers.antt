use Rattle.std.proofs.Common.{ap, sym, ◌∙◌}
use Rattle.misp_package.specs.Passing.{is_at}
use Rattle.misp_package.proofs.AskedOnce.{at_event}
use Rattle.misp_package.proofs.outs.Outs.has.Goals as goal

pub returns-then-is_event_key : goal.returns-then-is_event_key
returns-then-is_event_key c =
    at_event c.self.inside.rows c.args.key.now c.self.inside.event c.self.inside.has_event c.self.invariant (sym c.is_event_key.ensures ∙ c.if-is_event_key.true)
    ∙ ap (λ rows. is_at rows c.args.key.now) c.self.view_is
