use Rattle.std.proofs.Common.{map}
use Rattle.misp_view.proofs.Telling.{proposals_are}
use Rattle.misp_view.proofs.statements.proposals.Goals as goal

pub returns : goal.returns
returns c =
    proposals_are (map (λ r. r.now) c.args.told.now) c.in_ok-by_key.by_key c.in_ok-by_key.ensures c.in_ok-verdicts.verdicts c.args.judge.now c.in_ok-verdicts.ensures
    (map (λ r. r.now) c.in_ok-list.list.items) (map (λ r. r.now) c.in_ok-ordered.ordered.items) c.in_ok-proposals.proposals c.in_ok-list.ensures c.in_ok-ordered.ensures c.in_ok-proposals.ensures
