use Rattle.std.proofs.Common.{◌∙◌, ap, map, filter, take_all}
use Rattle.misp_elem.specs.declared.row.RowFields.{RowFields as Row}
use Rattle.misp_view.specs.Statements.{is_verdict_of}
use Rattle.misp_view.proofs.Telling.{verdicts_are}
use Rattle.misp_view.proofs.statements.verdicts.Goals as goal

pub returns : goal.returns
returns c =
    verdicts_are (map (λ r. r.now) c.args.told.now) (map (λ r. r.now) c.loop-row.list.items) c.in_ok-verdicts.verdicts c.args.judge.now
    (c.loop-row.invariant ∙ ap (λ l. filter (λ (r : Row). is_verdict_of c.args.judge.now r.key) (map (λ r. r.now) l)) (take_all c.loop-row.row-index c.args.told.now c.loop-row-test.false))
    c.in_ok-verdicts.ensures
