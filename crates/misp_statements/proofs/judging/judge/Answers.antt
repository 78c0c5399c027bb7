use Rattle.std.proofs.Common.{[], ◌∷◌, ap, eqb, ◌∙◌}
use Rattle.misp_model.specs.Prelude.{Row, last_stamp, row_passes}
use Rattle.misp_copies.specs.Scenes.{scene_for}
use Rattle.misp_statements.proofs.Judged.{full_uuid, judge_full, judge_new, judge_refused, judge_saves, judge_stamp}
use Rattle.misp_statements.proofs.judging.judge.Goals as goal

pub accepted_rows-requires-clause-stamp : goal.accepted_rows-requires-clause-stamp
accepted_rows-requires-clause-stamp c =
    ap (row_passes (λ (row : Row). eqb row.stamp last_stamp)) c.in-Ok.ensures.own
    ∙ judge_stamp (scene_for 0 c.args.who.now [] c.args.now [] c.args.rows.now) c.args.event.now c.args.proposal.now c.args.accept c.in-Ok.ensures.rule

pub accepted_rows-requires-clause-new : goal.accepted_rows-requires-clause-new
accepted_rows-requires-clause-new c = λ new.
    c.in-Ok.ensures.own
    ∙ judge_new (scene_for 0 c.args.who.now [] c.args.now [] c.args.rows.now) c.args.event.now c.args.proposal.now c.args.accept c.in-Ok.ensures.rule new

pub returns-in-Err-clause-err : goal.returns-in-Err-clause-err
returns-in-Err-clause-err c = λ act name today.
    judge_refused (scene_for act c.args.who.now name c.args.now today c.args.rows.now) c.args.event.now c.args.proposal.now c.args.accept c.in-Err.fault c.in-Err.ensures.rule

pub returns-in-Err-accepted_rows-clause-err : goal.returns-in-Err-accepted_rows-clause-err
returns-in-Err-accepted_rows-clause-err c = λ act name today.
    judge_full (scene_for act c.args.who.now name c.args.now today c.args.rows.now) c.args.event.now c.args.proposal.now c.args.accept c.in-Ok.ensures.rule
    _ _ c.body_accepted-body.ensures.value c.in-Ok.ensures.own c.in-Err-accepted_rows.fault c.in-Err-accepted_rows.ensures.err

pub returns-in_ok-with_first-in-Ok-accepted_rows-clause-ok : goal.returns-in_ok-with_first-in-Ok-accepted_rows-clause-ok
returns-in_ok-with_first-in-Ok-accepted_rows-clause-ok c = λ act name today.
    judge_saves (scene_for act c.args.who.now name c.args.now today c.args.rows.now) c.args.event.now c.args.proposal.now c.args.accept c.in-Ok.ensures.rule
    _ _ c.body_accepted-body.ensures.value c.in-Ok.ensures.own c.in-Ok-accepted_rows.ensures.ok.1 c.in-Ok-accepted_rows.rest.items c.in-Ok-accepted_rows.ensures.ok.0
    _ (c.in_ok-with_first-in-Ok-accepted_rows.ensures.all ∙ ap (λ row. row ∷ c.in-Ok-accepted_rows.rest.items) c.verdict_row-verdict.ensures.value)

pub returns-in-Err-accepted_rows-clause-names : goal.returns-in-Err-accepted_rows-clause-names
returns-in-Err-accepted_rows-clause-names c = full_uuid c.args.proposal.now.uuid _ _ c.in-Err-accepted_rows.fault c.in-Err-accepted_rows.ensures.err
