use Rattle.std.proofs.Common.{◌∙◌, sym, subst, IfSome, Option, true, ◌≡◌}
use Rattle.misp_model.specs.Prelude.{Place, Scene, date_of, is_place_of}
use Rattle.misp_copies.specs.Scenes.{scene_for}
use Rattle.misp_edit.specs.Targets.{target_in, target_places}
use Rattle.misp_edit.proofs.TargetLemmas.{found_is, target_is}
use Rattle.misp_edit.proofs.RowLemmas.{added_rows_are}
use Rattle.misp_edit.proofs.adding.add_event.Goals as goal

pub returns-in-Err-clause-err : goal.returns-in-Err-clause-err
returns-in-Err-clause-err c = λ act.
    c.in-Err.ensures.err act c.args.name.now c.args.now (date_of c.args.now)

pub added_rows-requires-clause-targets : goal.added_rows-requires-clause-targets
added_rows-requires-clause-targets c = λ u.
    let aims : Option Place → Type 0 = λ o. IfSome o (λ place. is_place_of u place ≡ true) in
    subst aims (sym (c.in-Ok.ensures.targets u)) (found_is u (target_places c.args.rows.now c.args.who.now.org c.args.submission.event c.args.submission.parts))

pub returns-in_ok-added_rows-in-Ok-clause-ok : goal.returns-in_ok-added_rows-in-Ok-clause-ok
returns-in_ok-added_rows-in-Ok-clause-ok c = λ act.
    let s : Scene = scene_for act c.args.who.now c.args.name.now c.args.now (date_of c.args.now) c.args.rows.now in (
      c.in-Ok.ensures.ok act c.args.name.now c.args.now (date_of c.args.now),
      c.in_ok-added_rows-in-Ok.ensures.all
          ∙ added_rows_are act c.args.who.now.here c.args.who.now.org c.args.name.now c.args.now (date_of c.args.now) c.args.who.now.groups.now c.args.rows.now c.args.submission (target_in c.in-Ok.targets)
          (λ u. c.in-Ok.ensures.targets u ∙ sym (target_is s c.args.submission.event u c.args.submission.parts)),
    )
