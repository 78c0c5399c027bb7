use Rattle.std.proofs.Common.{◌≡◌, ◌∙◌, sym, subst, IfSome, Option, true}
use Rattle.misp_model.specs.Prelude.{Place, Scene, Submission, change_writes, is_place_of}
use Rattle.misp_copies.specs.Scenes.{scene_for}
use Rattle.misp_edit.specs.Targets.{target_in, target_places}
use Rattle.misp_edit.proofs.TargetLemmas.{found_is, target_is}
use Rattle.misp_edit.proofs.RowLemmas.{parts_rows_are}
use Rattle.misp_edit.proofs.extending.add_parts.Goals as goal

pub parts_rows-requires : goal.parts_rows-requires
parts_rows-requires c = λ u.
    let b : Submission = c.parts.inside.submission in
    let aims : Option Place → Type 0 = λ o. IfSome o (λ place. is_place_of u place ≡ true) in
    subst aims (sym (c.in-Ok.ensures.targets u)) (found_is u (target_places c.args.rows.now c.args.who.now.org b.event b.parts))

pub returns-in-Err-clause-err : goal.returns-in-Err-clause-err
returns-in-Err-clause-err c = λ act name today. rw (← c.parts.view_is) (c.in-Err.ensures.err c.args.event.now act name c.args.now today)

pub returns-in_ok-parts_rows-in-Ok-clause-ok : goal.returns-in_ok-parts_rows-in-Ok-clause-ok
unfolding change_writes
returns-in_ok-parts_rows-in-Ok-clause-ok c = λ act name today.
    let s : Scene = scene_for act c.args.who.now name c.args.now today c.args.rows.now in
    let b : Submission = c.parts.inside.submission in
    rw (← c.parts.view_is) (
      c.in-Ok.ensures.ok c.args.event.now act name c.args.now today,
      c.in_ok-parts_rows-in-Ok.ensures.all
          ∙ parts_rows_are act c.args.who.now.here c.args.who.now.org name c.args.now today c.args.who.now.groups.now c.args.rows.now b (target_in c.in-Ok.targets)
          (λ u. c.in-Ok.ensures.targets u ∙ sym (target_is s b.event u b.parts)),
    )
