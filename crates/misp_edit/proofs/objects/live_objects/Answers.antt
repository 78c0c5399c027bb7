use Rattle.std.proofs.Common.{◌∙◌, sym, arith}
use Rattle.misp_lists.proofs.Prelude.{common_steps}
use Rattle.misp_edit.proofs.ObjectLemmas.{live_there, none_live}
use Rattle.misp_edit.proofs.objects.live_objects.Goals as goal

pub returns-then-has_gone : goal.returns-then-has_gone
returns-then-has_gone c = λ x. grind (arith, common_steps, none_live c.args.rows.now c.args.owner c.args.event (sym c.has_gone.ensures ∙ c.if-has_gone.true) x)

pub returns : goal.returns
returns c = λ x.
    c.in_ok-own_objects.ensures.found x ∙ live_there c.args.rows.now c.args.owner c.args.event c.in_ok-own_objects.ensures.rows (sym c.has_gone.ensures ∙ c.if-has_gone.false) x
