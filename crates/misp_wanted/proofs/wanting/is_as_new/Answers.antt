use Rattle.std.proofs.Common.{ap, sym, ◌∙◌, refl, option_copied}
use Rattle.misp_package.proofs.StampLemmas.{found_by_order}
use Rattle.misp_wanted.proofs.wanting.is_as_new.Goals as goal

pub returns-in-Some : goal.returns-in-Some
returns-in-Some c =
    rw (sym (found_by_order c.args.stamps.now c.args.told.now.key) ∙ sym c.get.ensures.value ∙ ap option_copied c.in-Some.is, c.get-in-Some.ensures.value, c.get-in-Some-2.ensures.value) refl

pub returns-in-None : goal.returns-in-None
returns-in-None c = rw (sym (found_by_order c.args.stamps.now c.args.told.now.key) ∙ sym c.get.ensures.value ∙ ap option_copied c.in-None.is) refl
