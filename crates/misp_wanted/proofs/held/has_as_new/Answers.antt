use Rattle.std.proofs.Common.{Bool, false, ap, leb, sym, ◌∙◌, option_copied}
use Rattle.misp_lists.specs.Prelude.{option_map_or}
use Rattle.misp_model.specs.Prelude.{Row}
use Rattle.misp_wanted.proofs.held.has_as_new.Goals as goal

pub returns-in-Some : goal.returns-in-Some
returns-in-Some c = λ up.
    let also : Row → Bool = λ row. leb c.args.told.now.stamp row.stamp in
    rw (c.get.ensures.value, c.get-in-Some.ensures.value)
    (ap (λ (r : Row). leb c.args.told.now.stamp r.stamp) c.row.view_is ∙ sym (c.row_of.ensures up also ∙ ap (λ o. option_map_or also (option_copied o) false) c.in-Some.is))

pub returns-in-None : goal.returns-in-None
returns-in-None c = λ up.
    let also : Row → Bool = λ row. leb c.args.told.now.stamp row.stamp in
    sym (c.row_of.ensures up also ∙ ap (λ o. option_map_or also (option_copied o) false) c.in-None.is)
