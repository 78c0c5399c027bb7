use Rattle.std.proofs.Common.{ap, ◌∙◌, eqb, filter}
use Rattle.misp_elem.specs.declared.row.RowFields.{RowFields as Row}
use Rattle.misp_view.specs.Parts.{around}
use Rattle.misp_view.proofs.inside.grouped.Goals as goal

pub returns : goal.returns
returns c = record {
  rises = c.in_ok-list-2.ensures.rises;
  same = λ g. c.in_ok-list-2.ensures.same g ∙ ap (filter (λ (r : Row). eqb g (around r.key))) c.in_ok-list.ensures;
}
