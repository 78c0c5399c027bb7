use Rattle.std.proofs.Common.{subst, ◌∙◌, nat_cmp}
use Rattle.misp_model.proofs.Prelude.{IsRow, slice_cmp}
use Rattle.misp_copies.proofs.KeyOrder.{in_numbers}
use Rattle.misp_elem.specs.Key.{IsKey}
use Rattle.misp_elem.specs.Spelling as spelling
use Rattle.misp_wanted.proofs.held.compare.Goals as goal

pub returns : goal.returns
returns c =
    c.compare_keys.ensures ∙ (λ i. slice_cmp nat_cmp (spelling.key (c.row.view_is i).key) (spelling.key c.args.key.now))
    ∙ in_numbers c.args.row.now.key c.args.key.now (subst IsRow c.row.view_is c.row.invariant).1.0 (subst IsKey c.key.view_is c.key.invariant)
