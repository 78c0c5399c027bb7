use Rattle.std.proofs.Common.{subst, ◌∙◌, nat_cmp}
use Rattle.misp_model.proofs.Prelude.{IsRow, slice_cmp}
use Rattle.misp_copies.proofs.KeyOrder.{in_numbers}
use Rattle.misp_package.specs.Packing.{key_order}
use Rattle.misp_elem.specs.Spelling as spelling
use Rattle.misp_package.proofs.key_order.compare.Goals as goal

pub returns : goal.returns
unfolding key_order
returns c =
    c.compare_keys.ensures ∙ (λ i. slice_cmp nat_cmp (spelling.key (c.a.view_is i).key) (spelling.key (c.b.view_is i).key))
    ∙ in_numbers c.args.a.now.key c.args.b.now.key (subst IsRow c.a.view_is c.a.invariant).1.0 (subst IsRow c.b.view_is c.b.invariant).1.0
