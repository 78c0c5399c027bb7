use Rattle.std.proofs.Common.{◌∙◌}
use Rattle.misp_elem.proofs.KeyOrder.{keys_by_bytes}
use Rattle.misp_copies.proofs.KeyOrder.{in_numbers}
use Rattle.misp_copies.proofs.keys.compare.Goals as goal

pub returns : goal.returns
returns c =
    rw (← c.a.view_is, ← c.b.view_is)
    (c.cmp.ensures ∙ keys_by_bytes c.a.inside.form c.b.inside.form c.a.invariant c.b.invariant ∙ in_numbers c.a.inside.form c.b.inside.form c.a.invariant c.b.invariant)
