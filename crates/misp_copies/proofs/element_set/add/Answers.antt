use Rattle.std.proofs.Common.{arith}
use Rattle.misp_elem.specs.SameKey.{same_key}
use Rattle.misp_copies.proofs.element_set.add.Goals as goal

pub returns-in_ok-put-in-Element : goal.returns-in_ok-put-in-Element
unfolding same_key
returns-in_ok-put-in-Element c = λ w e p. grind (arith, c.in_ok-put-in-Element.ensures w e p)
