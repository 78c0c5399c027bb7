use Rattle.misp_admins.proofs.Putting.{nothing_ascends}
use Rattle.misp_admins.proofs.room.empty.Goals as goal

pub invariant_of-result : goal.invariant_of-result
invariant_of-result c = rw (c.of.ensures, c.new.ensures.items, c.of-2.ensures, c.new-2.ensures.items, c.of-3.ensures, c.new-3.ensures.items) nothing_ascends
