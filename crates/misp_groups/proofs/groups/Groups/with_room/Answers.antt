use Rattle.misp_groups.proofs.Planned.{none_ascend}
use Rattle.misp_groups.proofs.groups.Groups.with_room.Goals as goal

pub invariant_of-self-2 : goal.invariant_of-self-2
invariant_of-self-2 c = rw (c.replace.ensures.after, c.new.ensures.items) none_ascend
