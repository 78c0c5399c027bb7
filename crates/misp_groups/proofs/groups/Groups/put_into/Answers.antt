use Rattle.std.proofs.Common.{sym, subst}
use Rattle.misp_groups.specs.Groups.{IsGapFor}
use Rattle.misp_groups.proofs.Places.{sorted_insert}
use Rattle.misp_groups.proofs.Putting.{put_insert}
use Rattle.misp_groups.proofs.groups.Groups.put_into.Goals as goal

pub invariant_of-self-2 : goal.invariant_of-self-2
invariant_of-self-2 c =
    let gap = subst (λ gs. IsGapFor gs c.args.group.id c.args.gap) (sym c.self.view_is) c.requires in
    rw c.in_ok-insert.ensures.items (sorted_insert _ _ _ gap c.self.invariant)

pub returns-clause-ok : goal.returns-clause-ok
returns-clause-ok c = rw (c.in_ok-insert.ensures.items, c.self.view_is) (sym (put_insert c.args.group c.args.self.now c.args.gap c.requires))
