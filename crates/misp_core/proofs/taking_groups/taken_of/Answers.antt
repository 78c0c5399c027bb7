use Rattle.std.proofs.Common.{List, ◌∙◌, ◌++◌, ap, subst, sym}
use Rattle.misp_groups.specs.Changes.{take_groups}
use Rattle.misp_core.specs.Prelude.{Group}
use Rattle.misp_core.specs.Taking.{IsOver, groups_taken}
use Rattle.misp_core.proofs.TakenGroups.{newly, none_over, take_more, taken_more}
use Rattle.misp_core.proofs.taking_groups.taken_of.Goals as goal

pub loop-group-init : goal.loop-group-init
unfolding take_groups groups_taken
loop-group-init c = record {
  over = none_over c.args.groups.now c.new-latest.result c.as_slice-ascending.ensures.ascend c.new-latest.ensures;
  taken = c.new-taken.ensures.items;
}

pub loop-group-preserved : goal.loop-group-preserved
loop-group-preserved c =
    let all : List Group = take_groups c.args.groups.now c.loop-group.yielded in
    record {
      over =
          subst (λ (gs : List Group). IsOver gs c.args.groups.now c.take_one.new.latest) (sym (take_more c.args.groups.now c.loop-group.yielded c.in-Some.group))
          (c.in_ok-take_one.ensures.known all c.loop-group.invariant.over);
      taken =
          c.in_ok-take_one.ensures.taken all c.loop-group.invariant.over
          ∙ ap (λ (gs : List Group). gs ++ newly all c.in-Some.group) c.loop-group.invariant.taken
          ∙ sym (taken_more c.args.groups.now c.loop-group.yielded c.in-Some.group);
    }
