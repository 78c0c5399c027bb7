use Rattle.std.proofs.Common.{◌≡◌, Bool, true, false, not, List, Option, Some, None, IfSome, if◌then◌else◌, refl, ap, subst, ◌==◌}
use Rattle.misp_ids.specs.declared.refusal.RuleName.TheVariants.{NotCreator, GroupExists, LockedGroup, TimeLimit}
use Rattle.misp_groups.specs.Prelude.{GroupId, OrgId, RuleName, Stamp, bare, group_now, is_known_group, known_group, same_org, why_not}
use Rattle.misp_groups.specs.Groups.{why_kept}
use Rattle.misp_model.specs.Prelude.{Group, last_stamp}
use Rattle.misp_core.specs.Administering.{effect_by, administered}
use Rattle.misp_core.specs.Effects.{stop_by}
use Rattle.misp_core.specs.Planning.{Refuses}
use Rattle.misp_core.proofs.administering.plan_group.Goals as goal

abbrev TellsNone : Option RuleName → Type 0
TellsNone why = IfSome why (λ rule. stop_by rule ≡ None)

either : (b : Bool) (x y : Option RuleName) → TellsNone x → TellsNone y → TellsNone (if b then x else y)
either true x y p q = p
either false x y p q = q

kept : (known : Option Group) → TellsNone (why_kept known)
kept None = refl
kept (Some held) = either held.carried (Some LockedGroup) _ refl (either (held.modified == last_stamp) (Some TimeLimit) None refl tt)

-- no rule against an administration tells a stop
none_told : (add : Bool) (groups : List Group) (by : OrgId) (id : GroupId) → TellsNone (why_not add groups by id)
none_told true groups by id = either (not (same_org by id.creator)) (Some NotCreator) _ refl (either (is_known_group groups id) (Some GroupExists) None refl tt)
none_told false groups by id = either (not (same_org by id.creator)) (Some NotCreator) _ refl (kept (known_group groups id))

against : (now : Stamp) (by : OrgId) (add : Bool) (g : Group) (groups : List Group) (rule : RuleName) → why_not add groups by g.id ≡ Some rule → Refuses (bare rule) (administered now by add g groups)
against now by add g groups rule is = record {
  is = ap (λ why. effect_by why (group_now now g groups)) is;
  no_stop = subst TellsNone is (none_told add groups by g.id);
}

pub returns-in-Err : goal.returns-in-Err
returns-in-Err c = rw c.bare.ensures (against c.args.now c.args.by.now c.args.add c.args.group c.args.groups.now c.in-Err.rule c.in-Err.ensures.err)
