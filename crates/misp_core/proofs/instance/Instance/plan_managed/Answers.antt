use Rattle.std.proofs.Common.{◌≡◌, Err, Some, subst, sym}
use Rattle.misp_admins.specs.Asks.{why_not}
use Rattle.misp_core.specs.Managing.{PlansItem, asked_managed}
use Rattle.misp_core.specs.Prelude.{Admin}
use Rattle.misp_core.specs.declared.planning.NoPlan.{NoPlan}
use Rattle.misp_core.proofs.Managed.{item_no_fault, rule_planned}
use Rattle.misp_core.proofs.instance.Instance.plan_managed.Goals as goal

pub returns-in-Err-clause-planned : goal.returns-in-Err-clause-planned
returns-in-Err-clause-planned g c =
    rule_planned c.args.self.now.admin c.args.caller.now c.args.ask c.in-Err.rule c.bare.result (rw (← c.caller.view_is) (sym c.if-not-may.ensures))
    (subst (λ (a : Admin). why_not a c.args.ask ≡ Some c.in-Err.rule) c.setup.ensures c.in-Err.ensures.refused) c.bare.ensures

pub returns-in-Err-clause-no_fault : goal.returns-in-Err-clause-no_fault
returns-in-Err-clause-no_fault g c =
    let planned : PlansItem (Err (NoPlan.Refused c.bare.result)) (asked_managed c.args.self.now.admin c.args.caller.now c.args.ask) = returns-in-Err-clause-planned g c in
    item_no_fault (Err (NoPlan.Refused c.bare.result)) _ planned
