use Rattle.std.proofs.Common.{refl}
use Rattle.misp_outside.proofs.Reporting.{stays_same}
use Rattle.misp_core.specs.HandedGroups.{groups_handed}
use Rattle.misp_core.specs.Prelude.{groups_of}
use Rattle.misp_core.specs.Sharing.{group_shared}
use Rattle.misp_api.specs.declared.planned.Planned.{Planned}
use Rattle.misp_api.proofs.Plans.{barred_as, item_there, rows_there, stopped_as}
use Rattle.misp_api.proofs.Told.{planned_there, unmet}
use Rattle.misp_api.proofs.answering.plan.Goals as goal

-- an ask
pub returns-in-Asks-clause-planned : goal.returns-in-Asks-clause-planned
returns-in-Asks-clause-planned g c =
    rw c.in-Asks.is (rows_there _ _ c.of_rows.ensures c.plan.new.self.held _ c.plan.ensures.planned)

-- groups are handed in
pub returns-in-TakesGroups-clause-planned : goal.returns-in-TakesGroups-clause-planned
returns-in-TakesGroups-clause-planned g c =
    rw c.in-TakesGroups.is
    (rows_there _ _ c.of_rows-in-TakesGroups.ensures c.args.instance.now.held _
    (planned_there c.args.instance.now.held (λ held. groups_handed c.args.caller.now c.in-TakesGroups.groups (groups_of held)) c.plan_handed_groups.result
    (rw (← c.into_vec.ensures) c.plan_handed_groups.ensures.planned)))

pub returns-in-TakesGroups-clause-cause : goal.returns-in-TakesGroups-clause-cause
returns-in-TakesGroups-clause-cause g c = unmet _ (λ stops. c.plan_handed_groups.ensures.no_fault (stopped_as Planned.Rows _ _ c.of_rows-in-TakesGroups.ensures stops))

-- a group is added or edited
pub returns-in-Shares-clause-planned : goal.returns-in-Shares-clause-planned
returns-in-Shares-clause-planned g c =
    rw c.in-Shares.is
    (rows_there _ _ c.of_rows-in-Shares.ensures c.args.instance.now.held _
    (planned_there c.args.instance.now.held (λ held. group_shared c.args.now c.args.caller.now c.in-Shares.add c.in-Shares.group (groups_of held)) c.plan_shared_group.result
    c.plan_shared_group.ensures.planned))

pub returns-in-Shares-clause-barred : goal.returns-in-Shares-clause-barred
returns-in-Shares-clause-barred g c =
    rw c.in-Shares.is (λ not_. barred_as Planned.Rows _ _ c.of_rows-in-Shares.ensures _ _ _ (c.plan_shared_group.ensures.forbidden not_))

pub returns-in-Shares-clause-held : goal.returns-in-Shares-clause-held
returns-in-Shares-clause-held g c = stays_same c.args.instance.now.held c.args.instance.now.held refl

pub returns-in-Shares-clause-cause : goal.returns-in-Shares-clause-cause
returns-in-Shares-clause-cause g c = unmet _ (λ stops. c.plan_shared_group.ensures.no_fault (stopped_as Planned.Rows _ _ c.of_rows-in-Shares.ensures stops))

-- what a site administrator asks
pub returns-in-Manages-clause-planned : goal.returns-in-Manages-clause-planned
returns-in-Manages-clause-planned g c =
    rw c.in-Manages.is (item_there _ _ c.of_item.ensures c.args.instance.now.held _ c.plan_managed.ensures.planned)

pub returns-in-Manages-clause-barred : goal.returns-in-Manages-clause-barred
returns-in-Manages-clause-barred g c =
    rw c.in-Manages.is (λ not_. barred_as Planned.Made _ _ c.of_item.ensures _ _ _ (c.plan_managed.ensures.forbidden not_))

pub returns-in-Manages-clause-cause : goal.returns-in-Manages-clause-cause
returns-in-Manages-clause-cause g c = unmet _ (λ stops. c.plan_managed.ensures.no_fault (stopped_as Planned.Made _ _ c.of_item.ensures stops))
