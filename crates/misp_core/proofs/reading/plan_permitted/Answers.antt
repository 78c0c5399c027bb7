use Rattle.std.proofs.Common.{◌≡◌, IfSome, IsSomeAnd, Option, arith, ap, refl, subst, Err}
use Rattle.misp_outside.proofs.Reporting.{stays_same}
use Rattle.misp_model.specs.declared.package.PackageFields.{PackageFields as Package}
use Rattle.misp_store.specs.declared.fault.LoadFault.{LoadFault}
use Rattle.misp_core.specs.Ahead.{IsKeptFor}
use Rattle.misp_core.specs.Handing.{host_at, scene_in}
use Rattle.misp_core.proofs.Answered.{asked_planned, keeper_told, told_of_keeper, unread_planned}
use Rattle.misp_core.proofs.KeptLandings.{landed_planned, still_lands}
use Rattle.misp_core.proofs.KeptParts.{kept_planned, left_answers, still_answers}
use Rattle.misp_core.proofs.Reported.{beside_still, groups_still}
use Rattle.misp_core.proofs.reading.plan_permitted.Goals as goal

-- ---- a package is kept

-- a package that is kept is answered, and no keeper is asked
pub returns-in-Ok-Some-clause-held : goal.returns-in-Ok-Some-clause-held
returns-in-Ok-Some-clause-held g c = stays_same _ _ refl

pub returns-in-Ok-Some-clause-planned : goal.returns-in-Ok-Some-clause-planned
returns-in-Ok-Some-clause-planned g c =
    rw c.show_part.ensures.plan
    (kept_planned (host_at c.args.site.now) _ c.args.site.now.moment c.args.site.now.caller.now c.args.ask _ c.in-Ok-Some.part c.requires.beside.ahead
    (subst (λ (found : Option Package). IfSome found (λ part. IsSomeAnd c.args.ahead.now (λ a. IsKeptFor a c.args.site.now.caller.now c.args.ask part))) c.in-Ok-Some.field-0-is c.in-Ok-Some.ensures.kept))

pub returns-in-Ok-Some-clause-beside : goal.returns-in-Ok-Some-clause-beside
returns-in-Ok-Some-clause-beside g c = record {
  groups = c.requires.beside.groups;
  ahead = left_answers (host_at c.args.site.now) _ _ _ c.requires.beside.ahead c.take_kept.ensures.left;
  landed = c.requires.beside.landed;
}

-- ---- memory runs out for rows of it

pub returns-in-Err-clause-beside : goal.returns-in-Err-clause-beside
returns-in-Err-clause-beside g c = record {
  groups = c.requires.beside.groups;
  ahead = left_answers (host_at c.args.site.now) _ _ _ c.requires.beside.ahead c.take_kept.ensures.left;
  landed = c.requires.beside.landed;
}

-- ---- what the caller has of the event is kept

pub returns-then-is_landed-clause-planned : goal.returns-then-is_landed-clause-planned
returns-then-is_landed-clause-planned g c =
    landed_planned (host_at c.args.site.now) c.args.site.now.moment c.args.site.now.caller.now c.args.site.now.groups.now c.plan_kept-plan.result _ c.args.ask c.args.landed.now
    c.requires.permitted c.requires.beside.groups c.requires.beside.landed c.plan_kept-plan.ensures.plans

pub returns-then-is_landed-clause-beside : goal.returns-then-is_landed-clause-beside
returns-then-is_landed-clause-beside g c = record {
  groups = c.requires.beside.groups;
  ahead = left_answers (host_at c.args.site.now) _ _ _ c.requires.beside.ahead c.take_kept.ensures.left;
  landed = c.requires.beside.landed;
}

pub returns-then-is_landed-clause-cause : goal.returns-then-is_landed-clause-cause
returns-then-is_landed-clause-cause g c = record {
  later = omega arith;
  rose = λ is. absurd (c.plan_kept-plan.ensures.no_fault is);
}

-- ---- rows are read

pub returns-in-Ok-clause-planned : goal.returns-in-Ok-clause-planned
returns-in-Ok-clause-planned g c =
    asked_planned (host_at c.args.site.now) c.args.site.now.moment (c.args.site.now.caller.now, c.args.ask) c.args.site.now.groups.now c.in-Ok.rows.items c.plan_request.result _
    c.requires.permitted (groups_still _ _ _ c.in-Ok.ensures.held c.requires.beside.groups) c.in-Ok.ensures.found c.in-Ok.ensures.table c.plan_request.ensures.plan

pub returns-in-Ok-clause-beside : goal.returns-in-Ok-clause-beside
returns-in-Ok-clause-beside g c =
    let still = beside_still (host_at c.args.site.now) _ _ _ _ _ c.in-Ok.ensures.held c.requires.beside in
    record {
      groups = still.groups;
      ahead = still_answers (host_at c.args.site.now) _ c.args.site.now.groups.now c.in-Ok.rows.items c.args.site.now.moment c.args.site.now.caller.now c.args.ask _ _ c.requires.permitted still.groups
          c.in-Ok.ensures.found c.in-Ok.ensures.table
          (left_answers (host_at c.args.site.now) _ _ _ still.ahead c.take_kept.ensures.left) c.plan_request.ensures.kept;
      landed = still_lands c.args.site.now.here.now c.args.site.now.caller.now c.in-Ok.rows.items (scene_in c.args.site.now) _ c.args.ask _ _
          c.in-Ok.ensures.found still.landed c.plan_request.ensures.landed;
    }

pub returns-in-Ok-clause-cause : goal.returns-in-Ok-clause-cause
returns-in-Ok-clause-cause g c = record {
  later = c.in-Ok.ensures.cause.later;
  rose = λ is. absurd (c.plan_request.ensures.no_fault is);
}

pub returns-in-Ok-clause-stays : goal.returns-in-Ok-clause-stays
returns-in-Ok-clause-stays g c = λ not_. c.in-Ok.ensures.stays (λ is. absurd cc)

-- ---- none are read

pub returns-in-Err-rows_for-clause-planned : goal.returns-in-Err-rows_for-clause-planned
returns-in-Err-rows_for-clause-planned g c =
    unread_planned (host_at c.args.site.now) c.args.site.now.moment (c.args.site.now.caller.now, c.args.ask) c.args.site.now.groups.now _ c.in-Err-rows_for.fault c.unread.result
    c.requires.permitted (groups_still _ _ _ c.in-Err-rows_for.ensures.held c.requires.beside.groups) c.in-Err-rows_for.ensures.bad c.unread.ensures.plans

pub returns-in-Err-rows_for-clause-beside : goal.returns-in-Err-rows_for-clause-beside
returns-in-Err-rows_for-clause-beside g c =
    let still = beside_still (host_at c.args.site.now) _ _ _ _ _ c.in-Err-rows_for.ensures.held c.requires.beside in
    record {
      groups = still.groups;
      ahead = left_answers (host_at c.args.site.now) _ _ _ still.ahead c.take_kept.ensures.left;
      landed = still.landed;
    }

pub returns-in-Err-rows_for-clause-cause : goal.returns-in-Err-rows_for-clause-cause
returns-in-Err-rows_for-clause-cause g c = record {
  later = c.in-Err-rows_for.ensures.cause.later;
  rose = λ is. c.in-Err-rows_for.ensures.cause.rose (ap Err (told_of_keeper c.in-Err-rows_for.fault c.unread.result c.unread.ensures.told is));
}

pub returns-in-Err-rows_for-clause-stays : goal.returns-in-Err-rows_for-clause-stays
returns-in-Err-rows_for-clause-stays g c = λ not_.
    c.in-Err-rows_for.ensures.stays (λ is.
    let same : c.in-Err-rows_for.fault ≡ LoadFault.KeeperFault = cc in
    not_ (keeper_told c.in-Err-rows_for.fault c.unread.result c.unread.ensures.told same))
