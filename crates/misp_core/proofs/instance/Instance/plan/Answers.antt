use Rattle.std.proofs.Common.{arith, sym, subst, Err}
use Rattle.misp_model.specs.Permission.{no_permission}
use Rattle.misp_core.specs.Prelude.{Plans, host_of, refused}
use Rattle.misp_core.proofs.Answered.{barred_planned, just_barred, not_both}
use Rattle.misp_core.proofs.Carried.{asks_none}
use Rattle.misp_core.proofs.instance.Instance.plan.Goals as goal

pub returns-then-not-may-clause-planned : goal.returns-then-not-may-clause-planned
returns-then-not-may-clause-planned g c =
    barred_planned (host_of c.args.self.now) c.args.now (c.args.caller.now, c.args.ask) _ c.forbidden.result
    (rw (← c.caller.view_is, ← c.permission_for-perm.ensures) (sym c.if-not-may.ensures))
    (subst (λ perm. Plans (Err c.forbidden.result) (refused (no_permission perm))) c.permission_for-perm.ensures c.forbidden.ensures)

pub returns-then-not-may-clause-cause : goal.returns-then-not-may-clause-cause
returns-then-not-may-clause-cause g c = record {
  later = omega arith;
  rose = λ is. absurd (asks_none (Err c.forbidden.result) _ c.forbidden.ensures is);
}

pub returns-then-not-may-clause-forbidden : goal.returns-then-not-may-clause-forbidden
returns-then-not-may-clause-forbidden g c = λ no.
    just_barred _ c.args.ask c.forbidden.result
    (subst (λ perm. Plans (Err c.forbidden.result) (refused (no_permission perm))) c.permission_for-perm.ensures c.forbidden.ensures)

pub returns-clause-forbidden : goal.returns-clause-forbidden
returns-clause-forbidden g c = λ no.
    not_both _ (rw (← c.caller.view_is, ← c.permission_for-perm.ensures) (sym c.if-not-may.ensures)) no

-- ---- what it permits

pub plan_permitted-requires-clause-permitted : goal.plan_permitted-requires-clause-permitted
plan_permitted-requires-clause-permitted g c = rw (← c.caller.view_is, ← c.permission_for-perm.ensures) (sym c.if-not-may.ensures)

pub returns-clause-planned : goal.returns-clause-planned
returns-clause-planned g c = rw (← c.self.view_is) c.plan_permitted.ensures.planned
