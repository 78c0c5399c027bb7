use Rattle.std.proofs.Common.{sym, arith}
use Rattle.misp_api.proofs.Table.{found_kind, absent_kind}
use Rattle.misp_api.proofs.routes.Routes.kind_of.Goals as goal

pub returns-in-Ok : goal.returns-in-Ok
returns-in-Ok c =
    let params = c.in-Ok.found.params in
    sym (found_kind c.args.path.now params.pattern.now params.text.now params.names.now c.in-Ok.found.value.now (λ i. omega (arith, c.type_inv.path i)) (rw (← c.self.invariant) c.in-Ok.ensures.found))

pub returns-in-Err : goal.returns-in-Err
returns-in-Err c = sym (absent_kind c.args.path.now (rw (← c.self.invariant) c.in-Err.ensures.missing))
