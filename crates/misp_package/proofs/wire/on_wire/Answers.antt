use Rattle.std.proofs.Common.{subst, sym}
use Rattle.misp_model.proofs.Prelude.{IsRow}
use Rattle.misp_package.specs.Packing.{on_wire}
use Rattle.misp_package.proofs.Wired.{wired_row}
use Rattle.misp_package.proofs.wire.on_wire.Goals as goal

pub invariant_of-result : goal.invariant_of-result
unfolding on_wire
invariant_of-result c =
    rw (c.landed.ensures, c.in_ok-content.ensures) (subst (λ r. IsRow (on_wire c.args.way r)) (sym c.row.view_is) (wired_row c.args.way c.args.row.now (subst IsRow c.row.view_is c.row.invariant) c.requires))

pub returns-clause-row : goal.returns-clause-row
returns-clause-row c = wired_row c.args.way c.args.row.now (subst IsRow c.row.view_is c.row.invariant) c.requires

pub returns-in_err-content-clause-row : goal.returns-in_err-content-clause-row
returns-in_err-content-clause-row c = wired_row c.args.way c.args.row.now (subst IsRow c.row.view_is c.row.invariant) c.requires
