use Rattle.std.proofs.Common.{◌∙◌, arith}
use Rattle.misp_outside.proofs.Reporting.{stays_then}
use Rattle.misp_store.proofs.Sought.{keys_done, keys_next}
use Rattle.misp_store.proofs.names_sought.add_keys.Goals as goal

pub loop-key-preserved : goal.loop-key-preserved
loop-key-preserved g c = record {
  found =
      keys_next c.args.event.now c.args.owner.now c.args.found.now.items c.args.keys.now c.loop-key.key-index
      (g.K.Keeper.state c.loop-key.keeper).held (g.K.Keeper.state c.add_row.new.keeper).held c.key-item.result c.as_slice.result.now c.loop-key.found.items c.add_row.new.found.items
      c.loop-key-test.true c.key-item.is (c.as_slice.ensures.value ∙ c.in_ok-name.ensures) c.in_ok-add_row.ensures.held c.loop-key.invariant.found c.in_ok-add_row.ensures.found;
  held = stays_then _ _ _ c.loop-key.invariant.held c.in_ok-add_row.ensures.held;
  same = c.in_ok-add_row.ensures.stays (λ e. absurd cc) ∙ c.loop-key.invariant.same;
}

pub returns-clause-found : goal.returns-clause-found
returns-clause-found g c =
    keys_done c.args.event.now c.args.owner.now c.args.found.now.items c.args.keys.now c.loop-key.key-index
    (g.K.Keeper.state c.loop-key.keeper).held c.loop-key.found.items (omega (arith, c.loop-key-test.false)) c.loop-key.invariant.found
