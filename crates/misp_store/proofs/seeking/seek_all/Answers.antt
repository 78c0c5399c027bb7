use Rattle.std.proofs.Common.{Some, refl, subst, inl, inr, ◌∙◌}
use Rattle.misp_outside.proofs.Reporting.{stays_same, stays_then}
use Rattle.misp_store.proofs.Sought.{OwnersFound, ascends_after, found_ascends, owners_done, owners_first, owners_next}
use Rattle.misp_store.proofs.seeking.seek_all.Goals as goal

pub loop-least-init : goal.loop-least-init
loop-least-init g c = record {
  found = owners_first c.args.looks.now (g.K.Keeper.state c.args.keeper.now).held c.new-found.result.items c.new-found.ensures.items;
  order = inl refl;
  held = stays_same _ _ refl;
  same = refl;
}

pub loop-least-preserved : goal.loop-least-preserved
loop-least-preserved g c = record {
  found =
      owners_next c.args.looks.now _ _ c.loop-least.found.items c.add_next.new.found.items (Some c.in-Some.from) _ c.in_ok-least.ensures.held
      (subst (OwnersFound c.args.looks.now (g.K.Keeper.state c.loop-least.keeper).held c.loop-least.found.items) c.in-Some.is c.loop-least.invariant.found) c.in_ok-least.ensures.found;
  order = inr c.in_ok-least.ensures.order;
  held = stays_then _ _ _ c.loop-least.invariant.held c.in_ok-least.ensures.held;
  same = c.in_ok-least.ensures.stays (λ e. absurd cc) ∙ c.loop-least.invariant.same;
}

pub returns-clause-found : goal.returns-clause-found
returns-clause-found g c =
    owners_done c.args.looks.now _ c.loop-least.found.items
    (subst (OwnersFound c.args.looks.now (g.K.Keeper.state c.loop-least.keeper).held c.loop-least.found.items) c.in_default.is c.loop-least.invariant.found)

pub returns-clause-order : goal.returns-clause-order
returns-clause-order g c =
    found_ascends c.args.looks.now _ c.loop-least.found.items (ascends_after _ c.loop-least.least c.in_default.is c.loop-least.invariant.order)
    (owners_done c.args.looks.now _ c.loop-least.found.items
    (subst (OwnersFound c.args.looks.now (g.K.Keeper.state c.loop-least.keeper).held c.loop-least.found.items) c.in_default.is c.loop-least.invariant.found))
