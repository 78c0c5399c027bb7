use Rattle.std.proofs.Common.{refl, sym, option_copied}
use Rattle.misp_model.specs.View.{chosen, first_of_all}
use Rattle.misp_view.specs.View.{is_granted_itself}
use Rattle.misp_view.proofs.Choosing.{best_more, best_all}
use Rattle.misp_view.proofs.choice.chosen_row.Goals as goal

pub loop-row-init : goal.loop-row-init
unfolding first_of_all
loop-row-init c = record { is = refl; none = λ h. refl }

pub loop-row-preserved : goal.loop-row-preserved
loop-row-preserved c =
    best_more (is_granted_itself c.args.who.now.groups.now c.args.who.now.here c.args.who.now.org c.args.event.now c.args.rows.now) c.args.rows.now c.loop-row.row-index c.row-item.result
    (option_copied c.loop-row.best) (option_copied c.better-best.result) c.is_candidate.result
    c.loop-row-test.true c.row-item.is c.loop-row.invariant (c.is_candidate.ensures (c.loop-row.row-index, c.loop-row-test.true, sym c.row-item.is)) c.better-best.ensures

pub returns : goal.returns
unfolding chosen is_granted_itself
returns c =
    best_all (is_granted_itself c.args.who.now.groups.now c.args.who.now.here c.args.who.now.org c.args.event.now c.args.rows.now) c.args.rows.now c.loop-row.row-index
    (option_copied c.loop-row.best) c.loop-row-test.false c.loop-row.invariant
