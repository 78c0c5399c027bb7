use Rattle.std.proofs.Common.{ℕ, ◌+◌, ◌-◌, ◌*◌, ◌∙◌, sym, arith}
use Rattle.std.specs.Prelude.{codes}
use Rattle.misp_generated.specs.Summary.{count_at}
use Rattle.misp_generated.proofs.Counts.{none_summed, none_there, one_summed}
use Rattle.misp_generated.proofs.summary.again.Goals as goal

pub loop-place-init : goal.loop-place-init
loop-place-init c =
    (none_summed (λ place. count_at c.args.lines.now place (codes "elements")) (2 * c.args.count + 4) (2 * c.args.count + 4 + 4 - (2 * c.args.count + 4)) (omega arith), omega arith)

pub returns-in-None : goal.returns-in-None
returns-in-None c =
    let left : ℕ = 2 * c.args.count + 4 + 4 - c.loop-place.place in
    let after : ℕ = 2 * c.args.count + 4 + 4 - (c.loop-place.place + 1) in
    sym (none_there (λ place. count_at c.args.lines.now place (codes "elements")) c.loop-place.place c.loop-place.sum left after (sym c.in_ok-elements.ensures ∙ c.in-None.is) (omega arith))
    ∙ c.loop-place.invariant.0

pub loop-place-preserved : goal.loop-place-preserved
loop-place-preserved c =
    let left : ℕ = 2 * c.args.count + 4 + 4 - c.loop-place.place in
    let after : ℕ = 2 * c.args.count + 4 + 4 - (c.loop-place.place + 1) in
    let one = one_summed (λ place. count_at c.args.lines.now place (codes "elements")) c.loop-place.place c.loop-place.sum c.in-Some.elements left after (sym c.in_ok-elements.ensures ∙ c.in-Some.is) (omega arith) in
    rw c.from-sum.ensures (one ∙ c.loop-place.invariant.0, omega (arith, c.loop-place.invariant.1))
