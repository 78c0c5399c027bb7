use Rattle.std.proofs.Common.{◌≡◌, ◌*◌, ◌∙◌, is_some, sym, ap, arith}
use Rattle.misp_generated.specs.Summary.{reply_at}
use Rattle.misp_generated.proofs.Counts.{none_counted, one_counted, some_mapped}
use Rattle.misp_generated.proofs.summary.added.Goals as goal
use Rattle.misp_generated.proofs.summary.added.Goals.{then-is_some, else-is_some}

pub loop-index-preserved : goal.loop-index-preserved
loop-index-preserved c =
    let there : c.is_some.result ≡ is_some (reply_at c.args.lines.now (2 * c.loop-index.index)) =
    c.is_some.ensures ∙ sym (some_mapped (λ body. body.now) c.in_ok-reply_at.field-0) ∙ ap is_some c.in_ok-reply_at.ensures in
    elim c.if-is_some.branch [
      | then-is_some w ↦ rw w.number-is
          (one_counted (λ index. reply_at c.args.lines.now (2 * index)) c.loop-index.index c.loop-index.number c.loop-index.invariant.0 (sym there ∙ w.if-is_some.true), omega (arith, c.loop-index.invariant.1))
      | else-is_some w ↦ rw w.number-is
          (none_counted (λ index. reply_at c.args.lines.now (2 * index)) c.loop-index.index c.loop-index.number c.loop-index.invariant.0 (sym there ∙ w.if-is_some.false), omega (arith, c.loop-index.invariant.1))
    ]
