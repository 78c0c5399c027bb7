use Rattle.std.proofs.Common.{◌∙◌, sym, length}
use Rattle.misp_script.specs.Source.{begins_mark}
use Rattle.misp_script.proofs.Marks.{first_here, first_later}
use Rattle.misp_script.proofs.source.mark_at.Goals as goal

pub returns-then-begins_mark-clause-place : goal.returns-then-begins_mark-clause-place
returns-then-begins_mark-clause-place c =
    sym (first_here (begins_mark c.args.source.now) c.loop-at.at (length c.args.source.now) c.loop-at-test.true (sym c.begins_mark.ensures ∙ c.if-begins_mark.true)) ∙ c.loop-at.invariant

pub loop-at-preserved : goal.loop-at-preserved
loop-at-preserved c =
    sym (first_later (begins_mark c.args.source.now) c.loop-at.at (length c.args.source.now) c.loop-at-test.true (sym c.begins_mark.ensures ∙ c.if-begins_mark.false)) ∙ c.loop-at.invariant
