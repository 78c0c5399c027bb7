use Rattle.std.proofs.Common.{◌∙◌, sym, nat_cmp}
use Rattle.std.specs.BTreeSet.{contains}
use Rattle.misp_edit.proofs.TargetLemmas.{targets_are, parts_alone}
use Rattle.misp_edit.proofs.targets.targets.Goals as goal

pub returns-then-has_gone : goal.returns-then-has_gone
returns-then-has_gone c = parts_alone c.args.rows.now c.args.owner c.args.event (sym c.has_gone.ensures ∙ c.if-has_gone.true) c.in_ok-targets.targets c.args.parts.now c.in_ok-targets.ensures

pub returns : goal.returns
returns c =
    targets_are c.args.rows.now c.args.owner c.args.event c.in_ok-deleted.ensures.rows (sym c.has_gone.ensures ∙ c.if-has_gone.false) (contains nat_cmp c.in_ok-deleted.deleted) c.in_ok-deleted.ensures.found
    c.in_ok-with_kept.field-0 c.args.parts.now (c.in_ok-with_kept.ensures _ c.in_ok-targets.ensures)
