use Rattle.std.proofs.Common.{sym, subst, take_all}
use Rattle.misp_model.specs.Machine.{put_all}
use Rattle.misp_package.specs.Landing.{IsLanding}
use Rattle.misp_package.proofs.PutRows.{put_more}
use Rattle.misp_package.proofs.landing.Landing.put.Goals as goal

pub loop-row-init : goal.loop-row-init
unfolding put_all
loop-row-init c = λ i w e held is. is

pub loop-row-preserved : goal.loop-row-preserved
loop-row-preserved c = λ i w e held is.
    subst (IsLanding c.put_row.new.self i w e) (sym (put_more c.args.rows.now c.loop-row.row-index c.row-item.result held c.loop-row-test.true c.row-item.is))
    (c.in_ok-put_row.ensures i w e _ (c.loop-row.invariant i w e held is))

pub returns : goal.returns
returns c = λ i w e held is.
    subst (λ rows. IsLanding c.loop-row.self i w e (put_all rows held)) (take_all c.loop-row.row-index c.args.rows.now c.loop-row-test.false) (c.loop-row.invariant i w e held is)
