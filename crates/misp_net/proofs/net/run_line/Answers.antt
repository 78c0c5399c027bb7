use Rattle.std.proofs.Common.{subst, arith}
use Rattle.misp_script.specs.Step.{IsPlaced, command_data}
use Rattle.misp_net.specs.Prelude.{hosts_of, states_of, step_of}
use Rattle.misp_net.specs.Carrying.{carried}
use Rattle.misp_net.proofs.Asking.{names_long}
use Rattle.misp_net.proofs.Doing.{always_err, bad_ran, cut_first, on_ok}
use Rattle.misp_net.proofs.net.run_line.Goals as goal

-- ---- a step

pub run_step-requires-clause-placed : goal.run_step-requires-clause-placed
run_step-requires-clause-placed g c =
    subst (λ count. IsPlaced count (command_data c.in-Ok.step.command))
    (omega (arith, names_long c.args.directory.now c.args.instances.now.items c.requires, c.args.instances.now.ok.0)) c.in-Ok.ensures.placed

pub returns-in-Ok-clause-ran : goal.returns-in-Ok-clause-ran
returns-in-Ok-clause-ran g c = rw c.in-Ok.ensures.step c.run_step.ensures.ran

pub returns-in-Ok-clause-cut : goal.returns-in-Ok-clause-cut
returns-in-Ok-clause-cut g c = rw c.in-Ok.ensures.step c.run_step.ensures.cut

-- ---- the line is none

pub returns-in-Err-clause-ran : goal.returns-in-Err-clause-ran
returns-in-Err-clause-ran g c =
    rw c.in-Err.ensures.step
    (on_ok c.put_bad.result (bad_ran c.in-Err.bad.place (hosts_of c.args.instances.now.items) (states_of c.args.instances.now.items) _ _ (carried (g.C.Carry.faults c.args.carry.now) (g.C.Carry.passed c.args.carry.now))) c.put_bad.ensures.text)

pub returns-in-Err-clause-cut : goal.returns-in-Err-clause-cut
returns-in-Err-clause-cut g c = always_err c.put_bad.result (cut_first (hosts_of c.args.instances.now.items) (step_of c.args.directory.now c.args.line.now) (states_of c.args.instances.now.items) (g.C.Carry.passed c.args.carry.now))
