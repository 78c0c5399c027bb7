use Rattle.std.proofs.Common.{◌≡◌, [], ◌∷◌, ◌++◌, map, refl, sym, ◌∙◌, ap, arith, append_assoc, append-nil, length-append, subst}
use Rattle.misp_net.specs.Asking.{names_of}
use Rattle.misp_net.specs.Carrying.{carried}
use Rattle.misp_net.specs.Prelude.{HasRun, Line, hosts_of, lines_of, states_of, step_of}
use Rattle.misp_net.proofs.Courses.{none_left}
use Rattle.misp_net.proofs.Doing.{always_err}
use Rattle.misp_net.proofs.Scripts.{none_run, one_more, some_ran}
use Rattle.misp_net.proofs.Walks.{names_done}
use Rattle.misp_net.proofs.net.run_lines.Goals as goal

pub loop-rest-init : goal.loop-rest-init
loop-rest-init g c = record {
  run = (
    [],
    refl,
    refl,
    rw c.new-lines.ensures.items
        (none_run (hosts_of c.args.instances.now.items) (states_of c.args.instances.now.items) (carried (g.C.Carry.faults c.args.carry.now) (g.C.Carry.passed c.args.carry.now))),
  );
  names = refl;
  places = refl;
  number = omega arith;
  later = omega arith;
}

pub put_line-requires : goal.put_line-requires
put_line-requires g c = c.requires ∙ sym c.loop-rest.invariant.names

-- the line that was run is the next of them
pub loop-rest-preserved : goal.loop-rest-preserved
loop-rest-preserved g c =
    let so_far = c.loop-rest.invariant.run in
    let line : Line = step_of c.args.directory.now c.split_line.result.0.now in
    let (d, does, is, walked, text, rose, passed) = c.in_ok-put_line.ensures.ran in
    record {
      run = (
        so_far.0 ++ line ∷ [],
        append_assoc so_far.0 (line ∷ []) (lines_of c.args.directory.now c.split_line.result.1.now)
            ∙ ap (λ lines. so_far.0 ++ map (step_of c.args.directory.now) lines) (sym c.split_line.ensures.lines) ∙ so_far.1,
        omega (arith, so_far.2, length-append so_far.0 (line ∷ [])),
        one_more _ _ _ _ line _ _ _ _ _ d _ _ _ so_far.3 does is walked (rw so_far.2 at text) rose passed,
      );
      names = ap names_of walked ∙ names_done (hosts_of c.loop-rest.instances.items) d ∙ c.loop-rest.invariant.names;
      places = c.put_line.ensures.places ∙ c.loop-rest.invariant.places;
      number = omega (arith, c.split_line.ensures.shorter, c.loop-rest.invariant.number);
      later = omega (arith, c.put_line.ensures.later, c.loop-rest.invariant.later);
    }

-- the lines before it were run, and it did nothing, or all that it does
pub returns-in_err-put_line-clause-cut : goal.returns-in_err-put_line-clause-cut
returns-in_err-put_line-clause-cut g c =
    let so_far = c.loop-rest.invariant.run in
    always_err c.from_residual.result
    (some_ran _ _ so_far.0 _ (lines_of c.args.directory.now c.args.script.now) (step_of c.args.directory.now c.split_line.result.0.now) _ _ _ _ _ _ _ so_far.3
    (ap (λ lines. so_far.0 ++ map (step_of c.args.directory.now) lines) (sym c.split_line.ensures.lines) ∙ so_far.1)
    c.in_err-put_line.ensures.cut)

-- no line is left
pub returns-clause-ran : goal.returns-clause-ran
returns-clause-ran g c =
    let so_far = c.loop-rest.invariant.run in
    let left : lines_of c.args.directory.now c.loop-rest.rest.now ≡ [] = ap (lines_of c.args.directory.now) (none_left c.loop-rest.rest.now c.loop-rest-test.ensures) in
    subst (λ lines. HasRun (hosts_of c.args.instances.now.items) lines (states_of c.args.instances.now.items) (states_of c.loop-rest.instances.items)
    (carried (g.C.Carry.faults c.args.carry.now) (g.C.Carry.passed c.args.carry.now)) (carried (g.C.Carry.faults c.loop-rest.carry) (g.C.Carry.passed c.loop-rest.carry)) c.loop-rest.lines.items)
    (sym (append-nil so_far.0) ∙ ap (λ more. so_far.0 ++ more) (sym left) ∙ so_far.1) so_far.3.run
