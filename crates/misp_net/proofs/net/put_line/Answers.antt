use Rattle.std.proofs.Common.{◌≡◌, [], ◌∷◌, ◌++◌}
use Rattle.misp_net.specs.Prelude.{hosts_of, states_of, step_of}
use Rattle.misp_net.proofs.Courses.{line_put}
use Rattle.misp_net.proofs.Doing.{always_err, cut_first}
use Rattle.misp_net.proofs.net.put_line.Goals as goal

pub returns-clause-ran : goal.returns-clause-ran
returns-clause-ran g c =
    let (d, does, is, walked, text, rose, passed) = c.in_ok-run_line.ensures.ran in
    let pushed : c.push.new.self.items ≡ c.run_line.new.lines.items ++ 10 ∷ [] = rw c.unwrap.ensures at c.push.ensures.items in
    (d, does, is, walked, line_put c.args.number d _ _ _ _ c.in_ok-put_front.ensures text pushed, rose, passed)

-- nothing was run
pub returns-in_err-put_front-clause-cut : goal.returns-in_err-put_front-clause-cut
returns-in_err-put_front-clause-cut g c = always_err c.from_residual.result (cut_first (hosts_of c.args.instances.now.items) (step_of c.args.directory.now c.args.line.now) (states_of c.args.instances.now.items) (g.C.Carry.passed c.args.carry.now))
