use Rattle.std.proofs.Common.{◌≡◌, ◌+◌, ◌≤◌, List, ◌++◌, length, vec_len}
use Rattle.misp_net.specs.Asking.{names_of}
use Rattle.misp_net.specs.Carrying.{carried}
use Rattle.misp_net.specs.Prelude.{Line, hosts_of, lines_of, states_of}
use Rattle.misp_net.proofs.Scripts.{HasRunTo}
use Rattle.misp_net.proofs.net.run_lines.Given as goal

-- some lines have run to the instances of now, and those of what is left follow; names stay, and the numbers go up with the lines that are left behind
abbrev pub invariant-loop-rest : goal.invariant-loop-rest
invariant-loop-rest g l = record {
  run : (done : List Line) × (done ++ lines_of l.fn.directory l.rest ≡ lines_of l.fn.directory l.fn.script) × (l.number ≡ 1 + length done)
      × HasRunTo (hosts_of l.fn.instances.items) (hosts_of l.instances.items) done (states_of l.fn.instances.items) (states_of l.instances.items) (carried (g.C.Carry.faults l.fn.carry) (g.C.Carry.passed l.fn.carry))
      (carried (g.C.Carry.faults l.carry) (g.C.Carry.passed l.carry)) l.lines.items;
  names : names_of (hosts_of l.instances.items) ≡ names_of (hosts_of l.fn.instances.items);
  places : vec_len l.instances ≡ vec_len l.fn.instances;
  number : l.number + length l.rest ≤ 1 + length l.fn.script;
  later : g.C.Carry.faults l.fn.carry ≤ g.C.Carry.faults l.carry;
}

abbrev pub decreases-loop-rest : goal.decreases-loop-rest
decreases-loop-rest g l = length l.rest
