use Rattle.std.proofs.Common.{◌≡◌, take, map, filter}
use Rattle.misp_model.proofs.Prelude.{AreRows}
use Rattle.misp_package.specs.Knowledge.{is_known_in}
use Rattle.misp_package.proofs.knowledge.known.Given as goal

abbrev pub invariant-loop-row : goal.invariant-loop-row
invariant-loop-row l = record {
  known : map (λ r. r.now) l.list.items ≡ filter (is_known_in l.grants l.who) (take l.row-index l.rows);
  rows : AreRows (take l.row-index l.rows);
}
