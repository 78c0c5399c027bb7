use Rattle.std.proofs.Common.{List, take}
use Rattle.misp_ids.specs.Same.{Inst}
use Rattle.misp_model.specs.Prelude.{EventId, OrgId, Row}
use Rattle.misp_model.specs.Machine.{put_all}
use Rattle.misp_package.specs.Landing.{IsLanding}
use Rattle.misp_package.proofs.landing.Landing.put.Given as goal

abbrev pub invariant-loop-row : goal.invariant-loop-row
invariant-loop-row l = (i : Inst) (w : OrgId) (e : EventId) (held : List Row) → IsLanding l.fn.self i w e held → IsLanding l.self i w e (put_all (take l.row-index l.rows) held)
