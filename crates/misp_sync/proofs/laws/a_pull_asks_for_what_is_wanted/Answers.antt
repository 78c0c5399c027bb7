use Rattle.misp_sync.proofs.AsksAsWanted.{course_asks}
use Rattle.misp_sync.proofs.laws.a_pull_asks_for_what_is_wanted.Goals as goal

pub returns : goal.returns
returns c = course_asks
