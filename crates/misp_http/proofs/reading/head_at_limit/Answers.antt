use Rattle.misp_http.proofs.Growing.{head_at_the_limit, faulty_at_the_limit, undecided_at_the_limit}
use Rattle.misp_http.proofs.reading.head_at_limit.Goals as goal

pub returns-in-Whole : goal.returns-in-Whole
returns-in-Whole c = head_at_the_limit c.args.rest.now _ c.requires (rw c.in-Whole.is at c.in_ok-head.ensures)

pub returns-in-Faulty : goal.returns-in-Faulty
returns-in-Faulty c = faulty_at_the_limit c.args.rest.now _ c.requires (rw c.in-Faulty.is at c.in_ok-head.ensures)

pub returns-in-Undecided : goal.returns-in-Undecided
returns-in-Undecided c = undecided_at_the_limit c.args.rest.now c.requires (rw c.in-Undecided.is at c.in_ok-head.ensures)
