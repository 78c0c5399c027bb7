use Rattle.std.proofs.Common.{rules}
use Rattle.misp_statements.proofs.AcceptedRows.{made_is_row}
use Rattle.misp_statements.proofs.accepting.made_row.Goals as goal

pub held_row-requires : goal.held_row-requires
held_row-requires c = rw (c.judged_place-place.ensures, c.in_ok-made.ensures) (search (rules, made_is_row))
