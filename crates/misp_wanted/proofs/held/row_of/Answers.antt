use Rattle.std.proofs.Common.{true, false, ap, sym, ◌∙◌, option_copied}
use Rattle.misp_wanted.proofs.HeldRows.{of_found, of_none}
use Rattle.misp_wanted.proofs.held.row_of.Goals as goal

pub returns-then-is_owned : goal.returns-then-is_owned
returns-then-is_owned c = λ up also.
    of_found c.args.owner.now c.args.key.now c.args.held.now up also c.in-Some.row.now true (sym (ap option_copied c.in-Some.is) ∙ c.row_at.ensures up) (sym c.is_owned.ensures ∙ c.if-is_owned.true)

pub returns-else-is_owned : goal.returns-else-is_owned
returns-else-is_owned c = λ up also.
    of_found c.args.owner.now c.args.key.now c.args.held.now up also c.in-Some.row.now false (sym (ap option_copied c.in-Some.is) ∙ c.row_at.ensures up) (sym c.is_owned.ensures ∙ c.if-is_owned.false)

pub returns-in-None : goal.returns-in-None
returns-in-None c = λ up also.
    of_none c.args.owner.now c.args.key.now c.args.held.now up also (sym (ap option_copied c.in-None.is) ∙ c.row_at.ensures up)
