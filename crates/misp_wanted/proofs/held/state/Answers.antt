use Rattle.std.proofs.Common.{ap, sym, ◌&&◌, ◌∙◌, option_copied}
use Rattle.misp_model.specs.Prelude.{is_row_of, list_any}
use Rattle.misp_wanted.proofs.HeldRows.{state_none, state_some}
use Rattle.misp_wanted.proofs.held.state.Goals as goal

pub returns-in-Some : goal.returns-in-Some
returns-in-Some c = λ up.
    c.state_by_row.ensures
    ∙ state_some c.args.owner.now c.args.event.now c.args.held.now (option_copied c.row_of.result)
    (λ also. ap (λ k. list_any (λ row. is_row_of c.args.owner.now k row && also row) c.args.held.now) (sym c.event_key.ensures) ∙ c.row_of.ensures up also)
    c.in-Some.row.now (ap option_copied c.in-Some.is)

pub returns-in-None : goal.returns-in-None
returns-in-None c = λ up.
    state_none c.args.owner.now c.args.event.now c.args.held.now (option_copied c.row_of.result)
    (λ also. ap (λ k. list_any (λ row. is_row_of c.args.owner.now k row && also row) c.args.held.now) (sym c.event_key.ensures) ∙ c.row_of.ensures up also)
    (ap option_copied c.in-None.is)
