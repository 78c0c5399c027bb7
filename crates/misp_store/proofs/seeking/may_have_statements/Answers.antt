use Rattle.std.proofs.Common.{◌≡◌, ◌∙◌, subst, IfSome}
use Rattle.misp_outside.specs.Held.{next_row}
use Rattle.misp_store.proofs.FirstRows.{statements_absent, statements_past}
use Rattle.misp_store.proofs.seeking.may_have_statements.Goals as goal

pub returns-in-Some-clause-none : goal.returns-in-Some-clause-none
returns-in-Some-clause-none g c =
    statements_past c.args.event.now c.args.owner.now c.is_of-is_of_owner.ensures.fits _ c.in_ok-row.field-0 c.in-Some.row c.is_of-is_of_owner.result c.is_of-is_of_owner.ensures.bytes c.is_of-is_of_owner.ensures.number
    (subst (λ front. IfSome (g.K.Keeper.state c.load_next.new.self).held (λ held. c.in_ok-row.field-0 ≡ next_row c.args.event.now front held.rows)) (c.as_slice.ensures.value ∙ c.in_ok-front.ensures) c.in_ok-row.ensures.found)
    c.in_ok-row.ensures.order c.in-Some.is

pub returns-clause-none : goal.returns-clause-none
returns-clause-none g c =
    statements_absent c.args.event.now c.args.owner.now _ c.in_ok-row.field-0
    (subst (λ front. IfSome (g.K.Keeper.state c.load_next.new.self).held (λ held. c.in_ok-row.field-0 ≡ next_row c.args.event.now front held.rows)) (c.as_slice.ensures.value ∙ c.in_ok-front.ensures) c.in_ok-row.ensures.found)
    c.in-None.is
