use Rattle.std.proofs.Common.{Err, ap, sym, subst, ◌∙◌}
use Rattle.misp_core.specs.Answers.{bad_row}
use Rattle.misp_core.specs.Prelude.{Plans, refused}
use Rattle.misp_core.specs.Handing.{IsUnread, TellsFault}
use Rattle.misp_core.proofs.Carried.{is_planned}
use Rattle.misp_core.proofs.answering.unread.Goals as goal

pub returns-in-BadRow-clause-plans : goal.returns-in-BadRow-clause-plans
returns-in-BadRow-clause-plans c = λ e unread.
    is_planned (Err c.bad_row.result) e
    (subst (λ x. Plans (Err c.bad_row.result) x)
    (sym (subst (λ fault. IsUnread fault e) c.in-BadRow.is unread ∙ ap (λ name. refused (bad_row name)) (sym c.as_slice.ensures)))
    c.bad_row.ensures)

pub returns-in-BadRow-clause-told : goal.returns-in-BadRow-clause-told
returns-in-BadRow-clause-told c =
    subst (λ fault. TellsFault fault c.bad_row.result) (sym c.in-BadRow.is)
    (subst (λ name. Plans (Err c.bad_row.result) (refused (bad_row name))) c.as_slice.ensures c.bad_row.ensures)
