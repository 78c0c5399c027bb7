use Rattle.std.proofs.Common.{sym, ◌∙◌}
use Rattle.misp_view.proofs.Candidates.{other_key, not_open, by_copy}
use Rattle.misp_view.proofs.choice.is_candidate.Goals as goal

pub returns-then-not-is_itself : goal.returns-then-not-is_itself
returns-then-not-is_itself c = λ h. other_key c.args.rows.now c.args.who.now.groups.now c.args.who.now.here c.args.who.now.org c.args.row.now c.args.event.now (sym c.is_itself.ensures ∙ c.if-not-is_itself.true)

pub returns-then-not-is_open : goal.returns-then-not-is_open
returns-then-not-is_open c = λ h.
    not_open c.args.rows.now c.args.who.now.groups.now c.args.who.now.here c.args.who.now.org c.args.row.now c.args.event.now (sym c.is_itself.ensures ∙ c.if-not-is_itself.false)
    (sym c.is_open.ensures ∙ c.if-not-is_open.true)

pub returns : goal.returns
returns c = λ h.
    by_copy c.args.rows.now c.args.who.now.groups.now c.args.who.now.here c.args.who.now.org c.args.row.now c.args.event.now c.is_of_copy.result
    (sym c.is_itself.ensures ∙ c.if-not-is_itself.false) (sym c.is_open.ensures ∙ c.if-not-is_open.false) (c.is_of_copy.ensures h (sym c.is_itself.ensures ∙ c.if-not-is_itself.false))
