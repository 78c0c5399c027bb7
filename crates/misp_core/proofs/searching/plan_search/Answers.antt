use Rattle.misp_core.proofs.searching.plan_search.Goals as goal

pub returns-then-whole-clause-plan : goal.returns-then-whole-clause-plan
returns-then-whole-clause-plan c = λ table. rw c.if-whole.true (c.plan_events.ensures.plan table)

pub returns-else-whole-clause-plan : goal.returns-else-whole-clause-plan
returns-else-whole-clause-plan c = λ table. rw c.if-whole.false (c.plan_attributes.ensures.plan table)
