use Rattle.std.proofs.Common.{sym, ap, ◌∙◌}
use Rattle.misp_sqlite.specs.Ranges.{bytes_after}
use Rattle.misp_sqlite.proofs.Fronts.{range_of}
use Rattle.misp_sqlite.proofs.Ranges.{after_rest, after_none, after_pushed}
use Rattle.misp_sqlite.proofs.named.bytes_after.Goals as goal

pub returns-then-last-lt255-clause-after : goal.returns-then-last-lt255-clause-after
returns-then-last-lt255-clause-after c =
    after_pushed c.args.front.now c.loop-last.after.items c.pop.new.self.items c.push.new.self.items c.in-Some.last
    c.loop-last.invariant c.in-Some.ensures.items c.if-last-lt255.true c.in_ok-push.ensures.items

pub returns-then-last-lt255-clause-exact : goal.returns-then-last-lt255-clause-exact
returns-then-last-lt255-clause-exact c =
    range_of c.args.front.now c.push.new.self.items
    (sym (after_pushed c.args.front.now c.loop-last.after.items c.pop.new.self.items c.push.new.self.items c.in-Some.last
    c.loop-last.invariant c.in-Some.ensures.items c.if-last-lt255.true c.in_ok-push.ensures.items))

pub loop-last-preserved : goal.loop-last-preserved
loop-last-preserved c =
    sym (after_rest c.pop.new.self.items c.in-Some.last c.if-last-lt255.false) ∙ ap bytes_after (sym c.in-Some.ensures.items) ∙ c.loop-last.invariant

pub returns-clause-after : goal.returns-clause-after
returns-clause-after c = sym (after_none c.loop-last.after.items (sym c.loop-last.after.ok.0 ∙ c.in_default.ensures.cases.0)) ∙ c.loop-last.invariant
