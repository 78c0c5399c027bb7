use Rattle.std.proofs.Common.{ℕ, List, ◌++◌, Ok, subst, ap, ◌∙◌, inr, arith}
use Rattle.misp_http.specs.Finding.{Finds}
use Rattle.misp_http.proofs.Growing.{head_so_far, faulty_so_far, known_of_all, known_at_end, keeps_more}
use Rattle.misp_http.proofs.Prompt.{still, undecided_at, here_early, here_end, here_limit}
use Rattle.misp_http.proofs.reading.read_head.Goals as goal

pub returns-in-Whole-clause-found : goal.returns-in-Whole-clause-found
returns-in-Whole-clause-found g c =
    known_of_all _ c.loop-lines.rest.items _ _ c.loop-lines.invariant.kept (head_so_far c.loop-lines.rest.items _ _ _ c.deref.ensures.value c.in-Whole.is (omega (arith, c.loop-lines-test.true, c.len.ensures, c.loop-lines.rest.ok.0)) c.in_ok-head.ensures.seen)

pub returns-in-Faulty-clause-found : goal.returns-in-Faulty-clause-found
returns-in-Faulty-clause-found g c =
    known_of_all _ c.loop-lines.rest.items _ _ c.loop-lines.invariant.kept (faulty_so_far c.loop-lines.rest.items _ _ _ c.deref.ensures.value c.in-Faulty.is (omega (arith, c.loop-lines-test.true, c.len.ensures, c.loop-lines.rest.ok.0)) c.in_ok-head.ensures.seen)

pub returns-then-branch-eq0-clause-found : goal.returns-then-branch-eq0-clause-found
returns-then-branch-eq0-clause-found g c =
    known_at_end _ c.read_more.new.rest.items _ _ (keeps_more _ _ _ c.loop-lines.invariant.kept c.in_ok-read_more.ensures.keeps) (c.in_ok-read_more.ensures.end c.if-branch-eq0.true) (rw (← c.deref-then-branch-eq0.ensures.value) c.head_at_end.ensures.found)

pub returns-clause-found : goal.returns-clause-found
returns-clause-found g c =
    known_of_all _ c.loop-lines.rest.items _ _ c.loop-lines.invariant.kept (subst (λ xs. (more : List ℕ) → Finds (xs ++ more) (Ok c.in_ok-head_at_limit.field-0)) c.deref-2.ensures.value c.in_ok-head_at_limit.ensures)

pub returns-in_err-head-clause-unasked : goal.returns-in_err-head-clause-unasked
returns-in_err-head-clause-unasked g c = still _ _ _ c.args.rest.now.items _ _ _ c.loop-lines.invariant.first

pub returns-in-Whole-clause-unasked : goal.returns-in-Whole-clause-unasked
returns-in-Whole-clause-unasked g c = still _ _ _ c.args.rest.now.items _ _ _ c.loop-lines.invariant.first

pub returns-in-Faulty-clause-unasked : goal.returns-in-Faulty-clause-unasked
returns-in-Faulty-clause-unasked g c = still _ _ _ c.args.rest.now.items _ _ _ c.loop-lines.invariant.first

pub returns-in_err-head_at_limit-clause-unasked : goal.returns-in_err-head_at_limit-clause-unasked
returns-in_err-head_at_limit-clause-unasked g c = still _ _ _ c.args.rest.now.items _ _ _ c.loop-lines.invariant.first

pub returns-clause-unasked : goal.returns-clause-unasked
returns-clause-unasked g c = still _ _ _ c.args.rest.now.items _ _ _ c.loop-lines.invariant.first

pub returns-in_err-read_more-clause-unasked : goal.returns-in_err-read_more-clause-unasked
returns-in_err-read_more-clause-unasked g c = λ h begins. absurd (undecided_at _ _ c.loop-lines.rest.items c.args.rest.now.items c.deref.result.now _ _ _ c.deref.ensures.value (omega (arith, c.loop-lines-test.true, c.len.ensures, c.loop-lines.rest.ok.0)) c.loop-lines.invariant.first (c.head_if_ended.ensures.undecided (c.in_ok-head.was ∙ ap Ok c.in-Undecided.is)) h begins)

pub returns-then-branch-eq0-clause-unasked : goal.returns-then-branch-eq0-clause-unasked
returns-then-branch-eq0-clause-unasked g c = λ h begins. absurd (undecided_at _ _ c.loop-lines.rest.items c.args.rest.now.items c.deref.result.now _ _ _ c.deref.ensures.value (omega (arith, c.loop-lines-test.true, c.len.ensures, c.loop-lines.rest.ok.0)) c.loop-lines.invariant.first (c.head_if_ended.ensures.undecided (c.in_ok-head.was ∙ ap Ok c.in-Undecided.is)) h begins)

pub loop-lines-preserved : goal.loop-lines-preserved
loop-lines-preserved g c = record {
  kept = keeps_more _ _ _ c.loop-lines.invariant.kept c.in_ok-read_more.ensures.keeps;
  first = inr (undecided_at _ _ c.loop-lines.rest.items c.args.rest.now.items c.deref.result.now _ _ _ c.deref.ensures.value (omega (arith, c.loop-lines-test.true, c.len.ensures, c.loop-lines.rest.ok.0)) c.loop-lines.invariant.first (c.head_if_ended.ensures.undecided (c.in_ok-head.was ∙ ap Ok c.in-Undecided.is)));
  room = c.in_ok-read_more.ensures.room ∙ c.loop-lines.invariant.room;
  same = c.in_ok-read_more.ensures.stays (λ failed. cc) ∙ c.loop-lines.invariant.same;
}

pub returns-in-Whole-clause-here : goal.returns-in-Whole-clause-here
returns-in-Whole-clause-here g c =
    here_early c.loop-lines.rest.items _ _ _ c.deref.ensures.value c.in-Whole.is (omega (arith, c.loop-lines-test.true, c.len.ensures, c.loop-lines.rest.ok.0)) c.in_ok-head.ensures.seen

pub returns-then-branch-eq0-clause-here : goal.returns-then-branch-eq0-clause-here
returns-then-branch-eq0-clause-here g c =
    here_end c.read_more.new.rest.items c.head_at_end.result (rw (← c.deref-then-branch-eq0.ensures.value) c.head_at_end.ensures.found)

pub returns-clause-here : goal.returns-clause-here
returns-clause-here g c =
    here_limit c.loop-lines.rest.items c.deref-2.result.now c.in_ok-head_at_limit.field-0 c.deref-2.ensures.value c.in_ok-head_at_limit.ensures
