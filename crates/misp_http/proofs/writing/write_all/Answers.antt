use Rattle.std.proofs.Common.{◌≡◌, ℕ, ◌+◌, List, ◌++◌, length, sym, ◌∙◌, ap, arith, append_assoc}
use Rattle.std.proofs.lemmas.Result.{err_from_is_err_and}
use Rattle.misp_http.proofs.Sending.{appends_more, some_sent}
use Rattle.misp_http.proofs.writing.write_all.Goals as goal

pub returns-in_err-count-clause-err : goal.returns-in_err-count-clause-err
returns-in_err-count-clause-err g c =
    let failed = err_from_is_err_and c.from_residual.result c.from_residual.ensures.1 in
    let sent = c.loop-rest.invariant.sent in
    rw failed.1 (some_sent _ _ _ sent.0 _ _ sent.1 sent.2 c.in_err-count.ensures.bytes)

pub loop-rest-preserved : goal.loop-rest-preserved
loop-rest-preserved g c =
    let sent = c.loop-rest.invariant.sent in
    let front : List ℕ = c.split_at.result.0.now in
    let back : List ℕ = c.split_at.result.1.now in
    let left : length c.loop-rest.rest.now ≡ c.in_ok-count.count + length back = omega (arith, c.split_at.ensures.back_len) in
    record {
      sent = (
        sent.0 ++ front,
        append_assoc sent.0 front back ∙ ap (λ rest. sent.0 ++ rest) (sym c.split_at.ensures.by_index.0) ∙ sent.1,
        appends_more _ _ _ sent.0 front sent.2 (rw c.split_at.ensures.front c.in_ok-count.ensures.bytes),
      );
      room = c.in_ok-count.ensures.room (length back) (rw left at c.loop-rest.invariant.room);
      same = c.in_ok-count.ensures.stays (λ failed. cc) ∙ c.loop-rest.invariant.same;
    }
