use Rattle.std.proofs.Common.{◌≡◌, inl, inr, sym, ap, ◌∙◌, arith, get_or, set, length-set, get_or-set_same, get_or-set_other}
use Rattle.std.proofs.lemmas.Bool.{cases_lt}
use Rattle.misp_store.proofs.names_sought.front_number.Goals as goal

pub loop-at-preserved : goal.loop-at-preserved
loop-at-preserved c = record {
  same = λ i below. elim (cases_lt i c.loop-at.at) [
    | inl lt ↦ get_or-set_other c.loop-at.bytes c.loop-at.at i c.byte_at.result 0 (λ e. absurd (omega (arith, e))) ∙ c.loop-at.invariant.same i lt
    | inr ge ↦
        let is : i ≡ c.loop-at.at = omega arith in
        ap (λ k. get_or (set c.loop-at.bytes c.loop-at.at c.byte_at.result) k 0) is
        ∙ get_or-set_same c.loop-at.bytes c.loop-at.at c.byte_at.result 0 (omega (arith, c.loop-at.invariant.long, c.loop-at-test.true))
        ∙ c.byte_at.ensures ∙ ap (λ k. get_or c.args.name.now k 0) (sym is)
  ];
  long = length-set c.loop-at.bytes c.loop-at.at c.byte_at.result ∙ c.loop-at.invariant.long;
}

pub returns-clause-bytes : goal.returns-clause-bytes
returns-clause-bytes c = λ i. omega (arith, c.type_inv.name i)
