use Rattle.std.proofs.Common.{[], ◌<◌, ◌^◌, refl, arith, ap, ◌∙◌}
use Rattle.json.proofs.Printed.Decimals.{IsNumber-decimal}
use Rattle.serde_json.specs.Read.{read}
use Rattle.serde_json.proofs.Numbers.{number_of-decimal}
use Rattle.misp_ids.specs.Refusal.{rule_number}
use Rattle.misp_format.specs.Replies.{refusal_data}
use Rattle.misp_format.proofs.Depths.{shallow_refusal}
use Rattle.misp_format.proofs.ReadBack.{read_again}
use Rattle.misp_format.proofs.Texts.{object_put, printed}
use Rattle.misp_format.proofs.writing.replies.write_refusal.Goals as goal

pub returns-clause-text : goal.returns-clause-text
unfolding refusal_data
returns-clause-text c =
    rw (
      c.into_text.ensures,
      c.in_ok-end_object.ensures,
      c.in_ok-count.ensures,
      c.from.ensures,
      c.rule.ensures,
      c.in_ok-text-2.ensures,
      c.as_str.ensures,
      c.in_ok-text.ensures,
      c.text.ensures,
      c.in_ok-begin_object.ensures,
      c.behind-out.ensures,
      c.new.ensures.items,
    )
    (rw object_put at (printed [] (refusal_data c.args.refusal.now)))

pub returns-clause-reads_back : goal.returns-clause-reads_back
unfolding refusal_data
returns-clause-reads_back c =
    let refusal = c.args.refusal.now in
    let small : rule_number refusal.name < 2 ^ 64 = rw (← c.rule.ensures) (omega arith) in
    ap read (returns-clause-text c)
    ∙ read_again (refusal_data refusal) (tt, (tt, (IsNumber-decimal (rule_number refusal.name) small, tt))) (rw (number_of-decimal (rule_number refusal.name) small) refl) (omega (arith, (shallow_refusal refusal).levels))
