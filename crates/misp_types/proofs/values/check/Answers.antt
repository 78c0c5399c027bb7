use Rattle.std.proofs.Common.{string_bytes, sym, ◌∙◌}
use Rattle.misp_types.specs.declared.kinds.Rule.{Rule}
use Rattle.misp_types.proofs.Again.{shown_again}
use Rattle.misp_types.proofs.values.check.Goals as goal

pub returns-in-One-clause-again : goal.returns-in-One-clause-again
returns-in-One-clause-again c =
    let rule = Rule.One c.in-One.form in
    shown_again string_bytes _ rule c.args.kind.now c.args.value.now (sym c.in-One.is ∙ c.rule_of.ensures) c.text_of.ensures

pub returns-in-Two-clause-again : goal.returns-in-Two-clause-again
returns-in-Two-clause-again c =
    let rule = Rule.Two c.in-Two.first c.in-Two.second in
    shown_again string_bytes _ rule c.args.kind.now c.args.value.now (sym c.in-Two.is ∙ c.rule_of.ensures) c.two_of.ensures
