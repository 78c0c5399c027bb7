use Rattle.std.proofs.Common.{◌∙◌, ap, true, cond, is_eq}
use Rattle.misp_script.specs.Known.{pair_order, has_pair}
use Rattle.misp_script.proofs.Lookups.{pair_put}
use Rattle.misp_script.proofs.pairs.put_pair.Goals as goal

pub returns-clause-more : goal.returns-clause-more
returns-clause-more c = λ a b.
    c.in_ok-insert.ensures.updates.0 (a, b)
    ∙ ap (λ p. cond (is_eq (pair_order p (a, b))) true (has_pair c.args.pairs.now a b)) c.in_ok-pair.ensures
    ∙ pair_put c.args.first.now c.args.second.now a b (has_pair c.args.pairs.now a b)
