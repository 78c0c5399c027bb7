use Rattle.std.proofs.Common.{◌∙◌}
use Rattle.std.proofs.lemmas.Result.{IfOk-weaker}
use Rattle.misp_wanted.proofs.Wants.{wanted_landed}
use Rattle.misp_wanted.proofs.wanting.wanted_over.Goals as goal

pub returns : goal.returns
returns c = IfOk-weaker c.keys_wanted_by.result _ _ (λ wanted are i w e held is. are ∙ wanted_landed c.args.landing.now i w e held is c.args.keys.now) c.keys_wanted_by.ensures
