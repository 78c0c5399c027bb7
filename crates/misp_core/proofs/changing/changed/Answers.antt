use Rattle.std.proofs.lemmas.Result.{IfErr-weaker}
use Rattle.misp_model.specs.Prelude.{ask_rules, brings}
use Rattle.misp_model.specs.declared.ask.Ask.{Ask}
use Rattle.misp_core.proofs.Decisions.{group_placed}
use Rattle.misp_core.proofs.changing.changed.Goals as goal

pub returns : goal.returns
unfolding ask_rules brings
returns c = λ admin s change given event names ok are err group.
    c.saved_or_refused.ensures admin s (Ask.Change change) event ok are err (IfErr-weaker c.args.made _ _ (group_placed s change given names) group)
