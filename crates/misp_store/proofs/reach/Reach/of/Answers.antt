use Rattle.std.proofs.Common.{sym, subst, ◌∙◌, Option, IfSome}
use Rattle.misp_model.specs.declared.looks.Looks.{Looks}
use Rattle.misp_store.specs.Seeking.{HasKeys, HasKeysInOrder}
use Rattle.misp_store.proofs.KeysInOrder.{looks_sorted}
use Rattle.misp_store.proofs.reach.Reach.of.Goals as goal

pub returns-in-Some-clause-order : goal.returns-in-Some-clause-order
returns-in-Some-clause-order c =
    subst (λ (found : Option Looks). IfSome found HasKeysInOrder) (sym c.in_ok-looks.ensures.value ∙ c.in-Some.is)
    (looks_sorted c.args.here.now c.args.by.now c.args.ask.now)

pub returns-in-Some-clause-keys : goal.returns-in-Some-clause-keys
returns-in-Some-clause-keys c = subst (λ (found : Option Looks). IfSome found HasKeys) c.in-Some.is c.in_ok-looks.ensures.keys
