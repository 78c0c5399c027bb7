use Rattle.std.proofs.Common.{sym, subst, List}
use Rattle.misp_model.proofs.Prelude.{Key}
use Rattle.misp_model.specs.declared.looks.Look.{Look}
use Rattle.misp_store.specs.Seeking.{HasKeysInOrder}
use Rattle.misp_store.proofs.KeysInOrder.{beside_sorted}
use Rattle.misp_store.proofs.looking.beside.Goals as goal

pub returns-clause-order : goal.returns-clause-order
returns-clause-order c = λ sorted.
    subst (λ (keys : List Key). HasKeysInOrder (record c.args.looks { others = Look.Keys keys })) (sym c.in_ok-event_alone.ensures.value) (beside_sorted c.args.looks sorted)
