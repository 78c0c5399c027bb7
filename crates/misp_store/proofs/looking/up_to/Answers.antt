use Rattle.std.proofs.Common.{rules, ◌≡◌, sym, subst}
use Rattle.misp_lists.specs.Prelude.{AllByRecursion}
use Rattle.misp_elem.specs.Key.{IsKey}
use Rattle.misp_elem.specs.Parents.{parents, up_to}
use Rattle.misp_store.proofs.KeysLooked.{keys_up_to}
use Rattle.misp_store.proofs.looking.up_to.Goals as goal

pub returns-clause-keys : goal.returns-clause-keys
unfolding parents up_to
returns-clause-keys c =
    let value : c.push.new.self.items ≡ up_to c.args.event.now c.args.place = search rules in
    subst (AllByRecursion IsKey) (sym value) (keys_up_to c.args.event.now c.args.place (subst IsKey c.element_key-key.ensures.value c.element_key-key.ensures.is_key))
