use Rattle.std.proofs.Common.{◌≡◌, sym, false, true, is_some, string_bytes}
use Rattle.std.specs.BTreeMap.{get_by_text}
use Rattle.std.proofs.lemmas.Map.Text.{btree_map_updates_text}
use Rattle.misp_script.proofs.Lookups.{names_old, names_new}
use Rattle.misp_script.proofs.host_table.put_host.Goals as goal

pub returns-then-contains_key-clause-more : goal.returns-then-contains_key-clause-more
returns-then-contains_key-clause-more c = λ orgs known text.
    let name : c.text-name.result.now ≡ c.args.next.now.name = c.text-name.ensures.spelling in
    let is : is_some (get_by_text c.args.names.now c.text-name.result.now) ≡ true = sym c.if-contains_key.ensures in
    names_old (λ o. o.name) (λ o. o.name) (get_by_text c.args.names.now) orgs c.args.next.now known (rw name at is) text

pub returns-clause-more : goal.returns-clause-more
returns-clause-more c = λ orgs known text.
    let name : c.text-name.result.now ≡ c.args.next.now.name = c.text-name.ensures.spelling in
    let is : is_some (get_by_text c.args.names.now c.text-name.result.now) ≡ false = sym c.if-contains_key.ensures in
    let puts = btree_map_updates_text (string_bytes c.in_ok-from_str.field-0) c.args.names.now c.insert.new.self _ c.in_ok-insert.ensures.updates in
    names_new (λ o. o.name) (λ o. o.name) (get_by_text c.args.names.now) (get_by_text c.insert.new.self) orgs c.args.next.now known (rw name at is) (rw (c.in_ok-from_str.ensures.ok, name) at puts) text
