use Rattle.std.proofs.Common.{◌≡◌, ◌∙◌, ap, sym, false, true, is_some, string_bytes}
use Rattle.std.specs.BTreeMap.{get_by_text}
use Rattle.std.proofs.lemmas.Map.Text.{btree_map_updates_text}
use Rattle.misp_script.proofs.Lookups.{names_old, names_new}
use Rattle.misp_script.proofs.org_table.put_name.Goals as goal

pub returns-then-contains_key-clause-more : goal.returns-then-contains_key-clause-more
returns-then-contains_key-clause-more c = λ orgs known text.
    let name : c.as_str-name.result.now ≡ c.args.next.now.name = c.as_str-name.ensures ∙ ap (λ o. o.name) c.next.view_is in
    let is : is_some (get_by_text c.args.names.now c.as_str-name.result.now) ≡ true = sym c.if-contains_key.ensures in
    names_old (λ o. o.name) (λ o. o.uuid) (get_by_text c.args.names.now) orgs c.args.next.now known (rw name at is) text

pub returns-clause-more : goal.returns-clause-more
returns-clause-more c = λ orgs known text.
    let name : c.as_str-name.result.now ≡ c.args.next.now.name = c.as_str-name.ensures ∙ ap (λ o. o.name) c.next.view_is in
    let is : is_some (get_by_text c.args.names.now c.as_str-name.result.now) ≡ false = sym c.if-contains_key.ensures in
    let uuid : c.next.inside.uuid ≡ c.args.next.now.uuid = ap (λ o. o.uuid) c.next.view_is in
    let puts = btree_map_updates_text (string_bytes c.in_ok-from_str.field-0) c.args.names.now c.insert.new.self _ c.in_ok-insert.ensures.updates in
    names_new (λ o. o.name) (λ o. o.uuid) (get_by_text c.args.names.now) (get_by_text c.insert.new.self) orgs c.args.next.now known (rw name at is) (rw (c.in_ok-from_str.ensures.ok, name, uuid) at puts) text
