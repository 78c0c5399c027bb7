use Rattle.std.proofs.Common.{◌∙◌, ap, []}
use Rattle.std.specs.Option.{option_map_or}
use Rattle.toml.proofs.Views.{table_get}
use Rattle.misp_script.specs.Network.{items_in}
use Rattle.misp_script.proofs.document.entries.Goals as goal

pub returns-in-None : goal.returns-in-None
returns-in-None c =
    let found = table_get c.get.result c.args.name.now c.args.table.now.entries c.get.ensures.value in
    ap (λ o. option_map_or items_in o []) (rw c.in-None.is at found)

pub returns-in-Some : goal.returns-in-Some
returns-in-Some c =
    let found = table_get c.get.result c.args.name.now c.args.table.now.entries c.get.ensures.value in
    c.items_in.ensures ∙ ap (λ o. option_map_or items_in o []) (rw c.in-Some.is at found)
