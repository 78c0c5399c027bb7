use Rattle.misp_format.specs.Prelude.{list_data, member, no_members, object}
use Rattle.misp_format.specs.Names.{names_in}
use Rattle.misp_format.proofs.Texts.{printed}
use Rattle.misp_format.proofs.writing.found.put_found.Goals as goal

pub returns : goal.returns
returns g c =
    let found = object (member c.args.name.now (list_data (g.L.Listed.value (names_in c.args.names.now)) c.args.items.now) no_members) in
    rw (c.into_text.ensures, c.in_ok-put.ensures, c.behind-out.ensures, c.replace.ensures.value) (printed c.args.text.now.items found)
