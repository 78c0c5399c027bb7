use Rattle.std.proofs.Common.{◌≡◌, Ok, subst}
use Rattle.misp_format.specs.Prelude.{IsGroup, group_in_text, uncarried}
use Rattle.misp_store.proofs.GroupRows.{read_when}
use Rattle.misp_store.proofs.sharing.group_row.Goals as goal

pub returns-clause-storable : goal.returns-clause-storable
returns-clause-storable c =
    let is : IsGroup c.args.group.now = subst IsGroup c.group.view_is c.group.invariant in
    record {
      is_group = is;
      read = read_when c.args.group.now (is.creator, is.uuid) (subst (λ text. group_in_text text ≡ Ok (uncarried c.args.group.now)) c.in_ok-text.ensures.text c.in_ok-text.ensures.read_back);
    }
