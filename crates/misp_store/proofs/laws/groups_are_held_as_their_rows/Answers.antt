-- The laws are lemmas of proofs/BesideItems.antt, by those of misp_format and misp_admin_rows.
use Rattle.misp_store.specs.Sharing.{group_row}
use Rattle.misp_store.proofs.BesideItems.{group_is_none, group_put_among, groups_are_read, only_groups, other_kind}
use Rattle.misp_store.proofs.GroupRows.{group_again}
use Rattle.misp_store.proofs.laws.groups_are_held_as_their_rows.Goals as goal

pub returns : goal.returns
returns c =
    let placed = c.rows_are_put_among_their_kind.ensures in
    record {
      read = λ groups are. groups_are_read c.a_group_is_read_from_its_text.ensures groups are;
      only = λ rows groups e. only_groups rows groups e;
      put = λ g rows groups is up e.
          group_put_among g rows groups (group_again c.a_group_is_read_from_its_text.ensures g is) (placed.others (group_row g) rows up (group_is_none g)) e;
      items = λ g rows is up. placed.items (group_row g) rows up (other_kind g);
      order = λ row rows up. placed.order row rows up;
    }
