-- An instance in a network: whose act a request is, and what its keeper holds of the history.
use Rattle.std.specs.Prelude.{◌≡◌, ℕ, true, [], map, Bool, Ok}
use Rattle.misp_lists.specs.Order.{ascend}
use Rattle.misp_ids.specs.Same.{Inst}
use Rattle.misp_groups.specs.Prelude.{IsStrictlySortedBy, OrgId, Stamp, by_name}
use Rattle.misp_orgs.specs.Keys.{CallerFields as Caller}
use Rattle.misp_admin_rows.specs.Rows.{item_row, item_rows}
use Rattle.misp_outside.specs.Held.{admin_before, put_admins}
use Rattle.misp_history.specs.History.{tables}
use Rattle.misp_store.specs.Prelude.{Admin, AllByRecursion, AreRows, Group, Held, IsGroup, groups_in}
use Rattle.misp_store.specs.Raw.{raw_row}
use Rattle.misp_core.specs.Answers.{Asked, name_in}
use Rattle.misp_core.specs.Partners.{partner_of}
use Rattle.misp_core.specs.Standing.{Host}
use Rattle.misp_history.specs.Acts as model

-- who asks, with the name by which an instance of this administration knows the organisation and
-- the partner of the key
abbrev pub caller_at : Admin → Caller → model.Caller
caller_at admin caller =
    record { org = caller.org; name = name_in admin caller.org; partner = partner_of caller }

-- a request there, as an act
abbrev pub act_at : Host → ℕ → Asked → model.Act
act_at host now it =
    record { at = host.name; now = now; command = model.Asks (caller_at host.admin it.0) it.1 }

-- an administration there, as an act
abbrev pub act_of : Inst → Stamp → OrgId → Bool → Group → model.Act
act_of here now by add g = record { at = here; now = now; command = model.Administers by add g }

-- the keeper holds the tables of the instance, its groups and what was made there, as bytes, of each
-- that was made the row of the last time; the groups are in the order of their names
pub record Keeps (here : Inst) (w : model.World) (held : Held) : Type 0 where
  pub rows : held.rows ≡ map raw_row (tables w.log here)
  pub are_rows : AreRows (tables w.log here)
  pub groups : groups_in held.admin ≡ Ok (w.groups here)
  pub are_groups : AllByRecursion IsGroup (w.groups here)
  pub made : item_rows held.admin ≡ put_admins (map item_row (w.made here)) []
  pub in_order : ascend admin_before held.admin ≡ true
  pub ascend : IsStrictlySortedBy by_name (w.groups here)
