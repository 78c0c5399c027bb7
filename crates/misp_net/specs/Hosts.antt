-- The instances of a network, and their keepers, as a run sees them.
use Rattle.std.specs.Prelude.{ℕ, List, [], map, slice_index_or}
use Rattle.misp_script.specs.declared.description.Description.{Description}
use Rattle.misp_script.specs.declared.description.Entry.{Entry}
use Rattle.misp_ids.specs.Same.{Inst}
use Rattle.misp_admins.specs.Made.{with_items}
use Rattle.misp_admins.specs.declared.item.Item.{Item}
use Rattle.misp_history.specs.Acts.{World}
use Rattle.misp_core.specs.Standing.{Host}

abbrev pub described_host : Entry → Host
described_host e = record { name = e.name; admin = e.admin }

-- the instances of a description
abbrev pub described_hosts : Description → List Host
described_hosts net = map described_host net.instances

abbrev pub nobody : Host
nobody = record { name = []; admin = record { orgs = []; keys = []; links = [] } }

-- the instance of a place
abbrev pub host_at : ℕ → List Host → Host
host_at place hosts = slice_index_or hosts place nobody

-- ---- what requests make of their administration

-- the described instances with what was made at each
abbrev pub hosts_made : List Host → (Inst → List Item) → List Host
hosts_made described made =
    map (λ (h : Host). record h { admin = with_items h.admin (made h.name) }) described

-- the same in this state of the history
abbrev pub hosts_in : List Host → World → List Host
hosts_in described w = hosts_made described w.made
