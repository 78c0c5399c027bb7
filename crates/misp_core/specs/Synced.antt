-- An owner's own rows of an event, as an instance keeps them for the packages that follow.
use Rattle.std.specs.Prelude.{◌≡◌, List, Ok, Option, option_map, IfSome}
use Rattle.std.specs.List.Sorted.{IsStrictlySortedBy}
use Rattle.misp_elem.specs.declared.key.KeyForm.{KeyForm as Key}
use Rattle.misp_manifest.specs.declared.manifest.KeyStamp.{KeyStamp}
use Rattle.misp_model.specs.Prelude.{EventId, Inst, OrgId, Row}
use Rattle.misp_package.specs.Packing.{key_order}
use Rattle.misp_package.specs.declared.landing.Landing.{Landing}
use Rattle.misp_store.specs.Prelude.{Held}
use Rattle.misp_store.specs.Seen.{seen_in}
use Rattle.misp_store.specs.declared.reach.Reach.{Reach}
use Rattle.misp_wanted.specs.Wanting.{wanted_keys}
use Rattle.misp_core.specs.KeptLanding.{IsLandedOf}
use Rattle.misp_core.specs.Taking.{with_rows}
use Rattle.misp_core.specs.declared.synced.Own.{Own}
use Rattle.misp_core.specs.declared.synced.OwnRows.{OwnRows}

-- where the keeper reports what it holds, all its rows of the owner and event decode, and are these
abbrev pub AreOwn : Option Held → OrgId → EventId → List Row → Type 0
AreOwn held owner event rows =
    IfSome held (λ h. (seen_in h).rows (Reach.Own owner event) ≡ Ok rows)

-- they are these, in the order of their keys
pub record AreLoaded (held : Option Held) (owner : OrgId) (event : EventId)
    (rows : List Row) : Type 0 where
  pub own : AreOwn held owner event rows
  pub ascend : IsStrictlySortedBy key_order rows

-- it is the landing of them
pub record IsOwnLanding (here : Inst) (held : Option Held) (owner : OrgId) (event : EventId)
    (l : Landing) : Type 0 where
  pub rows : List Row
  pub own : AreOwn held owner event rows
  pub landed : IsLandedOf here owner event rows l

-- they are the own rows of the owner and event, in either form
abbrev pub IsOwn : Inst → Option Held → OrgId → EventId → Own → Type 0
IsOwn here held owner event (Own.Loaded rows) = AreLoaded held owner event rows.items
IsOwn here held owner event (Own.Landed l) = IsOwnLanding here held owner event l

-- what is kept are the own rows of its owner and event
abbrev pub IsSynced : Inst → Option Held → OwnRows → Type 0
IsSynced here held s = IsOwn here held s.owner s.event s.own

-- over the own rows these keys of a package are wanted
pub record AreWanted (here : Inst) (held : Option Held) (owner : OrgId) (event : EventId)
    (keys : List KeyStamp) (wanted : List Key) : Type 0 where
  pub rows : List Row
  pub own : AreOwn held owner event rows
  pub are : wanted ≡ wanted_keys here rows owner event keys

-- once these rows are put, what is kept are the own rows of which it was the landing, with them
abbrev pub StaysSynced : List Row → Landing → OwnRows → Type 0
StaysSynced rows l s =
    (here : Inst) (held : Option Held) (owner : OrgId) (event : EventId) →
    IsOwnLanding here held owner event l → IsSynced here (option_map (with_rows rows) held) s
