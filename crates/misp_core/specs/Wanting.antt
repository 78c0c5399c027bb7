-- What an owner wants of a package of an event, and takes of one, over its own rows of the event.
use Rattle.std.specs.Prelude.{◌≡◌, ℕ, List, length, Ok}
use Rattle.misp_elem.specs.declared.key.KeyForm.{KeyForm as Key}
use Rattle.misp_manifest.specs.declared.manifest.KeyStamp.{KeyStamp}
use Rattle.misp_model.specs.declared.package.PackageFields.{PackageFields as Package}
use Rattle.misp_store.specs.declared.reach.Reach.{Reach}
use Rattle.misp_wanted.specs.Wanting.{wanted_keys}
use Rattle.misp_core.specs.Prelude.{EventId, Held, Inst, OrgId, Row, groups_of, seen_in}
use Rattle.misp_core.specs.Taking.{package_taken, with_package}

-- the owner's own rows of the event all decode, and these keys of a package are wanted over them
pub record WantsOf (here : Inst) (owner : OrgId) (event : EventId) (keys : List KeyStamp)
    (wanted : List Key) (held : Held) : Type 0 where
  pub rows : List Row
  pub read : (seen_in held).rows (Reach.Own owner event) ≡ Ok rows
  pub are : wanted ≡ wanted_keys here rows owner event keys

-- they are wanted over some rows, whatever a keeper reports
pub record IsSomeWanted (here : Inst) (owner : OrgId) (event : EventId) (keys : List KeyStamp)
    (wanted : List Key) : Type 0 where
  pub rows : List Row
  pub are : wanted ≡ wanted_keys here rows owner event keys

-- They all decode, so many rows of the package are taken over them, and these are put.
pub record TakesOf (here : Inst) (owner : OrgId) (coming : Package) (count : ℕ)
    (held new : Held) : Type 0 where
  pub rows : List Row
  pub read : (seen_in held).rows (Reach.Own owner coming.event) ≡ Ok rows
  pub count_is : count ≡ length (package_taken here rows (groups_of held) owner coming)
  pub put : new ≡ with_package here rows owner coming held
