-- Keys, and who asks with them, as contracts see them.
use Rattle.std.specs.Prelude.{◌≡◌, ℕ, Bool, true, false, List, Option, None, Some, is_some}
use Rattle.misp_ids.specs.declared.uid.OrgId.{OrgId}
use Rattle.misp_orgs.specs.declared.role.Role.{Role}
use Rattle.misp_orgs.specs.Roles.{is_sync}

-- a key: its text, whose it is, its role, the instance that asks with it, whether it is revoked, and
-- whether that instance is of the same host
pub record KeyFields : Type 0 where
  pub key : List ℕ
  pub org : OrgId
  pub role : Role
  pub partner : Option (List ℕ)
  pub revoked : Bool
  pub internal : Bool

-- who asks: an organisation in a role, and for the role Sync through which instance, which may be
-- of the same host
pub record CallerFields : Type 0 where
  pub org : OrgId
  pub role : Role
  pub partner : Option (List ℕ)
  pub internal : Bool

-- there is a partner exactly where the role is Sync
abbrev pub HasPartner : Role → Option (List ℕ) → Type 0
HasPartner role partner = is_some partner ≡ is_sync role

abbrev pub IsKey : KeyFields → Type 0
IsKey k = HasPartner k.role k.partner

abbrev pub IsCaller : CallerFields → Type 0
IsCaller c = HasPartner c.role c.partner

-- who asks with the key of a record
abbrev pub caller_of : KeyFields → CallerFields
caller_of k =
    record { org = k.org; role = k.role; partner = k.partner; internal = k.internal }

-- the same, where the key is not revoked
abbrev pub caller_where : KeyFields → Bool → Option CallerFields
caller_where k true = None
caller_where k false = Some (caller_of k)
