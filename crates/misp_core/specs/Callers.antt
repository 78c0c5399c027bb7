-- Whose the keys of an instance are.
use Rattle.misp_ids.specs.Uid.{IsUid}
use Rattle.misp_orgs.specs.Keys.{KeyFields}

-- the key is of an organisation
abbrev pub IsOwned : KeyFields → Type 0
IsOwned k = IsUid k.org.0
