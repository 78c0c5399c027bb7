-- What roles permit.
use Rattle.std.specs.Prelude.{ℕ, Bool, true, false, List, codes, bytes_eq, Option, Some, None, if◌then◌else◌}
use Rattle.misp_orgs.specs.declared.role.Role.{Role}
use Rattle.misp_orgs.specs.declared.role.Perm.{Perm}

-- of each role what it permits: it permits nothing else
abbrev pub permits : Role → Perm → Bool
permits Role.Reader Perm.Read = true
permits Role.User Perm.Read = true
permits Role.User Perm.Write = true
permits Role.User Perm.Propose = true
permits Role.User Perm.Sight = true
permits Role.Publisher Perm.Read = true
permits Role.Publisher Perm.Write = true
permits Role.Publisher Perm.Propose = true
permits Role.Publisher Perm.Sight = true
permits Role.Publisher Perm.Publish = true
permits Role.OrgAdmin Perm.Read = true
permits Role.OrgAdmin Perm.Write = true
permits Role.OrgAdmin Perm.Propose = true
permits Role.OrgAdmin Perm.Sight = true
permits Role.OrgAdmin Perm.Publish = true
permits Role.OrgAdmin Perm.Group = true
permits Role.Sync Perm.Read = true
permits Role.Sync Perm.Write = true
permits Role.Sync Perm.Propose = true
permits Role.Sync Perm.Sight = true
permits Role.Sync Perm.Publish = true
permits Role.Sync Perm.Sync = true
permits Role.SiteAdmin Perm.Admin = true
permits role perm = false

-- the role of this name
abbrev pub role_named : List ℕ → Option Role
role_named text =
    if bytes_eq text (codes "reader") then Some Role.Reader
    else if bytes_eq text (codes "user") then Some Role.User
    else if bytes_eq text (codes "publisher") then Some Role.Publisher
    else if bytes_eq text (codes "orgadmin") then Some Role.OrgAdmin
    else if bytes_eq text (codes "sync") then Some Role.Sync
    else if bytes_eq text (codes "siteadmin") then Some Role.SiteAdmin
    else None

-- the role of a key with which another instance asks
abbrev pub is_sync : Role → Bool
is_sync Role.Sync = true
is_sync role = false

-- the name of a permission
unfoldable pub perm_name : Perm → List ℕ
perm_name Perm.Read = codes "Read"
perm_name Perm.Write = codes "Write"
perm_name Perm.Propose = codes "Propose"
perm_name Perm.Sight = codes "Sight"
perm_name Perm.Publish = codes "Publish"
perm_name Perm.Sync = codes "Sync"
perm_name Perm.Group = codes "Group"
perm_name Perm.Admin = codes "Admin"
