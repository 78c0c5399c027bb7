-- What the code of an instance hands on: scenes, and rows that are not read.
use Rattle.std.specs.Prelude.{◌≡◌, Err, List, cond}
use Rattle.misp_model.specs.Machine.{pulls}
use Rattle.misp_model.specs.declared.ask.Ask.{Ask}
use Rattle.misp_store.specs.declared.fault.LoadFault.{LoadFault}
use Rattle.misp_core.specs.Prelude.{Effect, Host, Plans, Reply, Row, Scene, refused}
use Rattle.misp_core.specs.declared.planning.NoPlan.{NoPlan}
use Rattle.misp_core.specs.declared.site.Site.{Site}
use Rattle.misp_core.specs.Answers.{bad_row, bare_scene}
use Rattle.misp_core.specs.Partners.{partner_of}

-- the scene over these rows, which its caller knows
abbrev pub knowing : Scene → List Row → Scene
knowing s rows = record s { rows = rows }

-- who the instance is
abbrev pub host_at : Site → Host
host_at s = record { name = s.here.now; admin = s.admin.now }

-- the scene that the code hands on where an ask looks at no partner
abbrev pub scene_in : Site → Scene
scene_in s = bare_scene (host_at s) s.moment s.caller.now s.groups.now

-- the same with the partner of the caller's key, at which what a pull asks looks
abbrev pub pull_scene : Site → Scene
pull_scene s = record (scene_in s) { partner = partner_of s.caller.now }

-- the scene for an ask
abbrev pub scene_for : Site → Ask → Scene
scene_for s ask = cond (pulls ask) (pull_scene s) (scene_in s)

-- the ask changes no event
abbrev pub ChangesNone : Ask → Type 0
ChangesNone (Ask.Change change) = ⊥
ChangesNone ask = Unit {0}

-- the ask changes no event, is none of a pull, and hands in no package
abbrev pub IsOwn : Ask → Type 0
IsOwn (Ask.Change change) = ⊥
IsOwn Ask.SyncGroups = ⊥
IsOwn Ask.SyncEvents = ⊥
IsOwn (Ask.SyncPart event part) = ⊥
IsOwn Ask.SyncManifest = ⊥
IsOwn (Ask.SyncRows wanted) = ⊥
IsOwn (Ask.TakePart part) = ⊥
IsOwn ask = Unit {0}

-- the effect is that of rows which are not read: a row that does not decode is refused
abbrev pub IsUnread : LoadFault → Effect Reply → Type 0
IsUnread (LoadFault.BadRow name) e = e ≡ refused (bad_row name)
IsUnread fault e = Unit {0}

-- nothing is planned for just this fault: what a keeper failed is told as its fault, a row that
-- does not decode is refused unless memory runs out for its name, and lack of memory is told as
-- that
abbrev pub TellsFault : LoadFault → NoPlan → Type 0
TellsFault LoadFault.KeeperFault why = why ≡ NoPlan.KeeperFault
TellsFault (LoadFault.BadRow name) why = Plans (Err why) (refused (bad_row name))
TellsFault LoadFault.NoMemory why = why ≡ NoPlan.NoMemory
