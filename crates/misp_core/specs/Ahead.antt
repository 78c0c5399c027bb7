-- Packages that an instance keeps until they are asked for.
use Rattle.std.specs.Prelude.{◌≡◌, ◌⊎◌, ℕ, List, [], Option, None, Some, IfSome, get_or}
use Rattle.misp_effects.specs.Effect.{effect}
use Rattle.misp_orgs.specs.Keys.{CallerFields as Caller}
use Rattle.misp_model.specs.Manifests.{only_of}
use Rattle.misp_model.specs.Prelude.{EventId, Group, Scene}
use Rattle.misp_model.specs.Pulling.{pulled_part}
use Rattle.misp_model.specs.declared.ask.Ask.{Ask}
use Rattle.misp_model.specs.declared.package.PackageFields.{PackageFields as Package}
use Rattle.misp_package.specs.declared.landing.Landing.{Landing}
use Rattle.misp_store.specs.Prelude.{Effect, Held}
use Rattle.misp_store.specs.Seen.{seen_in}
use Rattle.misp_store.specs.Sharing.{HoldsGroups}
use Rattle.misp_core.specs.Effects.{requested}
use Rattle.misp_core.specs.KeptLanding.{LandsBeside}
use Rattle.misp_core.specs.Standing.{Host}
use Rattle.misp_core.specs.declared.ahead.Ahead.{Ahead}
use Rattle.misp_core.specs.declared.reply.Answer.{Answer}
use Rattle.misp_core.specs.declared.reply.Reply.{Reply}

-- ---- what is kept

-- the package of a number, where it is not handed out yet
abbrev pub kept_part : Ahead → ℕ → Option Package
kept_part a n = get_or a.parts.items n None

-- the package is kept for this caller, under this number of this event
pub record IsKept (a : Ahead) (by : Caller) (e : EventId) (n : ℕ) (p : Package) : Type 0 where
  pub caller : a.caller ≡ by
  pub event : a.event ≡ e
  pub part : kept_part a n ≡ Some p

-- the package is kept for this ask of the caller, whole or with the rows of these keys alone
abbrev pub IsKeptFor : Ahead → Caller → Ask → Package → Type 0
IsKeptFor a by (Ask.SyncPart event n) p = IsKept a by event n p
IsKeptFor a by (Ask.SyncRows w) p =
    (whole : Package) × (IsKept a by w.event w.part whole × (p ≡ only_of w.keys whole))
IsKeptFor a by ask p = ⊥

-- each package that is left was kept before, for the same caller and of the same event
pub record IsLeftOf (old new : Ahead) : Type 0 where
  pub caller : new.caller ≡ old.caller
  pub event : new.event ≡ old.event
  pub parts : (n : ℕ) (p : Package) → kept_part new n ≡ Some p → kept_part old n ≡ Some p

-- ---- what is packed

-- for this caller and of this event, each package is what a pull brings in these surroundings
-- under its number
pub record IsPacked (s : Scene) (by : Caller) (e : EventId) (a : Ahead) : Type 0 where
  pub caller : a.caller ≡ by
  pub event : a.event ≡ e
  pub parts : (n : ℕ) (p : Package) → kept_part a n ≡ Some p → pulled_part s e n ≡ Some p

-- the same of the event of which a part is asked, or rows of one
abbrev pub IsPackedFor : Scene → Caller → Ask → Ahead → Type 0
IsPackedFor s by (Ask.SyncPart event n) a = IsPacked s by event a
IsPackedFor s by (Ask.SyncRows w) a = IsPacked s by w.event a
IsPackedFor s by ask a = ⊥

-- what is kept is what was kept before, or what is packed for this ask
abbrev pub StaysOrIsPacked : Scene → Caller → Ask → Option Ahead → Option Ahead → Type 0
StaysOrIsPacked s by ask old new = (new ≡ old) ⊎ IfSome new (IsPackedFor s by ask)

-- ---- what is answered

-- the package is told, and nothing is put
abbrev pub part_told : Package → Effect Reply
part_told p = effect (Reply.Ok (Answer.Part p)) []

-- where the keeper reports what it holds, each package that is kept is what its caller is answered
-- for its number, at any moment
abbrev pub AnswersAhead : Host → Option Held → Ahead → Type 0
AnswersAhead host held a =
    (n : ℕ) (p : Package) → kept_part a n ≡ Some p →
    IfSome held (λ h. (now : ℕ) →
    requested host now (a.caller, Ask.SyncPart a.event n) (seen_in h) ≡ part_told p)

-- what an instance keeps beside its keeper: the groups that are held, packages that are answers,
-- and what an owner has of an event
pub record IsBeside (host : Host) (held : Option Held) (known : List Group)
    (kept : Option Ahead) (landing : Option Landing) : Type 0 where
  pub groups : HoldsGroups held known
  pub ahead : IfSome kept (AnswersAhead host held)
  pub landed : IfSome landing (LandsBeside host.name held)
