-- What an owner has of an event, as an instance keeps it for the packages that follow.
use Rattle.std.specs.Prelude.{◌≡◌, ◌⊎◌, true, List, Option, Result, Ok, IfSome}
use Rattle.std.specs.List.{list_all}
use Rattle.misp_elem.specs.Parents.{event_of}
use Rattle.misp_elem.specs.Row.{AreRows}
use Rattle.misp_ids.specs.Same.{same_event}
use Rattle.misp_model.specs.Machine.{put_all, seeing}
use Rattle.misp_model.specs.Prelude.{EventId, Inst, OrgId, Row, Scene}
use Rattle.misp_model.specs.declared.ask.Ask.{Ask}
use Rattle.misp_package.specs.Landing.{IsLanding}
use Rattle.misp_package.specs.declared.landing.Landing.{Landing}
use Rattle.misp_store.specs.Prelude.{Admin, Held}
use Rattle.misp_store.specs.Seen.{seen_in}
use Rattle.misp_store.specs.declared.reach.Reach.{Reach}
use Rattle.misp_core.specs.Effects.{asked}
use Rattle.misp_core.specs.Planning.{Plans}
use Rattle.misp_core.specs.declared.planning.Plan.{Plan}
use Rattle.misp_core.specs.declared.planning.NoPlan.{NoPlan}

-- ---- what is kept

-- all rows of its event that are held decode, and it is the landing of these
pub record IsWholeLanding (here : Inst) (held : Held) (l : Landing) : Type 0 where
  pub rows : List Row
  pub read : (seen_in held).rows (Reach.Event l.event) ≡ Ok rows
  pub are : AreRows rows
  pub is : IsLanding l here l.owner l.event rows

-- the same where the keeper reports what it holds
abbrev pub LandsBeside : Inst → Option Held → Landing → Type 0
LandsBeside here held l = IfSome held (λ h. IsWholeLanding here h l)

-- ---- what is made of it

-- it is the landing of these rows for a package that the caller hands in
pub record IsLandedOf (here : Inst) (w : OrgId) (e : EventId) (rows : List Row)
    (l : Landing) : Type 0 where
  pub are : AreRows rows
  pub is : IsLanding l here w e rows

-- the same of what is asked
abbrev pub IsLandedFor : Inst → OrgId → List Row → Ask → Landing → Type 0
IsLandedFor here w rows (Ask.TakePart part) l = IsLandedOf here w part.event rows l
IsLandedFor here w rows ask l = ⊥

-- what is kept is what was kept before, or what is made for this ask
abbrev pub StaysOrLands :
    Inst → OrgId → List Row → Ask → Option Landing → Option Landing → Type 0
StaysOrLands here w rows ask old new = (new ≡ old) ⊎ IfSome new (IsLandedFor here w rows ask)

-- ---- what is planned by it

-- it is that of the owner, and of the event of the package that is handed in
pub record IsOf (w : OrgId) (e : EventId) (l : Landing) : Type 0 where
  pub owner : l.owner ≡ w
  pub event : l.event ≡ e

-- the same of what is asked
abbrev pub IsLandingFor : OrgId → Ask → Landing → Type 0
IsLandingFor w (Ask.TakePart part) l = IsOf w part.event l
IsLandingFor w ask l = ⊥

-- what is planned for the ask is planned over any rows of which it is the landing
pub record PlansBy (admin : Admin) (s : Scene) (ask : Ask) (planned : Result Plan NoPlan)
    (l : Landing) : Type 0 where
  pub is_for : IsLandingFor s.by ask l
  pub plans : (rows : List Row) → IsLanding l s.at l.owner l.event rows →
      Plans planned (asked admin (seeing s rows) ask)

-- ---- what it goes on with

-- rows of its event alone are put, and it is the landing of what is held then
pub record GoesOn (rows : List Row) (old new : Landing) : Type 0 where
  pub are : AreRows rows
  pub of_event : list_all (λ row. same_event (event_of row.key) old.event) rows ≡ true
  pub landing : (i : Inst) (w : OrgId) (e : EventId) (held : List Row) →
      IsLanding old i w e held → IsLanding new i w e (put_all rows held)
