-- What was so of what was held is so of what is still reported of it.
use Rattle.std.proofs.Common.{List, sym, subst, Option, None, Some, IfSome}
use Rattle.misp_outside.specs.Reporting.{StaysHeld}
use Rattle.misp_package.specs.declared.landing.Landing.{Landing}
use Rattle.misp_store.specs.Prelude.{Group, Held}
use Rattle.misp_store.specs.Sharing.{HoldsGroups}
use Rattle.misp_core.specs.Ahead.{AnswersAhead, IsBeside}
use Rattle.misp_core.specs.KeptLanding.{LandsBeside}
use Rattle.misp_core.specs.Prelude.{EventId, Host, Inst, OrgId}
use Rattle.misp_core.specs.Synced.{IsOwnLanding}
use Rattle.misp_core.specs.declared.ahead.Ahead.{Ahead}

-- ---- anything

module _ {A : Type 0} where
  -- what is so is so still, where it is so as well of nothing that is reported
  pub still_so : (P : Option A → Type 0) → ((held : A) → P (Some held) → P None) → (old new : Option A) → StaysHeld old new → P old → P new
  still_so P forget None None stays is = is
  still_so P forget None (Some new) stays is = absurd stays
  still_so P forget (Some old) None stays is = forget old is
  still_so P forget (Some old) (Some new) stays is = subst (λ (held : A). P (Some held)) (sym stays) is

-- ---- what is kept beside

pub groups_still : (old new : Option Held) (known : List Group) → StaysHeld old new → HoldsGroups old known → HoldsGroups new known
groups_still old new known = still_so (λ (held : Option Held). HoldsGroups held known) (λ held is. tt) old new

-- what a keeper does not report says nothing
pub ahead_unseen : (host : Host) (kept : Option Ahead) → IfSome kept (AnswersAhead host None)
ahead_unseen host None = tt
ahead_unseen host (Some a) = λ n p is. tt

landing_unseen : (here : Inst) (kept : Option Landing) → IfSome kept (LandsBeside here None)
landing_unseen here None = tt
landing_unseen here (Some l) = tt

pub beside_still : (host : Host) (old new : Option Held) (known : List Group) (kept : Option Ahead) (landing : Option Landing) → StaysHeld old new → IsBeside host old known kept landing → IsBeside host new known kept landing
beside_still host old new known kept landing =
    still_so (λ (held : Option Held). IsBeside host held known kept landing)
    (λ held is. record { groups = tt; ahead = ahead_unseen host kept; landed = landing_unseen host.name landing }) old new

-- ---- own rows

-- the landing of own rows is one where nothing is reported
pub own_unseen : (i : Inst) (held : Held) (w : OrgId) (e : EventId) (l : Landing) → IsOwnLanding i (Some held) w e l → IsOwnLanding i None w e l
own_unseen i held w e l is = record { rows = is.rows; own = tt; landed = is.landed }
