-- What a dialogue comes to, party by party.
use Rattle.std.specs.Prelude.{◌≡◌, ℕ, List, [], ◌∷◌, Option, None, Some, Ok, Err}
use Rattle.std.specs.List.{AllByRecursion}
use Rattle.misp_outside.specs.Causes.{HasCause, StaysUnless}
use Rattle.misp_dialogue.specs.Conversed.{after, ended}
use Rattle.misp_dialogue.specs.Dialogue.{Dialogue, Over, Ask}
use Rattle.misp_outside.specs.Reporting.{WhereReported}
use Rattle.misp_dialogue.specs.Parties.{Conduct, GrowsBy, IsReply, IsTrail, PartyState}
use Rattle.misp_dialogue.specs.declared.ending.Ending.{Ending}
use Rattle.misp_dialogue.specs.declared.side.Side.{Side}

-- ---- the share of a party

-- a request and its reply
pub record Exchange (Q R : Type 0) : Type 0 where
  pub request : Q
  pub reply : R

-- a request that was refused or stopped, and by which cause
pub record Failure (Q C : Type 0) : Type 0 where
  pub request : Q
  pub cause : C

-- what one side was asked and replied, where these are the replies of both
abbrev pub share : {Q R N C : Type 0} → Side → Dialogue Q R N C → List R → List (Exchange Q R)
share side d [] = []
share side (Over n cause) (r ∷ rs) = []
share Side.Source (Ask n Side.Source q more) (r ∷ rs) =
    record { request = q; reply = r } ∷ share Side.Source (more r) rs
share Side.Source (Ask n Side.Sink q more) (r ∷ rs) = share Side.Source (more r) rs
share Side.Sink (Ask n Side.Source q more) (r ∷ rs) = share Side.Sink (more r) rs
share Side.Sink (Ask n Side.Sink q more) (r ∷ rs) =
    record { request = q; reply = r } ∷ share Side.Sink (more r) rs

-- what one side was asked last, where that was refused or stopped by this cause
abbrev pub failure : {Q R N C : Type 0} → Side → Dialogue Q R N C → Option C
    → Option (Failure Q C)
failure side d None = None
failure side (Over n why) (Some cause) = None
failure Side.Source (Ask n Side.Source q more) (Some cause) =
    Some (record { request = q; cause = cause })
failure Side.Source (Ask n Side.Sink q more) (Some cause) = None
failure Side.Sink (Ask n Side.Source q more) (Some cause) = None
failure Side.Sink (Ask n Side.Sink q more) (Some cause) =
    Some (record { request = q; cause = cause })

-- ---- what came of it

-- each reply is the stated one of what is held, from the one to the other
abbrev pub Keeps : {H Q R C : Type 0} → Conduct H Q R C → List (Exchange Q R)
    → Option (Failure Q C) → H → H → Type 0
Keeps k [] None old new = new ≡ old
Keeps k [] (Some f) old new = IsReply k f.request (Err f.cause) old new
Keeps k (x ∷ xs) last old new =
    (mid : _) × k.IsHeld old × (k.answer old x.request ≡ Ok (x.reply, mid))
    × Keeps k xs last mid new

-- the bytes of each request went, and after them those of which its reply is read
abbrev pub Goes : {H Q R C : Type 0} → Conduct H Q R C → List (Exchange Q R)
    → Option (Failure Q C) → List (List ℕ) → Type 0
Goes k [] None trail = trail ≡ []
Goes k [] (Some f) trail = IsTrail k f.request (Err f.cause) trail
Goes k (x ∷ xs) last trail =
    (bytes : List ℕ) × (rest : List (List ℕ)) × (trail ≡ k.text x.request ∷ bytes ∷ rest)
    × k.Reads x.request bytes (Ok x.reply) × Goes k xs last rest

-- the last request was refused or stopped by such a cause
abbrev pub IsFailedBy : {Q C : Type 0} → (C → Type 0) → Option (Failure Q C) → Type 0
IsFailedBy P None = ⊥
IsFailedBy P (Some f) = P f.cause

-- the last request was refused or stopped by such a cause, if it was
abbrev pub IfFailed : {Q C : Type 0} → (C → Type 0) → Option (Failure Q C) → Type 0
IfFailed P None = Unit {0}
IfFailed P (Some f) = P f.cause

-- and it was such a request, if there was one
abbrev pub IfAsked : {Q C : Type 0} → (Q → Type 0) → Option (Failure Q C) → Type 0
IfAsked P None = Unit {0}
IfAsked P (Some f) = P f.request

-- the request and the reply are values of their types
abbrev pub IsFit : {H Q R C : Type 0} → Conduct H Q R C → Exchange Q R → Type 0
IsFit k x = k.IsAskable x.request × k.IsSound x.reply

-- of a party that was asked so: what it holds, what went over it, and how often it failed
pub record Share {H Q R C : Type 0} (k : Conduct H Q R C) (xs : List (Exchange Q R))
    (last : Option (Failure Q C)) (old new : PartyState H) : Type 0 where
  pub fits : AllByRecursion (IsFit k) xs
  pub askable : IfAsked k.IsAskable last
  pub held : WhereReported old.held new.held (Keeps k xs last)
  pub trail : GrowsBy old.trail new.trail (Goes k xs last)
  pub why : IfFailed k.IsCause last
  pub cause : HasCause old.faults new.faults (IsFailedBy k.IsFault last)
  pub stays : StaysUnless old.faults new.faults (IsFailedBy k.IsFault last)
  pub peer : HasCause old.peer_faults new.peer_faults (IsFailedBy k.IsPeerFault last)

-- how it ended there, where its last request was refused or stopped by a cause, or none was
abbrev pub EndsBy : {Q R N C : Type 0} → C → Dialogue Q R N C → Option C → Ending N C → Type 0
EndsBy memory (Over n why) None ending = ending ≡ ended n why
EndsBy memory (Over n why) (Some cause) ending = ⊥
EndsBy memory (Ask n side q more) None ending = ending ≡ Ending.Stopped n memory
EndsBy memory (Ask n side q more) (Some cause) ending = ending ≡ Ending.Stopped n cause

-- The dialogue went on by these replies, and then it ended: what came of each party.
pub record ByReplies {HA HB Q R N C : Type 0} (memory : C) (ka : Conduct HA Q R C)
    (kb : Conduct HB Q R C) (d : Dialogue Q R N C) (old new : PartyState HA × PartyState HB)
    (ending : Ending N C) : Type 0 where
  pub replies : List R
  pub last : Option C
  pub source :
      Share ka (share Side.Source d replies) (failure Side.Source (after d replies) last)
      old.0 new.0
  pub sink :
      Share kb (share Side.Sink d replies) (failure Side.Sink (after d replies) last)
      old.1 new.1
  pub ends : EndsBy memory (after d replies) last ending

-- ---- causes

-- it was stopped by such a cause
abbrev pub IsStoppedBy : {N C : Type 0} → (C → Type 0) → Ending N C → Type 0
IsStoppedBy P (Ending.Done n) = ⊥
IsStoppedBy P (Ending.Stopped n cause) = P cause

-- wherever the dialogue says itself that it ends by a cause, that is such a one
abbrev pub EndsOnlyBy : {Q R N C : Type 0} → (C → Type 0) → Dialogue Q R N C → Type 0
EndsOnlyBy P (Over n None) = Unit {0}
EndsOnlyBy P (Over n (Some cause)) = P cause
EndsOnlyBy P (Ask n side q more) = (reply : _) → EndsOnlyBy P (more reply)
