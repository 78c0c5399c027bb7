-- What is reported of a party of a dialogue, and what one request to it comes to.
use Rattle.std.specs.Prelude.{◌≡◌, ◌⊎◌, ℕ, List, [], ◌∷◌, ◌++◌, Option, None, Some, Result, Ok, Err}
use Rattle.misp_outside.specs.Causes.{HasCause, StaysUnless}
use Rattle.misp_outside.specs.Reporting.{WhereReported}

-- what a party holds, the bytes that went over it, and how often it failed itself, and that which
-- it is a wire to
pub record PartyState (H : Type 0) : Type 0 where
  pub held : Option H
  pub trail : Option (List (List ℕ))
  pub faults : ℕ
  pub peer_faults : ℕ

-- How a party answers and fails. Of every request and reply something holds as of a value of its
-- type, and of what is held where there is a reply. Its reply and what it holds then are a function
-- of what it holds; where it refuses, that stays. A request that goes over a wire is a text, and
-- its reply is read of one; some requests do not go, and are refused by some causes. It refuses by
-- some causes alone. Some of them stop a request at any
-- time; with some of these the request may have been done and its reply be lost. Some say that it
-- failed itself, or that what it is a wire to did.
pub record Conduct (H Q R C : Type 0) : Type 1 where
  pub IsAskable : Q → Type 0
  pub IsSound : R → Type 0
  pub IsHeld : H → Type 0
  pub answer : H → Q → Result (R × H) C
  pub text : Q → List ℕ
  pub IsUnsent : Q → C → Type 0
  pub Reads : Q → List ℕ → Result R C → Type 0
  pub IsCause : C → Type 0
  pub IsStop : C → Type 0
  pub IsLoss : C → Type 0
  pub IsFault : C → Type 0
  pub IsPeerFault : C → Type 0

-- ---- what is reported before and after

-- a list that is reported grows by a part, of which this holds
abbrev pub GrowsBy : {A : Type 0} → Option (List A) → Option (List A) → (List A → Type 0)
    → Type 0
GrowsBy None new P = Unit {0}
GrowsBy (Some old) None P = ⊥
GrowsBy (Some old) (Some new) P = (more : List _) × (new ≡ old ++ more) × P more

-- ---- one request

-- The reply is the stated one. A refusal is the stated one, or a stop, and what is held stays; or
-- the reply of a request that was done is lost.
abbrev pub IsReply : {H Q R C : Type 0} → Conduct H Q R C → Q → Result R C → H → H → Type 0
IsReply k request (Ok reply) old new =
    k.IsHeld old × (k.answer old request ≡ Ok (reply, new))
IsReply k request (Err cause) old new =
    ((new ≡ old) × ((k.answer old request ≡ Err cause) ⊎ k.IsStop cause))
    ⊎ (k.IsLoss cause × ((reply : _) × (k.answer old request ≡ Ok (reply, new))))

-- The bytes of the request went, and after them bytes of which the reply or the refusal is read. Or
-- the request went at most, and the reply is lost; or it was one that does not go.
abbrev pub IsTrail : {H Q R C : Type 0} → Conduct H Q R C → Q → Result R C → List (List ℕ)
    → Type 0
IsTrail k request (Ok reply) trail =
    (bytes : List ℕ) × (trail ≡ k.text request ∷ bytes ∷ []) × k.Reads request bytes (Ok reply)
IsTrail k request (Err cause) trail =
    (k.IsUnsent request cause × (trail ≡ []))
    ⊎ (k.IsLoss cause × ((trail ≡ []) ⊎ (trail ≡ k.text request ∷ [])))
    ⊎ ((bytes : List ℕ) × (trail ≡ k.text request ∷ bytes ∷ [])
    × k.Reads request bytes (Err cause))

-- where there is a reply, it is such a one
abbrev pub IsOkBy : {R C : Type 0} → (R → Type 0) → Result R C → Type 0
IsOkBy P (Ok reply) = P reply
IsOkBy P (Err cause) = Unit {0}

-- it was refused or stopped by such a cause
abbrev pub IsErrBy : {R C : Type 0} → (C → Type 0) → Result R C → Type 0
IsErrBy P (Ok reply) = ⊥
IsErrBy P (Err cause) = P cause

-- The only statement of a party: what a request that came to this was, in each of its concerns.
pub record Exchanged {H Q R C : Type 0} (k : Conduct H Q R C) (old : PartyState H) (request : Q)
    (result : Result R C) (new : PartyState H) : Type 0 where
  pub askable : k.IsAskable request
  pub sound : IsOkBy k.IsSound result
  pub held : WhereReported old.held new.held (IsReply k request result)
  pub trail : GrowsBy old.trail new.trail (IsTrail k request result)
  pub why : (cause : C) → result ≡ Err cause → k.IsCause cause
  pub cause : HasCause old.faults new.faults (IsErrBy k.IsFault result)
  pub stays : StaysUnless old.faults new.faults (IsErrBy k.IsFault result)
  pub peer : HasCause old.peer_faults new.peer_faults (IsErrBy k.IsPeerFault result)
