-- What a command comes to, and how much of it is done.
use Rattle.std.specs.Prelude.{◌≡◌, ℕ, Bool, List, [], ◌∷◌, map, take, Option, None, Some}
use Rattle.misp_outside.specs.Held.{Held}
use Rattle.misp_effects.specs.declared.stop.Stop.{Stop}
use Rattle.misp_effects.specs.Batches.{Batch, Spelling, put_batches, AreReadable}

-- ---- effects

-- what is replied, and what is put, one batch after another
pub record Effect (A : Type 0) : Type 0 where
  pub reply : A
  pub batches : List Batch

-- this reply and these batches
abbrev pub effect : {A : Type 0} → A → List Batch → Effect A
effect reply batches = record { reply = reply; batches = batches }

-- the same batches, and the reply seen so
abbrev pub shown : {A B : Type 0} → (A → B) → Effect A → Effect B
shown f e = effect (f e.reply) e.batches

-- the same reply, and this batch before the others
abbrev pub behind : {A : Type 0} → Batch → Effect A → Effect A
behind b e = effect e.reply (b ∷ e.batches)

-- what is held afterwards
abbrev pub left : {A : Type 0} → Spelling → Effect A → Held → Held
left spelled e held = put_batches (map spelled e.batches) held

-- ---- outcomes

-- All of it went, or this stopped it after so many of its batches. Where the answer is lost, the
-- last of these was put, and who asked does not know it.
pub data Outcome : Type 0 where
  Went : Outcome
  Stopped : Stop → (batches : ℕ) → (lost : Bool) → Outcome

-- what stopped it
abbrev pub stop_of : Outcome → Option Stop
stop_of Went = None
stop_of (Stopped stop batches lost) = Some stop

-- how a stop is told, and what it leaves of an effect: of the stop, the batches that were put, and
-- whether the answer to the last is lost
abbrev pub Telling : Type 0 → Type 0
Telling A = Stop → ℕ → Bool → Effect A → Effect A

-- whole or not at all: a stop leaves nothing
abbrev pub nothing_of : {A : Type 0} → (Stop → A) → Telling A
nothing_of refused stop n lost e = effect (refused stop) []

-- in part: a stop leaves the batches that were put
abbrev pub first_of : {A : Type 0} → (Stop → ℕ → Bool → A) → Telling A
first_of told stop n lost e = effect (told stop n lost) (take n e.batches)

-- THE word that joins the two: what a command comes to under an outcome
abbrev pub under : {A : Type 0} → Telling A → Outcome → Effect A → Effect A
under telling Went e = e
under telling (Stopped stop n lost) e = telling stop n lost e

-- ---- calls

-- A call that was to have this effect did what it comes to under some outcome: the reply tells what
-- stopped it, and is that of the effect; so is what is held, and each batch that was put is
-- readable. THE word for the contract of a call that changes one keeper.
pub record Does (A : Type 0) (spelled : Spelling) (stop_in : A → Option Stop)
    (telling : Telling A) (e : Effect A)
    (held : Held) (reply : A) (new : Held) : Type 0 where
  pub outcome : Outcome
  pub agree : stop_of outcome ≡ stop_in reply
  pub reply_is : reply ≡ (under telling outcome e).reply
  pub held_is : new ≡ left spelled (under telling outcome e) held
  pub fits : AreReadable (under telling outcome e).batches
