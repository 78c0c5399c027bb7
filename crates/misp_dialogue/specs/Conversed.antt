-- What a dialogue that was held comes to, request by request.
use Rattle.std.specs.Prelude.{◌≡◌, ◌⊎◌, List, [], ◌∷◌, Option, None, Some, Result, Ok, Err}
use Rattle.misp_dialogue.specs.Dialogue.{Dialogue, Over, Ask, after_reply}
use Rattle.misp_dialogue.specs.Parties.{Conduct, Exchanged, PartyState}
use Rattle.misp_dialogue.specs.declared.ending.Ending.{Ending}
use Rattle.misp_dialogue.specs.declared.side.Side.{Side}

-- what a request to a party may come to in a world, and what it leaves
abbrev pub Asks : Type 0 → Type 0 → Type 0 → Type 0 → Type 1
Asks Q R C W = Side → W → Q → Result R C → W → Type 0

-- of two parties, each is left alone by what the other is asked
abbrev pub between : {HA HB Q R C : Type 0} → Conduct HA Q R C → Conduct HB Q R C
    → Asks Q R C (PartyState HA × PartyState HB)
between ka kb Side.Source old request r new =
    Exchanged ka old.0 request r new.0 × (new.1 ≡ old.1)
between ka kb Side.Sink old request r new =
    Exchanged kb old.1 request r new.1 × (new.0 ≡ old.0)

-- how it is told that it is over
abbrev pub ended : {N C : Type 0} → N → Option C → Ending N C
ended n None = Ending.Done n
ended n (Some cause) = Ending.Stopped n cause

-- after these replies
abbrev pub after : {Q R N C : Type 0} → Dialogue Q R N C → List R → Dialogue Q R N C
after d [] = d
after d (r ∷ rs) = after (after_reply d r) rs

-- what was asked was replied to so, one request after another
abbrev pub Replied : {Q R N C W : Type 0} → Asks Q R C W → Dialogue Q R N C → W → List R → W
    → Type 0
Replied asks d old [] new = new ≡ old
Replied asks (Over n cause) old (r ∷ rs) new = ⊥
Replied asks (Ask n side request more) old (r ∷ rs) new =
    (mid : _) × asks side old request (Ok r) mid × Replied asks (more r) mid rs new

-- It was over. Or the next request was refused or stopped; or who leads had no memory to make it.
abbrev pub Ends : {Q R N C W : Type 0} → C → Asks Q R C W → Dialogue Q R N C → W → W
    → Ending N C → Type 0
Ends memory asks (Over n cause) old new ending = (new ≡ old) × (ending ≡ ended n cause)
Ends memory asks (Ask n side request more) old new ending =
    ((cause : _) × asks side old request (Err cause) new × (ending ≡ Ending.Stopped n cause))
    ⊎ ((new ≡ old) × (ending ≡ Ending.Stopped n memory))

-- The dialogue went on by these replies, and then it ended.
pub record Conversed {Q R N C W : Type 0} (memory : C) (asks : Asks Q R C W)
    (d : Dialogue Q R N C) (old new : W) (ending : Ending N C) : Type 0 where
  pub replies : List R
  pub mid : W
  pub replied : Replied asks d old replies mid
  pub ends : Ends memory asks (after d replies) mid new ending

-- one request was made and replied to, and the dialogue goes on by the reply
abbrev pub IsStep : {Q R N C W : Type 0} → Asks Q R C W → Dialogue Q R N C → Dialogue Q R N C → W
    → W → Type 0
IsStep asks (Over n cause) next old new = ⊥
IsStep asks (Ask n side request more) next old new =
    (reply : _) × asks side old request (Ok reply) new × (next ≡ more reply)
