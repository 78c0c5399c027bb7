-- What a dialogue asks, and how it goes on by each reply.
use Rattle.std.specs.Prelude.{◌≡◌, Option}
use Rattle.misp_dialogue.specs.declared.side.Side.{Side}
use Rattle.misp_dialogue.specs.declared.turn.Turn.{Turn}

-- So much was taken so far. It is over, where this ends it if anything does; or it asks a party and
-- goes on by the reply.
pub data Dialogue (Q R N C : Type 0) : Type 0 where
  Over : N → Option C → Dialogue Q R N C
  Ask : N → Side → Q → (R → Dialogue Q R N C) → Dialogue Q R N C

-- how much was taken so far
abbrev pub counted : {Q R N C : Type 0} → Dialogue Q R N C → N
counted (Over n why) = n
counted (Ask n side request more) = n

-- how it goes on by a reply
abbrev pub after_reply : {Q R N C : Type 0} → Dialogue Q R N C → R → Dialogue Q R N C
after_reply (Over n why) reply = Over n why
after_reply (Ask n side request more) reply = more reply

abbrev pub IsAsking : {Q R N C : Type 0} → Dialogue Q R N C → Type 0
IsAsking (Over n why) = ⊥
IsAsking (Ask n side request more) = Unit {0}

-- it is over, and this ended it if anything did
abbrev pub IsOver : {Q R N C : Type 0} → Dialogue Q R N C → Option C → Type 0
IsOver (Over n why) end = end ≡ why
IsOver (Ask n side request more) end = ⊥

-- this is asked next, and it goes on so by the reply
abbrev pub IsAsk : {Q R N C : Type 0} → Dialogue Q R N C → Side → Q → (R → Dialogue Q R N C)
    → Type 0
IsAsk (Over n why) s q next = ⊥
IsAsk (Ask n side request more) s q next = (s ≡ side) × (q ≡ request) × (next ≡ more)

-- this comes next, and it goes on so by the reply, where there is one to come
abbrev pub IsTurn : {Q R N C : Type 0} → Dialogue Q R N C → (R → Dialogue Q R N C) → Turn Q C
    → Type 0
IsTurn d next (Turn.Over end) = IsOver d end
IsTurn d next (Turn.Ask side request) = IsAsk d side request next

-- something comes next
abbrev pub IsNext : {Q C : Type 0} → Turn Q C → Type 0
IsNext (Turn.Over end) = ⊥
IsNext (Turn.Ask side request) = Unit {0}
