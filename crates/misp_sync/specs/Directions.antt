-- A synchronisation in each direction: what it comes to, and which of the two takes.
use Rattle.std.specs.Prelude.{ℕ, Bool, List, Option}
use Rattle.misp_dialogue.specs.declared.side.Side.{Side}
use Rattle.misp_ids.specs.declared.label.Direction.{Direction}
use Rattle.misp_ids.specs.Same.{Inst}
use Rattle.misp_effects.specs.Effect.{Telling}
use Rattle.misp_effects.specs.declared.stop.Stop.{Stop}
use Rattle.misp_history.specs.Passing.{Route}
use Rattle.misp_core.specs.Prelude.{Effect, Group, Host, Seen}
use Rattle.misp_sync.specs.History.{push_route_of, route_of}
use Rattle.misp_sync.specs.Pulled.{pulled, telling}
use Rattle.misp_sync.specs.Pushed.{counted_by, push_telling, pushed}
use Rattle.misp_sync.specs.declared.reply.SyncReply.{SyncReply}

-- of what is here and what is there that of the one that takes
abbrev pub taker : {A : Type 0} → Direction → A → A → A
taker Direction.Pull here there = here
taker Direction.Push here there = there

-- and that of the other
abbrev pub giver : {A : Type 0} → Direction → A → A → A
giver Direction.Pull here there = there
giver Direction.Push here there = here

-- the sides of the own instance and of the peer in its dialogue
abbrev pub own_side : Direction → Side
own_side Direction.Pull = Side.Sink
own_side Direction.Push = Side.Source

abbrev pub peer_side : Direction → Side
peer_side Direction.Pull = Side.Source
peer_side Direction.Push = Side.Sink

-- what it comes to over a link: what is seen here, and at the peer
abbrev pub synced_on : Direction → Host → Inst → Host → Seen → Seen → Effect SyncReply
synced_on Direction.Pull here link peer own there = pulled here link peer own there
synced_on Direction.Push here link peer own there = pushed here link peer own there

-- how a stop is told
abbrev pub telling_on : Direction → Telling SyncReply
telling_on Direction.Pull = telling
telling_on Direction.Push = push_telling

-- how many of the batches that were put it counts then
abbrev pub counted_on : Direction → Stop → Bool → ℕ → ℕ
counted_on Direction.Pull stop lost n = n
counted_on Direction.Push stop lost n = counted_by stop lost n

-- its route, these being the groups here
abbrev pub route_on : Direction → Host → Inst → Host → List Group → Option Route
route_on Direction.Pull here link peer groups = route_of here link peer
route_on Direction.Push here link peer groups = push_route_of here link peer groups
