-- Connections, served one after another.
use Rattle.std.specs.Prelude.{◌≡◌, ◌⊎◌, ◌+◌, ◌≤◌, ℕ, zero, suc, List, [], ◌∷◌, ◌++◌, codes, decimal, IsSome, Bool, true, false, Option, Some, Result, Ok, Err}
use Rattle.std.specs.Io.KnownBytes.{prepend_known, Appends}
use Rattle.misp_outside.specs.Causes.{HasCause}
use Rattle.misp_outside.specs.Wires.{Connection}
use Rattle.misp_http.specs.Streams.{AppendsSome}
use Rattle.misp_core.specs.Prelude.{Standing}
use Rattle.misp_api.specs.Session.{Session, end_name}
use Rattle.misp_api.specs.declared.sessions.End.{End}
use Rattle.misp_api.specs.declared.sessions.SessionEnd.{SessionEnd}
use Rattle.misp_app.specs.declared.serving.ServeFault.{ServeFault}
use Rattle.misp_app.specs.declared.serving.ServeFault.TheVariants as faults

-- ---- lines

-- the number of a connection, how its session ended, and how many requests were answered
abbrev pub line_of : ℕ → SessionEnd → List ℕ
line_of number end =
    decimal number ++ codes " " ++ end_name end.end ++ codes " " ++ decimal end.requests
    ++ codes "\n"

abbrev pub IsLineFault : ServeFault → Type 0
IsLineFault faults.DoorFault = ⊥
IsLineFault faults.WriteFault = Unit {0}
IsLineFault faults.OutOfMemory = Unit {0}

-- ---- one connection

-- the instance, the next word of the clock, and the connections that were given back
pub record Server : Type 0 where
  pub instance : Standing
  pub word : ℕ
  pub back : List Connection

-- how the instance stands, and what clock and door tell
pub record IsServer
    (instance : Standing) (word : Option ℕ) (back : Option (List Connection)) (s : Server)
    : Type 0 where
  pub instance_is : instance ≡ s.instance
  pub word_is : word ≡ Some s.word
  pub back_is : back ≡ Some s.back

-- a connection that tells the bytes of both its ends
abbrev pub IsTold : Connection → Type 0
IsTold c = IsSome c.left × IsSome c.written

-- a session over a connection, as it came and as it was given back
abbrev pub Connects : ℕ → Connection → Connection → Server → Server → SessionEnd → Type 0
Connects now first last s after end =
    (bytes : List ℕ) × (written : List ℕ) × (rest : List ℕ)
    × (first.left ≡ Some bytes) × (first.written ≡ Some written)
    × Session now
    (record { bytes = bytes; instance = s.instance; word = s.word; written = written })
    end (prepend_known rest last.left) after.instance (Some after.word) last.written

-- the first of the connections was served, after so many, with this line
pub record ServesOne (now n : ℕ) (s : Server) (coming : List Connection)
    (after : Server) (later : List Connection) (line : List ℕ) : Type 0 where
  pub first : Connection
  pub last : Connection
  pub end : SessionEnd
  pub came : coming ≡ first ∷ later
  pub back : after.back ≡ s.back ++ last ∷ []
  pub session : Connects now first last s after end
  -- a fault of its source or its sink is told only where the count of that rose
  pub read : HasCause first.source_faults last.source_faults (end.end ≡ End.ReadFault)
  pub write : HasCause first.sink_faults last.sink_faults (end.end ≡ End.WriteFault)
  pub line_is : line ≡ line_of (n + 1) end

-- how that went
abbrev pub OneServed : ℕ → ℕ → Server → List Connection
    → Standing → Option ℕ → Option (List Connection) → Option (List Connection)
    → Option (List ℕ) → Option (List ℕ) → Result Bool ServeFault → Type 0
OneServed now n s coming instance word back later before behind (Ok true) =
    (after : Server) × (left : List Connection) × (line : List ℕ)
    × ServesOne now n s coming after left line
    × IsServer instance word back after × (later ≡ Some left) × Appends before behind line
OneServed now n s coming instance word back later before behind (Ok false) =
    IsServer instance word back s × (coming ≡ []) × (later ≡ Some coming) × (behind ≡ before)
OneServed now n s coming instance word back later before behind (Err faults.DoorFault) =
    IsServer instance word back s × (later ≡ Some coming) × (behind ≡ before)
OneServed now n s coming instance word back later before behind (Err fault) =
    (after : Server) × (left : List Connection) × (line : List ℕ)
    × ServesOne now n s coming after left line
    × IsServer instance word back after × (later ≡ Some left) × AppendsSome before behind line

-- ---- all connections

-- so many connections were served, with these lines
abbrev pub Serves : ℕ → ℕ → Server → List Connection
    → Server → List Connection → List ℕ → Type 0
Serves now zero s coming after left lines = (after ≡ s) × (left ≡ coming) × (lines ≡ [])
Serves now (suc n) s coming after left lines =
    (mid : Server) × (others : List Connection) × (front : List ℕ) × (line : List ℕ)
    × Serves now n s coming mid others front
    × ServesOne now n mid others after left line × (lines ≡ front ++ line)

-- As many connections were served as were asked for or came, or as the door, the sink and memory
-- allowed, and never more than were asked for. Where the door failed, all their lines were written.
abbrev pub Served : {U : Type 0} → ℕ → ℕ → Server → List Connection
    → Standing → Option ℕ → Option (List Connection) → Option (List Connection)
    → Option (List ℕ) → Option (List ℕ) → Result U ServeFault → Type 0
Served now count s coming instance word back later before behind (Ok done) =
    (n : ℕ) × (after : Server) × (left : List Connection) × (lines : List ℕ) × (n ≤ count)
    × Serves now n s coming after left lines
    × IsServer instance word back after × (later ≡ Some left) × Appends before behind lines
    × ((n ≡ count) ⊎ (left ≡ []))
Served now count s coming instance word back later before behind (Err faults.DoorFault) =
    (n : ℕ) × (after : Server) × (left : List Connection) × (lines : List ℕ) × (n ≤ count)
    × Serves now n s coming after left lines
    × IsServer instance word back after × (later ≡ Some left) × Appends before behind lines
Served now count s coming instance word back later before behind (Err fault) =
    (n : ℕ) × (after : Server) × (left : List Connection) × (lines : List ℕ) × (n ≤ count)
    × Serves now n s coming after left lines
    × IsServer instance word back after × (later ≡ Some left) × AppendsSome before behind lines
