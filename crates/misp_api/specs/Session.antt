-- Sessions: the turns of a connection, one after another.
use Rattle.std.specs.Prelude.{◌≡◌, ◌⊎◌, ◌<◌, ◌+◌, ◌==◌, ℕ, zero, suc, Bool, List, codes, Option, Some, None}
use Rattle.misp_http.specs.declared.request.ReadEnd.{ReadEnd}
use Rattle.misp_http.specs.declared.request.ReadEnd.TheVariants as reading
use Rattle.misp_core.specs.Prelude.{Standing}
use Rattle.misp_api.specs.Turn.{Point, IsAt, Goes, Turned}
use Rattle.misp_api.specs.declared.TheConstants.{MAX_REQUESTS}
use Rattle.misp_api.specs.declared.sessions.End.{End}
use Rattle.misp_api.specs.declared.sessions.End.TheVariants as ends
use Rattle.misp_api.specs.declared.sessions.SessionEnd.{SessionEnd}
use Rattle.misp_api.specs.declared.turn.Turn.{Turn}
use Rattle.misp_api.specs.declared.turn.Turn.TheVariants as turns

-- whether a turn after so many is the last that there may be
abbrev pub is_last : ℕ → Bool
is_last n = n + 1 == MAX_REQUESTS

-- so many requests were answered, of which none ended the session
abbrev pub Runs : ℕ → ℕ → Point → Point → Type 0
Runs now zero p q = q ≡ p
Runs now (suc n) p q = (mid : Point) × Runs now n p mid × Goes now (is_last n) mid q

-- how a session ends where there is no request
abbrev pub end_of : ReadEnd → End
end_of reading.Ended = ends.Ended
end_of reading.Cut = ends.Cut
end_of reading.ReadFault = ends.ReadFault
end_of reading.NoMemory = ends.NoMemory

-- as lines name it
abbrev pub end_name : End → List ℕ
end_name ends.Closed = codes "Closed"
end_name ends.Ended = codes "Ended"
end_name ends.Cut = codes "Cut"
end_name ends.Quota = codes "Quota"
end_name ends.ReadFault = codes "ReadFault"
end_name ends.WriteFault = codes "WriteFault"
end_name ends.NoMemory = codes "NoMemory"

abbrev pub ended : ℕ → End → Option SessionEnd
ended requests end = Some (record { requests = requests; end = end })

-- how it ends by a turn after so many, if it does
abbrev pub end_after : ℕ → Turn → Option SessionEnd
end_after n turns.Goes = None
end_after n turns.Closes = ended (n + 1) ends.Closed
end_after n turns.WriteFault = ended (n + 1) ends.WriteFault
end_after n (turns.Ends end) = ended n (end_of end)
end_after n turns.NoRoom = ended n ends.NoMemory

-- It ended by its last turn, or by the number of its requests.
abbrev pub Session : ℕ → Point → SessionEnd
    → Option (List ℕ) → Standing → Option ℕ → Option (List ℕ) → Type 0
Session now p end bytes instance word written =
    ((n : ℕ) × (n < MAX_REQUESTS) × (q : Point) × (turn : Turn) × Runs now n p q
    × Turned now (is_last n) q turn bytes instance word written
    × (end_after n turn ≡ Some end))
    ⊎ ((q : Point) × Runs now MAX_REQUESTS p q × IsAt bytes instance word written q
    × (ended MAX_REQUESTS ends.Quota ≡ Some end))
