-- What is told of the dial in memory.
use Rattle.std.specs.Prelude.{ℕ, Bool, true, false, List, map, Option, None, Result, Ok, Err, if◌then◌else◌, vec_items}
use Rattle.std.specs.List.{slice_get}
use Rattle.misp_outside.specs.Failing.{calls_so_far, failing_calls, fails_next}
use Rattle.misp_outside.specs.Wires.{Asked}
use Rattle.misp_outside.specs.declared.fault.WireFault.{WireFault}
use Rattle.misp_outside.specs.declared.memory.dial.MemAsk.{MemAsk}
use Rattle.misp_outside.specs.declared.memory.dial.MemDial.{MemDial}
use Rattle.misp_outside.specs.declared.memory.dial.Replies.{Replies}

-- ---- asks

-- one ask: the address, the bytes, and the reply, or none where it failed
abbrev pub asked : List ℕ → List ℕ → Option (List ℕ) → Asked
asked address bytes reply = record { address = address; bytes = bytes; reply = reply }

-- the ask as it is told
abbrev pub asked_of : MemAsk → Asked
asked_of ask = asked ask.address ask.bytes ask.reply

-- the call was answered or failed, and memory did not run out
abbrev pub is_counted : {A : Type 0} → Result A WireFault → Bool
is_counted (Ok reply) = true
is_counted (Err WireFault.Failed) = true
is_counted (Err WireFault.NoMemory) = false

-- ---- replies

-- the replies of the calls to come, in their order
abbrev pub replies_left : Replies → List (List ℕ)
replies_left replies = map vec_items replies.left.items

-- the reply of the next call: the first, or none where the call fails or there is no reply
abbrev pub next_reply : Replies → Option (List ℕ)
next_reply replies =
    if fails_next replies.failing then None else slice_get (replies_left replies) 0

-- ---- the dial

-- the asks so far
abbrev pub dial_asks : MemDial → List Asked
dial_asks dial = map asked_of dial.asks.items

-- the replies of the calls to come, in their order
abbrev pub dial_replies : MemDial → List (List ℕ)
dial_replies dial = replies_left dial.replies

-- the reply of the next call, or none where it fails
abbrev pub dial_next : MemDial → Option (List ℕ)
dial_next dial = next_reply dial.replies

-- how often it has failed
abbrev pub dial_faults : MemDial → ℕ
dial_faults dial = dial.replies.failing.faults

-- how often it was asked, up to 2 ^ 64 - 1
abbrev pub dial_calls : MemDial → ℕ
dial_calls dial = calls_so_far dial.replies.failing

-- the numbers of those calls that fail
abbrev pub dial_failing : MemDial → List ℕ
dial_failing dial = failing_calls dial.replies.failing
