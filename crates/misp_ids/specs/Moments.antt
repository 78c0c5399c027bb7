-- Moments, as the definitions of the server see them: numbers of seconds.
use Rattle.std.specs.Prelude.{ℕ, ◌+◌, max}

-- a moment, in seconds
abbrev pub Stamp : Type 0
Stamp = ℕ

-- the greatest stamp
unfoldable pub last_stamp : ℕ
last_stamp = 253402300799

-- the stamp of a change: now, or one more than the old stamp where that is greater
unfoldable pub next_stamp : Stamp → Stamp → Stamp
next_stamp now old = max now (old + 1)
