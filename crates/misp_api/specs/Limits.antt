-- The limits of a session.
use Rattle.std.specs.Prelude.{ℕ}

-- the most requests of a connection
abbrev pub request_limit : ℕ
request_limit = 1000

-- the room that is made before a request is answered, in bytes
abbrev pub room_limit : ℕ
room_limit = 4096

-- the longest text of the reply to a change, in bytes
abbrev pub change_limit : ℕ
change_limit = 1000
