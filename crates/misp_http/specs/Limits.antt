-- How many bytes and headers a request may have.
use Rattle.std.specs.Prelude.{ℕ}

-- the most bytes that are looked at for a head
abbrev pub head_limit : ℕ
head_limit = 16384

-- the most headers of a head
abbrev pub header_limit : ℕ
header_limit = 64

-- the most bytes of a body
abbrev pub body_limit : ℕ
body_limit = 8388608
