-- How long the lists of a description may be.
use Rattle.std.specs.Prelude.{ℕ}

-- the most organisations
abbrev pub org_limit : ℕ
org_limit = 1000

-- the most instances
abbrev pub instance_limit : ℕ
instance_limit = 16

-- the most keys
abbrev pub key_limit : ℕ
key_limit = 1000

-- the most links
abbrev pub link_limit : ℕ
link_limit = 200
