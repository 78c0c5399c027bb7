-- How long a source may be, and over how many keepers it is run.
use Rattle.std.specs.Prelude.{ℕ}

-- the most bytes of a source
abbrev pub source_limit : ℕ
source_limit = 67108864

-- the fewest keepers, as many as a description has instances at most
abbrev pub least_keepers : ℕ
least_keepers = 16
