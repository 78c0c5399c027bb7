-- What is read for an ask.
use Rattle.std.specs.Prelude.{ℕ, List, Option, None, Some, Result, Ok, Err}
use Rattle.misp_model.specs.declared.ask.Ask.{Ask}
use Rattle.misp_model.specs.declared.ask.Ask.TheVariants.{View}
use Rattle.misp_model.specs.declared.looks.Looks.{Looks}
use Rattle.misp_model.specs.Looking.{more_looks, over}
use Rattle.misp_model.specs.Scene.{Scene}
use Rattle.misp_store.specs.Prelude.{Row, reach_of}
use Rattle.misp_store.specs.declared.reach.Reach.{Reach}

-- the rows within each reach, or the name of the first that is none
abbrev pub ReadRows : Type 0
ReadRows = Reach → Result (List Row) (List ℕ)

-- these rows, or in their place those that are looked at then
abbrev pub rows_then : ReadRows → List Row → Option Looks → Result (List Row) (List ℕ)
rows_then read rows None = Ok rows
rows_then read rows (Some l) = read (Reach.Looked l)

-- by what is read first
abbrev pub after_first :
    Scene → Ask → ReadRows → Result (List Row) (List ℕ) → Result (List Row) (List ℕ)
after_first s ask read (Ok rows) = rows_then read rows (more_looks (over s rows) ask)
after_first s ask read (Err name) = Err name

-- what is within the reach of an ask; for a view and a change, what it looks at then, by what is
-- found there
abbrev pub rows_read : Scene → Ask → ReadRows → Result (List Row) (List ℕ)
rows_read s (View event owner) read =
    after_first s (View event owner) read (read (reach_of s.at s.by (View event owner)))
rows_read s (Ask.Change change) read =
    after_first s (Ask.Change change) read (read (reach_of s.at s.by (Ask.Change change)))
rows_read s ask read = read (reach_of s.at s.by ask)
