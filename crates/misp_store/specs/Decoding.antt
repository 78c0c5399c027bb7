-- What is read of rows and groups one after another, and what their readers answer.
use Rattle.std.specs.Prelude.{◌≡◌, ℕ, List, Result, Ok, Err, None}
use Rattle.misp_effects.specs.Prelude.{AdminRow, Group, RawRow, Row, put_groups}
use Rattle.misp_store.specs.declared.fault.RowFault.{RowFault}
use Rattle.misp_store.specs.Raw.{row_in}
use Rattle.misp_store.specs.Sharing.{group_in}

-- the row that is held there is none
abbrev pub IsNoRow : RawRow → RowFault → Type 0
IsNoRow raw (RowFault.BadRow name) = (name ≡ raw.name) × (row_in raw ≡ None)
IsNoRow raw RowFault.NoMemory = Unit {0}

-- the first row that is none has this name
abbrev pub NamesBadRow : Result (List Row) (List ℕ) → RowFault → Type 0
NamesBadRow read (RowFault.BadRow name) = read ≡ Err name
NamesBadRow read RowFault.NoMemory = Unit {0}

-- these groups with those that are read put in their places
abbrev pub put_onto : List Group → Result (List Group) (List ℕ) → Result (List Group) (List ℕ)
put_onto groups (Ok others) = Ok (put_groups groups others)
put_onto groups (Err name) = Err name

-- the group that is held there is none
abbrev pub IsNoGroup : AdminRow → RowFault → Type 0
IsNoGroup row (RowFault.BadRow name) = (name ≡ row.name) × (group_in row ≡ None)
IsNoGroup row RowFault.NoMemory = Unit {0}

-- the first row of a group that is none has this name
abbrev pub NamesBadGroup : Result (List Group) (List ℕ) → RowFault → Type 0
NamesBadGroup read (RowFault.BadRow name) = read ≡ Err name
NamesBadGroup read RowFault.NoMemory = Unit {0}
