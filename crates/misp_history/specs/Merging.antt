-- What a synchronisation does to tables, told by rows alone: which rows pass, and which are taken.
use Rattle.std.specs.Prelude.{true, false, List, filter, map, Bool, not, ◌&&◌, ◌||◌, leb, ◌≡◌, [], ◌∷◌, ◌++◌, ℕ, suc, zero, Contains}
use Rattle.misp_model.specs.Arrival.{may_come}
use Rattle.misp_model.specs.Prelude.{Group, Inst, IsTable, OrgId, Row, event_key, event_of, has_copy, is_row_of, is_statement, is_tombstone, known, list_any, same_key, same_org}
use Rattle.misp_model.specs.Machine.{put_all}
use Rattle.misp_history.specs.Passing.{Route, passes}
unfoldable pub use Rattle.misp_model.specs.Packing.{arrived, cut, is_own, others_with, packages}
pub use Rattle.misp_model.specs.Packing.{onto}

-- a row as it is handed in: the owner's, carried and not held
unfoldable pub handed : OrgId → Row → Row
handed w row = record row { owner = w; held = false; carried = true }

-- of a table the rows that pass: nothing is looked at but what the organisation of the
-- synchronisation knows there
unfoldable pub passing_rows : List Row → List Group → Route → List Row
passing_rows rows groups route =
    filter (passes (known rows groups route.from route.«for») groups route)
    (known rows groups route.from route.«for»)

-- as they arrive
unfoldable pub arriving_rows : List Row → List Group → Route → List Row
arriving_rows rows groups route = map (arrived route) (passing_rows rows groups route)

-- the arriving row may come; rows are the receiver's, i its name
unfoldable pub is_welcome_row : Inst → List Row → List Group → Row → Bool
is_welcome_row i rows groups row = may_come i rows groups row.owner row.key row.label

-- the owner has a copy of the row's event, or an event row of it comes that is welcome
unfoldable pub has_event_row : Inst → List Row → List Group → List Row → Row → Bool
has_event_row i rows groups coming row =
    has_copy rows row.owner (event_of row.key)
    || list_any
    (λ r. same_key r.key (event_key (event_of row.key)) && is_welcome_row i rows groups r) coming

-- the arriving row counts
unfoldable pub counts_row : Inst → List Row → List Group → List Row → Row → Bool
counts_row i rows groups coming row =
    is_welcome_row i rows groups row
    && (is_statement row.key || has_event_row i rows groups coming row)

-- no row of its owner and key is as new
unfoldable pub is_newer_row : List Row → Row → Bool
is_newer_row rows row =
    not (list_any (λ r. is_row_of row.owner row.key r && leb row.stamp r.stamp) rows)

-- the arriving rows that are taken: those that count and are newer
unfoldable pub rows_taken : Inst → List Row → List Group → List Row → List Row
rows_taken i rows groups coming =
    filter (is_newer_row rows) (filter (counts_row i rows groups coming) coming)

-- the rows afterwards: each that is taken in the place of its owner's row of that key
unfoldable pub merged : Inst → List Row → List Group → List Row → List Row
merged i rows groups coming = put_all (rows_taken i rows groups coming) rows

-- ---- by packages

-- what arrives for an owner: all of it the owner's, carried, and no tombstone
unfoldable pub arrives : OrgId → Row → Bool
arrives w row = same_org row.owner w && (row.carried && not (is_tombstone row))

-- a package of what comes: some of it, each key once, and of each event the event's own row
pub record IsPackageOf (coming part : List Row) : Type 0 where
  pub apart : IsTable part
  pub come : (row : Row) → Contains part row → Contains coming row
  pub with_event : (row : Row) → Contains part row →
      list_any (λ r. same_key r.key (event_key (event_of row.key))) part ≡ true

-- packages merged one after another
unfoldable pub merged_by : Inst → List Row → List Group → List (List Row) → List Row
merged_by i rows groups [] = rows
merged_by i rows groups (p ∷ ps) = merged_by i (merged i rows groups p) groups ps

-- the row counts and is newer
unfoldable pub is_taken : Inst → List Row → List Group → List Row → Row → Bool
is_taken i rows groups coming row = counts_row i rows groups coming row && is_newer_row rows row

-- the rows of a package that pass the test, and of whose name none is among these
abbrev pub fresh : (Row → Bool) → List Row → List Row → List Row
fresh test so p =
    filter (λ row. test row && not (list_any (is_row_of row.owner row.key) so)) p

-- the rows of packages that pass the test, each name once; those of so came before
unfoldable pub brought : (Row → Bool) → List Row → List (List Row) → List Row
brought test so [] = []
brought test so (p ∷ ps) = fresh test so p ++ brought test (so ++ fresh test so p) ps

abbrev pub more_where : {A : Type 0} → List A → ℕ → ℕ
more_where [] n = n
more_where (x ∷ xs) n = suc n

abbrev pub fewer_where : {A : Type 0} → List A → ℕ → ℕ
fewer_where [] n = suc n
fewer_where (x ∷ xs) n = n

-- how many of the packages bring a row
unfoldable pub count_bringing : (Row → Bool) → List Row → List (List Row) → ℕ
count_bringing test so [] = 0
count_bringing test so (p ∷ ps) =
    more_where (fresh test so p) (count_bringing test (so ++ fresh test so p) ps)

-- the packages up to the n-th that brings a row
unfoldable pub bringing : ℕ → (Row → Bool) → List Row → List (List Row) → List (List Row)
bringing zero test so ps = []
bringing (suc n) test so [] = []
bringing (suc n) test so (p ∷ ps) =
    p ∷ bringing (fewer_where (fresh test so p) n) test (so ++ fresh test so p) ps
