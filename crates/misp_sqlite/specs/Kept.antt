-- The table of kept rows, and what the statements mean over it.
use Rattle.std.specs.Prelude.{true, false, [], ◌∷◌, Some, None, codes, List, ℤ, pos, negsuc}
use Rattle.sqlite_value.specs.declared.keys.Collation.TheVariants.{Binary}
use Rattle.sqlite_value.specs.declared.keys.Key.{Key}
use Rattle.sqlite_value.specs.declared.value.Value.TheVariants.{Null, Int, Blob as Bytes}
use Rattle.sqlite_sql.specs.Term.{Term, lit, col, op1, op2}
use Rattle.sqlite_sql.specs.Query.{Query, inner, end}
use Rattle.sqlite_sql.specs.declared.ops.BinaryOp.TheVariants.{Compare, Is}
use Rattle.sqlite_sql.specs.declared.ops.CompareOp.TheVariants.{Eq, Ne, Lt, Ge}
use Rattle.sqlite_sql.specs.declared.ops.UnaryOp.TheVariants.{Not}
use Rattle.sqlite_schema.specs.declared.schema.Table.{Table}
use Rattle.sqlite_schema.specs.declared.schema.Index.{Index}
use Rattle.sqlite_schema.specs.declared.schema.Schema.{Schema}
use Rattle.sqlite_schema.specs.declared.schema.Kind.TheVariants.{Integer, Blob}
use Rattle.sqlite_schema.specs.declared.command.Command.{Command}
use Rattle.sqlite_schema.specs.declared.command.Command.TheVariants.{InsertOr}
use Rattle.sqlite_schema.specs.declared.command.Source.TheVariants.{Values}
use Rattle.sqlite_schema.specs.declared.command.Conflict.TheVariants.{Abort}
use Rattle.sqlite.specs.Change.{created}

abbrev pub kept : Table
kept = record {
  name = codes "kept_row";
  tree = 0;
  columns = (record { name = codes "event"; kind = Blob; is_strict = true; not_null = true; default = Null; collation = Binary })
      ∷ (record { name = codes "kind"; kind = Integer; is_strict = true; not_null = true; default = Null; collation = Binary })
      ∷ (record { name = codes "name"; kind = Blob; is_strict = true; not_null = true; default = Null; collation = Binary })
      ∷ (record { name = codes "bytes"; kind = Blob; is_strict = true; not_null = true; default = Null; collation = Binary }) ∷ [];
  key = None;
  primary = 1 ∷ 2 ∷ 3 ∷ [];
  uniques = (1 ∷ 2 ∷ 3 ∷ []) ∷ [];
  orders = (record { digits = 0 }) ∷ [];
  checks = [];
  references = [];
  computed = [];
  stamps = record { places = []; terms = []; formats = [] };
  is_counted = false;
}

-- its index, for the primary key
abbrev pub kept_index : Index
kept_index = record { name = codes "sqlite_autoindex_kept_row_1"; tree = 1; table = 0; columns = 1 ∷ 2 ∷ 3 ∷ []; order = record { digits = 0 }; is_unique = true }

abbrev pub no_schema : Schema
no_schema = record { tables = []; indexes = []; views = [] }

abbrev pub kept_schema : Schema
kept_schema = created no_schema kept

abbrev pub rising : Key
rising = record { collation = Binary; descending = false }

-- the rows of the table that pass all of the terms, shown as the columns, in the order of some, and
-- no more than so many of them; below 0, all
abbrev pub selection_within : ℤ → List Term → List Term → List (Term × Key) → Query
selection_within most terms columns order = record {
  from = inner 0 end;
  filter = terms;
  group = None;
  project = columns;
  distinct = false;
  collations = [];
  order = order;
  limit = lit (Int most);
  offset = lit (Int (pos 0));
}

-- all rows of the table that pass
abbrev pub selection : List Term → List Term → List (Term × Key) → Query
selection terms columns order = selection_within (negsuc 0) terms columns order

-- it has a rowid
abbrev numbered : Term
numbered = op1 Not (op2 (Is Binary) (col 1 0) (lit Null))

-- its event is the first of the values that are given
abbrev has_event : Term
has_event = op2 (Compare Eq Binary) (col 1 1) (col 0 0)

-- its kind is that of a row of an event
abbrev has_kind : Term
has_kind = op2 (Compare Eq Binary) (col 1 2) (lit (Int (pos 0)))

-- the rows under the bytes of an event
abbrev pub one_query : Query
one_query = selection (has_event ∷ numbered ∷ []) (col 1 2 ∷ col 1 3 ∷ col 1 4 ∷ []) ((col 1 2, rising) ∷ (col 1 3, rising) ∷ [])

-- the rows of an event whose names are in a range
abbrev pub between_query : Query
between_query = selection (has_event ∷ has_kind ∷ op2 (Compare Ge Binary) (col 1 3) (col 0 1) ∷ op2 (Compare Lt Binary) (col 1 3) (col 0 2) ∷ numbered ∷ [])
    (col 1 2 ∷ col 1 3 ∷ col 1 4 ∷ []) ((col 1 2, rising) ∷ (col 1 3, rising) ∷ [])

-- the first two of the rows of an event whose names are not before the given one
abbrev pub next_query : Query
next_query = selection_within (pos 2) (has_event ∷ has_kind ∷ op2 (Compare Ge Binary) (col 1 3) (col 0 1) ∷ numbered ∷ [])
    (col 1 2 ∷ col 1 3 ∷ col 1 4 ∷ []) ((col 1 2, rising) ∷ (col 1 3, rising) ∷ [])

-- the rows of all events
abbrev pub all_query : Query
all_query = selection (op2 (Compare Ne Binary) (col 1 1) (lit (Bytes [])) ∷ numbered ∷ [])
    (col 1 1 ∷ col 1 2 ∷ col 1 3 ∷ col 1 4 ∷ []) ((col 1 1, rising) ∷ (col 1 2, rising) ∷ (col 1 3, rising) ∷ [])

-- what becomes of a row that is there: its bytes are those that were not put in
abbrev pub update_query : Query
update_query = selection (op2 (Compare Eq Binary) (col 1 0) (col 0 4) ∷ []) (col 1 0 ∷ col 1 0 ∷ col 1 1 ∷ col 1 2 ∷ col 1 3 ∷ col 0 9 ∷ []) []

-- the row is put in, or else the one of its name is written again
abbrev pub put_command : Command
put_command = InsertOr 0 Abort (Values (lit Null ∷ col 0 0 ∷ col 0 1 ∷ col 0 2 ∷ col 0 3 ∷ []) 5)
    ((record { target = Some (1 ∷ 2 ∷ 3 ∷ []); update = Some (record { lets = []; body = update_query }) }) ∷ [])
