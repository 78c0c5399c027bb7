-- What the texts mean, by computing.
use Rattle.std.proofs.Common.{◌≡◌, List, ℕ, [], ◌∷◌, codes, false, Ok, refl}
use Rattle.sqlite_sql.specs.Query.{Query}
use Rattle.sqlite.specs.Compile.{table_defined_by}
use Rattle.sqlite.specs.Command.TheVariants.{CreateTable, Select}
use Rattle.sqlite_tied.specs.Compute.{everything}
use Rattle.sqlite.specs.Listing.{understood, reads_listing}
use Rattle.sqlite.proofs.Callers.{IsPlain, command_of, statement_of}
use Rattle.misp_sqlite.specs.Kept.{kept, kept_schema, no_schema, one_query, between_query, next_query, all_query, put_command}
use Rattle.misp_sqlite.specs.Texts.{create_text, put_text, one_text, between_text, next_text, all_text}

-- the text is a selection over the table, and reads none of SQLite's own
pub record Selects (sql : List ℕ) (q : Query) (names : List (List ℕ)) : Type 0 where
  pub means : command_of (understood kept_schema sql) ≡ Select (record { lets = []; body = q }) names
  pub unlisted : reads_listing kept_schema sql ≡ false
  pub plain : IsPlain (understood kept_schema sql)

-- the names of the columns that the selections of one event show
abbrev three : List (List ℕ)
three = codes "kind" ∷ codes "name" ∷ codes "bytes" ∷ []

pub one_is : Selects one_text one_query three
unfolding understood everything
one_is = record { means = refl; unlisted = refl; plain = (refl, refl) }

pub between_is : Selects between_text between_query three
unfolding understood everything
between_is = record { means = refl; unlisted = refl; plain = (refl, refl) }

pub next_is : Selects next_text next_query three
unfolding understood everything
next_is = record { means = refl; unlisted = refl; plain = (refl, refl) }

pub all_is : Selects all_text all_query (codes "event" ∷ three)
unfolding understood everything
all_is = record { means = refl; unlisted = refl; plain = (refl, refl) }

pub put_is : command_of (understood kept_schema put_text) ≡ put_command
unfolding understood everything
put_is = refl

pub put_plain : IsPlain (understood kept_schema put_text)
unfolding understood everything
put_plain = (refl, refl)

pub create_is : (command_of (understood no_schema create_text) ≡ CreateTable) × (table_defined_by create_text ≡ Ok kept)
unfolding understood everything
create_is = (refl, refl)

pub create_plain : IsPlain (understood no_schema create_text)
unfolding understood everything
create_plain = (refl, refl)

-- it is the whole text
pub create_whole : statement_of create_text (understood no_schema create_text) ≡ create_text
unfolding understood everything
create_whole = refl
