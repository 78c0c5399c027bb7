-- What the statements ask for.
use Rattle.std.specs.Prelude.{List, ℕ, codes}

abbrev pub create_text : List ℕ
create_text = codes "CREATE TABLE IF NOT EXISTS kept_row (event BLOB NOT NULL, kind INTEGER NOT NULL, name BLOB NOT NULL, bytes BLOB NOT NULL, PRIMARY KEY (event, kind, name)) STRICT"

abbrev pub put_text : List ℕ
put_text = codes "INSERT INTO kept_row (event, kind, name, bytes) VALUES (?1, ?2, ?3, ?4) ON CONFLICT (event, kind, name) DO UPDATE SET bytes = excluded.bytes"

abbrev pub one_text : List ℕ
one_text = codes "SELECT kind, name, bytes FROM kept_row WHERE event = ?1 AND rowid IS NOT NULL ORDER BY kind, name"

abbrev pub between_text : List ℕ
between_text = codes "SELECT kind, name, bytes FROM kept_row WHERE event = ?1 AND kind = 0 AND name >= ?2 AND name < ?3 AND rowid IS NOT NULL ORDER BY kind, name"

abbrev pub next_text : List ℕ
next_text = codes "SELECT kind, name, bytes FROM kept_row WHERE event = ?1 AND kind = 0 AND name >= ?2 AND rowid IS NOT NULL ORDER BY kind, name LIMIT 2"

abbrev pub all_text : List ℕ
all_text = codes "SELECT event, kind, name, bytes FROM kept_row WHERE event <> x'' AND rowid IS NOT NULL ORDER BY event, kind, name"
