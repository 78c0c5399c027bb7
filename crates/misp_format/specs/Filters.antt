-- THE TABLE of searches: the members of a filter in the order in which they are read. What is
-- absent is left open.
--     MEMBER ← given_row it NAME READER
use Rattle.std.specs.Prelude.{ℕ, List, [], ◌∷◌, ◌++◌, codes, Option, option_map, Result, Ok, Err, position, bytes_eq}
use Rattle.serde_json.specs.Data.{Data, no_items}
use Rattle.misp_fields.specs.declared.need.Need.{Need}
use Rattle.misp_fields.specs.Fields.{text_of, flag_of, uuid_of, stamp_of, date_text_of, list_of}
use Rattle.misp_elem.specs.Prelude.{OrgId, Uid}
use Rattle.misp_search.specs.Page.{page_at}
use Rattle.misp_search.specs.declared.fitting.Filter.{Filter}
use Rattle.misp_format.specs.declared.fault.FormatFault.{FormatFault}
use Rattle.misp_format.specs.Body.{Body}
use Rattle.misp_format.specs.Edits.{given, given_row, has}
use Rattle.misp_format.specs.Kinds.{category_texts}
use Rattle.misp_format.specs.Path.{item_path, member_path}
use Rattle.misp_format.specs.Readers.{number_within}
use Rattle.misp_format.specs.Rows.{Reading, ◌>>=◌, row, body_at, each}

-- ---- categories

abbrev pub category_named_in : Result (List ℕ) Need → Result (Option ℕ) Need
category_named_in (Ok text) = Ok (position (λ name. bytes_eq name text) category_texts)
category_named_in (Err need) = Err need

-- READER: the number of the category of this name, where there is one
abbrev pub category_named : Data → Result (Option ℕ) Need
category_named d = category_named_in (text_of d)

-- ---- names of tags

-- a text at a path
abbrev pub text_by : List ℕ → Result (List ℕ) Need → Reading (List ℕ)
text_by path (Ok text) = Ok text
text_by path (Err need) = Err (FormatFault.BadField path need)

abbrev pub text_in : List ℕ → Data → Reading (List ℕ)
text_in path d = text_by path (text_of d)

-- the names that were read, and the next of the list
abbrev pub next_name : List ℕ → ℕ → List (List ℕ) → Data → Reading (List (List ℕ))
next_name path n names d = text_in (item_path path n) d >>= λ name. Ok (names ++ name ∷ [])

-- TAGS: a list of names, in the order in which they stand
unfoldable pub names_at : Body → Reading (List (List ℕ))
names_at it = do
  items ← row it (codes "tags") list_of (Ok no_items)
  each (next_name (member_path it.path (codes "tags"))) 0 [] items

-- the same, where it is there
unfoldable pub given_names_at : Body → Reading (Option (List (List ℕ)))
given_names_at it = given (has it (codes "tags")) (names_at it)

-- ---- filters

abbrev pub org_of : Uid → OrgId
org_of uuid = record { 0 = uuid }

-- FILTER: what a body searches for, and the page of what is found, the first of 60 where the body
-- does not say. It is not read through a member of its own.
unfoldable pub filter_at : Data → Reading Filter
filter_at d = do
  it ← body_at (codes "Search") d
  kind ← given_row it (codes "type") text_of
  category ← given_row it (codes "category") category_named
  value ← given_row it (codes "value") text_of
  to_ids ← given_row it (codes "to_ids") flag_of
  tags ← given_names_at it
  org ← given_row it (codes "org") uuid_of
  published ← given_row it (codes "published") flag_of
  from ← given_row it (codes "from") date_text_of
  to ← given_row it (codes "to") date_text_of
  stamp ← given_row it (codes "timestamp") stamp_of
  number ← row it (codes "page") (number_within 1 1000000) (Ok 1)
  size ← row it (codes "limit") (number_within 1 1000) (Ok 60)
  Ok (record {
    kind = kind;
    category = category;
    value = value;
    to_ids = to_ids;
    tags = tags;
    org = option_map org_of org;
    published = published;
    from = from;
    to = to;
    stamp = stamp;
    page = page_at number size;
  })
