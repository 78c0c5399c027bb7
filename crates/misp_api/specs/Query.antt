-- The page that a query asks for.
use Rattle.std.specs.Prelude.{ℕ, ◌+◌, ◌==◌, ◌&&◌, Bool, nat_lt, nat_le, List, codes, length, take, drop, position, bytes_eq, Option, Some, None, if◌then◌else◌}
use Rattle.std.specs.Char.{is_ascii_digit}
use Rattle.std.specs.List.{filter_map, list_all, slice_get, slice_split}
use Rattle.std.specs.Option.{option_map_or}
use Rattle.std.specs.Str.Parse.{digits_value}
use Rattle.misp_search.specs.Page.{page_at}
use Rattle.misp_api.specs.declared.query.PageQuery.{PageQuery}

-- ---- queries

abbrev pub is_ampersand : ℕ → Bool
is_ampersand byte = byte == 38

abbrev pub is_equals : ℕ → Bool
is_equals byte = byte == 61

-- what stands behind the first `=` of a piece, where this name stands before it
unfoldable pub value_of : List ℕ → List ℕ → Option (List ℕ)
value_of name piece =
    option_map_or
    (λ at. if bytes_eq (take at piece) name then Some (drop (at + 1) piece) else None)
    (position is_equals piece) None

-- the value of the first piece of this name; a query is cut at each `&`
unfoldable pub value_in : List ℕ → List ℕ → Option (List ℕ)
value_in name query =
    slice_get (filter_map (value_of name) (slice_split is_ampersand query)) 0

-- ---- pages

-- the number that decimal digits write, from 1 to this one
unfoldable pub number_in : ℕ → List ℕ → Option ℕ
number_in most text =
    if nat_lt 0 (length text) && list_all is_ascii_digit text
    && (nat_le 1 (digits_value 10 text) && nat_le (digits_value 10 text) most)
    then Some (digits_value 10 text) else None

-- the same, and another where nothing is said
unfoldable pub number_asked : ℕ → ℕ → Option (List ℕ) → Option ℕ
number_asked most absent None = Some absent
number_asked most absent (Some text) = number_in most text

-- the number of the page is looked at before its size
abbrev pub page_by : Option ℕ → Option ℕ → PageQuery
page_by None size = PageQuery.BadPage
page_by (Some number) None = PageQuery.BadLimit
page_by (Some number) (Some size) = PageQuery.Of (page_at number size)

-- PAGE: that which a query asks for, the first of 60 items where it does not say
unfoldable pub page_query : List ℕ → PageQuery
page_query query =
    page_by (number_asked 1000000 1 (value_in (codes "page") query))
    (number_asked 1000 60 (value_in (codes "limit") query))
