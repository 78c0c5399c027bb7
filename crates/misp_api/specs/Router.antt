-- The rows of a router over patterns.
use Rattle.std.specs.Prelude.{ℕ, List, [], fold, map, Result, Ok, Err}
use Rattle.std.specs.Borrow.{Bor}
use Rattle.matchit.specs.Rows.{RowsOf}
use Rattle.matchit.specs.Router.{RouteOf, route_from}
use Rattle.matchit.specs.Order.{placed}
use Rattle.matchit.specs.Route.{parse_route, Scan}
use Rattle.misp_api.specs.Path.{paths}
use Rattle.misp_api.specs.declared.path_kind.PathKind.{PathKind}

-- the rows with that of a pattern that is read
abbrev pub added :
    {E : Type 0} → Result Scan E → PathKind → RowsOf (RouteOf PathKind) → RowsOf (RouteOf PathKind)
added (Ok scan) kind rows = placed (scan.pattern, route_from scan kind) rows
added (Err e) kind rows = rows

-- with that of one pattern more
abbrev pub add : RowsOf (RouteOf PathKind) → List ℕ × PathKind → RowsOf (RouteOf PathKind)
add rows p = added (parse_route p.0) p.1 rows

-- those of these patterns
abbrev pub rows_of : List (List ℕ × PathKind) → RowsOf (RouteOf PathKind)
rows_of patterns = fold add [] patterns

-- patterns as their texts
abbrev pub texts_of : List (Bor (List ℕ) × PathKind) → List (List ℕ × PathKind)
texts_of patterns = map (λ p. (p.0.now, p.1)) patterns

-- those of all paths
unfoldable pub rows : RowsOf (RouteOf PathKind)
rows = rows_of paths
