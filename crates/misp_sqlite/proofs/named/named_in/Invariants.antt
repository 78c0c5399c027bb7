use Rattle.std.proofs.Common.{◌≡◌, ◌++◌, nat_eq}
use Rattle.std.specs.Prelude.{filter}
use Rattle.std.specs.List.{starts_with}
use Rattle.misp_sqlite.proofs.named.named_in.Given as goal

-- the rows so far, and those that are left
abbrev pub invariant-loop-row : goal.invariant-loop-row
invariant-loop-row l =
    l.found.items ++ filter (λ row. starts_with nat_eq row.name l.front) l.row-iterator.rest.items
    ≡ filter (λ row. starts_with nat_eq row.name l.front) l.fn.rows.items
