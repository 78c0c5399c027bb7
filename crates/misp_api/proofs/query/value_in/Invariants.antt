use Rattle.std.proofs.Common.{◌≡◌, length, drop}
use Rattle.std.specs.List.{slice_split}
use Rattle.misp_api.specs.Query.{is_ampersand, value_in}
use Rattle.misp_api.proofs.Queries.{first_value}
use Rattle.misp_api.proofs.query.value_in.Given as goal

-- the value is the first of the pieces that are left
abbrev pub invariant-loop-piece : goal.invariant-loop-piece
invariant-loop-piece l =
    first_value l.name (drop (length l.yielded) (slice_split is_ampersand l.query)) ≡ value_in l.name l.query
