use Rattle.std.proofs.Common.{◌≡◌, map, take}
use Rattle.misp_store.specs.Raw.{raw_row}
use Rattle.misp_store.proofs.rows.raw_rows.Given as goal

abbrev pub invariant-loop-row : goal.invariant-loop-row
invariant-loop-row l = l.raws.items ≡ map raw_row (take l.row-index l.rows)
