use Rattle.std.proofs.Common.{◌≡◌, drop}
use Rattle.misp_store.specs.Raw.{rows_in}
use Rattle.misp_store.proofs.SoFar.{after}
use Rattle.misp_store.proofs.rows.decode_rows.Given as goal

-- what was read, and then what is left
abbrev pub invariant-loop-raw : goal.invariant-loop-raw
invariant-loop-raw l = after l.rows.items (rows_in (drop l.raw-index l.raws)) ≡ rows_in l.raws
