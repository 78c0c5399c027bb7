use Rattle.std.proofs.Common.{◌≡◌, ℕ, ◌||◌, eqb, take}
use Rattle.misp_lists.specs.Prelude.{list_any}
use Rattle.misp_copies.specs.Uuids.{has_uuid}
use Rattle.misp_edit.specs.Uuids.{is_among}
use Rattle.misp_edit.proofs.clash.used_uuids.Given as goal

abbrev pub invariant-loop-row : goal.invariant-loop-row
invariant-loop-row l = (u : ℕ) → is_among l.used.items u ≡ (eqb l.event.0.0 u || list_any (has_uuid l.owner l.event u) (take l.row-index l.rows))
