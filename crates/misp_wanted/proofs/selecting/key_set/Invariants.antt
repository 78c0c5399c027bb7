use Rattle.std.proofs.Common.{◌≡◌, take}
use Rattle.misp_model.specs.Prelude.{Key, list_any, same_key}
use Rattle.misp_wanted.specs.Wanting.{has_key}
use Rattle.misp_wanted.proofs.selecting.key_set.Given as goal

abbrev pub invariant-loop-key : goal.invariant-loop-key
invariant-loop-key l = (k : Key) → has_key l.keys k ≡ list_any (same_key k) (take l.key-index l.list)
