use Rattle.std.proofs.Common.{◌≡◌, ℕ, ◌<◌, get_or, length}
use Rattle.misp_store.proofs.names_sought.front_number.Given as goal

-- the first bytes are those of the name
abbrev pub invariant-loop-at : goal.invariant-loop-at
invariant-loop-at l = record {
  same : (i : ℕ) → i < l.at → get_or l.bytes i 0 ≡ get_or l.name i 0;
  long : length l.bytes ≡ 16;
}
