-- Sets of owners and events.
use Rattle.std.specs.Prelude.{◌≡◌, ℕ, Bool, List}
use Rattle.misp_model.specs.Prelude.{BTreeSet, EventId, Ordering, OrgId, Row, contains, has_copy, has_gone, nat_cmp, ordering_then}

-- the order of pairs: by the first, and of equals by the second
abbrev pub pair_cmp : ℕ × ℕ → ℕ × ℕ → Ordering
pair_cmp x y = ordering_then (nat_cmp x.0 y.0) (nat_cmp x.1 y.1)

-- the set has the pair of the event and the owner
unfoldable pub has_pair : BTreeSet (ℕ × ℕ) → EventId → OrgId → Bool
has_pair pairs e w = contains pair_cmp pairs (e.0.0, w.0.0)

-- the set has those of whom there is a copy
abbrev pub IsCopies : BTreeSet (ℕ × ℕ) → List Row → Type 0
IsCopies pairs rows = (e : EventId) (w : OrgId) → has_pair pairs e w ≡ has_copy rows w e

-- the set has those whose copy is gone
abbrev pub IsTombstones : BTreeSet (ℕ × ℕ) → List Row → Type 0
IsTombstones pairs rows = (e : EventId) (w : OrgId) → has_pair pairs e w ≡ has_gone rows w e
