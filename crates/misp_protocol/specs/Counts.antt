-- What is counted of batches that were put.
use Rattle.std.specs.Prelude.{ℕ, ◌==◌, ◌<◌, ◌+◌, ◌^◌, ◌-◌, min, List, [], ◌∷◌, length, Option, None, Some, if◌then◌else◌}
use Rattle.misp_effects.specs.Batches.{Batch}
use Rattle.misp_model.specs.Prelude.{EventId, Row, event_of, same_event}
use Rattle.misp_protocol.specs.declared.count.SyncCount.{SyncCount}
use Rattle.misp_protocol.specs.declared.count.Tally.{Tally}

-- a sum that stays at the greatest value of its type
abbrev pub plus : ℕ → ℕ → ℕ
plus a b = min (a + b) (2 ^ 64 - 1)

abbrev pub no_count : SyncCount
no_count = record { groups = 0; events = 0; elements = 0; packages = 0 }

abbrev pub no_tally : Tally
no_tally = record { count = no_count; last = None }

-- its groups are counted in 64 bits
abbrev pub IsTally : Tally → Type 0
IsTally t = t.count.groups < 2 ^ 64

-- 1 for another event than the last
abbrev pub event_more : Option EventId → EventId → ℕ
event_more None e = 1
event_more (Some last) e = if same_event last e then 0 else 1

-- so many rows of a package of an event were taken
abbrev pub with_rows : Tally → EventId → ℕ → Tally
with_rows t e n =
    record {
      count = record {
        groups = t.count.groups;
        events = plus t.count.events (event_more t.last e);
        elements = plus t.count.elements n;
        packages = plus t.count.packages 1;
      };
      last = Some e;
    }

-- so many rows of a package, where there were any
abbrev pub with_taken : Tally → EventId → ℕ → Tally
with_taken t e n = if n == 0 then t else with_rows t e n

-- so many groups were
abbrev pub with_groups : Tally → ℕ → Tally
with_groups t n =
    record t { count = record t.count { groups = plus t.count.groups n } }

-- rows that are put together are of one package
abbrev pub rows_counted : Tally → List Row → Tally
rows_counted t [] = t
rows_counted t (row ∷ rows) = with_rows t (event_of row.key) (length (row ∷ rows))

abbrev pub counted : Tally → Batch → Tally
counted t b = rows_counted (with_groups t (length b.groups)) b.rows

-- batches, one after another
unfoldable pub tally : Tally → List Batch → Tally
tally t [] = t
tally t (b ∷ bs) = tally (counted t b) bs

abbrev pub count_of : List Batch → SyncCount
count_of bs = (tally no_tally bs).count
