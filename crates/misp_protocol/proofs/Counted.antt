-- What is counted of a batch is what is counted of its rows, or of its groups.
use Rattle.std.proofs.Common.{arith, ◌≡◌, ◌<◌, ◌^◌, ◌==◌, ◌∙◌, List, [], ◌∷◌, length, false, refl, ap, sym, if◌then◌else◌}
use Rattle.misp_effects.specs.Batches.{batch}
use Rattle.misp_groups.specs.declared.group.GroupFields.{GroupFields as Group}
use Rattle.misp_model.specs.Prelude.{EventId, Row, event_of}
use Rattle.misp_protocol.specs.Counts.{counted, plus, with_groups, with_rows, with_taken}
use Rattle.misp_protocol.specs.declared.count.Tally.{Tally}

-- no group more is counted as nothing
pub no_groups_more : (t : Tally) → t.count.groups < 2 ^ 64 → with_groups t 0 ≡ t
no_groups_more t fit =
    let same : plus t.count.groups 0 ≡ t.count.groups = omega (arith, fit) in
    ap (λ g. record t { count = record t.count { groups = g } }) same

-- a batch of groups
pub groups_counted : (t : Tally) (groups : List Group)
    → counted t (batch [] groups) ≡ with_groups t (length groups)
groups_counted t groups = refl

taken_some : (t : Tally) (e : EventId) (n : _) → 0 < n → with_taken t e n ≡ with_rows t e n
taken_some t e n some =
    let not : (n == 0) ≡ false = grind (arith, some) in
    ap (λ b. if b then t else with_rows t e n) not

-- a batch of no rows
pub no_rows_counted : (t : Tally) (e : EventId) → t.count.groups < 2 ^ 64 → counted t (batch [] []) ≡ with_taken t e 0
no_rows_counted t e fit = no_groups_more t fit

-- a batch of rows of an event
pub rows_counted_as_taken : (t : Tally) (e : EventId) (row : Row) (rows : List Row) → t.count.groups < 2 ^ 64
    → event_of row.key ≡ e → counted t (batch (row ∷ rows) []) ≡ with_taken t e (length (row ∷ rows))
rows_counted_as_taken t e row rows fit is =
    let some : 0 < length (row ∷ rows) = omega arith in
    ap (λ u. with_rows u (event_of row.key) (length (row ∷ rows))) (no_groups_more t fit)
    ∙ ap (λ x. with_rows t x (length (row ∷ rows))) is
    ∙ sym (taken_some t e (length (row ∷ rows)) some)
