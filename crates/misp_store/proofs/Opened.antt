-- What is held once its rows are put anew, and an instance is opened over it.
use Rattle.std.proofs.Common.{◌≡◌, ℕ, List, [], ◌∷◌, ◌<◌, length, filter, map, refl, sym, ap, subst, ◌∙◌, Option, Some, None, Result, Ok, Err, IfSome, IsOk, arith}
use Rattle.misp_outside.specs.Held.{Held}
use Rattle.misp_outside.specs.Reporting.{StaysHeld, WhereReported}
use Rattle.misp_outside.proofs.Reporting.{known_of, reported_then}
use Rattle.misp_effects.specs.Prelude.{Group, RawRow, Row}
use Rattle.misp_store.specs.Loading.{NamesFault}
use Rattle.misp_store.specs.Raw.{rows_in}
use Rattle.misp_store.specs.Renewing.{after_groups, after_rows, is_old, opened, put_anew, renewed, renewed_row}
use Rattle.misp_store.specs.Sharing.{HasGroups, HoldsGroups, groups_in}
use Rattle.misp_store.specs.declared.fault.LoadFault.{LoadFault}
use Rattle.misp_store.proofs.Renewed.{anew_many}

-- a list of no item
pub none_of : {A : Type 0} (xs : List A) → (0 < length xs → ⊥) → xs ≡ []
none_of [] none = refl
none_of (x ∷ xs) none = absurd (none (omega arith))

-- what is known of what stayed, whatever is reported after the next call
pub known_before : (old mid new : Option Held) (P : Held → Type 0) (Q : Held → Held → Type 0) → StaysHeld old mid → IfSome mid P → WhereReported mid new Q → WhereReported old new (λ a b. P a)
known_before old mid new P Q same p q = reported_then old mid new (λ a b. P a) Q (λ a b. P a) (λ a b c known next. known) (known_of old mid P same p) q

-- ---- where a keeper reports what was loaded

-- as many are put anew as are old
pub old_counted : (held : Option Held) (raws anew : List RawRow) (n : ℕ) → IfSome held (λ told. raws ≡ told.rows) → anew ≡ put_anew raws → n ≡ length anew
    → IfSome held (λ told. n ≡ length (filter is_old told.rows))
old_counted None raws anew n found is many = tt
old_counted (Some told) raws anew n found is many = many ∙ ap length is ∙ anew_many raws ∙ ap (λ rows. length (filter is_old rows)) found

pub all_read : (held : Option Held) (raws : List RawRow) → IfSome held (λ told. raws ≡ told.rows) → IsOk (rows_in raws) → IfSome held (λ told. IsOk (rows_in told.rows))
all_read None raws found read = tt
all_read (Some told) raws found read = subst (λ rows. IsOk (rows_in rows)) found read

-- they say what they said
pub all_same : (held : Option Held) (raws : List RawRow) → IfSome held (λ told. raws ≡ told.rows) → rows_in (map renewed_row raws) ≡ rows_in raws
    → IfSome held (λ told. rows_in (renewed told).rows ≡ rows_in told.rows)
unfolding renewed
all_same None raws found same = tt
all_same (Some told) raws found same = subst (λ rows. rows_in (map renewed_row rows) ≡ rows_in rows) found same

-- ---- opening

-- the groups stay
pub groups_renewed : (held new : Option Held) (groups : List Group) → WhereReported held new (λ old new. new ≡ renewed old) → HoldsGroups held groups → HoldsGroups new groups
unfolding renewed
groups_renewed None None groups put holds = tt
groups_renewed None (Some now) groups put holds = absurd put
groups_renewed (Some told) None groups put holds = tt
groups_renewed (Some told) (Some now) groups put holds = subst (λ h. HasGroups h groups) (sym put) (record { order = holds.order; are = holds.are })

rows_after : (held : Held) (read : Result (List Row) (List ℕ)) → IsOk read → IsOk (after_rows held read)
rows_after held (Ok rows) ok = refl
rows_after held (Err name) ok = absurd cc

-- groups and rows are read
pub both_read : (held new : Option Held) (groups : List Group) → HoldsGroups held groups → WhereReported held new (λ old _. IsOk (rows_in old.rows)) → WhereReported held new (λ old _. IsOk (opened old))
unfolding opened
both_read None None groups holds rows = tt
both_read None (Some now) groups holds rows = absurd rows
both_read (Some told) None groups holds rows = tt
both_read (Some told) (Some now) groups holds rows = subst (λ read. IsOk (after_groups told read)) (sym holds.are) (rows_after told (rows_in told.rows) rows)

-- a row of the administration is neither a group nor an item
pub group_bad : (held : Option Held) (fault : LoadFault) → IfSome held (λ h. NamesFault (groups_in h.admin) fault) → IfSome held (λ h. NamesFault (opened h) fault)
unfolding opened
group_bad None fault bad = tt
group_bad (Some held) (LoadFault.BadRow name) bad = ap (after_groups held) bad
group_bad (Some held) LoadFault.KeeperFault bad = tt
group_bad (Some held) LoadFault.NoMemory bad = tt

-- they are groups, and a row does not decode
pub row_bad : (held : Option Held) (groups : List Group) (fault : LoadFault) → HoldsGroups held groups → IfSome held (λ h. NamesFault (rows_in h.rows) fault) → IfSome held (λ h. NamesFault (opened h) fault)
unfolding opened
row_bad None groups fault holds bad = tt
row_bad (Some held) groups (LoadFault.BadRow name) holds bad = ap (after_groups held) holds.are ∙ ap (after_rows held) bad
row_bad (Some held) groups LoadFault.KeeperFault holds bad = tt
row_bad (Some held) groups LoadFault.NoMemory holds bad = tt
