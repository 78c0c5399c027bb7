-- Packages that are handed in one after another are taken event after event.
use Rattle.std.proofs.Common.{◌≡◌, ◌≤◌, ℕ, suc, false, List, [], ◌∷◌, ◌++◌, append_assoc, length, map, Some, Result, Ok, refl, sym, ap, ◌∙◌, if◌then◌else◌}
use Rattle.misp_lists.proofs.All.{all_both, all_implied}
use Rattle.misp_model.proofs.Prelude.{AllByRecursion, AreRows, EventId, Group, Inst, IsDistinct, OrgId, Row, same_event, same_event-refl}
use Rattle.misp_model.specs.declared.package.PackageFields.{PackageFields as Package}
use Rattle.misp_effects.specs.Effect.{effect}
use Rattle.misp_history.specs.Merging.{handed, merged, rows_taken}
use Rattle.misp_store.specs.Prelude.{Batch}
use Rattle.misp_store.specs.declared.reach.Reach.{Reach}
use Rattle.misp_core.specs.Effects.{row_batches}
use Rattle.misp_core.specs.Prelude.{Effect, Seen}
use Rattle.misp_core.specs.Taking.{handed_rows, package_taken}
use Rattle.misp_sync.specs.Pulled.{behind_all, ends, event_taken, events_taken, package_batches}
use Rattle.misp_sync.specs.Pushed.{RowsOf, over_rows, parts_taken, with_event}
use Rattle.misp_core.specs.Sending.{all_numbered, numbered_from}
use Rattle.misp_client.specs.Telling.{refused_as}
use Rattle.misp_client.specs.Calling.{too_large}
use Rattle.misp_client.proofs.ShortBodies.{package_short}

-- rows that fit into a package
abbrev pub Fits : List Row → Type 0
Fits rows = AreRows rows × (length rows ≤ 65)

-- the rows of each event, seen as its owner's
abbrev pub rows_by : RowsOf → Reach → Result (List Row) (List ℕ)
rows_by of (Reach.Own o e) = of e
rows_by of reach = Ok []

abbrev pub as_owned : RowsOf → Seen
as_owned of = record { groups = []; rows = rows_by of }

-- of the event the same rows are read as those of the owner
pub record Reads (w : OrgId) (own : Seen) (of : RowsOf) (e : EventId) : Type 0 where
  pub rows : List Row
  pub read : of e ≡ Ok rows
  pub same : own.rows (Reach.Own w e) ≡ Ok rows

behind_both : (first next : List Batch) (e : Effect _) → behind_all first (behind_all next e) ≡ behind_all (first ++ next) e
behind_both first next e = ap (effect e.reply) (sym (append_assoc first next e.batches))

module _ (i : Inst) (w : OrgId) (groups : List Group) where
  -- the first package, over the rows of its event
  first_taken : (p : Package) (ps : List Package) (of : RowsOf) (rows : List Row) → of p.event ≡ Ok rows → Fits p.rows
      → parts_taken i w groups of (p ∷ ps) ≡ behind_all (row_batches (package_taken i rows groups w p)) (parts_taken i w groups (with_event p.event (merged i rows groups (handed_rows w p)) of) ps)
  unfolding parts_taken
  first_taken p ps of rows read fits =
      let next : (List Row → Effect _) =
      λ rows. behind_all (row_batches (package_taken i rows groups w p)) (parts_taken i w groups (with_event p.event (merged i rows groups (handed_rows w p)) of) ps) in
      ap (λ b. if b then over_rows (of p.event) next else ends (Some (refused_as too_large))) (package_short p fits.0 fits.1) ∙ ap (λ found. over_rows found next) read

  -- the packages of an event, after which the rows of others are as they were
  event_parts : (e : EventId) (count n : ℕ) (ps : List (List Row)) (more : List Package) (of : RowsOf) (rows : List Row) → of e ≡ Ok rows → AllByRecursion Fits ps
      → (after : RowsOf) × (((other : EventId) → same_event e other ≡ false → after other ≡ of other)
      × (parts_taken i w groups of (numbered_from n e count ps ++ more) ≡ behind_all (package_batches i groups rows (map (map (handed w)) ps)) (parts_taken i w groups after more)))
  unfolding numbered_from package_batches
  event_parts e count n [] more of rows read fits = (of, (λ other h. refl, refl))
  event_parts e count n (p ∷ ps) more of rows read fits =
      let next : List Row = merged i rows groups (map (handed w) p) in
      let f = event_parts e count (suc n) ps more (with_event e next of) next (ap (λ b. if b then Ok next else of e) (same_event-refl e)) fits.1 in (
        f.0,
        (
          λ other h. f.1.0 other h ∙ ap (λ b. if b then Ok next else of other) h,
          first_taken (record { event = e; part = n; parts = count; rows = p }) (numbered_from (suc n) e count ps ++ more) of rows read fits.0
              ∙ ap (behind_all (row_batches (rows_taken i rows groups (map (handed w) p)))) f.1.1
              ∙ behind_both (row_batches (rows_taken i rows groups (map (handed w) p))) (package_batches i groups next (map (map (handed w)) ps)) (parts_taken i w groups f.0 more),
        ),
      )

  -- event after event
  pub by_event : (own : Seen) (events : List (EventId × List (List Row))) (of : RowsOf) → IsDistinct (λ (a b : EventId × List (List Row)). same_event a.0 b.0) events
      → AllByRecursion (λ x. Reads w own of x.0) events → AllByRecursion (λ x. AllByRecursion Fits x.1) events → parts_taken i w groups of (all_numbered events) ≡ events_taken i w groups own events
  unfolding parts_taken events_taken IsDistinct
  by_event own [] of apart reads fits = refl
  by_event own (x ∷ events) of apart reads fits =
      let f = event_parts x.0 (length x.1) 0 x.1 (all_numbered events) of reads.0.rows reads.0.read fits.0 in
      let later : AllByRecursion (λ y. Reads w own f.0 y.0) events =
      all_implied (λ y. (same_event x.0 y.0 ≡ false) × Reads w own of y.0) (λ y. Reads w own f.0 y.0) (λ y h. record { rows = h.1.rows; read = f.1.0 y.0 h.0 ∙ h.1.read; same = h.1.same }) events
      (all_both (λ y. same_event x.0 y.0 ≡ false) (λ y. Reads w own of y.0) events apart.0 reads.1) in
      f.1.1 ∙ ap (behind_all (package_batches i groups reads.0.rows (map (map (handed w)) x.1))) (by_event own events f.0 apart.1 later fits.1)
      ∙ ap (λ found. event_taken i w groups found x.1 (events_taken i w groups own events)) (sym reads.0.same)
