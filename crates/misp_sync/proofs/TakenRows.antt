-- The rows that are taken of a package: what they are, and how they are put and counted.
use Rattle.std.proofs.Common.{◌≡◌, ◌∙◌, ◌≤◌, ◌==◌, ◌&&◌, ℕ, suc, eqb, true, false, not, cond, List, [], ◌∷◌, length, map, Ok, refl, sym, ap, subst, inl, inr, arith}
use Rattle.std.specs.List.{list_all}
use Rattle.misp_ids.specs.Uid.{IsUid}
use Rattle.misp_elem.specs.Prelude.{IsKey}
use Rattle.misp_lists.proofs.All.{all_implied, all_part, all_true}
use Rattle.misp_effects.specs.Batches.{batch, put_batches}
use Rattle.misp_history.specs.Merging.{counts_row, handed, is_newer_row, rows_taken}
use Rattle.misp_model.proofs.Prelude.{AllByRecursion, AreRows, EventId, Group, Inst, OrgId, Row, and_parts, event_key, event_of, nat_tests, same_event, same_event-sound}
use Rattle.misp_model.specs.Package.{BeginsWith, IsPackage, is_packed}
use Rattle.misp_model.specs.declared.package.PackageFields.{PackageFields as Package}
use Rattle.misp_package.proofs.Handed.{handed_is_row}
use Rattle.misp_core.specs.Effects.{row_batches}
use Rattle.misp_core.specs.Prelude.{Held, spelled}
use Rattle.misp_core.specs.Taking.{handed_rows, package_taken}
use Rattle.misp_dialogue.specs.Parties.{Conduct}
use Rattle.misp_protocol.specs.Counts.{IsTally, counted, with_rows, with_taken}
use Rattle.misp_protocol.specs.TextTakes.{IsTaken}
use Rattle.misp_protocol.specs.declared.cause.Cause.{Cause}
use Rattle.misp_protocol.specs.declared.count.Tally.{Tally}
use Rattle.misp_protocol.specs.declared.request.Answer.{Answer}
use Rattle.misp_protocol.specs.declared.request.Request.{Request}
use Rattle.misp_protocol.proofs.Tallies.{none_more}
use Rattle.misp_sync.specs.OwnAnswers.{batching}
use Rattle.misp_core.proofs.AlikeTaken.{IsAt, taken_own}
use Rattle.misp_core.proofs.RowsAlike.{AlikeFor, IsOurs}

-- ---- what they are

-- rows of an owner and of an event are rows of this event
pub are_rows : (w : OrgId) (e : EventId) (rows : List Row) → AllByRecursion (IsOurs w e) rows → AreRows rows
are_rows w e [] ours = tt
are_rows w e (row ∷ rows) ours = (ours.0.0, are_rows w e rows ours.1)

pub are_of_event : (w : OrgId) (e : EventId) (rows : List Row) → AllByRecursion (IsOurs w e) rows → list_all (λ row. same_event (event_of row.key) e) rows ≡ true
are_of_event w e rows ours =
    all_true (λ row. same_event (event_of row.key) e) rows (all_implied (IsOurs w e) (λ row. same_event (event_of row.key) e ≡ true) (λ row is. is.2) rows ours)

-- a row of a package is of its event, and was carried
packed_parts : (e : EventId) (row : Row) → is_packed e row ≡ true → (same_event (event_of row.key) e ≡ true) × (row.carried ≡ true)
unfolding same_event
packed_parts e row h =
    let one = and_parts (eqb (event_of row.key).0.0 e.0.0 && eqb row.owner.0.0 0 && row.carried) (not row.held) h in
    let two = and_parts (eqb (event_of row.key).0.0 e.0.0 && eqb row.owner.0.0 0) row.carried one.0 in
    ((and_parts (eqb (event_of row.key).0.0 e.0.0) (eqb row.owner.0.0 0) two.0).0, two.1)

module _ (w : OrgId) (owner : IsUid w.0) (e : EventId) where
  -- the rows of a package, as they are handed in
  handed_ours : (rows : List Row) → list_all (is_packed e) rows ≡ true → AreRows rows → AllByRecursion (IsOurs w e) (map (handed w) rows)
  unfolding handed
  handed_ours [] packed are = tt
  handed_ours (row ∷ rows) packed are =
      let both = and_parts (is_packed e row) (list_all (is_packed e) rows) packed in
      let parts = packed_parts e row both.0 in
      ((handed_is_row w row row.content owner are.0 parts.1 refl, refl, parts.0), handed_ours rows both.1 are.1)

-- the first is the event's own
own_first : (e : EventId) (rows : List Row) → BeginsWith e rows → AreRows rows → IsKey (event_key e)
unfolding event_key
own_first e [] begins are = absurd begins
own_first e (row ∷ rows) begins are = subst IsKey begins are.0.1.0

module _ (w : OrgId) (owner : IsUid w.0) (p : Package) (packs : IsPackage p) (here : Inst) (groups : List Group) where
  coming_ours : AllByRecursion (IsOurs w p.event) (handed_rows w p)
  coming_ours = handed_ours w owner p.event p.rows packs.packed packs.rows

  pub taken_ours : (rows : List Row) → AllByRecursion (IsOurs w p.event) (package_taken here rows groups w p)
  unfolding rows_taken
  taken_ours rows =
      all_part (IsOurs w p.event) (is_newer_row rows) _ (all_part (IsOurs w p.event) (counts_row here rows groups (handed_rows w p)) (handed_rows w p) coming_ours)

  -- over rows in which tests find the same as much is taken
  pub taken_same : (xs ys : List Row) → AlikeFor w xs ys → package_taken here xs groups w p ≡ package_taken here ys groups w p
  taken_same xs ys alike =
      taken_own here w xs ys alike p.event (own_first p.event p.rows packs.first packs.rows) groups (handed_rows w p)
      (all_implied (IsOurs w p.event) (λ row. (row.owner ≡ w) × IsAt p.event row) (λ row is. (is.1, (is.0.1.0, same_event-sound (event_of row.key) p.event is.2))) (handed_rows w p) coming_ours)

-- ---- how they are put

-- what is held with them, in a batch where there are any
abbrev pub with_put : List Row → Held → Held
with_put rows held = put_batches (map spelled (row_batches rows)) held

not_zero : (n : ℕ) → (suc n == 0) ≡ false
not_zero n = grind (arith, nat_tests)

counted_so : (n : Tally) (e : EventId) (row : Row) (rows : List Row) → IsTally n → same_event (event_of row.key) e ≡ true
    → with_taken n e (length (row ∷ rows)) ≡ counted n (batch (row ∷ rows) [])
counted_so n e row rows is of_event =
    ap (λ b. cond b n (with_rows n e (length (row ∷ rows)))) (not_zero (length rows))
    ∙ (λ i. with_rows (sym (none_more n is) i) (sym (same_event-sound (event_of row.key) e of_event) i) (length (row ∷ rows)))

-- a sink that answers how many they are, and puts them, takes them
pub rows_are_taken : (kb : Conduct Held Request Answer Cause) (held : Held) (p : Package) (w : OrgId) (rows : List Row)
    → kb.answer held (Request.TakePart p) ≡ Ok (Answer.Taken (length rows), with_put rows held) → length rows ≤ length p.rows
    → (kb.IsAskable (Request.TakePart p) → AllByRecursion (IsOurs w p.event) rows)
    → IsTaken kb batching held p (length rows) (row_batches rows) (with_put rows held)
rows_are_taken kb held p w [] answers few ours = record { answer = answers; few = few; batches = inl (refl, refl, λ n. refl) }
rows_are_taken kb held p w (row ∷ rows) answers few ours = record {
  answer = answers;
  few = few;
  batches = inr (
    batch (row ∷ rows) [],
    refl,
    refl,
    λ ask. (
      record { rows = are_rows w p.event (row ∷ rows) (ours ask); groups = tt; items = tt },
      λ n is. counted_so n p.event row rows is (ours ask).0.2,
    ),
  );
}
