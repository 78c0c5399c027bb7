-- A request that hands in a package: what it comes to, told by rows.
use Rattle.std.proofs.Common.{◌≡◌, List, [], ◌∷◌, true, refl, sym, ap, ◌∙◌, length, map}
use Rattle.misp_effects.specs.Effect.{effect}
use Rattle.misp_model.proofs.Prelude.{AreRows, IsUid, and_parts, length-map, list_all}
use Rattle.misp_model.specs.Answers.{answer, ask_rules, brings, is_accepted, newer, ok_answer, taken_rows}
use Rattle.misp_model.specs.Machine.{event_rows}
use Rattle.misp_model.specs.Package.{IsPackage, is_packed}
use Rattle.misp_model.specs.Scene.{first_rule}
use Rattle.misp_model.specs.declared.package.PackageFields.{PackageFields as Package}
use Rattle.misp_history.specs.Merging.{counts_row, handed, is_newer_row, rows_taken}
use Rattle.misp_package.proofs.Handed.{handed_is_row}
use Rattle.misp_store.proofs.HeldRows.{rows_filtered}
use Rattle.misp_core.specs.Prelude.{Admin, Answer, Ask, Effect, EventId, Group, Inst, IsRefused, OrgId, Plan, Reply, Row, Scene, reply_in, seeing, writes_in}
use Rattle.misp_core.specs.Answers.{handed_row}
use Rattle.misp_core.specs.Effects.{asked, row_batches}
use Rattle.misp_core.specs.Planning.{IsPlan, batches_of, rows_put}
use Rattle.misp_core.specs.Taking.{package_taken}
use Rattle.misp_core.proofs.HandedRows.{newer_rows, taken_known, taken_of_event}

-- so many rows were taken, and these are put
abbrev pub rows_handed : List Row → Effect Reply
rows_handed rows = effect (Reply.Ok (Answer.Taken (length rows))) (row_batches rows)

module _ (admin : Admin) (s : Scene) (p : Package) where
  written : writes_in s (Ask.TakePart p) ≡ map handed_row (newer s (taken_rows s p.rows))
  unfolding writes_in is_accepted ask_rules first_rule brings
  written = refl

  told : reply_in admin s (Ask.TakePart p) ≡ Reply.Ok (Answer.Taken (length (newer s (taken_rows s p.rows))))
  unfolding reply_in answer ask_rules first_rule ok_answer
  told = refl

  -- it comes to the rows that are taken
  pub asked_handed : asked admin s (Ask.TakePart p) ≡ rows_handed (package_taken s.at s.rows s.groups s.by p)
  asked_handed =
      (λ i. effect ((told ∙ ap (λ n. Reply.Ok (Answer.Taken n)) (sym (length-map (newer s (taken_rows s p.rows)) handed_row))) i) (row_batches (written i)))
      ∙ ap rows_handed (newer_rows s p.rows)

  -- it is not refused
  pub never_refused : IsRefused (asked admin s (Ask.TakePart p)).reply → ⊥
  unfolding reply_in answer ask_rules first_rule ok_answer
  never_refused refused = refused

-- whatever the number of the act and the partner of the key
pub handed_alike : (admin : Admin) (s t : Scene) (p : Package) → s.at ≡ t.at → s.rows ≡ t.rows → s.groups ≡ t.groups → s.by ≡ t.by → asked admin s (Ask.TakePart p) ≡ asked admin t (Ask.TakePart p)
handed_alike admin s t p at rows groups by = asked_handed admin s p ∙ (λ i. rows_handed (package_taken (at i) (rows i) (groups i) (by i) p)) ∙ sym (asked_handed admin t p)

module _ (admin : Admin) (s : Scene) (rows : List Row) (p : Package) (packs : IsPackage p) where
  -- by what the caller knows as by all rows
  pub asked_known : asked admin (seeing s rows) (Ask.TakePart p) ≡ rows_handed (package_taken s.at rows s.groups s.by p)
  asked_known = asked_handed admin (seeing s rows) p ∙ ap rows_handed (taken_known s.by p packs s.at s.groups rows)

-- by the rows of its event as by all
pub handed_of_event : (admin : Admin) (s : Scene) (rows : List Row) (p : Package) → IsPackage p → asked admin (seeing s (event_rows p.event rows)) (Ask.TakePart p) ≡ asked admin (seeing s rows) (Ask.TakePart p)
handed_of_event admin s rows p packs =
    asked_known admin s (event_rows p.event rows) p packs ∙ ap rows_handed (taken_of_event s.by p packs s.at s.groups rows) ∙ sym (asked_known admin s rows p packs)

-- what is taken of it is planned
pub handed_planned : (admin : Admin) (s : Scene) (rows taken : List Row) (p : Package) → IsPackage p → taken ≡ package_taken s.at rows s.groups s.by p → AreRows taken → (plan : Plan)
    → plan.answer ≡ Answer.Taken (length taken) → batches_of plan.batch ≡ row_batches taken → rows_put plan.batch ≡ taken → IsPlan plan (asked admin (seeing s rows) (Ask.TakePart p))
handed_planned admin s rows taken p packs is are plan answer batches put = record {
  is = asked_known admin s rows p packs ∙ ap rows_handed (sym is) ∙ (λ i. effect (Reply.Ok (sym answer i)) (sym batches i));
  are_rows = rw put are;
}

-- ---- they are rows

module _ (w : OrgId) (owner : IsUid w.0) (e : EventId) where
  handed_are : (rows : List Row) → list_all (is_packed e) rows ≡ true → AreRows rows → AreRows (map (handed w) rows)
  unfolding handed
  handed_are [] packed are = tt
  handed_are (row ∷ rows) packed are =
      let both = and_parts (is_packed e row) (list_all (is_packed e) rows) packed in
      (handed_is_row w row row.content owner are.0 (and_parts _ _ (and_parts _ _ both.0).0).1 refl, handed_are rows both.1 are.1)

pub taken_are_rows : (i : Inst) (rows : List Row) (groups : List Group) (w : OrgId) (p : Package) → IsUid w.0 → IsPackage p → AreRows (package_taken i rows groups w p)
unfolding rows_taken
taken_are_rows i rows groups w p owner packs =
    rows_filtered (is_newer_row rows) _ (rows_filtered (counts_row i rows groups (map (handed w) p.rows)) _ (handed_are w owner p.event p.rows packs.packed packs.rows))
