-- A request to an instance whose keeper holds the tables is an act of the history.
use Rattle.std.proofs.Common.{◌≡◌, ℕ, List, [], ◌∷◌, ◌++◌, Bool, true, false, ltb, refl, sym, ap, subst, ◌∙◌, map, cond, Ok, inl, inr}
use Rattle.std.proofs.lemmas.Bool.{cases_Bool}
use Rattle.misp_outside.specs.Held.{rows_of, rows_named, put_rows, put_admins, with_batch}
use Rattle.misp_admins.specs.declared.item.Item.{Item}
use Rattle.misp_admin_rows.specs.Rows.{item_row}
use Rattle.misp_groups.specs.Groups.{by_name}
use Rattle.misp_model.proofs.Prelude.{AreRows, brings, event_rows, is_accepted, put_all, uid}
use Rattle.misp_model.specs.Machine.{hands_in}
use Rattle.misp_model.proofs.Owners.{brings_here}
use Rattle.misp_model.specs.Answers.{taken_rows}
use Rattle.misp_model.specs.Package.{IsPackage}
use Rattle.misp_model.specs.declared.package.PackageFields.{PackageFields as Package}
use Rattle.misp_history.specs.Acts.{Net, scene, known_at}
use Rattle.misp_history.proofs.Steps.{step_accepted, step_refused}
use Rattle.misp_history.proofs.Elsewhere.{tables_elsewhere}
use Rattle.misp_history.proofs.Puts.{put_ask}
use Rattle.misp_history.proofs.HandedIn.{handed_merged}
use Rattle.misp_history.specs.Merging.{merged}
use Rattle.misp_edit.proofs.OwnCopy.{named_rows}
use Rattle.misp_model.specs.declared.looks.Looks.{Looks}
use Rattle.misp_store.specs.Raw.{raw_row, rows_in}
use Rattle.misp_store.specs.Seen.{rows_looked}
use Rattle.misp_store.specs.Sharing.{or_none}
use Rattle.misp_store.specs.declared.reach.Reach.{Reach}
use Rattle.misp_store.proofs.HeldRows.{rows_again, rows_of_event, rows_kept, rows_put, rows_put_held}
use Rattle.misp_core.specs.Prelude.{AllByRecursion, AreReadable, Ask, Asked, Effect, EventId, Group, Held, Host, Inst, IsBuilt, IsGroup, IsStrictlySortedBy, Keeps, OrgId, Reply, Row, Scene, World, asked_over, asked_where}
use Rattle.misp_core.specs.Prelude.{groups_of, left, list_all, put_batches, same_inst, seen_in, spelled, step, tables, writes_in}
use Rattle.misp_core.specs.Effects.{row_batches, asked}
use Rattle.misp_core.specs.Answers.{bare_scene, rows_brought}
use Rattle.misp_core.specs.Keeping.{caller_at, act_at}
use Rattle.misp_store.proofs.NamedLooked.{looked_held, named_looked, named_looked_kept}
use Rattle.misp_history.proofs.AsNew.{tables_are_tables}
use Rattle.misp_core.specs.Reading.{rows_read}
use Rattle.misp_core.proofs.AdminPut.{HasAdmin}
use Rattle.misp_core.proofs.HandedRows.{handed_table, newer_rows, taken_known}
use Rattle.misp_core.proofs.Alike.{rows_of_name, named_rows_kept, table_within, read_alike, asked_as}
use Rattle.misp_history.specs.Acts as model

-- a keeper that holds these rows, these groups and these items keeps an instance that has them
pub keeps_by : (here : Inst) (v : World) (held : Held) (rows : List Row) (gs : List Group) (items : List Item) → tables v.log here ≡ rows → v.groups here ≡ gs → v.made here ≡ items
    → held.rows ≡ map raw_row rows → AreRows rows → HasAdmin held.admin gs (put_admins (map item_row items) []) → AllByRecursion IsGroup gs → IsStrictlySortedBy by_name gs → Keeps here v held
keeps_by here v held rows gs items log groups made held_rows are_rows has are_groups ascend = record {
  rows = held_rows ∙ ap (map raw_row) (sym log);
  are_rows = subst AreRows (sym log) are_rows;
  groups = has.groups_are ∙ ap Ok (sym groups);
  are_groups = subst (AllByRecursion IsGroup) (sym groups) are_groups;
  ascend = subst (IsStrictlySortedBy by_name) (sym groups) ascend;
  made = has.items_are ∙ ap (λ (is : List Item). put_admins (map item_row is) []) (sym made);
  in_order = has.order;
}

module _ (here : Inst) (w : World) (held : Held) (keeps : Keeps here w held) where
  -- what is held of an event under the bytes of an organisation is the rows so named
  own_read : (o : OrgId) (e : EventId) → rows_in (rows_named e (uid o.0) held.rows) ≡ Ok (named_rows o e (tables w.log here))
  own_read o e =
      ap (λ raws. rows_in (rows_named e (uid o.0) raws)) keeps.rows
      ∙ ap rows_in (rows_of_name o e (tables w.log here))
      ∙ rows_again _ (named_rows_kept o e (tables w.log here) keeps.are_rows)

  -- what is looked at of what is held is the rows so named
  looked_read : (l : Looks) → rows_in (rows_looked l held.rows) ≡ Ok (named_looked l (tables w.log here))
  looked_read l =
      ap (λ raws. rows_in (rows_looked l raws)) keeps.rows
      ∙ ap rows_in (looked_held l (tables w.log here))
      ∙ rows_again _ (named_looked_kept l (tables w.log here) keeps.are_rows)

  -- what is held of an event is that event's rows
  event_read : (e : EventId) → rows_in (rows_of e held.rows) ≡ Ok (event_rows e (tables w.log here))
  event_read e =
      ap (λ raws. rows_in (rows_of e raws)) keeps.rows
      ∙ ap rows_in (rows_of_event e (tables w.log here))
      ∙ rows_again _ (rows_kept e (tables w.log here) keeps.are_rows)

  -- the administration that is held is that of the instance
  pub admin_there : HasAdmin held.admin (w.groups here) (put_admins (map item_row (w.made here)) [])
  admin_there = record { order = keeps.in_order; groups_are = keeps.groups; items_are = keeps.made }

  -- the groups that are held are those of the instance
  pub groups_there : groups_of held ≡ w.groups here
  groups_there = ap or_none keeps.groups

  -- what is read within a reach is what the tables have there
  read_there : (reach : Reach) → (seen_in held).rows reach ≡ Ok (table_within reach (tables w.log here))
  unfolding rows_in
  read_there Reach.Nothing = refl
  read_there (Reach.Own o e) = own_read o e
  read_there (Reach.Looked l) = looked_read l
  read_there (Reach.Event e) = event_read e
  read_there Reach.All = ap rows_in keeps.rows ∙ rows_again _ keeps.are_rows

module _ (w : World) (host : Host) (now : ℕ) (it : Asked) (held : Held) (built : IsBuilt it.1) (keeps : Keeps host.name w held) where
  -- what it comes to is what it comes to over all rows of the instance, with its groups
  pub over_all : asked_where host now it (seen_in held) ≡ asked_over host now it (w.groups host.name) (Ok (tables w.log host.name))
  over_all =
      (λ i. asked_over host now it (groups_there host.name w held keeps i)
      (rows_read (bare_scene host now it.0 (groups_there host.name w held keeps i)) it.1 (λ reach. read_there host.name w held keeps reach i)))
      ∙ read_alike host now it.0 (w.groups host.name) (tables w.log host.name) keeps.are_rows (tables_are_tables w.log host.name) it.1 built

  -- and what the history says, whatever the number of the act
  pub told_there : (n : ℕ) → asked_where host now it (seen_in held) ≡ asked host.admin (scene n w (act_at host now it) (caller_at host.admin it.0)) it.1
  unfolding scene known_at
  told_there n = over_all ∙ sym (asked_as n (scene 0 w (act_at host now it) (caller_at host.admin it.0)) host.admin it.1)

-- rows that are put in their batch
pub rows_left : (rows : List Row) (held : Held) → put_batches (map spelled (row_batches rows)) held ≡ record held { rows = put_rows (map raw_row rows) held.rows }
unfolding with_batch put_rows put_admins
rows_left [] held = refl
rows_left (row ∷ rows) held = refl

rows_fit : (rows : List Row) → AreReadable (row_batches rows) → AreRows rows
rows_fit [] fits = tt
rows_fit (row ∷ rows) fits = fits.0.rows

module _ (net : Net) (n : ℕ) (w : World) (host : Host) (now : ℕ) (it : Asked) where
  abbrev there : Scene
  there = scene n w (act_at host now it) (caller_at host.admin it.0)

  abbrev after : World
  after = step net n w (act_at host now it)

  -- an accepted request writes what it brings, and a refused one nothing
  written_where : (is : Bool) → is_accepted there it.1 ≡ is → writes_in there it.1 ≡ cond is (rows_brought there it.1) []
  unfolding writes_in
  written_where is e = ap (λ t. cond t (rows_brought there it.1) []) e

  -- what a package brings that is handed in is merged
  package_put : (p : Package) → IsPackage p → tables (w.log ++ brings there (Ask.TakePart p)) host.name ≡ put_all (rows_brought there (Ask.TakePart p)) (tables w.log host.name)
  unfolding scene known_at brings taken_rows merged
  package_put p packs =
      handed_merged n w.log host.name it.0.org (w.groups host.name) p.rows (handed_table it.0.org p packs)
      ∙ sym (ap (λ rows. put_all rows (tables w.log host.name)) (newer_rows there p.rows ∙ taken_known it.0.org p packs host.name (w.groups host.name) (tables w.log host.name)))

  -- what an accepted request brings is put
  brought_put : (ask : Ask) → IsBuilt ask → list_all (λ v. ltb v.act n) w.log ≡ true → is_accepted there ask ≡ true
      → tables (w.log ++ brings there ask) host.name ≡ put_all (rows_brought there ask) (tables w.log host.name)
  unfolding scene known_at hands_in
  brought_put (Ask.TakePart p) built older is = package_put p built
  brought_put ask built older is = put_ask there w.log refl older ask refl is

  -- the tables after the act are those before with what it writes
  tables_left : IsBuilt it.1 → list_all (λ v. ltb v.act n) w.log ≡ true → tables after.log host.name ≡ put_all (writes_in there it.1) (tables w.log host.name)
  unfolding put_all scene known_at
  tables_left built older = elim (cases_Bool (is_accepted there it.1)) [
    | inl yes_ ↦
        ap (λ (v : World). tables v.log host.name) (step_accepted net n w (act_at host now it) (caller_at host.admin it.0) it.1 refl yes_)
        ∙ brought_put it.1 built older yes_
        ∙ sym (ap (λ rows. put_all rows (tables w.log host.name)) (written_where true yes_))
    | inr no_ ↦
        ap (λ (v : World). tables v.log host.name) (step_refused net n w (act_at host now it) (caller_at host.admin it.0) it.1 refl no_)
        ∙ sym (ap (λ rows. put_all rows (tables w.log host.name)) (written_where false no_))
  ]

  -- the act changes no tables elsewhere
  pub same_elsewhere : (j : Inst) → same_inst host.name j ≡ false → tables after.log j ≡ tables w.log j
  unfolding scene known_at
  same_elsewhere j apart = elim (cases_Bool (is_accepted there it.1)) [
    | inl yes_ ↦
        ap (λ (v : World). tables v.log j) (step_accepted net n w (act_at host now it) (caller_at host.admin it.0) it.1 refl yes_)
        ∙ tables_elsewhere host.name j (brings there it.1) w.log apart (brings_here there it.1)
    | inr no_ ↦ ap (λ (v : World). tables v.log j) (step_refused net n w (act_at host now it) (caller_at host.admin it.0) it.1 refl no_)
  ]

  -- it changes no groups
  pub same_groups : after.groups ≡ w.groups
  unfolding step model.asked
  same_groups = refl

  -- and makes nothing
  pub same_made : after.made ≡ w.made
  unfolding step model.asked
  same_made = refl

  -- the keeper holds the tables after it, where what is written is put
  rows_there : (held : Held) → IsBuilt it.1 → list_all (λ v. ltb v.act n) w.log ≡ true → Keeps host.name w held → AreReadable (row_batches (writes_in there it.1))
      → Keeps host.name after (put_batches (map spelled (row_batches (writes_in there it.1))) held)
  rows_there held built older keeps fits =
      let rows : List Row = writes_in there it.1 in
      let are : AreRows rows = rows_fit rows fits in
      let left_is : tables after.log host.name ≡ put_all rows (tables w.log host.name) = tables_left built older in
      subst (Keeps host.name after) (sym (rows_left rows held))
      (keeps_by host.name after (record held { rows = put_rows (map raw_row rows) held.rows }) _ (w.groups host.name) (w.made host.name) left_is
      (ap (λ (groups : Inst → List Group). groups host.name) same_groups) (ap (λ (made : Inst → List Item). made host.name) same_made)
      (ap (put_rows (map raw_row rows)) keeps.rows ∙ rows_put_held rows (tables w.log host.name) are keeps.are_rows) (rows_put rows (tables w.log host.name) are keeps.are_rows)
      (admin_there host.name w held keeps) keeps.are_groups keeps.ascend)

  -- and so where what the request comes to is left
  pub left_there : (held : Held) → IsBuilt it.1 → list_all (λ v. ltb v.act n) w.log ≡ true → Keeps host.name w held → AreReadable (asked_where host now it (seen_in held)).batches
      → Keeps host.name after (left spelled (asked_where host now it (seen_in held)) held)
  left_there held built older keeps =
      subst (λ (e : Effect Reply). AreReadable e.batches → Keeps host.name after (left spelled e held)) (sym (told_there w host now it held built keeps n)) (rows_there held built older keeps)
