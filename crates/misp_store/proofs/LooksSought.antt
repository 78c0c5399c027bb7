-- What is sought of one owner, each kind of look in its way, in what a keeper reports.
use Rattle.std.proofs.Common.{◌≡◌, ℕ, ◌^◌, ◌<◌, List, ◌++◌, Bool, map, sym, ap, ◌∙◌, append_assoc, Option, Some, None, IfSome, IsTrue, OnOk, Result, Ok, Err, nat_cmp, subst}
use Rattle.std.specs.List.Sorted.{IsStrictlySortedBy}
use Rattle.misp_lists.specs.Order.{ascend}
use Rattle.misp_lists.specs.Prelude.{AllByRecursion, list_any}
use Rattle.misp_outside.specs.Held.{Held, comes_before, rows_named}
use Rattle.misp_outside.specs.Reporting.{StaysHeld}
use Rattle.misp_outside.proofs.Reporting.{known_still}
use Rattle.misp_elem.specs.Parents.{event_key}
use Rattle.misp_elem.specs.Spelling.{name, uid}
use Rattle.misp_effects.specs.Prelude.{RawRow}
use Rattle.misp_model.proofs.Prelude.{ElemId, EventId, Key, OrgId}
use Rattle.misp_model.specs.declared.looks.Look.{Look}
use Rattle.misp_store.specs.Seeking.{IsFirstHeld, IsLookInOrder, elem_of, rows_at, rows_ending, rows_in_look, rows_of_keys, rows_of_statements, rows_of_uuids}
use Rattle.misp_store.specs.Seen.{attributes_of, kind_front, names_in, place_front}
use Rattle.misp_store.proofs.LookParts.{kinds_found, statements_found}
use Rattle.misp_store.proofs.NamedRows.{rows_by_keys}
use Rattle.misp_store.proofs.Sought.{joined}
use Rattle.misp_store.proofs.UuidNames.{uuids_found, uuids_parted}

-- what follows from what is so where all is well
pub on_ok : {A E P Q : Type 0} (r : Result A E) → (P → Q) → OnOk r P → OnOk r Q
on_ok (Ok x) f h = f h
on_ok (Err x) f h = tt

module _ (e : EventId) (o : OrgId) where
  -- what is found is what the owner has that is looked at
  abbrev pub LookFound : Option Held → Look → List RawRow → List RawRow → Type 0
  LookFound held look start now = IfSome held (λ told. now ≡ start ++ rows_in_look look e o told.rows)

  -- it is so of one look where it is so of the same
  pub as_look : (held : Option Held) (look same : Look) (start now : List RawRow) → look ≡ same → IsLookInOrder look → (IsLookInOrder same → LookFound held same start now) → LookFound held look start now
  as_look held look same start now is sorted found = subst (λ l. LookFound held l start now) (sym is) (found (subst IsLookInOrder is sorted))

  pub all_in_look : (held : Option Held) (start now : List RawRow) → IfSome held (λ told. now ≡ start ++ rows_named e (uid o.0) told.rows) → LookFound held Look.All start now
  unfolding rows_in_look names_in rows_named
  all_in_look None start now found = tt
  all_in_look (Some told) start now found = found

  module _ (first : RawRow) where
    pub keys_in_look : (held : Option Held) (keys : List Key) (start now : List RawRow) → IsFirstHeld e o first held → IsLookInOrder (Look.Keys keys)
        → IfSome held (λ told. now ≡ start ++ rows_of_keys e o keys told.rows) → LookFound held (Look.Keys keys) start now
    unfolding rows_in_look names_in
    keys_in_look None keys start now is sorted found = tt
    keys_in_look (Some told) keys start now is sorted found = found ∙ ap (λ t. start ++ t) (sym (rows_by_keys e o keys told.rows sorted is.up))

    -- the event's own row, and then those of statements
    pub statements_in_look : (held after : Option Held) (start mid now : List RawRow) → StaysHeld held after → IsFirstHeld e o first after
        → IfSome held (λ told. mid ≡ start ++ rows_at e (name o (event_key e)) told.rows)
        → IfSome after (λ told. IsTrue (ascend comes_before told.rows) → now ≡ mid ++ rows_of_statements e o told.rows) → LookFound after Look.Statements start now
    statements_in_look held None start mid now kept is found next = tt
    statements_in_look held (Some told) start mid now kept is found next =
        let its_own : mid ≡ start ++ rows_at e (name o (event_key e)) told.rows = known_still held (Some told) (λ told. mid ≡ start ++ rows_at e (name o (event_key e)) told.rows) kept found in
        next is.up ∙ ap (λ t. t ++ rows_of_statements e o told.rows) its_own ∙ append_assoc start (rows_at e (name o (event_key e)) told.rows) (rows_of_statements e o told.rows)
        ∙ ap (λ t. start ++ t) (statements_found e o told.rows is.up)

    module _ (us : List ElemId) (keys : List Key) (ns : List ℕ) (same : (p : ℕ → Bool) → list_any p ns ≡ list_any (λ u. p u.0.0) us)
        (sorted : IsLookInOrder (Look.Uuids us keys)) where
      both_in_look : (held : Option Held) (start now : List RawRow) → IsFirstHeld e o first held → IfSome held (λ told. now ≡ start ++ (rows_of_uuids e o ns told.rows ++ rows_of_keys e o keys told.rows))
          → LookFound held (Look.Uuids us keys) start now
      both_in_look None start now is found = tt
      both_in_look (Some told) start now is found = found ∙ ap (λ t. start ++ t) (uuids_found e o us keys ns same sorted.1 sorted.0 told.rows is.up)

      pub uuids_in_look : (held after : Option Held) (start mid now : List RawRow) → StaysHeld held after → IsFirstHeld e o first after
          → IfSome held (λ told. mid ≡ start ++ rows_of_uuids e o ns told.rows) → IfSome after (λ told. now ≡ mid ++ rows_of_keys e o keys told.rows) → LookFound after (Look.Uuids us keys) start now
      uuids_in_look held after start mid now kept is first next = both_in_look after start now is (joined held after (rows_of_uuids e o ns) (rows_of_keys e o keys) start mid now kept first next)

    -- what is of the uuids, one part after the other
    pub parts_sought : (ns : List ℕ) → AllByRecursion (λ n. n < 2 ^ 128) ns → IsStrictlySortedBy nat_cmp ns → (held : Option Held) (start now : List RawRow) → IsFirstHeld e o first held
        → IfSome held (λ told. now ≡ start ++ (rows_at e (name o (event_key e)) told.rows
        ++ (rows_named e (place_front o e 1) told.rows ++ (rows_of_keys e o (attributes_of e (map elem_of ns)) told.rows ++ (rows_ending e (place_front o e 3) ns told.rows ++ rows_ending e (kind_front o e 1) ns told.rows)))))
        → IfSome held (λ told. now ≡ start ++ rows_of_uuids e o ns told.rows)
    parts_sought ns fit ascending None start now is found = tt
    parts_sought ns fit ascending (Some told) start now is found = found ∙ ap (λ t. start ++ t) (uuids_parted e o ns fit ascending told.rows is.up)

  -- what is of one kind of statements, and then of the next
  pub kinds_sought : (held : Option Held) (start now : List RawRow)
      → IfSome held (λ told. now ≡ start ++ (rows_named e (kind_front o e 2) told.rows ++ (rows_named e (kind_front o e 3) told.rows ++ rows_named e (kind_front o e 4) told.rows)))
      → IfSome held (λ told. IsTrue (ascend comes_before told.rows) → now ≡ start ++ rows_of_statements e o told.rows)
  kinds_sought None start now found = tt
  kinds_sought (Some told) start now found = λ up. found ∙ ap (λ t. start ++ t) (kinds_found e o told.rows up)
