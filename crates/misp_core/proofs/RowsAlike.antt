-- Rows in which tests find the same of an owner: they stay so where rows of the owner are put.
use Rattle.std.proofs.Common.{◌≡◌, ◌==◌, ◌&&◌, ◌||◌, ◌++◌, ◌∙◌, Bool, true, false, not, bytes_eq, eq-eqb, List, [], ◌∷◌, filter, map, Result, Ok, refl, sym, ap, arith}
use Rattle.std.proofs.lemmas.List.{append_cancel_left}
use Rattle.misp_lists.proofs.Lists.{alike, any_by, any_of_kept}
use Rattle.misp_lists.proofs.Ordering.{any_put}
use Rattle.misp_outside.specs.Held.{put_raw, put_rows, same_raw}
use Rattle.misp_outside.specs.declared.row.RawRow.{RawRow}
use Rattle.misp_elem.specs.KeyReading.{key_of}
use Rattle.misp_elem.specs.Prelude.{IsKey, key}
use Rattle.misp_elem.proofs.Keys.{key_of_again}
use Rattle.misp_model.proofs.Prelude.{AllByRecursion, EventId, IsRow, Key, OrgId, Row, and_from, and_parts, bytes_eq-Decides, event_of, is_row_of, list_any, name_bytes, put_all, put_row, row_of_name}
use Rattle.misp_model.proofs.Prelude.{same_event, same_key, same_key-refl, same_key-sound, same_org, same_org-refl, stands_before, uid}
use Rattle.misp_model.specs.Machine.{event_number}
use Rattle.misp_store.specs.Raw.{raw_row, rows_in}
use Rattle.misp_core.proofs.PutRead.{other_row, others_read, put_read}

-- tests of the owner's rows at keys find the same in both
abbrev pub AlikeFor : OrgId → List Row → List Row → Type 0
AlikeFor w xs ys = (k : Key) → IsKey k → (test : Row → Bool)
    → list_any (λ r. is_row_of w k r && test r) xs ≡ list_any (λ r. is_row_of w k r && test r) ys

-- the row can be, is of the owner and of the event
abbrev pub IsOurs : OrgId → EventId → Row → Type 0
IsOurs w e x = IsRow x × (x.owner ≡ w) × (same_event (event_of x.key) e ≡ true)

-- ---- keys

ok_same : {A E : Type 0} (a b : A) → ◌≡◌ {A = Result A E} (Ok a) (Ok b) → a ≡ b
ok_same a b h = cc

-- two keys have one spelling where they are one
one_key : (j k : Key) → IsKey j → IsKey k → key j ≡ key k → j ≡ k
one_key j k j_is k_is same = ok_same j k (sym (key_of_again j j_is) ∙ ap key_of same ∙ key_of_again k k_is)

-- ---- a row is put

both_same : (b t o c : Bool) → (b ≡ true → o ≡ c) → ((b && t) && o) ≡ (b && (t && c))
both_same true t o c h = ap (λ x. t && x) (h refl)
both_same false t o c h = refl

regroup : (b t c : Bool) → (b && (t && c)) ≡ ((b && t) && c)
regroup b t c = grind arith

-- rows that are held so are read, and rows of the owner and the event are held so
module _ (w : OrgId) (e : EventId) (within : RawRow → Bool) (there : (r : Row) → IsOurs w e r → within (raw_row r) ≡ true) where
  module _ (r : Row) (is : IsOurs w e r) where
    abbrev other_name : Row → Bool
    other_name = other_row within r is.0 (there r is)

    abbrev other_cell : Row → Bool
    other_cell s = not (same_org s.owner r.owner && same_key s.key r.key)

    -- a row of the owner at a key is of its name where it is at its key
    cell_same : (k : Key) → IsKey k → (s : Row) → is_row_of w k s ≡ true → other_name s ≡ other_cell s
    unfolding name_bytes event_number
    cell_same k k_is s h =
        let at : (s.owner ≡ w) × (s.key ≡ k) = row_of_name w k s h in
        let one_owner : s.owner ≡ r.owner = at.0 ∙ sym is.1 in
        ap not (alike ((event_number s == event_number r) && bytes_eq (name_bytes s) (name_bytes r)) (same_org s.owner r.owner && same_key s.key r.key)
        (λ named.
        let bytes : uid s.owner.0 ++ key s.key ≡ uid r.owner.0 ++ key r.key = (bytes_eq-Decides (name_bytes s) (name_bytes r)).0 (and_parts _ _ named).1 in
        let keys : key k ≡ key r.key =
        append_cancel_left (uid w.0) (key k) (key r.key) ((λ i. uid (sym at.0 i).0 ++ key (sym at.1 i)) ∙ bytes ∙ ap (λ o. uid o.0 ++ key r.key) is.1) in
        let same : s.key ≡ r.key = at.1 ∙ one_key k r.key k_is is.0.1.0 keys in
        and_from _ _ (ap (λ o. same_org o r.owner) one_owner ∙ same_org-refl r.owner) (ap (λ j. same_key j r.key) same ∙ same_key-refl r.key))
        (λ celled.
        let same : s.key ≡ r.key = same_key-sound s.key r.key (and_parts _ _ celled).1 in
        and_from _ _ (eq-eqb (event_number s) (event_number r) (ap (λ j. (event_of j).0.0) same))
        ((bytes_eq-Decides (name_bytes s) (name_bytes r)).1 (λ i. uid (one_owner i).0 ++ key (same i)))))

    row_read_alike : (raws : List RawRow) (xs ys : List Row) → rows_in (filter within raws) ≡ Ok xs → AlikeFor w xs ys
        → (more : List Row) × (rows_in (filter within (put_raw (raw_row r) raws)) ≡ Ok more) × AlikeFor w more (put_row r ys)
    unfolding put_raw put_row
    row_read_alike raws xs ys read same =
        let p = put_read within r is.0 (there r is) (filter (λ raw. not (same_raw raw (raw_row r))) raws) (filter other_name xs)
        (others_read within r is.0 (there r is) raws xs read) in (
          p.0,
          p.1,
          λ k k_is test.
              let q : Row → Bool = λ s. is_row_of w k s && test s in
              p.2 q
              ∙ ap (λ b. q r || b)
              (any_of_kept q other_name xs
              ∙ any_by (λ s. q s && other_name s) (λ s. is_row_of w k s && (test s && other_cell s))
              (λ s. both_same (is_row_of w k s) (test s) (other_name s) (other_cell s) (cell_same k k_is s)) xs
              ∙ same k k_is (λ s. test s && other_cell s)
              ∙ any_by (λ s. is_row_of w k s && (test s && other_cell s)) (λ s. q s && other_cell s) (λ s. regroup (is_row_of w k s) (test s) (other_cell s)) ys
              ∙ sym (any_of_kept q other_cell ys))
              ∙ sym (any_put stands_before q r (filter other_cell ys)),
        )

  -- the same of all that are put
  pub rows_read_alike : (rs : List Row) → AllByRecursion (IsOurs w e) rs → (raws : List RawRow) (xs ys : List Row) → rows_in (filter within raws) ≡ Ok xs → AlikeFor w xs ys
      → (more : List Row) × (rows_in (filter within (put_rows (map raw_row rs) raws)) ≡ Ok more) × AlikeFor w more (put_all rs ys)
  unfolding put_rows put_all
  rows_read_alike [] ours raws xs ys read same = (xs, read, same)
  rows_read_alike (r ∷ rs) ours raws xs ys read same =
      let one = row_read_alike r ours.0 raws xs ys read same in
      rows_read_alike rs ours.1 (put_raw (raw_row r) raws) one.0 (put_row r ys) one.1 one.2
