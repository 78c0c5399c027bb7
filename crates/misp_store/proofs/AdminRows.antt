-- Rows of the administration that are read one after another: groups are put in their places, and items are in the order of their rows.
use Rattle.std.proofs.Common.{◌≡◌, ℕ, ◌+◌, ◌<◌, ◌≤◌, length, drop, get_or, List, [], ◌∷◌, ◌++◌, true, false, refl, sym, ap, subst, ◌∙◌, append-nil, Option, Some, None, Result, Ok, Err, inl, inr, option_map, IfSome, IsTrue}
use Rattle.std.proofs.Math.ListN.{drop_of_length-le}
use Rattle.std.proofs.lemmas.List.{drop_more}
use Rattle.misp_lists.proofs.Prelude.{ascend, cases_Bool}
use Rattle.misp_lists.proofs.Ordering.{ascend_kept}
use Rattle.misp_outside.specs.declared.row.AdminRow.{AdminRow}
use Rattle.misp_outside.specs.Held.{Held, admin_before}
use Rattle.misp_outside.proofs.Lists.{all_found, more_found}
use Rattle.misp_groups.specs.Groups.{put_groups}
use Rattle.misp_admins.specs.declared.item.Item.{Item}
use Rattle.misp_admin_rows.specs.Rows.{is_item, item_in, items_in, other_rows}
use Rattle.misp_model.proofs.Prelude.{Group, put_group}
use Rattle.misp_store.specs.declared.fault.RowFault.{RowFault}
use Rattle.misp_store.specs.Raw.{onto}
use Rattle.misp_store.specs.Sharing.{HoldsGroups, all_groups_in, group_in, groups_in}
use Rattle.misp_store.specs.Decoding.{IsNoGroup, NamesBadGroup, put_onto}
use Rattle.misp_store.proofs.GroupRows.{in_their_order}

-- ---- one row before others

pub nothing_read : groups_in [] ≡ Ok []
unfolding groups_in other_rows all_groups_in
nothing_read = refl

-- an item is passed over
item_first : (row : AdminRow) (rows : List AdminRow) → is_item row ≡ true → groups_in (row ∷ rows) ≡ groups_in rows
unfolding groups_in other_rows
item_first row rows is = rw is refl

-- any other row is read as a group
other_first : (row : AdminRow) (rows : List AdminRow) → is_item row ≡ false → groups_in (row ∷ rows) ≡ onto row.name (group_in row) (groups_in rows)
unfolding groups_in other_rows all_groups_in
other_first row rows is = rw is refl

alone : (row : AdminRow) → is_item row ≡ false → groups_in (row ∷ []) ≡ onto row.name (group_in row) (Ok [])
alone row is = other_first row [] is ∙ ap (onto row.name (group_in row)) nothing_read

-- ---- what is put of one row

none_put : (groups : List Group) → put_onto groups (groups_in []) ≡ Ok groups
unfolding put_groups
none_put groups = ap (put_onto groups) nothing_read

-- of an item nothing
pub item_put : (row : AdminRow) (item : Item) (groups : List Group) → item_in row ≡ Some item → put_onto groups (groups_in (row ∷ [])) ≡ Ok groups
item_put row item groups is = ap (put_onto groups) (item_first row [] (rw is refl)) ∙ none_put groups

-- of any other the group that it is
pub group_put_one : (row : AdminRow) (groups put : List Group) → item_in row ≡ None → Some put ≡ option_map (λ g. put_group g groups) (group_in row) → put_onto groups (groups_in (row ∷ [])) ≡ Ok put
unfolding put_groups
group_put_one row groups put is e = ap (put_onto groups) (alone row (rw is refl)) ∙ by_group (group_in row) e
  where
    by_group : (found : Option Group) → Some put ≡ option_map (λ g. put_group g groups) found → put_onto groups (onto row.name found (Ok [])) ≡ Ok put
    by_group None e = absurd cc
    by_group (Some g) e = cc

-- a row that is neither
pub none_alone : (row : AdminRow) (fault : RowFault) → item_in row ≡ None → IsNoGroup row fault → NamesBadGroup (groups_in (row ∷ [])) fault
none_alone row (RowFault.BadRow name) is bad = alone row (rw is refl) ∙ ap (λ found. onto row.name found (Ok [])) bad.1 ∙ ap Err (sym bad.0)
none_alone row RowFault.NoMemory is bad = tt

-- ---- one row, and then others

-- what a row gives is put, and then what the others give
others_then : (name : List ℕ) (found : Option Group) (groups put : List Group) (others : Result (List Group) (List ℕ)) → put_onto groups (onto name found (Ok [])) ≡ Ok put
    → put_onto groups (onto name found others) ≡ put_onto put others
unfolding put_groups
others_then name None groups put others e = absurd cc
others_then name (Some g) groups put (Ok hs) e = let same : put_group g groups ≡ put = cc in ap (λ gs. Ok (put_groups gs hs)) same
others_then name (Some g) groups put (Err first) e = refl

put_then : (row : AdminRow) (rows : List AdminRow) (groups put : List Group) → put_onto groups (groups_in (row ∷ [])) ≡ Ok put → put_onto groups (groups_in (row ∷ rows)) ≡ put_onto put (groups_in rows)
put_then row rows groups put e = elim (cases_Bool (is_item row)) [
  | inl is ↦
      let all : Ok groups ≡ Ok put = sym (ap (put_onto groups) (item_first row [] is) ∙ none_put groups) ∙ e in
      let same : groups ≡ put = cc in
      ap (put_onto groups) (item_first row rows is) ∙ ap (λ gs. put_onto gs (groups_in rows)) same
  | inr isnt ↦
      ap (put_onto groups) (other_first row rows isnt)
      ∙ others_then row.name (group_in row) groups put (groups_in rows) (sym (ap (put_onto groups) (alone row isnt)) ∙ e)
]

none_then : (name bad : List ℕ) (found : Option Group) (others : Result (List Group) (List ℕ)) → onto name found (Ok []) ≡ Err bad → onto name found others ≡ Err bad
none_then name bad None others e = e
none_then name bad (Some g) others e = absurd cc

bad_then : (row : AdminRow) (rows : List AdminRow) (bad : List ℕ) → groups_in (row ∷ []) ≡ Err bad → groups_in (row ∷ rows) ≡ Err bad
bad_then row rows bad e = elim (cases_Bool (is_item row)) [
  | inl is ↦ absurd (let all : Ok [] ≡ Err bad = sym (item_first row [] is ∙ nothing_read) ∙ e in cc)
  | inr isnt ↦ other_first row rows isnt ∙ none_then row.name bad (group_in row) (groups_in rows) (sym (alone row isnt) ∙ e)
]

bad_put : (groups : List Group) (bad : List ℕ) (read : Result (List Group) (List ℕ)) → put_onto groups read ≡ Err bad → read ≡ Err bad
bad_put groups bad (Ok gs) e = absurd cc
bad_put groups bad (Err name) e = e

items_then : (row : AdminRow) (rows : List AdminRow) → items_in (row ∷ rows) ≡ items_in (row ∷ []) ++ items_in rows
unfolding items_in
items_then row rows = by_item (item_in row) refl
  where
    by_item : (found : Option Item) → item_in row ≡ found → items_in (row ∷ rows) ≡ items_in (row ∷ []) ++ items_in rows
    by_item None is = rw is refl
    by_item (Some item) is = rw is refl

-- the item of a row behind others
pub item_added : (row : AdminRow) (item : Item) (items : List Item) → item_in row ≡ Some item → items ++ item ∷ [] ≡ items ++ items_in (row ∷ [])
unfolding items_in
item_added row item items is = rw is refl

pub none_added : (row : AdminRow) (items : List Item) → item_in row ≡ None → items ≡ items ++ items_in (row ∷ [])
unfolding items_in
none_added row items is = rw is (sym (append-nil items))

-- ---- a loop over rows

module _ (rows : List AdminRow) (i : ℕ) where
  -- a row, and those after it
  next_is : (row : AdminRow) → i < length rows → row ≡ get_or rows i row → drop i rows ≡ row ∷ drop (i + 1) rows
  next_is row l is = drop_more rows i row l ∙ ap (λ (r : AdminRow). r ∷ drop (i + 1) rows) (sym is)

  module _ (groups : List Group) (total : Result (List Group) (List ℕ)) (so_far : put_onto groups (groups_in (drop i rows)) ≡ total) where
    -- what the next row gives is put
    pub put_next : (row : AdminRow) (put : List Group) → i < length rows → row ≡ get_or rows i row → put_onto groups (groups_in (row ∷ [])) ≡ Ok put → put_onto put (groups_in (drop (i + 1) rows)) ≡ total
    put_next row put l is e = sym (put_then row (drop (i + 1) rows) groups put e) ∙ ap (λ rs. put_onto groups (groups_in rs)) (sym (next_is row l is)) ∙ so_far

    -- all is put
    pub put_all_done : length rows ≤ i → total ≡ Ok groups
    put_all_done l = sym so_far ∙ ap (λ rs. put_onto groups (groups_in rs)) (drop_of_length-le rows l) ∙ none_put groups

  -- the next row is neither a group nor an item
  pub bad_next : (groups : List Group) (row : AdminRow) (fault : RowFault) → put_onto groups (groups_in (drop i rows)) ≡ put_onto [] (groups_in rows) → i < length rows → row ≡ get_or rows i row
      → NamesBadGroup (groups_in (row ∷ [])) fault → NamesBadGroup (groups_in rows) fault
  bad_next groups row (RowFault.BadRow name) so_far l is bad =
      bad_put [] name (groups_in rows) (sym so_far ∙ ap (put_onto groups) (ap groups_in (next_is row l is) ∙ bad_then row (drop (i + 1) rows) name bad))
  bad_next groups row RowFault.NoMemory so_far l is bad = tt

  module _ (found : List Item) (so_far : found ++ items_in (drop i rows) ≡ items_in rows) where
    -- what the next row is, if it is an item, is added
    pub items_next : (row : AdminRow) (more : List Item) → i < length rows → row ≡ get_or rows i row → more ≡ found ++ items_in (row ∷ []) → more ++ items_in (drop (i + 1) rows) ≡ items_in rows
    items_next row more l is added =
        more_found items_in found (items_in (row ∷ [])) more row (drop (i + 1) rows) (drop i rows) (items_in rows) (items_then row (drop (i + 1) rows)) added (next_is row l is) so_far

    pub items_all : length rows ≤ i → found ≡ items_in rows
    unfolding items_in
    items_all l = all_found items_in found (drop i rows) (items_in rows) refl (drop_of_length-le rows l) so_far

-- ---- what a keeper reports

in_order : (rows : List AdminRow) (groups : List Group) → ascend admin_before rows ≡ true → put_onto [] (groups_in rows) ≡ Ok groups → groups_in rows ≡ Ok groups
unfolding groups_in other_rows
in_order rows groups up e = in_their_order (other_rows rows) groups (ascend_kept admin_before _ rows up) e

-- the groups, where they are put one after another
pub groups_held : (held : Option Held) (rows : List AdminRow) (groups : List Group) → IfSome held (λ told. rows ≡ told.admin) → IfSome held (λ told. IsTrue (ascend admin_before rows))
    → put_onto [] (groups_in rows) ≡ Ok groups → HoldsGroups held groups
groups_held None rows groups found up e = tt
groups_held (Some told) rows groups found up e = record {
  order = subst (λ rs. ascend admin_before rs ≡ true) found up;
  are = subst (λ rs. groups_in rs ≡ Ok groups) found (in_order rows groups up e);
}

-- the items
pub items_held : (held : Option Held) (rows : List AdminRow) (items : List Item) → IfSome held (λ told. rows ≡ told.admin) → items ≡ items_in rows → IfSome held (λ told. items ≡ items_in told.admin)
items_held None rows items found are = tt
items_held (Some told) rows items found are = are ∙ ap items_in found
