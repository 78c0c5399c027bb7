-- Sharing groups as a keeper holds them: they are read, and put where the groups are put.
use Rattle.std.proofs.Common.{◌≡◌, ℕ, ◌+◌, ◌<◌, ◌≤◌, length, drop, get_or, List, [], ◌∷◌, Bool, true, false, refl, sym, ap, subst, ◌∙◌, map, cond, Option, Some, None, Result, Ok, Err, arith, inl, inr, append-nil, ◌&&◌, ◌==◌, not, bytes_eq}
use Rattle.std.proofs.Common.{option_map, IfSome, IsTrue, filter, Less, nat_cmp, is_lt, is_eq, ltb-true, lt-ltb}
use Rattle.std.specs.Result.{result_ok}
use Rattle.std.proofs.Math.ListN.{drop_of_length-le}
use Rattle.std.proofs.lemmas.List.{drop_more}
use Rattle.misp_lists.proofs.Prelude.{IsStrictlySortedBy, ascend, cases_Bool, less_of}
use Rattle.misp_lists.proofs.Orders.{then_equal}
use Rattle.misp_ids.specs.Same.{same_group, group_before}
use Rattle.misp_outside.specs.declared.row.AdminRow.{AdminRow}
use Rattle.misp_outside.specs.Held.{Held, admin_before, same_admin, put_admin}
use Rattle.misp_groups.specs.Groups.{by_id, by_name, put_groups}
use Rattle.misp_groups.proofs.Ids.{same_by_id, before_is}
use Rattle.misp_groups.proofs.Putting.{in_order_again}
use Rattle.misp_elem.proofs.KeyOrder.{uid_orders}
use Rattle.misp_format.specs.Prelude.{IsGroup, group_in_text, uncarried}
use Rattle.misp_format.specs.WholeGroup.{group_text}
use Rattle.misp_model.proofs.Prelude.{AllByRecursion, Group, GroupId, IsUid, and_from, and_parts, bytes_eq-Decides, is_eq-slice_cmp, list_all, nat_tests, ordering_then, put, put_group, slice_cmp, uid}
use Rattle.misp_store.specs.Raw.{onto}
use Rattle.misp_store.specs.Sharing.{carried_flag, group_name, group_row, flagged, group_told, is_id, is_row_of, group_where, group_in, all_groups_in}
use Rattle.misp_store.specs.Decoding.{put_onto}

-- ---- names

-- its identifiers have sixteen bytes
abbrev IsId : GroupId → Type 0
IsId id = IsUid id.creator.0 × IsUid id.uuid

-- names are in the order of their bytes
names_in_bytes : (a b : GroupId) → IsId a → IsId b → slice_cmp nat_cmp (group_name a) (group_name b) ≡ by_id a b
unfolding group_name
names_in_bytes a b h k =
    uid_orders.by_bytes a.creator.0 b.creator.0 (uid a.uuid) (uid b.uuid) h.0 k.0
    ∙ ap (ordering_then (nat_cmp a.creator.0.0 b.creator.0.0))
    ((λ i. slice_cmp nat_cmp (sym (append-nil (uid a.uuid)) i) (sym (append-nil (uid b.uuid)) i))
    ∙ uid_orders.by_bytes a.uuid b.uuid [] [] h.1 k.1 ∙ then_equal (nat_cmp a.uuid.0 b.uuid.0))

-- the rows of groups are in the order of the groups
before_held : (a b : Group) → IsId a.id → IsId b.id → admin_before (group_row a) (group_row b) ≡ group_before a.id b.id
unfolding admin_before group_row
before_held a b h k = ap is_lt (names_in_bytes a.id b.id h k) ∙ before_is a.id b.id

-- the rows of one group are held under one name
same_held : (a b : Group) → IsId a.id → IsId b.id → same_admin (group_row a) (group_row b) ≡ same_group a.id b.id
unfolding same_admin group_row
same_held a b h k = sym (is_eq-slice_cmp (group_name a.id) (group_name b.id)) ∙ ap is_eq (names_in_bytes a.id b.id h k) ∙ same_by_id a.id b.id

-- ---- reading

-- the identifiers of a group that was read have sixteen bytes
id_is : (id : GroupId) → is_id id ≡ true → IsId id
id_is id e = let parts = and_parts _ _ e in (ltb-true _ _ parts.0, ltb-true _ _ parts.1)

where_is : (row : AdminRow) (told : Option Group) (g : Group) → group_where row told ≡ Some g → is_row_of row g ≡ true
where_is row None g e = absurd cc
where_is row (Some h) g e = elim (cases_Bool (is_row_of row h)) [
  | inl is ↦
      let same : Some h ≡ Some g = sym (ap (λ b. cond b (Some h) None) is) ∙ e in
      let equal : h ≡ g = cc in
      subst (λ (x : Group). is_row_of row x ≡ true) equal is
  | inr isnt ↦ absurd (let none : None ≡ Some g = sym (ap (λ b. cond b (Some h) None) isnt) ∙ e in cc)
]

-- a row that tells a group is that group's
told_by : (row : AdminRow) (g : Group) → group_in row ≡ Some g → is_row_of row g ≡ true
unfolding group_in
told_by row g e = where_is row (group_told row.bytes) g e

equal_kinds : (m n : ℕ) → (m == n) ≡ true → m ≡ n
equal_kinds m n e = grind (arith, nat_tests, e)

row_is : (row : AdminRow) (g : Group) → is_row_of row g ≡ true → row ≡ group_row g
unfolding is_row_of same_admin
row_is row g e =
    let all = and_parts _ _ e in
    let parts = and_parts _ _ all.1 in
    let names = and_parts _ _ parts.0 in
    λ i. record {
      kind = equal_kinds row.kind (group_row g).kind names.0 i;
      name = (bytes_eq-Decides row.name (group_row g).name).0 names.1 i;
      bytes = (bytes_eq-Decides row.bytes (group_row g).bytes).0 parts.1 i;
    }

-- the group is read from its own row
abbrev pub IsRead : Group → Type 0
IsRead g = group_in (group_row g) ≡ Some g

abbrev pub AreRead : List Group → Type 0
AreRead [] = Unit {0}
AreRead (g ∷ gs) = IsRead g × AreRead gs

-- such a group has identifiers of sixteen bytes
read_id : (g : Group) → IsRead g → IsId g.id
unfolding is_row_of
read_id g is = id_is g.id (and_parts _ _ (told_by (group_row g) g is)).0

-- what is held of such groups is read as those groups
read_again : (gs : List Group) → AreRead gs → all_groups_in (map group_row gs) ≡ Ok gs
unfolding all_groups_in
read_again [] are = refl
read_again (g ∷ gs) are =
    ap (λ found. onto (group_row g).name found (all_groups_in (map group_row gs))) are.0 ∙ ap (onto (group_row g).name (Some g)) (read_again gs are.1)

-- the rows are those of groups that are read
record WereRead (rows : List AdminRow) (gs : List Group) : Type 0 where
  rows_are : rows ≡ map group_row gs
  read : AreRead gs

first_read : (row : AdminRow) (rows : List AdminRow) (gs : List Group) → ((hs : List Group) → all_groups_in rows ≡ Ok hs → WereRead rows hs)
    → (found : Option Group) (others : Result (List Group) (List ℕ)) → group_in row ≡ found → all_groups_in rows ≡ others → onto row.name found others ≡ Ok gs → WereRead (row ∷ rows) gs
first_read row rows gs rest None others f o e = absurd cc
first_read row rows gs rest (Some g) (Err name) f o e = absurd cc
first_read row rows gs rest (Some g) (Ok hs) f o e =
    let is : row ≡ group_row g = row_is row g (told_by row g f) in
    let were : WereRead rows hs = rest hs o in
    let all : g ∷ hs ≡ gs = cc in
    subst (WereRead (row ∷ rows)) all (record {
      rows_are = λ i. is i ∷ were.rows_are i;
      read = (subst (λ (r : AdminRow). group_in r ≡ Some g) is f, were.read);
    })

were_read : (rows : List AdminRow) (gs : List Group) → all_groups_in rows ≡ Ok gs → WereRead rows gs
unfolding all_groups_in
were_read [] gs e = let all : [] ≡ gs = cc in subst (WereRead []) all (record { rows_are = refl; read = tt })
were_read (row ∷ rows) gs e = first_read row rows gs (were_read rows) (group_in row) (all_groups_in rows) refl refl e

-- nothing else is read as groups
pub only_rows : (rows : List AdminRow) (gs : List Group) → all_groups_in rows ≡ Ok gs → rows ≡ map group_row gs
only_rows rows gs e = (were_read rows gs e).rows_are

-- ---- putting

chosen_read : (b : Bool) (gs hs : List Group) → AreRead gs → AreRead hs → AreRead (cond b gs hs)
chosen_read true gs hs are of_others = are
chosen_read false gs hs are of_others = of_others

filtered_read : (q : Group → Bool) (gs : List Group) → AreRead gs → AreRead (filter q gs)
filtered_read q [] are = tt
filtered_read q (g ∷ gs) are = chosen_read (q g) (g ∷ filter q gs) (filter q gs) (are.0, filtered_read q gs are.1) (filtered_read q gs are.1)

module _ (g : Group) (is : IsRead g) where
  others_held : (gs : List Group) → AreRead gs → filter (λ row. not (same_admin row (group_row g))) (map group_row gs) ≡ map group_row (filter (λ h. not (same_group h.id g.id)) gs)
  others_held [] are = refl
  others_held (h ∷ hs) are = grind (arith, others_held hs are.1, same_held h g (read_id h are.0) (read_id g is))

  place_held : (gs : List Group) → AreRead gs → put admin_before (group_row g) (map group_row gs) ≡ map group_row (put (λ a b. group_before a.id b.id) g gs)
  unfolding put
  place_held [] are = refl
  place_held (h ∷ hs) are = grind (arith, place_held hs are.1, before_held g h (read_id g is) (read_id h are.0))

  placed_read : (gs : List Group) → AreRead gs → AreRead (put (λ a b. group_before a.id b.id) g gs)
  unfolding put
  placed_read [] are = (is, tt)
  placed_read (h ∷ hs) are = chosen_read (group_before g.id h.id) (g ∷ h ∷ hs) (h ∷ put (λ a b. group_before a.id b.id) g hs) (is, are) (are.0, placed_read hs are.1)

  -- the row of a group is put where the group is
  pub group_put : (rows : List AdminRow) (gs : List Group) → all_groups_in rows ≡ Ok gs → all_groups_in (put_admin (group_row g) rows) ≡ Ok (put_group g gs)
  unfolding put_admin put_group
  group_put rows gs e =
      let were : WereRead rows gs = were_read rows gs e in
      let others : List Group = filter (λ h. not (same_group h.id g.id)) gs in
      let read : AreRead others = filtered_read (λ h. not (same_group h.id g.id)) gs were.read in
      ap (λ rs. all_groups_in (put_admin (group_row g) rs)) were.rows_are
      ∙ ap (λ rs. all_groups_in (put admin_before (group_row g) rs)) (others_held gs were.read)
      ∙ ap all_groups_in (place_held others read)
      ∙ read_again _ (placed_read others read)

-- ---- in order

before_named : (a b : Group) → IsId a.id → IsId b.id → admin_before (group_row a) (group_row b) ≡ true → by_name a b ≡ Less
unfolding admin_before group_row
before_named a b h k e = less_of (by_id a.id b.id) (sym (ap is_lt (names_in_bytes a.id b.id h k)) ∙ e)

all_behind : (g : Group) (gs : List Group) → IsRead g → AreRead gs → list_all (admin_before (group_row g)) (map group_row gs) ≡ true → AllByRecursion (λ h. by_name g h ≡ Less) gs
all_behind g [] is are e = tt
all_behind g (h ∷ hs) is are e =
    let parts = and_parts _ _ e in
    (before_named g h (read_id g is) (read_id h are.0) parts.0, all_behind g hs is are.1 parts.1)

ascended : (gs : List Group) → AreRead gs → ascend admin_before (map group_row gs) ≡ true → IsStrictlySortedBy by_name gs
unfolding ascend IsStrictlySortedBy
ascended [] are e = tt
ascended (g ∷ gs) are e =
    let parts = and_parts _ _ e in
    (all_behind g gs are.0 are.1 parts.0, ascended gs are.1 parts.1)

put_in_order : (rows : List AdminRow) (groups : List Group) (read : Result (List Group) (List ℕ)) → ascend admin_before rows ≡ true → all_groups_in rows ≡ read → put_onto [] read ≡ Ok groups → read ≡ Ok groups
put_in_order rows groups (Err name) up r e = absurd cc
put_in_order rows groups (Ok gs) up r e =
    let were : WereRead rows gs = were_read rows gs r in
    sym (ap Ok (in_order_again gs (ascended gs were.read (sym (ap (ascend admin_before) were.rows_are) ∙ up)))) ∙ e

-- groups that are put in their places in the order of their rows are those of the rows
pub in_their_order : (rows : List AdminRow) (groups : List Group) → ascend admin_before rows ≡ true → put_onto [] (all_groups_in rows) ≡ Ok groups → all_groups_in rows ≡ Ok groups
in_their_order rows groups up e = put_in_order rows groups (all_groups_in rows) up refl e

-- ---- groups that are groups

flag_again : (b : Bool) → (carried_flag b == 1) ≡ b
flag_again true = refl
flag_again false = refl

id_fits : (id : GroupId) → IsId id → is_id id ≡ true
id_fits id h = and_from _ _ (lt-ltb _ _ h.0) (lt-ltb _ _ h.1)

module _ (g : Group) (fits : IsId g.id) (back : group_in_text (group_text g) ≡ Ok (uncarried g)) where
  own_row : is_row_of (group_row g) g ≡ true
  unfolding is_row_of same_admin group_row
  own_row = and_from _ _ (id_fits g.id fits) (and_from _ _ (and_from _ _ refl ((bytes_eq-Decides (group_name g.id) (group_name g.id)).1 refl)) ((bytes_eq-Decides (group_row g).bytes (group_row g).bytes).1 refl))

  told_again : group_told (group_row g).bytes ≡ Some g
  unfolding group_told group_row
  told_again =
      ap (λ read. option_map (flagged (carried_flag g.carried)) (result_ok read)) back
      ∙ (λ i. Some (record g { carried = flag_again g.carried i }))

  -- a group whose text is read as it is, is read from its row
  pub read_when : IsRead g
  unfolding group_in
  read_when = ap (group_where (group_row g)) told_again ∙ ap (λ b. cond b (Some g) None) own_row

-- the text of each group is read as that group
abbrev pub AreReadBack : Type 0
AreReadBack = (g : Group) → IsGroup g → group_in_text (group_text g) ≡ Ok (uncarried g)

module _ (back : AreReadBack) where
  pub group_again : (g : Group) → IsGroup g → IsRead g
  group_again g is = read_when g (is.creator, is.uuid) (back g is)

  groups_read : (gs : List Group) → AllByRecursion IsGroup gs → AreRead gs
  groups_read [] are = tt
  groups_read (g ∷ gs) are = (group_again g are.0, groups_read gs are.1)

  -- what is held of groups is read as those groups
  pub groups_again : (gs : List Group) → AllByRecursion IsGroup gs → all_groups_in (map group_row gs) ≡ Ok gs
  groups_again gs are = read_again gs (groups_read gs are)

-- a row that is that of a group, by its parts
pub row_told : (row own : AdminRow) (g : Group) (same : Bool) → IsGroup g → own ≡ group_row g → same ≡ (same_admin row own && bytes_eq row.bytes own.bytes) → same ≡ is_row_of row g
unfolding is_row_of
row_told row own g same is e told =
    told
    ∙ ap (λ (o : AdminRow). same_admin row o && bytes_eq row.bytes o.bytes) e
    ∙ ap (λ b. b && (same_admin row (group_row g) && bytes_eq row.bytes (group_row g).bytes)) (sym (id_fits g.id (is.creator, is.uuid)))
