-- What is sought of the rows that are held, one name after the other.
use Rattle.std.specs.Prelude.{◌≡◌, ℕ, ◌==◌, leb, ◌&&◌, Bool, true, false, bytes_eq, List, [], ◌∷◌, ◌++◌, filter, flat_map, map, Option, None, Some, IfSome}
use Rattle.std.specs.List.{list_all, list_any}
use Rattle.std.specs.Ordering.{is_ge, is_lt}
use Rattle.misp_lists.specs.Order.{ascend}
use Rattle.misp_lists.specs.Prelude.{AllByRecursion, nat_cmp, slice_cmp}
use Rattle.misp_ids.specs.Uid.{IsUid}
use Rattle.misp_ids.specs.declared.uid.ElemId.{ElemId}
use Rattle.misp_ids.specs.declared.uid.EventId.{EventId}
use Rattle.misp_ids.specs.declared.uid.OrgId.{OrgId}
use Rattle.misp_outside.specs.Held.{comes_before, next_row, rows_named}
use Rattle.misp_elem.specs.Key.{IsKey}
use Rattle.misp_elem.specs.KeyFacts.{is_statement}
use Rattle.misp_elem.specs.Spelling.{key, name, uid}
use Rattle.misp_elem.specs.declared.key.KeyForm.{KeyForm as Key}
use Rattle.misp_effects.specs.Prelude.{Held, RawRow}
use Rattle.misp_model.specs.declared.looks.Look.{Look}
use Rattle.misp_model.specs.declared.looks.Looks.{Looks}
use Rattle.misp_store.specs.Seen.{end_number, front_number, is_name_looked, look_at, names_by_uuid, names_in, names_statement}
use Rattle.misp_store.specs.declared.reach.Reach.{Reach}

-- ---- in which order

-- a key comes before another by its bytes
abbrev pub key_before : Key → Key → Bool
key_before a b = is_lt (slice_cmp nat_cmp (key a) (key b))

-- the keys are in the order of their bytes, and each is there once
unfoldable pub are_in_order : List Key → Bool
are_in_order keys = ascend key_before keys

-- so are those of a look; those besides uuids are of statements, which stand after all else
abbrev pub IsLookInOrder : Look → Type 0
IsLookInOrder (Look.Keys keys) = are_in_order keys ≡ true
IsLookInOrder (Look.Uuids us keys) =
    (are_in_order keys ≡ true) × (list_all is_statement keys ≡ true)
IsLookInOrder Look.Statements = Unit {0}
IsLookInOrder Look.All = Unit {0}

-- so are those that a request looks at
pub record HasKeysInOrder (l : Looks) : Type 0 where
  pub own : IsLookInOrder l.own
  pub others : IsLookInOrder l.others

-- its keys are keys, and its uuids are identifiers
abbrev pub IsLookOfKeys : Look → Type 0
IsLookOfKeys (Look.Keys keys) = AllByRecursion IsKey keys
IsLookOfKeys (Look.Uuids us keys) =
    AllByRecursion (λ (u : ElemId). IsUid u.0) us × AllByRecursion IsKey keys
IsLookOfKeys Look.Statements = Unit {0}
IsLookOfKeys Look.All = Unit {0}

-- so are those that a request looks at
pub record HasKeys (l : Looks) : Type 0 where
  pub own : IsLookOfKeys l.own
  pub others : IsLookOfKeys l.others

-- where a reach is what a request looks at, its keys are in the order of their bytes, each once
abbrev pub IsInOrder : Reach → Type 0
IsInOrder (Reach.Looked looks) = HasKeysInOrder looks
IsInOrder reach = Unit {0}

-- where a reach is what a request looks at, its keys are keys, and its uuids identifiers
abbrev pub IsOfKeys : Reach → Type 0
IsOfKeys (Reach.Looked looks) = HasKeys looks
IsOfKeys reach = Unit {0}

-- ---- what is found

-- of the rows of an event that of this name
unfoldable pub rows_at : EventId → List ℕ → List RawRow → List RawRow
rows_at event bytes raws =
    filter (λ raw. (raw.event.0.0 == event.0.0) && bytes_eq raw.name bytes) raws

-- those of an owner and of these keys, one key after the other
unfoldable pub rows_of_keys : EventId → OrgId → List Key → List RawRow → List RawRow
rows_of_keys event owner keys raws = flat_map (λ k. rows_at event (name owner k) raws) keys

-- those of an owner that are looked at
unfoldable pub rows_in_look : Look → EventId → OrgId → List RawRow → List RawRow
rows_in_look look event owner raws =
    filter (λ raw. (raw.event.0.0 == event.0.0) && names_in look event owner raw.name) raws

-- of the rows of an owner those that are looked at
abbrev pub rows_sought : Looks → OrgId → List RawRow → List RawRow
rows_sought l owner raws = rows_in_look (look_at l owner) l.event owner raws

-- those of an owner that are of statements
unfoldable pub rows_of_statements : EventId → OrgId → List RawRow → List RawRow
rows_of_statements e o raws =
    filter (λ raw. (raw.event.0.0 == e.0.0) && names_statement e o raw.name) raws

-- ---- by uuids

-- the element of a number
abbrev pub elem_of : ℕ → ElemId
elem_of n = record { 0 = record { 0 = n } }

-- one of these numbers is that which the name ends with
abbrev pub ends_among : List ℕ → RawRow → Bool
ends_among numbers raw = list_any (λ n. n == end_number raw.name) numbers

-- of the rows that begin so those that end with one of these numbers
unfoldable pub rows_ending : EventId → List ℕ → List ℕ → List RawRow → List RawRow
rows_ending e front numbers raws = filter (ends_among numbers) (rows_named e front raws)

-- those of an owner that are the event's own, an object's, or those of one of these uuids
unfoldable pub rows_of_uuids : EventId → OrgId → List ℕ → List RawRow → List RawRow
rows_of_uuids e o numbers raws =
    filter
    (λ raw. (raw.event.0.0 == e.0.0) && names_by_uuid (map elem_of numbers) e o raw.name) raws

-- ---- the first row of an owner

-- the rows ascend, and the row is the next from each name of the owner that is not after its own
pub record IsFirst (e : EventId) (o : OrgId) (row : RawRow) (raws : List RawRow) : Type 0 where
  pub up : ascend comes_before raws ≡ true
  pub next : (rest : List ℕ) → is_ge (slice_cmp nat_cmp row.name (uid o.0 ++ rest)) ≡ true
      → next_row e (uid o.0 ++ rest) raws ≡ Some row

-- so it is in what is held, where that is known
abbrev pub IsFirstHeld : EventId → OrgId → RawRow → Option Held → Type 0
IsFirstHeld e o row held = IfSome held (λ told. IsFirst e o row told.rows)

-- ---- from one owner on

-- no key is looked at
abbrev pub is_of_none : Look → Bool
is_of_none (Look.Keys []) = true
is_of_none (Look.Keys (k ∷ keys)) = false
is_of_none look = false

-- of the rows of others none is looked at
abbrev pub is_own_alone : Looks → Bool
is_own_alone l = is_of_none l.others

-- the row is one of these
abbrev pub is_looked : Looks → RawRow → Bool
is_looked l raw = (raw.event.0.0 == l.event.0.0) && is_name_looked l raw.name

-- what is looked at of the owners from this number on, or of none
unfoldable pub rows_from : Looks → Option ℕ → List RawRow → List RawRow
rows_from l None raws = []
rows_from l (Some least) raws =
    filter (λ raw. is_looked l raw && leb least (front_number raw.name)) raws
