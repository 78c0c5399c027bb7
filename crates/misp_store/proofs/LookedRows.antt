-- Of rows as a keeper holds them, what is looked at is what is looked at of the rows.
use Rattle.std.proofs.Common.{◌≡◌, List, [], ◌∷◌, Bool, true, false, refl, sym, ap, ◌∙◌, map, filter, ◌&&◌, cond, eqb}
use Rattle.misp_lists.proofs.Lists.{and_where, filter_twice}
use Rattle.misp_elem.specs.Spelling.{key}
use Rattle.misp_model.proofs.Prelude.{AreRows, IsRow, Key, OrgId, Row, event_of, event_rows, name_bytes, same_event, same_org}
use Rattle.misp_model.specs.Looking.{is_in_look, looks_at, rows_seen_by}
use Rattle.misp_model.specs.declared.looks.Looks.{Looks}
use Rattle.misp_store.specs.Raw.{raw_row}
use Rattle.misp_store.specs.Seeking.{HasKeys, IsLookOfKeys, is_looked}
use Rattle.misp_store.specs.Seen.{is_name_looked, look_at, names_in, owner_in, rows_looked}
use Rattle.misp_store.proofs.Fronts.{number_of_uid}
use Rattle.misp_store.proofs.LookedKeys.{look_alike}
use Rattle.misp_store.proofs.OwnersSought.{org}

-- ---- one row

-- its name begins with its owner
pub its_owner : (r : Row) → IsRow r → owner_in (name_bytes r) ≡ r.owner
unfolding name_bytes
its_owner r is = ap org (number_of_uid r.owner.0 (key r.key) is.0)

-- it is looked at as the rows of its owner are
pub as_owners : (l : Looks) (w : OrgId) (k : Key) → looks_at l w k ≡ is_in_look (look_at l w) l.event k
unfolding looks_at
as_owners l w k = chosen (same_org w l.of)
  where
    chosen : (own : Bool) → cond own (is_in_look l.own l.event k) (is_in_look l.others l.event k) ≡ is_in_look (cond own l.own l.others) l.event k
    chosen true = refl
    chosen false = refl

module _ (l : Looks) (has : HasKeys l) where
  owners_keys : (w : OrgId) → IsLookOfKeys (look_at l w)
  owners_keys w = chosen (same_org w l.of)
    where
      chosen : (own : Bool) → IsLookOfKeys (cond own l.own l.others)
      chosen true = has.own
      chosen false = has.others

  looked_alike : (r : Row) → IsRow r → same_event (event_of r.key) l.event ≡ true → is_name_looked l (name_bytes r) ≡ looks_at l r.owner r.key
  unfolding is_name_looked name_bytes
  looked_alike r is at =
      ap (λ w. names_in (look_at l w) l.event w (name_bytes r)) (its_owner r is)
      ∙ look_alike l.event (look_at l r.owner) r.owner r.key (owners_keys r.owner) is.1.0 at ∙ sym (as_owners l r.owner r.key)

  held_alike : (r : Row) → IsRow r → is_looked l (raw_row r) ≡ (same_event (event_of r.key) l.event && looks_at l r.owner r.key)
  unfolding raw_row same_event
  held_alike r is = and_where (eqb (event_of r.key).0.0 l.event.0.0) _ _ (looked_alike r is)

-- ---- all rows

pub rows_held_looked : (l : Looks) (rows : List Row) → HasKeys l → AreRows rows → rows_looked l (map raw_row rows) ≡ map raw_row (rows_seen_by l (event_rows l.event rows))
unfolding rows_looked rows_seen_by
rows_held_looked l rows has are =
    held rows are ∙ ap (map raw_row) (sym (filter_twice (λ r. same_event (event_of r.key) l.event) (λ r. looks_at l r.owner r.key) rows))
  where
    one : (r : Row) (rs : List Row) (p q : Bool) → p ≡ q → filter (is_looked l) (map raw_row rs) ≡ map raw_row (filter (λ r. same_event (event_of r.key) l.event && looks_at l r.owner r.key) rs)
        → cond p (raw_row r ∷ filter (is_looked l) (map raw_row rs)) (filter (is_looked l) (map raw_row rs))
        ≡ map raw_row (cond q (r ∷ filter (λ r. same_event (event_of r.key) l.event && looks_at l r.owner r.key) rs) (filter (λ r. same_event (event_of r.key) l.event && looks_at l r.owner r.key) rs))
    one r rs true true e rest = ap (λ t. raw_row r ∷ t) rest
    one r rs false false e rest = rest
    one r rs true false e rest = absurd cc
    one r rs false true e rest = absurd cc

    held : (rs : List Row) → AreRows rs → filter (is_looked l) (map raw_row rs) ≡ map raw_row (filter (λ r. same_event (event_of r.key) l.event && looks_at l r.owner r.key) rs)
    held [] are = refl
    held (r ∷ rs) are = one r rs _ _ (held_alike l has r are.0) (held rs are.1)
