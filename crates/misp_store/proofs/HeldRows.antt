-- Rows as a keeper holds them: they are read, told by event and put as the tables have them.
use Rattle.std.proofs.Common.{◌≡◌, List, [], ◌∷◌, Bool, true, false, refl, sym, ap, ◌∙◌, map, cond, Some, None, Ok, arith, ◌&&◌, not, filter}
use Rattle.misp_outside.specs.Held.{comes_before, same_raw, put_raw, put_rows, rows_of}
use Rattle.misp_elem.proofs.Rows.{row_of_again}
use Rattle.misp_model.proofs.Prelude.{AreRows, EventId, IsRow, Row, and_from, bytes_eq-Decides, event_of, event_rows, name_bytes, put, put_all, put_row, same_event, same_event-refl, same_key, same_org, stands_before}
use Rattle.misp_model.specs.Machine.{event_number}
use Rattle.misp_model.proofs.NameOrder.{rows_in_bytes, same_in_bytes, before_is_less}
use Rattle.misp_store.specs.Raw.{raw_row, stands_under, row_read, row_in, onto, rows_in}

-- ---- reading

-- a row stands under its own event and name
stands_there : (r : Row) → stands_under (raw_row r) r ≡ true
unfolding stands_under raw_row
stands_there r = and_from _ _ (same_event-refl (event_of r.key)) ((bytes_eq-Decides (name_bytes r) (name_bytes r)).1 refl)

pub row_again : (r : Row) → IsRow r → row_in (raw_row r) ≡ Some r
unfolding row_in raw_row
row_again r is = ap (row_read (raw_row r)) (row_of_again r is) ∙ ap (λ b. cond b (Some r) None) (stands_there r)

-- what is held of rows is read as those rows
pub rows_again : (rows : List Row) → AreRows rows → rows_in (map raw_row rows) ≡ Ok rows
unfolding rows_in
rows_again [] are = refl
rows_again (r ∷ rs) are =
    ap (λ found. onto (raw_row r).name found (rows_in (map raw_row rs))) (row_again r are.0) ∙ ap (onto (raw_row r).name (Some r)) (rows_again rs are.1)

-- ---- the rows of an event

-- the rows of an event are held under it
pub rows_of_event : (e : EventId) (rows : List Row) → rows_of e (map raw_row rows) ≡ map raw_row (event_rows e rows)
unfolding rows_of raw_row same_event
rows_of_event e [] = refl
rows_of_event e (r ∷ rs) = grind (arith, rows_of_event e rs)

-- ---- putting

-- rows are in the order in which they are held
before_held : (a b : Row) → IsRow a → IsRow b → comes_before (raw_row a) (raw_row b) ≡ stands_before a b
unfolding comes_before raw_row event_number
before_held a b h k = sym (rows_in_bytes a b h k ∙ before_is_less (event_number a) (event_number b) (name_bytes a) (name_bytes b))

-- the rows of one owner and key are held under one event and name
same_held : (a b : Row) → IsRow a → IsRow b → same_raw (raw_row a) (raw_row b) ≡ (same_org a.owner b.owner && same_key a.key b.key)
unfolding same_raw raw_row event_number
same_held a b h k = sym (same_in_bytes a b h k)

others_held : (v : Row) (rows : List Row) → IsRow v → AreRows rows →
    filter (λ raw. not (same_raw raw (raw_row v))) (map raw_row rows)
    ≡ map raw_row (filter (λ r. not (same_org r.owner v.owner && same_key r.key v.key)) rows)
others_held v [] is are = refl
others_held v (r ∷ rs) is are = grind (arith, others_held v rs is are.1, same_held r v are.0 is)

place_held : (v : Row) (rows : List Row) → IsRow v → AreRows rows → put comes_before (raw_row v) (map raw_row rows) ≡ map raw_row (put stands_before v rows)
unfolding put
place_held v [] is are = refl
place_held v (r ∷ rs) is are = grind (arith, place_held v rs is are.1, before_held v r is are.0)

-- ---- they stay rows

rows_chosen : (b : Bool) (rows others : List Row) → AreRows rows → AreRows others → AreRows (cond b rows others)
rows_chosen true rows others are of_others = are
rows_chosen false rows others are of_others = of_others

pub rows_filtered : (q : Row → Bool) (rows : List Row) → AreRows rows → AreRows (filter q rows)
rows_filtered q [] are = tt
rows_filtered q (r ∷ rs) are = rows_chosen (q r) (r ∷ filter q rs) (filter q rs) (are.0, rows_filtered q rs are.1) (rows_filtered q rs are.1)

rows_placed : (v : Row) (rows : List Row) → IsRow v → AreRows rows → AreRows (put stands_before v rows)
unfolding put
rows_placed v [] is are = (is, tt)
rows_placed v (r ∷ rs) is are =
    rows_chosen (stands_before v r) (v ∷ r ∷ rs) (r ∷ put stands_before v rs) (is, are) (are.0, rows_placed v rs is are.1)

row_put : (v : Row) (rows : List Row) → IsRow v → AreRows rows → AreRows (put_row v rows)
unfolding put_row
row_put v rows is are = rows_placed v _ is (rows_filtered _ rows are)

-- rows that are put among rows leave rows
pub rows_put : (vs rows : List Row) → AreRows vs → AreRows rows → AreRows (put_all vs rows)
unfolding put_all
rows_put [] rows of_vs are = are
rows_put (v ∷ vs) rows of_vs are = rows_put vs (put_row v rows) of_vs.1 (row_put v rows of_vs.0 are)

-- the rows of an event are rows
pub rows_kept : (e : EventId) (rows : List Row) → AreRows rows → AreRows (event_rows e rows)
rows_kept e rows are = rows_filtered _ rows are

-- ---- rows put as they are held

row_put_held : (v : Row) (rows : List Row) → IsRow v → AreRows rows → put_raw (raw_row v) (map raw_row rows) ≡ map raw_row (put_row v rows)
unfolding put_raw put_row
row_put_held v rows is are = ap (put comes_before (raw_row v)) (others_held v rows is are) ∙ place_held v _ is (rows_filtered _ rows are)

-- putting rows as they are held is putting them
pub rows_put_held : (vs rows : List Row) → AreRows vs → AreRows rows → put_rows (map raw_row vs) (map raw_row rows) ≡ map raw_row (put_all vs rows)
unfolding put_rows put_all
rows_put_held [] rows of_vs are = refl
rows_put_held (v ∷ vs) rows of_vs are =
    ap (put_rows (map raw_row vs)) (row_put_held v rows of_vs.0 are) ∙ rows_put_held vs (put_row v rows) of_vs.1 (row_put v rows of_vs.0 are)
