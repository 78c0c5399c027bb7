-- What is granted, and what an organisation knows, is the same over the rows that are kept: over those of kept keys, whosever they are.
use Rattle.std.proofs.Common.{◌≡◌, List, Bool, true, ◌&&◌}
use Rattle.misp_model.specs.Prelude.{Element, EventId, Group, Inst, IsClosed, Key, OrgId, Place, Row, cut_rows, event_key, event_of, granted, has_copy, has_gone, has_home, is_row_of, known, list_any, parents}
use Rattle.misp_model.proofs.LookedRows.{IsClosedFor, event_from, event_of_place_from, granted_looked, has_copy_looked, has_gone_looked, has_home_looked, known_looked, looked_rows, own_rows_looked}

-- a closed set of keys, for each owner alike
pub by_key : (keep : Key → Bool) → IsClosed keep → (o : OrgId) → IsClosedFor o (λ w. keep)
by_key keep c o = record { above = λ w k n h. c.above k h; targets = λ w v k other said h. c.above k h }

-- what is said of the owner's rows of a kept key is said of the kept rows
pub own_rows_cut : (keep : Key → Bool) (w : OrgId) (k : Key) (test : Row → Bool) (rows : List Row) → keep k ≡ true →
    list_any (λ row. is_row_of w k row && test row) (cut_rows keep rows) ≡ list_any (λ row. is_row_of w k row && test row) rows
unfolding cut_rows looked_rows
own_rows_cut keep w k test rows h = own_rows_looked (λ v. keep) w k test rows h

pub has_copy_cut : (keep : Key → Bool) (w : OrgId) (e : EventId) (rows : List Row) → keep (event_key e) ≡ true → has_copy (cut_rows keep rows) w e ≡ has_copy rows w e
unfolding cut_rows looked_rows
has_copy_cut keep w e rows h = has_copy_looked (λ v. keep) w e rows h

pub has_home_cut : (keep : Key → Bool) (w : OrgId) (e : EventId) (rows : List Row) → keep (event_key e) ≡ true → has_home (cut_rows keep rows) w e ≡ has_home rows w e
unfolding cut_rows looked_rows
has_home_cut keep w e rows h = has_home_looked (λ v. keep) w e rows h

pub has_gone_cut : (keep : Key → Bool) (w : OrgId) (e : EventId) (rows : List Row) → keep (event_key e) ≡ true → has_gone (cut_rows keep rows) w e ≡ has_gone rows w e
unfolding cut_rows looked_rows
has_gone_cut keep w e rows h = has_gone_looked (λ v. keep) w e rows h

-- the event of a kept place is kept
pub event_of_place_kept : (keep : Key → Bool) → IsClosed keep → (e : EventId) (p : Place) → keep (Element e p) ≡ true → keep (event_key e) ≡ true
unfolding parents
event_of_place_kept keep c e p h = event_of_place_from keep e p (c.above (Element e p) h) h

-- the event of a kept key is kept
pub event_kept : (keep : Key → Bool) → IsClosed keep → (k : Key) → keep k ≡ true → keep (event_key (event_of k)) ≡ true
event_kept keep c k h = event_from keep k (c.above k h) h

pub granted_cut : (keep : Key → Bool) → IsClosed keep → (rows : List Row) (groups : List Group) (i : Inst) (o : OrgId) (row : Row) → keep row.key ≡ true →
    granted (cut_rows keep rows) groups i o row ≡ granted rows groups i o row
unfolding cut_rows looked_rows
granted_cut keep c rows groups i o row h = granted_looked o (λ v. keep) (by_key keep c o) rows groups i row (h, c.above row.key h)

-- what an organisation knows of the kept rows is what is kept of what it knows
pub known_cut : (keep : Key → Bool) → IsClosed keep → (rows : List Row) (groups : List Group) (i : Inst) (o : OrgId) →
    known (cut_rows keep rows) groups i o ≡ cut_rows keep (known rows groups i o)
unfolding cut_rows looked_rows
known_cut keep c rows groups i o = known_looked o (λ v. keep) (by_key keep c o) rows groups i
