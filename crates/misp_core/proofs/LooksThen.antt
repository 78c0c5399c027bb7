-- What is looked at then, by the rows that are found first.
use Rattle.std.proofs.Common.{◌≡◌, List, Bool, refl, ap, sym, ◌∙◌, ◌&&◌, cond, find, Option, Some, None, IfSome, option_map, Result, subst, ℕ}
use Rattle.misp_model.proofs.Prelude.{EventId, OrgId, Row, Scene, chosen, event_key, granted, has_copy, is_row_of}
use Rattle.misp_model.specs.Looking.{at_shown, beside, change_looks, more_for_change, more_looks, over}
use Rattle.misp_model.specs.declared.change.Change.{Change}
use Rattle.misp_model.specs.declared.change.Change.TheVariants.{AddEvent}
use Rattle.misp_effects.specs.Prelude.{Held}
use Rattle.misp_store.specs.Loading.{NamesFault}
use Rattle.misp_store.specs.Reach.{reach_of, wide_change_reach, within}
use Rattle.misp_store.specs.declared.fault.LoadFault.{LoadFault}
use Rattle.misp_store.specs.declared.reach.Reach.{Reach}
use Rattle.misp_store.specs.Seen.{seen_in}
use Rattle.misp_core.specs.Reading.{ReadRows, after_first, rows_read}
use Rattle.misp_model.specs.Scene.{holds_copy}
use Rattle.misp_model.specs.Shown.{event_row}
use Rattle.misp_model.specs.declared.ask.Ask.{Ask}
use Rattle.misp_model.specs.declared.ask.Ask.TheVariants.{View}
use Rattle.misp_model.specs.declared.looks.Looks.{Looks}

-- where the caller has a copy a change looks at no more, and else at the event's row in each
pub change_then : (s : Scene) (o : OrgId) (rows : List Row) (l : Looks) (b : Bool) → s.by ≡ o → has_copy rows o l.event ≡ b → cond b None (Some (beside l)) ≡ more_for_change (over s rows) (Some l)
unfolding holds_copy
change_then s o rows l b by is = ap (λ (t : Bool). cond t None (Some (beside l))) (sym is ∙ (λ i. has_copy rows (sym by i) l.event))

-- the event row that is shown hangs on the rows, the groups, the instance and the caller alone
row_alike : (s t : Scene) (e : EventId) (owner : Option OrgId) → s.rows ≡ t.rows → s.groups ≡ t.groups → s.at ≡ t.at → s.by ≡ t.by → event_row s e owner ≡ event_row t e owner
unfolding event_row
row_alike s t e None rows groups at by = λ i. chosen (rows i) (groups i) (at i) (by i) e
row_alike s t e (Some w) rows groups at by = λ i. find (λ row. is_row_of w (event_key e) row && granted (rows i) (groups i) (at i) (by i) row) (rows i)

-- a view looks at the copy whose owner is shown
pub view_then : (s t : Scene) (e : EventId) (owner : Option OrgId) (w : Option OrgId) → s.rows ≡ t.rows → s.groups ≡ t.groups → s.at ≡ t.at → s.by ≡ t.by
    → w ≡ option_map (λ row. row.owner) (event_row t e owner) → option_map (λ (o : OrgId). at_shown o e) w ≡ more_looks s (View e owner)
view_then s t e owner w rows groups at by is =
    ap (option_map (λ (o : OrgId). at_shown o e)) (is ∙ ap (option_map (λ (row : Row). row.owner)) (sym (row_alike s t e owner rows groups at by)))
    ∙ of_row (event_row s e owner)
  where
    of_row : (o : Option Row) → option_map (λ (w : OrgId). at_shown w e) (option_map (λ (row : Row). row.owner) o) ≡ option_map (λ (row : Row). at_shown row.owner e) o
    of_row None = refl
    of_row (Some row) = refl

-- what a change looks at first, where that is within its reach
first_of : (by : OrgId) (c : Change) (o : Option Looks) (l : Looks) → within o (wide_change_reach by c) ≡ Reach.Looked l → o ≡ Some l
first_of by c (Some m) l is = ap Some cc
first_of by (AddEvent b) None l is = absurd cc
first_of by c None l is = absurd cc

-- so what it looks at then is by this
pub by_first : (s : Scene) (rows : List Row) (c : Change) (l : Looks) → within (change_looks s.by c) (wide_change_reach s.by c) ≡ Reach.Looked l → more_for_change (over s rows) (Some l) ≡ more_looks (over s rows) (Ask.Change c)
by_first s rows c l is = sym (ap (more_for_change (over s rows)) (first_of s.by c (change_looks s.by c) l is))

-- ---- rows that are not read

bad_after : (s : Scene) (ask : Ask) (read : ReadRows) (found : Result (List Row) (List ℕ)) (fault : LoadFault) → NamesFault found fault → NamesFault (after_first s ask read found) fault
bad_after s ask read found (LoadFault.BadRow name) is = ap (after_first s ask read) is
bad_after s ask read found LoadFault.KeeperFault is = tt
bad_after s ask read found LoadFault.NoMemory is = tt

-- the fault of what is read first is that of all
pub bad_first : (s : Scene) (ask : Ask) (read : ReadRows) (fault : LoadFault) → NamesFault (read (reach_of s.at s.by ask)) fault → NamesFault (rows_read s ask read) fault
bad_first s (View event owner) read fault is = bad_after s (View event owner) read _ fault is
bad_first s (Ask.Change change) read fault is = bad_after s (Ask.Change change) read _ fault is
bad_first s ask read fault is = is

-- so it is where a keeper tells what it holds
pub told_bad : (s : Scene) (ask : Ask) (held : Option Held) (reach : Reach) (fault : LoadFault) → reach ≡ reach_of s.at s.by ask
    → IfSome held (λ h. NamesFault ((seen_in h).rows reach) fault) → IfSome held (λ h. NamesFault (rows_read s ask (seen_in h).rows) fault)
told_bad s ask None reach fault is bad = tt
told_bad s ask (Some h) reach fault is bad = bad_first s ask (seen_in h).rows fault (subst (λ (r : Reach). NamesFault ((seen_in h).rows r) fault) is bad)
