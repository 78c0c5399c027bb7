-- What passes of a history that was cut is what is kept of what passes, and so for what counts.
use Rattle.std.proofs.Common.{◌≡◌, List, Bool, ap, ◌∙◌, filter}
use Rattle.misp_history.proofs.Prelude.{Group, IsClosed, Key, Route, Version, cut, cut_rows, filter_cut, known, known_cut, known_there, newest, passes, passing, row_of, tables, tables_cut}
use Rattle.misp_history.proofs.Tables.{newest_cut, row_of_cut}
use Rattle.misp_model.proofs.Passing.{passes_cut}

known_there_cut : (keep : Key → Bool) → IsClosed keep → (log : List Version) (groups : List Group) (route : Route) → known_there (cut keep log) groups route ≡ cut_rows keep (known_there log groups route)
unfolding known_there
known_there_cut keep c log groups route =
    ap (λ rows. known rows groups route.from route.«for») (tables_cut keep c log route.from) ∙ known_cut keep c (tables log route.from) groups route.from route.«for»

-- what passes of a history that was cut
pub passing_cut : (keep : Key → Bool) → IsClosed keep → (log : List Version) (groups : List Group) (route : Route) → passing (cut keep log) groups route ≡ cut keep (passing log groups route)
unfolding passing cut row_of
passing_cut keep c log groups route =
    ap (filter (λ v. passes (known_there (cut keep log) groups route) groups route (row_of (cut keep log) v))) (newest_cut keep log route.from)
    ∙ filter_cut (λ v. passes (known_there (cut keep log) groups route) groups route (row_of (cut keep log) v)) (λ v. passes (known_there log groups route) groups route (row_of log v)) (λ v. keep v.key)
    (λ v e. rw (known_there_cut keep c log groups route, row_of_cut keep c log v e) (passes_cut keep c (known_there log groups route) groups route (row_of log v) e))
    (newest log route.from)
