-- What arrives of an event's rows is what is of the event in all that arrives.
use Rattle.std.proofs.Common.{◌≡◌, List, Bool, ap, ◌∙◌, sym, map, filter}
use Rattle.misp_history.proofs.Prelude.{EventId, Group, IsClosed, Key, Route, Row, arrived, arriving_rows, cut_rows, event_is_closed, event_of, event_rows, filter-map, known, known_cut, of_event, passes, passing_rows, same_event}
use Rattle.misp_model.proofs.Passing.{rows_pass_cut}

-- of an event's rows passes what is of the event in all that passes
passing_rows_cut : (keep : Key → Bool) → IsClosed keep → (rows : List Row) (groups : List Group) (route : Route) → passing_rows (cut_rows keep rows) groups route ≡ cut_rows keep (passing_rows rows groups route)
unfolding passing_rows cut_rows
passing_rows_cut keep c rows groups route =
    (λ j. filter (passes (known_cut keep c rows groups route.from route.«for» j) groups route) (known_cut keep c rows groups route.from route.«for» j))
    ∙ rows_pass_cut keep c (known rows groups route.from route.«for») groups route

-- and so for what arrives
pub arriving_here : (e : EventId) (rows : List Row) (groups : List Group) (route : Route) → arriving_rows (event_rows e rows) groups route ≡ event_rows e (arriving_rows rows groups route)
unfolding arriving_rows arrived cut_rows of_event
arriving_here e rows groups route =
    ap (map (arrived route)) (passing_rows_cut (of_event e) (event_is_closed e) rows groups route)
    ∙ sym (filter-map (arrived route) (λ row. same_event (event_of row.key) e) (passing_rows rows groups route))
