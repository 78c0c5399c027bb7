-- What is written where no rule refuses.
use Rattle.std.specs.Prelude.{◌≡◌, List, map, None}
use Rattle.misp_model.specs.Prelude.{Row, Scene, ask_rules, brings, first_rule}
use Rattle.misp_model.specs.declared.ask.Ask.{Ask}
use Rattle.misp_history.specs.History.{fresh_row}

-- no rule refuses the request, and these are the rows of what it brings
abbrev pub Saves : Scene → Ask → List Row → Type 0
Saves s ask rows = (first_rule (ask_rules s ask) ≡ None) × (rows ≡ map fresh_row (brings s ask))
