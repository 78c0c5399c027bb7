-- What the reading of words gives.
use Rattle.std.specs.Prelude.{◌≡◌, ◌↔◌, ℕ, List, Some, None, Result, Err, IfOk}
use Rattle.misp_words.specs.Words.{command_of, command_data}
use Rattle.misp_words.specs.declared.command.Command.{Command}
use Rattle.misp_words.specs.declared.reading.WordsFault.{WordsFault}

-- the words ask for nothing exactly where it is the usage, and for its command where it is one
pub record IsReadingOf (words : List (List ℕ)) (read : Result Command WordsFault) : Type 0 where
  pub usage : read ≡ Err WordsFault.Usage ↔ command_of words ≡ None
  pub command : IfOk read (λ command. command_of words ≡ Some (command_data command))
