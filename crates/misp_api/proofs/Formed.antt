-- Bodies that are not of their form.
use Rattle.std.proofs.Common.{◌≡◌, ℕ, List, Some, None, Ok, Err, sym, ◌∙◌, ap}
use Rattle.misp_api.specs.Prelude.{Ask, AskFault, Command, FormatFault, Gives, Route, command_of, formed}
use Rattle.misp_api.specs.Request.{body_command, command_by, path_ask}
use Rattle.misp_api.specs.Unread.{Refuses}
use Rattle.misp_format.specs.Rows.{◌>>=◌}
use Rattle.misp_format.specs.Rows as rows

-- a request is the ask of its path, or what its body is
pub by_the_path : (here : List ℕ) (route : Route) (body : List ℕ) (word : ℕ) (ask : Ask) → path_ask route ≡ Some ask → command_of here route body word ≡ Ok (Command.Asks ask)
unfolding command_of
by_the_path here route body word ask is = ap (λ a. command_by a (body_command here route body word)) is

pub by_the_body : (here : List ℕ) (route : Route) (body : List ℕ) (word : ℕ) → path_ask route ≡ None → command_of here route body word ≡ formed (body_command here route body word)
unfolding command_of
by_the_body here route body word none = ap (λ a. command_by a (body_command here route body word)) none

-- what is made of what is read has its fault
pub fails_on : {A B : Type 0} (fault : FormatFault) (read : rows.Reading A) (f : A → rows.Reading B) → rows.Fails fault read → rows.Fails fault (read >>= f)
fails_on FormatFault.NoJson read f fails = ap (λ r. r >>= f) fails
fails_on FormatFault.NoMemory read f fails = tt
fails_on (FormatFault.BadField path need) read f fails = ap (λ r. r >>= f) fails
fails_on (FormatFault.BinaryType path) read f fails = ap (λ r. r >>= f) fails

-- what was not read is refused by its fault
pub refused_form : {A : Type 0} (fault : FormatFault) (stopped : AskFault) (read : rows.Reading A) → rows.Fails fault read → Refuses fault stopped → Gives (Err stopped) (formed read)
refused_form FormatFault.NoJson (AskFault.Refused refusal) read fails refuses = ap formed fails ∙ ap Err (sym refuses)
refused_form FormatFault.NoJson AskFault.NoMemory read fails refuses = tt
refused_form FormatFault.NoMemory (AskFault.Refused refusal) read fails refuses = absurd refuses
refused_form FormatFault.NoMemory AskFault.NoMemory read fails refuses = tt
refused_form (FormatFault.BadField path need) (AskFault.Refused refusal) read fails refuses = ap formed fails ∙ ap Err (sym refuses)
refused_form (FormatFault.BadField path need) AskFault.NoMemory read fails refuses = tt
refused_form (FormatFault.BinaryType path) (AskFault.Refused refusal) read fails refuses = ap formed fails ∙ ap Err (sym refuses)
refused_form (FormatFault.BinaryType path) AskFault.NoMemory read fails refuses = tt
