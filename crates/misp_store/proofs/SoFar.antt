-- What was read of some rows, before what is read of the others.
use Rattle.std.proofs.Common.{ℕ, List, ◌++◌, Result, Ok, Err}

-- these, and then what is read
abbrev pub after : {A : Type 0} → List A → Result (List A) (List ℕ) → Result (List A) (List ℕ)
after items (Ok others) = Ok (items ++ others)
after items (Err name) = Err name
