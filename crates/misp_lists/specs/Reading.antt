-- Reading step by step: the first fault counts.
use Rattle.std.specs.Prelude.{Result, Ok, Err}

infixl 10 ◌>>=◌
-- and then, unless there was a fault
abbrev pub ◌>>=◌ : {A B E : Type 0} → Result A E → (A → Result B E) → Result B E
(Ok x) >>= f = f x
(Err fault) >>= f = Err fault
