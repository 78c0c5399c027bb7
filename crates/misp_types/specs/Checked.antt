-- Outcomes: the bytes that are kept, or why none are.
use Rattle.std.specs.Prelude.{◌≡◌, ℕ, List, Result, Ok, Err}
use Rattle.misp_types.specs.declared.fault.ValueFault.{ValueFault}

-- what is kept, or the fault
abbrev pub Checked : Type 0
Checked = Result (List ℕ) ValueFault

-- the fault is the one that the rules give, unless memory ran out
abbrev pub Fails : ValueFault → Checked → Type 0
Fails ValueFault.WrongLength expected = expected ≡ Err ValueFault.WrongLength
Fails (ValueFault.WrongDigit place) expected = expected ≡ Err (ValueFault.WrongDigit place)
Fails (ValueFault.WrongPart part) expected = expected ≡ Err (ValueFault.WrongPart part)
Fails ValueFault.BinaryType expected = expected ≡ Err ValueFault.BinaryType
Fails ValueFault.NoMemory expected = Unit {0}

-- what a function returned, seen by view, is what the rules give, unless memory ran out
abbrev pub Shows : {X : Type 0} → (X → List ℕ) → Result X ValueFault → Checked → Type 0
Shows view (Ok x) expected = expected ≡ Ok (view x)
Shows view (Err fault) expected = Fails fault expected
