-- What is told of the carry in memory.
use Rattle.std.specs.Prelude.{ℕ, Bool, true, false, List, Result, Ok, Err}
use Rattle.misp_outside.specs.Failing.{calls_so_far, failing_calls, fails_next}
use Rattle.misp_outside.specs.declared.fault.WireFault.{WireFault}
use Rattle.misp_outside.specs.declared.memory.carry.MemCarry.{MemCarry}

-- the byte strings that it answered
abbrev pub carry_passed : MemCarry → List (List ℕ)
carry_passed carry = carry.passed.items

-- how often it has failed
abbrev pub carry_faults : MemCarry → ℕ
carry_faults carry = carry.failing.faults

-- how often it was asked to pass bytes, up to 2 ^ 64 - 1
abbrev pub carry_calls : MemCarry → ℕ
carry_calls carry = calls_so_far carry.failing

-- the numbers of those calls that fail
abbrev pub carry_failing : MemCarry → List ℕ
carry_failing carry = failing_calls carry.failing

-- whether the next of them is one of these
abbrev pub carry_fails : MemCarry → Bool
carry_fails carry = fails_next carry.failing

-- a call was answered by a fault, and not by want of memory
abbrev pub carry_failed : {A : Type 0} → Result A WireFault → Bool
carry_failed (Ok answer) = false
carry_failed (Err WireFault.Failed) = true
carry_failed (Err WireFault.NoMemory) = false
