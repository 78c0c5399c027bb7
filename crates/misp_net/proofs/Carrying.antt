-- What outputs tell of what carries.
use Rattle.std.proofs.Common.{◌≡◌, ℕ, ◌+◌, ◌≤◌, Bool, true, false, List, [], ◌∷◌, ◌++◌, eqb, map, Some, None, refl, arith, if◌then◌else◌}
use Rattle.misp_ids.specs.Refusal.{rule_number}
use Rattle.misp_outside.specs.Causes.{RoseBy}
use Rattle.misp_effects.specs.declared.stop.Stop.{Stop}
use Rattle.misp_effects.specs.declared.stop.Side.TheVariants.{Here}
use Rattle.misp_net.specs.Carrying.{carry_faults, fault_by}
use Rattle.misp_net.specs.Prelude.{Output, Replied, Reply, stop_in}

-- ---- counts

-- a count that did not fall rose by nothing at least
pub rose_none : (n before after : ℕ) → n ≡ 0 → before ≤ after → RoseBy n before after
rose_none n before after none later = omega (arith, none, later)

-- a count that rose twice rose by both together
pub faults_append : (outputs more : List Output) → carry_faults (outputs ++ more) ≡ carry_faults outputs + carry_faults more
faults_append [] more = omega arith
faults_append (output ∷ outputs) more = omega (arith, faults_append outputs more)

-- ---- replies

none_by : (keeper memory : Bool) → fault_by (if keeper then Some (Stop.Keeper Here) else if memory then Some (Stop.Memory Here) else None) ≡ 0
none_by true memory = refl
none_by false true = refl
none_by false false = refl

-- no reply of an instance tells it
none_told : (reply : Reply) → fault_by (stop_in (Replied reply)) ≡ 0
none_told (Reply.Ok answer) = refl
none_told (Reply.Refused refusal) = none_by (eqb (rule_number refusal.name) 26) (eqb (rule_number refusal.name) 27)

pub replies_none : (replies : List Reply) → carry_faults (map Replied replies) ≡ 0
replies_none [] = refl
replies_none (reply ∷ replies) = omega (arith, none_told reply, replies_none replies)
