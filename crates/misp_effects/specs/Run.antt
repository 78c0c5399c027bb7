-- The run of commands, by their meanings and the outcome of each: what is put out, and what is held
-- in the end. What is seen is read off what is held.
use Rattle.std.specs.Prelude.{ℕ, ◌+◌, ◌==◌, List, [], ◌∷◌, slice_set, if◌then◌else◌, Option, None, Some}
use Rattle.misp_effects.specs.Prelude.{Effect, Held, Here, Meaning, Spelling, Stop, Tables, There}
use Rattle.misp_effects.specs.Batches.{AreReadable}
use Rattle.misp_effects.specs.Effect.{Outcome, under, left}
use Rattle.misp_effects.specs.KeeperStates.{held_at}

-- ---- one command

-- what it comes to under an outcome, where this is seen at each place
abbrev pub effect_of : {S A : Type 0} → Outcome → Meaning S A → (ℕ → S) → Effect A
effect_of outcome m seen = under m.telling outcome (m.comes (seen m.at) (seen m.peer))

-- the same, where this is held at each place
abbrev pub effect_in : {S A : Type 0} → (Held → S) → Outcome → Meaning S A → Tables → Effect A
effect_in seen_in outcome m tables =
    effect_of outcome m (λ place. seen_in (held_at place tables))

-- what it puts out
abbrev pub output_of : {S A : Type 0} → (Held → S) → Outcome → Meaning S A → Tables → A
output_of seen_in outcome m tables = (effect_in seen_in outcome m tables).reply

-- what it leaves
abbrev pub tables_after : {S A : Type 0} →
    (Held → S) → Spelling → Outcome → Meaning S A → Tables → Tables
tables_after seen_in spelled outcome m tables =
    slice_set tables m.into
    (left spelled (effect_in seen_in outcome m tables) (held_at m.into tables))

-- ---- all commands, one after another

-- what they put out
abbrev pub outputs_of : {S A : Type 0} →
    (Held → S) → Spelling → List (Meaning S A) → List Outcome → Tables → List A
outputs_of seen_in spelled [] outcomes tables = []
outputs_of seen_in spelled (m ∷ ms) [] tables = []
outputs_of seen_in spelled (m ∷ ms) (outcome ∷ outcomes) tables =
    output_of seen_in outcome m tables
    ∷ outputs_of seen_in spelled ms outcomes (tables_after seen_in spelled outcome m tables)

-- what they leave in the end
abbrev pub tables_left : {S A : Type 0} →
    (Held → S) → Spelling → List (Meaning S A) → List Outcome → Tables → Tables
tables_left seen_in spelled [] outcomes tables = tables
tables_left seen_in spelled (m ∷ ms) [] tables = tables
tables_left seen_in spelled (m ∷ ms) (outcome ∷ outcomes) tables =
    tables_left seen_in spelled ms outcomes (tables_after seen_in spelled outcome m tables)

-- each batch that any of them put is readable
abbrev pub AreFit : {S A : Type 0} →
    (Held → S) → Spelling → List (Meaning S A) → List Outcome → Tables → Type 0
AreFit seen_in spelled [] outcomes tables = Unit {0}
AreFit seen_in spelled (m ∷ ms) [] tables = Unit {0}
AreFit seen_in spelled (m ∷ ms) (outcome ∷ outcomes) tables =
    AreReadable (effect_in seen_in outcome m tables).batches
    × AreFit seen_in spelled ms outcomes (tables_after seen_in spelled outcome m tables)

-- ---- faults, keeper by keeper

-- 1 where the two places are one
abbrev pub one_where : ℕ → ℕ → ℕ
one_where there place = if there == place then 1 else 0

-- how often the keeper of a place failed, where a command was stopped so
abbrev pub fault_of : {S A : Type 0} → ℕ → Meaning S A → Option Stop → ℕ
fault_of place m None = 0
fault_of place m (Some (Stop.Keeper Here)) = one_where m.at place
fault_of place m (Some (Stop.Keeper There)) = one_where m.peer place
fault_of place m (Some (Stop.Memory side)) = 0
fault_of place m (Some Stop.Carry) = 0

-- the same, where it put this out
abbrev pub fault_at : {S A : Type 0} → (A → Option Stop) → ℕ → Meaning S A → A → ℕ
fault_at stop_in place m output = fault_of place m (stop_in output)

-- the same of all commands together
abbrev pub faults_at : {S A : Type 0} →
    (A → Option Stop) → ℕ → List (Meaning S A) → List A → ℕ
faults_at stop_in place [] outputs = 0
faults_at stop_in place (m ∷ ms) [] = 0
faults_at stop_in place (m ∷ ms) (output ∷ outputs) =
    fault_at stop_in place m output + faults_at stop_in place ms outputs
