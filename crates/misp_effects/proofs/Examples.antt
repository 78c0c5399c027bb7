-- Examples, computed from the definitions: effects under outcomes, and runs of two commands over two keepers.
use Rattle.std.proofs.Common.{◌≡◌, ℕ, ◌+◌, ◌-◌, Bool, true, false, List, [], ◌∷◌, length, map, Option, None, Some, refl, sym, subst, arith}
use Rattle.misp_lists.specs.Order.{put}
use Rattle.misp_outside.specs.declared.row.RawBatch.{RawBatch}
use Rattle.misp_outside.specs.Held.{comes_before, same_raw, put_raw, put_rows}
use Rattle.misp_outside.specs.KeeperState.{state}
use Rattle.misp_effects.specs.Prelude.{Effect, Held, Here, Meaning, RawRow, RoseBy, Stop, Tables, Tell, There, nothing_of, put_admins, with_batch}
use Rattle.misp_effects.specs.declared.stop.Stop.TheVariants.{Keeper, Memory, Carry}
use Rattle.misp_effects.specs.Batches.{Batch, batch, IsReadable}
use Rattle.misp_effects.specs.Effect.{effect, Went, Stopped, first_of, under, left}
use Rattle.misp_effects.specs.Meanings.{alone, between}
use Rattle.misp_effects.specs.Run.{outputs_of, tables_left, faults_at}
use Rattle.misp_effects.specs.Course.{AreDone, HasRun}
use Rattle.misp_effects.proofs.Readable.{tombstone, is_tombstone}

-- ---- what is put, and what is replied

-- a row of bytes of the event 7, under this name
abbrev raw : ℕ → RawRow
raw name = record { event = record { 0 = record { 0 = 7 } }; name = name ∷ []; bytes = [] }

-- a spelling for the examples, in which a row stands under its stamp
abbrev spelled : Batch → RawBatch
spelled b = record { rows = map (λ r. raw r.stamp) b.rows; admin = [] }

-- a batch of one row
abbrev one : ℕ → Batch
one stamp = batch (tombstone stamp ∷ []) []

-- a keeper that holds these rows
abbrev holds : List RawRow → Held
holds rows = record { rows = rows; admin = [] }

-- so many were seen, or nothing is done, or so many batches are told
data Reply : Type 0 where
  Done : ℕ → Reply
  Refused : Stop → Reply
  Partly : Stop → ℕ → Reply

-- what stopped a command, read off its reply
abbrev stop_in : Reply → Option Stop
stop_in (Done count) = None
stop_in (Refused stop) = Some stop
stop_in (Partly stop count) = Some stop

-- the batches that were put, without one whose answer is lost
abbrev partly : Stop → ℕ → Bool → Reply
partly stop n false = Partly stop n
partly stop n true = Partly stop (n - 1)

-- ---- an effect of two batches

-- with its reply
abbrev two : Effect Reply
two = effect (Done 2) (one 1 ∷ one 2 ∷ [])

-- all of it is done
both_are_put : left spelled (under (first_of partly) Went two) (holds []) ≡ holds (raw 1 ∷ raw 2 ∷ [])
unfolding with_batch put_rows put_raw put_admins put comes_before same_raw
both_are_put = refl

-- a command that is done whole or not at all, and that the own keeper stopped, is told so and puts nothing
nothing_is_put : under (nothing_of Refused) (Stopped (Keeper Here) 0 false) two ≡ effect (Refused (Keeper Here)) []
nothing_is_put = refl

-- one that is done in part, where memory ran out at the other instance after one batch, puts this one
one_is_put : under (first_of partly) (Stopped (Memory There) 1 false) two ≡ effect (Partly (Memory There) 1) (one 1 ∷ [])
one_is_put = refl

-- and this is then held beside what was
one_is_held : left spelled (under (first_of partly) (Stopped (Memory There) 1 false) two) (holds (raw 3 ∷ [])) ≡ holds (raw 1 ∷ raw 3 ∷ [])
unfolding with_batch put_rows put_raw put_admins put comes_before same_raw
one_is_held = refl

-- where the carry failed and the answer to the second is lost, both are put and one is told
two_are_put_and_one_is_told : under (first_of partly) (Stopped Carry 2 true) two ≡ effect (Partly Carry 1) (one 1 ∷ one 2 ∷ [])
two_are_put_and_one_is_told = refl

-- ---- a run of two commands over two keepers

-- of what is held, the number of rows is seen
abbrev seen_in : Held → ℕ
seen_in held = length held.rows

-- the first instance puts a row whose stamp is the number of its rows and 1
abbrev adds : Meaning ℕ Reply
adds = alone Refused 0 (λ here. effect (Done here) (one (here + 1) ∷ []))

-- the second takes from the first the row whose stamp is the number of rows there
abbrev pulls : Meaning ℕ Reply
pulls = between partly 1 0 1 (λ here there. effect (Done there) (one there ∷ []))

-- two keepers that hold nothing
abbrev empty : Tables
empty = holds [] ∷ holds [] ∷ []

-- nothing stops them: the second command sees what the first left
outputs_without_a_stop : outputs_of seen_in spelled (adds ∷ pulls ∷ []) (Went ∷ Went ∷ []) empty ≡ Done 0 ∷ Done 1 ∷ []
unfolding with_batch put_rows put_raw put_admins put comes_before same_raw
outputs_without_a_stop = refl

-- and both hold the row in the end
tables_without_a_stop : tables_left seen_in spelled (adds ∷ pulls ∷ []) (Went ∷ Went ∷ []) empty ≡ holds (raw 1 ∷ []) ∷ holds (raw 1 ∷ []) ∷ []
unfolding with_batch put_rows put_raw put_admins put comes_before same_raw
tables_without_a_stop = refl

-- the keeper of the first instance fails twice: in the first of three commands, and in the last, which then takes nothing
outputs_with_a_stop : outputs_of seen_in spelled (adds ∷ adds ∷ pulls ∷ []) (Stopped (Keeper Here) 0 false ∷ Went ∷ Stopped (Keeper There) 0 false ∷ []) empty
    ≡ Refused (Keeper Here) ∷ Done 0 ∷ Partly (Keeper There) 0 ∷ []
unfolding with_batch put_rows put_raw put_admins put comes_before same_raw
outputs_with_a_stop = refl

-- and only the first holds it
tables_with_a_stop : tables_left seen_in spelled (adds ∷ adds ∷ pulls ∷ []) (Stopped (Keeper Here) 0 false ∷ Went ∷ Stopped (Keeper There) 0 false ∷ []) empty ≡ holds (raw 1 ∷ []) ∷ holds [] ∷ []
unfolding with_batch put_rows put_raw put_admins put comes_before same_raw
tables_with_a_stop = refl

-- both faults are those of the first keeper: of the own in the first command, and of the peer's in the last
faults_of_the_first : faults_at stop_in 0 (adds ∷ adds ∷ pulls ∷ []) (Refused (Keeper Here) ∷ Done 0 ∷ Partly (Keeper There) 0 ∷ []) ≡ 2
faults_of_the_first = refl

-- and the second has none
faults_of_the_second : faults_at stop_in 1 (adds ∷ adds ∷ pulls ∷ []) (Refused (Keeper Here) ∷ Done 0 ∷ Partly (Keeper There) 0 ∷ []) ≡ 0
faults_of_the_second = refl

-- the batch that both put is readable
both_are_readable : IsReadable (one 1)
both_are_readable = record { rows = (is_tombstone 1 (omega arith), tt); groups = tt; items = tt }

-- two keepers that hold the row
abbrev full : Tables
full = holds (raw 1 ∷ []) ∷ holds (raw 1 ∷ []) ∷ []

-- two keepers report no other tables than those that they hold
tell_two : (first second : Held) (tables : Tables) → Tell (state (Some first) 0 ∷ state (Some second) 0 ∷ []) tables → tables ≡ first ∷ second ∷ []
tell_two first second [] tell = cc
tell_two first second (a ∷ []) tell = cc
tell_two first second (a ∷ b ∷ []) tell = cc
tell_two first second (a ∷ b ∷ c ∷ tables) tell = cc

-- so over keepers that held nothing both have run, and each of these holds the row
both_have_run : HasRun ℕ Reply seen_in spelled stop_in (adds ∷ pulls ∷ []) (state (Some (holds [])) 0 ∷ state (Some (holds [])) 0 ∷ [])
    (state (Some (holds (raw 1 ∷ []))) 0 ∷ state (Some (holds (raw 1 ∷ []))) 0 ∷ []) (Done 0 ∷ Done 1 ∷ [])
unfolding with_batch put_rows put_raw put_admins put comes_before same_raw
both_have_run =
    let there : AreDone ℕ Reply seen_in spelled stop_in (adds ∷ pulls ∷ []) (Done 0 ∷ Done 1 ∷ []) empty full = record {
      outcomes = Went ∷ Went ∷ [];
      each = refl;
      agree = refl;
      outputs_are = refl;
      tables_are = refl;
      fits = ((both_are_readable, tt), ((both_are_readable, tt), tt));
    } in
    record {
      each = refl;
      places = refl;
      causes = λ place. omega arith;
      done = λ after tell. (empty, refl, subst (AreDone ℕ Reply seen_in spelled stop_in (adds ∷ pulls ∷ []) (Done 0 ∷ Done 1 ∷ []) empty) (sym (tell_two (holds (raw 1 ∷ [])) (holds (raw 1 ∷ [])) after tell)) there);
    }

-- a keeper whose count did not rise is not named: that it failed cannot be put out
no_fault_without_a_cause : HasRun ℕ Reply seen_in spelled stop_in (adds ∷ []) (state (Some (holds [])) 3 ∷ []) (state (Some (holds [])) 3 ∷ []) (Refused (Keeper Here) ∷ []) → ⊥
no_fault_without_a_cause run =
    let rose : RoseBy 1 3 3 = run.causes 0 in omega (arith, rose)
