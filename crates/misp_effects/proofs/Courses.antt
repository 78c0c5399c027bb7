-- A course goes on by one command.
use Rattle.std.proofs.Common.{◌≡◌, ℕ, ◌+◌, ◌≤◌, List, [], ◌∷◌, ◌++◌, length, map, refl, sym, ◌∙◌, ap, subst, arith, length-append, Option}
use Rattle.std.proofs.lemmas.List.{map-append}
use Rattle.std.proofs.lemmas.Slice.Zip.{AllZip-long}
use Rattle.misp_effects.specs.Prelude.{Held, KeeperState, Meaning, RoseBy, Spelling, Stop, Tables}
use Rattle.misp_effects.specs.Batches.{AreReadable}
use Rattle.misp_effects.specs.Effect.{Outcome, stop_of}
use Rattle.misp_effects.specs.KeeperStates.{IsKept, AreKept, count_at}
use Rattle.misp_effects.specs.Run.{effect_in, output_of, tables_after, outputs_of, tables_left, AreFit, fault_at, faults_at}
use Rattle.misp_effects.specs.Course.{AreDone, IsAct, IsDone, HasRun}
use Rattle.misp_effects.proofs.KeeperStates.{kept_count}
use Rattle.misp_effects.proofs.Told.{kept_told, told_same, told_then}

-- what is put out by the commands and one more
outputs_push : {S A : Type 0} (seen_in : Held → S) (spelled : Spelling) (ms : List (Meaning S A)) (m : Meaning S A) (outcomes : List Outcome) (outcome : Outcome) (tables : Tables) → length outcomes ≡ length ms
    → outputs_of seen_in spelled (ms ++ m ∷ []) (outcomes ++ outcome ∷ []) tables ≡ outputs_of seen_in spelled ms outcomes tables ++ output_of seen_in outcome m (tables_left seen_in spelled ms outcomes tables) ∷ []
outputs_push seen_in spelled [] m [] outcome tables each = refl
outputs_push seen_in spelled [] m (o ∷ outcomes) outcome tables each = absurd (omega arith)
outputs_push seen_in spelled (a ∷ ms) m [] outcome tables each = absurd (omega arith)
outputs_push seen_in spelled (a ∷ ms) m (o ∷ outcomes) outcome tables each =
    ap (λ outputs. output_of seen_in o a tables ∷ outputs) (outputs_push seen_in spelled ms m outcomes outcome (tables_after seen_in spelled o a tables) (omega arith))

-- what they leave
left_push : {S A : Type 0} (seen_in : Held → S) (spelled : Spelling) (ms : List (Meaning S A)) (m : Meaning S A) (outcomes : List Outcome) (outcome : Outcome) (tables : Tables) → length outcomes ≡ length ms
    → tables_left seen_in spelled (ms ++ m ∷ []) (outcomes ++ outcome ∷ []) tables ≡ tables_after seen_in spelled outcome m (tables_left seen_in spelled ms outcomes tables)
left_push seen_in spelled [] m [] outcome tables each = refl
left_push seen_in spelled [] m (o ∷ outcomes) outcome tables each = absurd (omega arith)
left_push seen_in spelled (a ∷ ms) m [] outcome tables each = absurd (omega arith)
left_push seen_in spelled (a ∷ ms) m (o ∷ outcomes) outcome tables each = left_push seen_in spelled ms m outcomes outcome (tables_after seen_in spelled o a tables) (omega arith)

-- and that what they put is readable
fit_push : {S A : Type 0} (seen_in : Held → S) (spelled : Spelling) (ms : List (Meaning S A)) (m : Meaning S A) (outcomes : List Outcome) (outcome : Outcome) (tables : Tables) → length outcomes ≡ length ms
    → AreFit seen_in spelled ms outcomes tables → AreReadable (effect_in seen_in outcome m (tables_left seen_in spelled ms outcomes tables)).batches → AreFit seen_in spelled (ms ++ m ∷ []) (outcomes ++ outcome ∷ []) tables
fit_push seen_in spelled [] m [] outcome tables each fit last = (last, tt)
fit_push seen_in spelled [] m (o ∷ outcomes) outcome tables each fit last = absurd (omega arith)
fit_push seen_in spelled (a ∷ ms) m [] outcome tables each fit last = absurd (omega arith)
fit_push seen_in spelled (a ∷ ms) m (o ∷ outcomes) outcome tables each fit last = (fit.0, fit_push seen_in spelled ms m outcomes outcome (tables_after seen_in spelled o a tables) (omega arith) fit.1 last)

-- the faults that they name
faults_push : {S A : Type 0} (stop_in : A → Option Stop) (place : ℕ) (ms : List (Meaning S A)) (m : Meaning S A) (outputs : List A) (output : A) → length outputs ≡ length ms
    → faults_at stop_in place (ms ++ m ∷ []) (outputs ++ output ∷ []) ≡ faults_at stop_in place ms outputs + fault_at stop_in place m output
faults_push stop_in place [] m [] output each = omega arith
faults_push stop_in place [] m (o ∷ outputs) output each = absurd (omega arith)
faults_push stop_in place (a ∷ ms) m [] output each = absurd (omega arith)
faults_push stop_in place (a ∷ ms) m (o ∷ outputs) output each = omega (arith, faults_push stop_in place ms m outputs output (omega arith))

-- a count that rose twice rose by both together
pub rose_more : (m n before mid now : ℕ) → RoseBy m before mid → RoseBy n mid now → RoseBy (m + n) before now
rose_more m n before mid now first then = omega arith

-- before the first command
pub no_lines : (S A : Type 0) (seen_in : Held → S) (spelled : Spelling) (stop_in : A → Option Stop) (old : List KeeperState) → HasRun S A seen_in spelled stop_in [] old old []
no_lines S A seen_in spelled stop_in old = record {
  each = refl;
  places = refl;
  causes = λ place. omega arith;
  done = told_same old _ (λ tables. record { outcomes = []; each = refl; agree = refl; outputs_are = refl; tables_are = refl; fits = tt });
}

-- one command more
pub one_more : (S A : Type 0) (seen_in : Held → S) (spelled : Spelling) (stop_in : A → Option Stop) (ms : List (Meaning S A)) (m : Meaning S A) (old mid new : List KeeperState) (outputs : List A) (output : A)
    → HasRun S A seen_in spelled stop_in ms old mid outputs → IsAct S A seen_in spelled stop_in m mid new output → HasRun S A seen_in spelled stop_in (ms ++ m ∷ []) old new (outputs ++ output ∷ [])
one_more S A seen_in spelled stop_in ms m old mid new outputs output run act = record {
  each = omega (arith, run.each, length-append outputs (output ∷ []), length-append ms (m ∷ []));
  places = act.places ∙ run.places;
  causes = λ place.
      subst (λ n. RoseBy n (count_at place old) (count_at place new)) (sym (faults_push stop_in place ms m outputs output run.each))
      (rose_more _ _ _ _ _ (run.causes place) (act.causes place));
  done = told_then old mid new _ _ _ (λ before between after so_far done.
      let step : IsDone S A seen_in spelled stop_in m output (tables_left seen_in spelled ms so_far.outcomes before) after =
      subst (λ tables. IsDone S A seen_in spelled stop_in m output tables after) so_far.tables_are done in
      record {
        outcomes = so_far.outcomes ++ step.outcome ∷ [];
        each = omega (arith, so_far.each, length-append so_far.outcomes (step.outcome ∷ []), length-append ms (m ∷ []));
        agree =
            map-append stop_of so_far.outcomes (step.outcome ∷ [])
            ∙ ap (λ stops. stops ++ stop_of step.outcome ∷ []) so_far.agree
            ∙ ap (λ stop. map stop_in outputs ++ stop ∷ []) step.agree
            ∙ sym (map-append stop_in outputs (output ∷ []));
        outputs_are =
            ap (λ front. front ++ output ∷ []) so_far.outputs_are
            ∙ ap (λ last. outputs_of seen_in spelled ms so_far.outcomes before ++ last ∷ []) step.output_is
            ∙ sym (outputs_push seen_in spelled ms m so_far.outcomes step.outcome before so_far.each);
        tables_are = step.tables_are ∙ sym (left_push seen_in spelled ms m so_far.outcomes step.outcome before so_far.each);
        fits = fit_push seen_in spelled ms m so_far.outcomes step.outcome before so_far.each so_far.fits step.fits;
      }) run.done act.done;
}

-- a count that did not fall before and afterwards rose by as much
rose_within : (n before old mid now : ℕ) → before ≤ old → RoseBy n old mid → mid ≤ now → RoseBy n before now
rose_within n before old mid now first rose last = omega arith

-- where what the keepers hold stays before and afterwards, the commands have run over these too
pub run_kept : {S A : Type 0} {seen_in : Held → S} {spelled : Spelling} {stop_in : A → Option Stop} {ms : List (Meaning S A)} {before old mid new : List KeeperState} {outputs : List A}
    → AreKept before old → HasRun S A seen_in spelled stop_in ms old mid outputs → AreKept mid new → HasRun S A seen_in spelled stop_in ms before new outputs
run_kept {S} {A} {seen_in} {spelled} {stop_in} {ms} {before} {old} {mid} {new} {outputs} first run last = record {
  each = run.each;
  places = AllZip-long IsKept mid new last ∙ run.places ∙ AllZip-long IsKept before old first;
  causes = λ place. rose_within _ _ _ _ _ (kept_count place before old first) (run.causes place) (kept_count place mid new last);
  done = told_then before old new _ _ _ (λ was tables left same did. subst (λ from. AreDone S A seen_in spelled stop_in ms outputs from left) same did) (kept_told before old first)
      (told_then old mid new _ _ _ (λ tables left now did same. subst (AreDone S A seen_in spelled stop_in ms outputs tables) (sym same) did) run.done (kept_told mid new last));
}
