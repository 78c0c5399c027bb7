-- Commands after commands.
use Rattle.std.proofs.Common.{◌≡◌, ℕ, ◌+◌, List, [], ◌∷◌, ◌++◌, length, refl, sym, ◌∙◌, ap, subst, arith, length-append, Option}
use Rattle.std.proofs.lemmas.List.{map-append}
use Rattle.misp_effects.specs.declared.stop.Stop.{Stop}
use Rattle.misp_effects.specs.Prelude.{Held, KeeperState, Meaning, RoseBy, Spelling, Tables}
use Rattle.misp_effects.specs.Effect.{Outcome, stop_of}
use Rattle.misp_effects.specs.KeeperStates.{count_at}
use Rattle.misp_effects.specs.Run.{output_of, tables_after, outputs_of, tables_left, AreFit, fault_at, faults_at}
use Rattle.misp_effects.specs.Course.{AreDone, IsAct, HasRun}
use Rattle.misp_effects.proofs.Courses.{rose_more}
use Rattle.misp_effects.proofs.Told.{told_so, told_then}

module _ {S A : Type 0} (seen_in : Held → S) (spelled : Spelling) where
  -- what is put out by these commands and those
  outputs_append : (ms ns : List (Meaning S A)) (first last : List Outcome) (tables : Tables) → length first ≡ length ms
      → outputs_of seen_in spelled (ms ++ ns) (first ++ last) tables
      ≡ outputs_of seen_in spelled ms first tables ++ outputs_of seen_in spelled ns last (tables_left seen_in spelled ms first tables)
  outputs_append [] ns [] last tables each = refl
  outputs_append [] ns (o ∷ first) last tables each = absurd (omega arith)
  outputs_append (m ∷ ms) ns [] last tables each = absurd (omega arith)
  outputs_append (m ∷ ms) ns (o ∷ first) last tables each =
      ap (λ outputs. output_of seen_in o m tables ∷ outputs) (outputs_append ms ns first last (tables_after seen_in spelled o m tables) (omega arith))

  -- what they leave
  left_append : (ms ns : List (Meaning S A)) (first last : List Outcome) (tables : Tables) → length first ≡ length ms
      → tables_left seen_in spelled (ms ++ ns) (first ++ last) tables ≡ tables_left seen_in spelled ns last (tables_left seen_in spelled ms first tables)
  left_append [] ns [] last tables each = refl
  left_append [] ns (o ∷ first) last tables each = absurd (omega arith)
  left_append (m ∷ ms) ns [] last tables each = absurd (omega arith)
  left_append (m ∷ ms) ns (o ∷ first) last tables each = left_append ms ns first last (tables_after seen_in spelled o m tables) (omega arith)

  -- and that what they put is readable
  fit_append : (ms ns : List (Meaning S A)) (first last : List Outcome) (tables : Tables) → length first ≡ length ms
      → AreFit seen_in spelled ms first tables → AreFit seen_in spelled ns last (tables_left seen_in spelled ms first tables) → AreFit seen_in spelled (ms ++ ns) (first ++ last) tables
  fit_append [] ns [] last tables each fit more = more
  fit_append [] ns (o ∷ first) last tables each fit more = absurd (omega arith)
  fit_append (m ∷ ms) ns [] last tables each fit more = absurd (omega arith)
  fit_append (m ∷ ms) ns (o ∷ first) last tables each fit more = (fit.0, fit_append ms ns first last (tables_after seen_in spelled o m tables) (omega arith) fit.1 more)

-- the faults that they name
faults_append : {S A : Type 0} (stop_in : A → Option Stop) (place : ℕ) (ms ns : List (Meaning S A)) (first last : List A) → length first ≡ length ms
    → faults_at stop_in place (ms ++ ns) (first ++ last) ≡ faults_at stop_in place ms first + faults_at stop_in place ns last
faults_append stop_in place [] ns [] last each = omega arith
faults_append stop_in place [] ns (o ∷ first) last each = absurd (omega arith)
faults_append stop_in place (m ∷ ms) ns [] last each = absurd (omega arith)
faults_append stop_in place (m ∷ ms) ns (o ∷ first) last each = omega (arith, faults_append stop_in place ms ns first last (omega arith))

-- a count that rose twice rose by both together
module _ (S A : Type 0) (seen_in : Held → S) (spelled : Spelling) (stop_in : A → Option Stop) where
  -- one command
  pub one_ran : (m : Meaning S A) (old new : List KeeperState) (output : A) → IsAct S A seen_in spelled stop_in m old new output → HasRun S A seen_in spelled stop_in (m ∷ []) old new (output ∷ [])
  one_ran m old new output act = record {
    each = refl;
    places = act.places;
    causes = λ place.
        let one : faults_at stop_in place (m ∷ []) (output ∷ []) ≡ fault_at stop_in place m output = omega arith in
        subst (λ n. RoseBy n (count_at place old) (count_at place new)) (sym one) (act.causes place);
    done = told_so old new _ _ (λ before after step. record {
      outcomes = step.outcome ∷ [];
      each = refl;
      agree = ap (λ stop. stop ∷ []) step.agree;
      outputs_are = ap (λ o. o ∷ []) step.output_is;
      tables_are = step.tables_are;
      fits = (step.fits, tt);
    }) act.done;
  }

  -- these commands and then those
  pub more_ran : (ms ns : List (Meaning S A)) (old mid new : List KeeperState) (first last : List A)
      → HasRun S A seen_in spelled stop_in ms old mid first → HasRun S A seen_in spelled stop_in ns mid new last → HasRun S A seen_in spelled stop_in (ms ++ ns) old new (first ++ last)
  more_ran ms ns old mid new first last run more = record {
    each = omega (arith, run.each, more.each, length-append first last, length-append ms ns);
    places = more.places ∙ run.places;
    causes = λ place.
        subst (λ n. RoseBy n (count_at place old) (count_at place new)) (sym (faults_append stop_in place ms ns first last run.each))
        (rose_more _ _ _ _ _ (run.causes place) (more.causes place));
    done = told_then old mid new _ _ _ (λ before between after so_far done.
        let rest : AreDone S A seen_in spelled stop_in ns last (tables_left seen_in spelled ms so_far.outcomes before) after =
        subst (λ tables. AreDone S A seen_in spelled stop_in ns last tables after) so_far.tables_are done in
        record {
          outcomes = so_far.outcomes ++ rest.outcomes;
          each = omega (arith, so_far.each, rest.each, length-append so_far.outcomes rest.outcomes, length-append ms ns);
          agree =
              map-append stop_of so_far.outcomes rest.outcomes
              ∙ (λ i. so_far.agree i ++ rest.agree i)
              ∙ sym (map-append stop_in first last);
          outputs_are =
              (λ i. so_far.outputs_are i ++ rest.outputs_are i)
              ∙ sym (outputs_append seen_in spelled ms ns so_far.outcomes rest.outcomes before so_far.each);
          tables_are = rest.tables_are ∙ sym (left_append seen_in spelled ms ns so_far.outcomes rest.outcomes before so_far.each);
          fits = fit_append seen_in spelled ms ns so_far.outcomes rest.outcomes before so_far.each so_far.fits rest.fits;
        }) run.done more.done;
  }
