-- The run of lines, of which each has a meaning.
use Rattle.std.proofs.Common.{take-suc, suc, ◌≡◌, ℕ, ◌+◌, List, [], ◌∷◌, ◌++◌, length, map, take, get_or, ◌<◌, Option, sym, ◌∙◌, ap, subst, arith}
use Rattle.std.proofs.lemmas.List.{map-append}
use Rattle.misp_effects.specs.Prelude.{Held, KeeperState, Meaning, Spelling, Stop}
use Rattle.misp_effects.specs.Course.{IsAct, HasRun}
use Rattle.misp_effects.proofs.Courses.{one_more}

-- where the first lines have run, the next one runs too
pub next_ran : {L S A : Type 0} (seen_in : Held → S) (spelled : Spelling) (stop_in : A → Option Stop) (meaning : L → Meaning S A) (lines : List L) (i : ℕ) (none : L)
    (old mid new : List KeeperState) (outputs : List A) (output : A) → i < length lines
    → HasRun S A seen_in spelled stop_in (map meaning (take i lines)) old mid outputs → IsAct S A seen_in spelled stop_in (meaning (get_or lines i none)) mid new output
    → HasRun S A seen_in spelled stop_in (map meaning (take (i + 1) lines)) old new (outputs ++ output ∷ [])
next_ran {L} {S} {A} seen_in spelled stop_in meaning lines i none old mid new outputs output lt run act =
    let one : i + 1 ≡ suc i = omega arith in
    let longer : take (i + 1) lines ≡ take i lines ++ get_or lines i none ∷ [] = ap (λ n. take n lines) one ∙ take-suc lines i none lt in
    subst (λ (ms : List (Meaning S A)). HasRun S A seen_in spelled stop_in ms old new (outputs ++ output ∷ [])) (sym (ap (map meaning) longer ∙ map-append meaning (take i lines) (get_or lines i none ∷ [])))
    (one_more S A seen_in spelled stop_in (map meaning (take i lines)) (meaning (get_or lines i none)) old mid new outputs output run act)
