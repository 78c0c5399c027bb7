-- Keepers of which what each holds stays, or one failed.
use Rattle.std.proofs.Common.{◌≡◌, ℕ, zero, suc, ◌+◌, ◌-◌, ◌<◌, ◌≤◌, List, [], ◌∷◌, ◌++◌, false, true, length, map, take, drop, get_or, set, Option, refl, sym, ◌∙◌, ap, subst, inl, inr, arith, Bool, take-append-drop, take-take, drop-drop}
use Rattle.std.proofs.Common.{drop_at}
use Rattle.std.specs.List.{list_any}
use Rattle.std.proofs.lemmas.Bool.{or_cases, or_left, or_right}
use Rattle.std.proofs.lemmas.List.{drop-take}
use Rattle.misp_outside.specs.Reporting.{StaysHeld}
use Rattle.misp_outside.proofs.Reporting.{stays_same, stays_then}
use Rattle.misp_effects.specs.Prelude.{Held, KeeperState}
use Rattle.misp_effects.specs.KeeperStates.{told, count_at, state_at, AreKept, OneFailed}

-- ---- what each holds stays

-- where none is asked
pub all_kept : (old : List KeeperState) → AreKept old old
all_kept [] = tt
all_kept (s ∷ old) = (record { held = stays_same s.held s.held refl; later = omega arith }, all_kept old)

-- over two steps
pub kept_then : (old mid new : List KeeperState) → AreKept old mid → AreKept mid new → AreKept old new
kept_then [] [] [] first then = tt
kept_then [] [] (u ∷ new) first then = absurd then
kept_then [] (t ∷ mid) new first then = absurd first
kept_then (s ∷ old) [] new first then = absurd first
kept_then (s ∷ old) (t ∷ mid) [] first then = absurd then
kept_then (s ∷ old) (t ∷ mid) (u ∷ new) first then =
    (record { held = stays_then s.held t.held u.held first.0.held then.0.held; later = omega (arith, first.0.later, then.0.later) }, kept_then old mid new first.1 then.1)

pub kept_count : (place : ℕ) (old new : List KeeperState) → AreKept old new → count_at place old ≤ count_at place new
kept_count place [] [] kept = omega arith
kept_count place [] (t ∷ new) kept = absurd kept
kept_count place (s ∷ old) [] kept = absurd kept
kept_count zero (s ∷ old) (t ∷ new) kept = kept.0.later
kept_count (suc place) (s ∷ old) (t ∷ new) kept = kept_count place old new kept.1

-- at a place
pub kept_at : (place : ℕ) (old new : List KeeperState) → AreKept old new → StaysHeld (state_at place old).held (state_at place new).held
kept_at place [] [] kept = tt
kept_at place [] (t ∷ new) kept = absurd kept
kept_at place (s ∷ old) [] kept = absurd kept
kept_at zero (s ∷ old) (t ∷ new) kept = kept.0.held
kept_at (suc place) (s ∷ old) (t ∷ new) kept = kept_at place old new kept.1

-- of things that have a keeper each, where one is put in its place
pub kept_set : {X : Type 0} (state : X → KeeperState) (old : List X) (place : ℕ) (new none : X) → place < length old
    → StaysHeld (state (get_or old place none)).held (state new).held → (state (get_or old place none)).faults ≤ (state new).faults → AreKept (map state old) (map state (set old place new))
kept_set state [] place new none lt same later = absurd (omega arith)
kept_set state (x ∷ old) zero new none lt same later = (record { held = same; later = later }, all_kept (map state old))
kept_set state (x ∷ old) (suc place) new none lt same later = ((all_kept (state x ∷ [])).0, kept_set state old place new none (omega arith) same later)

-- of those in front and those after them
kept_append : (old new more now : List KeeperState) → AreKept old new → AreKept more now → AreKept (old ++ more) (new ++ now)
kept_append [] [] more now kept rest = rest
kept_append [] (t ∷ new) more now kept rest = absurd kept
kept_append (s ∷ old) [] more now kept rest = absurd kept
kept_append (s ∷ old) (t ∷ new) more now kept rest = (kept.0, kept_append old new more now kept.1 rest)

-- of the first of them
pub kept_take : (count : ℕ) (old new : List KeeperState) → AreKept old new → AreKept (take count old) (take count new)
kept_take zero old new kept = tt
kept_take (suc count) [] [] kept = tt
kept_take (suc count) [] (t ∷ new) kept = absurd kept
kept_take (suc count) (s ∷ old) [] kept = absurd kept
kept_take (suc count) (s ∷ old) (t ∷ new) kept = (kept.0, kept_take count old new kept.1)

-- of the first of them in front of the others
parts_kept : (count : ℕ) (old front behind : List KeeperState) → AreKept (take count old) front → AreKept (drop count old) behind → AreKept old (front ++ behind)
parts_kept count old front behind first rest =
    subst (λ o. AreKept o (front ++ behind)) (take-append-drop count old) (kept_append (take count old) front (drop count old) behind first rest)

-- of the first of them, where the others are as they were
pub first_kept : (count : ℕ) (old new : List KeeperState) → AreKept (take count old) (take count new) → drop count new ≡ drop count old → AreKept old new
first_kept count old new first same =
    subst (AreKept old) (take-append-drop count new)
    (parts_kept count old (take count new) (drop count new) first (subst (AreKept (drop count old)) (sym same) (all_kept (drop count old))))

-- of the first of them and the next
pub next_kept : (count : ℕ) (old front rest : List KeeperState) (next : KeeperState) → rest ≡ drop count old → AreKept (take count old) front → AreKept (take 1 rest) (next ∷ []) → AreKept (take (count + 1) old) (front ++ next ∷ [])
next_kept count old front rest next is first then =
    let some : take count (take (count + 1) old) ≡ take count old = take-take count (count + 1) old (omega arith) in
    parts_kept count (take (count + 1) old) front (next ∷ []) (rw some first) (rw (drop-take count 1 old, ← is) then)

-- ---- all are back

-- some were in front, the next is back after them with the others: what they were and are
pub record AreBack (old rest front behind new : List KeeperState) (done count : ℕ) : Type 0 where
  pub long : length front ≡ done
  pub before : done < count
  pub left : rest ≡ drop done old
  pub is : new ≡ front ++ behind

-- what is left after so many is what is left after one more of those after fewer
drop_past : {X : Type 0} (done count : ℕ) (xs : List X) → done < count → drop count xs ≡ drop (count - (done + 1)) (drop 1 (drop done xs))
drop_past done count xs lt =
    let all : (done + 1) + (count - (done + 1)) ≡ count = omega arith in
    sym (ap (drop (count - (done + 1))) (drop-drop 1 done xs) ∙ drop-drop (count - (done + 1)) (done + 1) xs ∙ ap (λ n. drop n xs) all)

one_failed : (old front behind : List KeeperState) (count : ℕ) → length front < count → OneFailed (take 1 (drop (length front) old)) (take 1 behind) → OneFailed (take count old) (take count (front ++ behind))
one_failed old front behind zero lt failed = absurd (omega arith)
one_failed [] [] behind (suc count) lt failed = absurd failed
one_failed [] (o ∷ front) behind (suc count) lt failed = absurd failed
one_failed (s ∷ old) [] [] (suc count) lt failed = absurd failed
one_failed (s ∷ old) [] (t ∷ behind) (suc count) lt failed = elim failed [ inl rose ↦ inl rose | inr none ↦ absurd none ]
one_failed (s ∷ old) (o ∷ front) behind (suc count) lt failed = inr (one_failed old front behind count (omega arith) failed)

-- what passes of what the next reports passes of what the first report
one_told : (p : Option Held → Bool) (old : List KeeperState) (done count : ℕ) → done < count → list_any p (told (take 1 (drop done old))) ≡ true → list_any p (told (take count old)) ≡ true
one_told p old done zero lt is = absurd (omega arith)
one_told p [] zero (suc count) lt is = absurd cc
one_told p [] (suc done) (suc count) lt is = absurd cc
one_told p (s ∷ old) zero (suc count) lt is = elim (or_cases (p s.held) false is) [ inl first ↦ or_left _ _ first | inr none ↦ absurd cc ]
one_told p (s ∷ old) (suc done) (suc count) lt is = or_right _ _ (one_told p old done count (omega arith) is)

module _ {old rest front behind new : List KeeperState} {done count : ℕ} (back : AreBack old rest front behind new done count) where
  pub back_kept : AreKept (take done old) front → AreKept (take 1 rest) (take 1 behind) → drop 1 behind ≡ drop 1 rest → AreKept old new
  back_kept first next same =
      rw back.is (parts_kept done old front behind first (rw back.left at (first_kept 1 rest behind next same)))

  pub back_others : drop 1 behind ≡ drop 1 rest → drop count new ≡ drop count old
  back_others same =
      ap (drop count) back.is
      ∙ drop_past done count (front ++ behind) back.before
      ∙ ap (λ xs. drop (count - (done + 1)) (drop 1 xs)) (drop_at front behind done back.long)
      ∙ ap (drop (count - (done + 1))) (same ∙ ap (drop 1) back.left)
      ∙ sym (drop_past done count old back.before)

  pub back_failed : OneFailed (take 1 rest) (take 1 behind) → OneFailed (take count old) (take count new)
  back_failed failed = rw back.is (one_failed old front behind count (omega (arith, back.long, back.before)) (rw (back.left, ← back.long) at failed))

  pub back_told : (p : Option Held → Bool) → list_any p (told (take 1 behind)) ≡ true → list_any p (told (take count new)) ≡ true
  back_told p is =
      let after : drop done new ≡ behind = ap (drop done) back.is ∙ drop_at front behind done back.long in
      one_told p new done count back.before (subst (λ xs. list_any p (told (take 1 xs)) ≡ true) (sym after) is)

-- one of the first is one of all
pub one_of_all : (old new : List KeeperState) (count : ℕ) → OneFailed (take count old) (take count new) → OneFailed old new
one_of_all old new zero failed = absurd failed
one_of_all [] new (suc count) failed = absurd failed
one_of_all (s ∷ old) [] (suc count) failed = absurd failed
one_of_all (s ∷ old) (t ∷ new) (suc count) failed = elim failed [ inl rose ↦ inl rose | inr more ↦ inr (one_of_all old new count more) ]
