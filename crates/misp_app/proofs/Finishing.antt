-- Over keepers that hold nothing, where nothing fails, a command stops only where memory runs out.
use Rattle.std.proofs.Common.{◌≡◌, ℕ, zero, suc, List, [], ◌∷◌, ◌<◌, ◌≤◌, ◌⊎◌, true, nat_lt, if◌then◌else◌, length, take, Option, Some, None, refl, sym, ◌∙◌, ap, subst, inl, inr, arith, IfSome, Ok, Err, option_map}
use Rattle.std.proofs.lemmas.Bool.{cases_Bool}
use Rattle.std.proofs.lemmas.Bool.Decides.{nat_tests}
use Rattle.misp_outside.proofs.Reporting.{reported_at}
use Rattle.misp_outside.specs.Held.{Held}
use Rattle.misp_script.specs.Faults.{Reading}
use Rattle.misp_effects.specs.KeeperStates.{AllReport, OneFailed}
use Rattle.misp_effects.proofs.KeeperStates.{one_of_all}
use Rattle.misp_store.specs.Renewing.{renewed}
use Rattle.misp_store.specs.Sharing.{may_be_unsound}
use Rattle.misp_net.specs.History.{empty_tables}
use Rattle.misp_net.specs.Opening.{AreKeptOrOpened, IsKeptOrOpened, opened_state, opened_states}
use Rattle.misp_net.specs.Prelude.{Description, Host, KeeperState, Tell, nothing_held}
use Rattle.misp_net.proofs.Openings.{nothing_is_sound}
use Rattle.misp_words.specs.Words.{CommandData, Net, Check, Serve, Sync, Gen}
use Rattle.misp_app.specs.Causes.{Faults, HasCauses, IsFaultless}
use Rattle.misp_app.specs.declared.status.Status.{Status}
use Rattle.misp_app.specs.Status.{EndsAs, Finishes, IsUnopened}
use Rattle.misp_app.specs.Limits.{source_limit}
use Rattle.misp_app.specs.Source.{described, source_of, status_of, status_over, IsUnsound, IsWithin, HasFailed, HoldNothing}

-- who held nothing holds nothing, where it still reports what it holds
still_nothing : (s t : KeeperState) (now : Held) → s.held ≡ Some nothing_held → IsKeptOrOpened s t → t.held ≡ Some now → t.held ≡ Some nothing_held
unfolding nothing_held renewed
still_nothing s t now first kept is =
    elim (reported_at s.held t.held (λ held now. (now ≡ held) ⊎ (now ≡ renewed held)) nothing_held now first is kept.held) [
      | inl same ↦ is ∙ ap (λ held. Some held) same
      | inr same ↦ is ∙ ap (λ held. Some held) same
    ]

-- the first of keepers that all report does, and so do the others
first_reports : (t : KeeperState) (new : List KeeperState) → AllReport (t ∷ new) → ((now : Held) × (t.held ≡ Some now)) × AllReport new
first_reports t new ([], tell) = absurd cc
first_reports t new (now ∷ tables, tell) =
    let first : t.held ≡ Some now = cc in
    let rest : Tell new tables = cc in ((now, first), (tables, rest))

-- who held nothing holds no row that is none
none_unsound : (old new : List KeeperState) (n : ℕ) → HoldNothing old → AllReport new → AreKeptOrOpened old new → may_be_unsound (take n new) ≡ true → ⊥
none_unsound [] [] zero empty all kept bad = cc
none_unsound [] [] (suc n) empty all kept bad = cc
none_unsound [] (t ∷ new) n empty all kept bad = absurd kept
none_unsound (s ∷ old) [] n empty all kept bad = absurd kept
none_unsound (s ∷ old) (t ∷ new) zero empty all kept bad = cc
none_unsound (s ∷ old) (t ∷ new) (suc n) empty all kept bad =
    let reports = first_reports t new all in
    let first : s.held ≡ Some nothing_held = cc in
    let rest : HoldNothing old = cc in
    let nothing = still_nothing s t reports.0.0 first kept.0 reports.0.1 in
    none_unsound old new n rest reports.1 kept.1 (rw (nothing, nothing_is_sound) at bad)

-- over such keepers instances open with nothing
pub opens_empty : (hosts : List Host) (old : List KeeperState) → HoldNothing old → length hosts ≤ length old → Tell (opened_states (take (length hosts) old)) (empty_tables hosts)
unfolding nothing_held renewed
opens_empty [] old empty enough = refl
opens_empty (host ∷ hosts) [] empty enough = absurd (omega (arith, enough))
opens_empty (host ∷ hosts) (s ∷ old) empty enough =
    let first : s.held ≡ Some nothing_held = cc in
    let rest : HoldNothing old = cc in
    let opened : (opened_state s).held ≡ Some nothing_held = ap (option_map renewed) first in
    rw (opened, opens_empty hosts old rest (omega (arith, enough))) refl

unsound_none : (read : Reading Description) (old new : List KeeperState) → HoldNothing old → AllReport new → AreKeptOrOpened old new → IsUnsound read new → ⊥
unsound_none (Ok net) old new empty all kept bad = none_unsound old new (length net.instances) empty all kept bad
unsound_none (Err fault) old new empty all kept bad = bad

failed_one : (read : Reading Description) (old new : List KeeperState) → HasFailed read old new → OneFailed old new
failed_one (Ok net) old new failed = one_of_all old new (length net.instances) failed
failed_one (Err fault) old new failed = absurd failed

-- of all that stops a command, only running out of memory is left
finishes : (command : CommandData) (decided status : Status) → EndsAs status command decided → (status ≡ Status.ReadFault → ⊥) → (status ≡ Status.WriteFault → ⊥) → (status ≡ Status.DoorFault → ⊥)
    → (status ≡ Status.KeeperFault → ⊥) → (status ≡ Status.BadRow → ⊥) → Finishes command decided status
finishes command decided Status.Done end read write door keeper bad = inr (inr end)
finishes command decided Status.Usage end read write door keeper bad = inr (inr end)
finishes command decided Status.BadDescription end read write door keeper bad = inr (inr end)
finishes command decided Status.NoSuchInstance end read write door keeper bad = inr (inr end)
finishes command decided Status.TooMuch end read write door keeper bad = inr (inr end)
finishes command decided Status.OutOfMemory end read write door keeper bad = inl refl
finishes command decided Status.ReadFault end read write door keeper bad = absurd (read refl)
finishes command decided Status.WriteFault end read write door keeper bad = absurd (write refl)
finishes command decided Status.DoorFault end read write door keeper bad = absurd (door refl)
finishes command decided Status.KeeperFault end read write door keeper bad = absurd (keeper refl)
finishes command decided Status.BadRow end read write door keeper bad = absurd (bad refl)
finishes (Sync words) decided Status.Stopped end read write door keeper bad = inr (inl refl)
finishes (Serve words) decided Status.Stopped end read write door keeper bad = inr (inr end)
finishes Net decided Status.Stopped end read write door keeper bad = inr (inr end)
finishes Check decided Status.Stopped end read write door keeper bad = inr (inr end)
finishes (Gen count) decided Status.Stopped end read write door keeper bad = inr (inr end)

module _ (status : Status) (old new : List KeeperState) (before after : Faults) (whole : IsFaultless old new before after) (empty : HoldNothing old) (all : AllReport new)
    (kept : IsUnopened status → AreKeptOrOpened old new) where
  -- over its source
  finished_over : (command : CommandData) (source : Option (List ℕ)) → HasCauses source old new before after status → IfSome source (λ left. EndsAs status command (status_of command left))
      → IfSome source (λ left. Finishes command (status_of command left) status)
  finished_over command None causes ends = tt
  finished_over command (Some left) causes ends =
      finishes command (status_of command left) status ends (λ is. whole.source (causes.read is)) (λ is. whole.sink (causes.write is)) (λ is. whole.door (causes.door is))
      (λ is. whole.keepers (failed_one (described left) old new (causes.keeper is))) (λ is. unsound_none (described left) old new empty all (kept (subst IsUnopened (sym is) tt)) (causes.bad_row is))

  pub finished : (o : Option CommandData) (left : Option (List ℕ)) → HasCauses (source_of o left) old new before after status
      → IfSome o (λ command. IfSome (source_of (Some command) left) (λ l. EndsAs status command (status_of command l)))
      → IfSome o (λ command. IfSome (source_of (Some command) left) (λ l. Finishes command (status_of command l) status))
  finished None left causes ends = tt
  finished (Some command) left causes ends = finished_over command (source_of (Some command) left) causes ends

below : (m n : ℕ) → nat_lt m n ≡ true → m < n
below m n is = grind (arith, nat_tests)

-- a source that is not too long ends as its description says
status_short : (command : CommandData) (source : List ℕ) → length source ≤ source_limit
    → (if nat_lt source_limit (length source) then Status.TooMuch else status_over command (described source)) ≡ status_over command (described source)
status_short command source short = elim (cases_Bool (nat_lt source_limit (length source))) [
  | inl more ↦ absurd (let lt : source_limit < length source = below source_limit (length source) more in omega (arith, lt, short))
  | inr less ↦ rw less refl
]

status_within : (command : CommandData) (source : List ℕ) → IsWithin command source → status_of command source ≡ status_over command (described source)
status_within (Gen count) source within = refl
status_within Net source within = status_short Net source within
status_within Check source within = status_short Check source within
status_within (Serve words) source within = status_short (Serve words) source within
status_within (Sync words) source within = status_short (Sync words) source within

-- what holds of the bytes that were read holds of what the source had left
pub of_left : (o : Option (List ℕ)) (bytes here : List ℕ) (P : List ℕ → Type 0) → IfSome o (λ left. bytes ≡ left) → here ≡ bytes → P here → IfSome o P
of_left None bytes here P is same holds = tt
of_left (Some left) bytes here P is same holds = subst P (same ∙ is) holds

-- by the command that the words ask for
pub of_source : (o : Option CommandData) (command : CommandData) (left : Option (List ℕ)) (bytes here : List ℕ) (P : List ℕ → Type 0)
    → o ≡ Some command → IfSome (source_of (Some command) left) (λ l. bytes ≡ l) → here ≡ bytes → P here → IfSome (source_of o left) P
of_source o command left bytes here P read is same holds = subst (λ c. IfSome (source_of c left) P) (sym read) (of_left (source_of (Some command) left) bytes here P is same holds)

-- how a command ended over these bytes is how the words ended over the source
pub status_read : (o : Option CommandData) (command : CommandData) (left : Option (List ℕ)) (bytes here : List ℕ) (status : Status)
    → o ≡ Some command → IfSome (source_of (Some command) left) (λ l. bytes ≡ l) → here ≡ bytes → IsWithin command bytes → EndsAs status command (status_over command (described here))
    → IfSome o (λ c. IfSome (source_of (Some c) left) (λ l. EndsAs status c (status_of c l)))
status_read o command left bytes here status read is same short how =
    let P : CommandData → List ℕ → Type 0 = λ c l. EndsAs status c (status_of c l) in
    let within : IsWithin command here = rw same short in
    let ended : P command here = rw (status_within command here within) how in
    subst (λ k. IfSome k (λ c. IfSome (source_of (Some c) left) (P c))) (sym read) (of_left (source_of (Some command) left) bytes here (P command) is same ended)
