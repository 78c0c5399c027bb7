-- What one instance does, or two, among all of them.
use Rattle.std.proofs.Common.{◌≡◌, ◌≢◌, ℕ, ◌<◌, List, length, map, get_or, set, Option, Some, refl, sym, ◌∙◌, ap, subst, inl, inr, arith, length-set, get_or-set_other}
use Rattle.std.proofs.lemmas.Bool.{cases_eq}
use Rattle.std.proofs.lemmas.List.{length-map, map-set, get_or-map, set-get_or}
use Rattle.misp_outside.specs.Causes.{HasCause}
use Rattle.misp_outside.specs.Held.{nothing_held}
use Rattle.misp_outside.specs.Reporting.{StaysHeld, WhereReported}
use Rattle.misp_outside.proofs.Reporting.{reported_both, reported_so}
use Rattle.misp_effects.specs.Prelude.{Effect, Held, Here, KeeperState, Meaning, RoseBy, Spelling, Stop, There, nothing_of}
use Rattle.misp_effects.specs.Effect.{shown, Does, Telling}
use Rattle.misp_effects.specs.KeeperStates.{count_at}
use Rattle.misp_effects.specs.Meanings.{alone}
use Rattle.misp_effects.specs.Run.{fault_at}
use Rattle.misp_effects.specs.Course.{IsAct}
use Rattle.misp_effects.proofs.Places.{count_same, count_is, count_other, fault_rose}
use Rattle.misp_effects.proofs.Showing.{does_shown}
use Rattle.misp_effects.proofs.Told.{told_both, told_set}

-- ---- one instance

-- of all keepers only that of the instance may have failed
one_causes : {S A : Type 0} (stop_in : A → Option Stop) (refused : Stop → A) (at : ℕ) (comes : S → Effect A) (old : List KeeperState) (new none : KeeperState) (output : A) → at < length old
    → HasCause (get_or old at none).faults new.faults (stop_in output ≡ Some (Stop.Keeper Here))
    → (stop_in output ≡ Some (Stop.Keeper There) → ⊥)
    → (place : ℕ) → RoseBy (fault_at stop_in place (alone refused at comes) output) (count_at place old) (count_at place (set old at new))
one_causes stop_in refused at comes old new none output lt cause never place =
    elim (cases_eq place at) [
      | inl same ↦
          rw (same, count_is old at none lt, count_same old at new lt)
          (fault_rose (alone refused at comes) (stop_in output) at _ _ (λ is here. cause.rose is) (λ is there. absurd (never is)) cause.later)
      | inr other ↦
          rw (count_other old at place new other)
          (fault_rose (alone refused at comes) (stop_in output) place _ _ (λ is here. absurd (other (sym here))) (λ is there. absurd (never is)) (omega arith))
    ]

-- what an instance does alone is an act among all
pub one_act : {S A : Type 0} (seen_in : Held → S) (spelled : Spelling) (stop_in : A → Option Stop) (refused : Stop → A) (at : ℕ) (comes : S → Effect A) (old : List KeeperState) (new none : KeeperState) (output : A) → at < length old
    → WhereReported (get_or old at none).held new.held (λ held now. Does A spelled stop_in (nothing_of refused) (comes (seen_in held)) held output now)
    → HasCause (get_or old at none).faults new.faults (stop_in output ≡ Some (Stop.Keeper Here))
    → (stop_in output ≡ Some (Stop.Keeper There) → ⊥)
    → IsAct S A seen_in spelled stop_in (alone refused at comes) old (set old at new) output
one_act seen_in spelled stop_in refused at comes old new none output lt does cause never = record {
  places = length-set old at new;
  causes = one_causes stop_in refused at comes old new none output lt cause never;
  done = told_set old at new none _ _ lt does (λ before now did. record {
    outcome = did.outcome;
    agree = did.agree;
    output_is = did.reply_is;
    tables_are = ap (set before at) did.held_is;
    fits = did.fits;
  });
}

-- the same of things that have a keeper each, where the reply is shown in another way
pub shown_act : {S A B X : Type 0} (seen_in : Held → S) (spelled : Spelling) (f : A → B) (stop_in : B → Option Stop) (refused : Stop → A) (state : X → KeeperState)
    (at : ℕ) (comes : S → Effect A) (old : List X) (new none : X) (reply : A) → at < length old
    → WhereReported (state (get_or old at none)).held (state new).held (λ held now. Does A spelled (λ a. stop_in (f a)) (nothing_of refused) (comes (seen_in held)) held reply now)
    → HasCause (state (get_or old at none)).faults (state new).faults (stop_in (f reply) ≡ Some (Stop.Keeper Here))
    → (stop_in (f reply) ≡ Some (Stop.Keeper There) → ⊥)
    → IsAct S B seen_in spelled stop_in (alone (λ stop. f (refused stop)) at (λ here. shown f (comes here))) (map state old) (map state (set old at new)) (f reply)
shown_act {S} {A} {B} {X} seen_in spelled f stop_in refused state at comes old new none reply lt does cause never =
    let there : get_or (map state old) at (state none) ≡ state (get_or old at none) = get_or-map state old at none (state none) lt in
    let long : at < length (map state old) = rw (length-map old state) lt in
    subst (λ news. IsAct S B seen_in spelled stop_in (alone (λ stop. f (refused stop)) at (λ here. shown f (comes here))) (map state old) news (f reply)) (sym (map-set state old at new))
    (one_act seen_in spelled stop_in (λ stop. f (refused stop)) at (λ here. shown f (comes here)) (map state old) (state new) (state none) (f reply) long
    (subst (λ (s : KeeperState). WhereReported s.held (state new).held (λ held now. Does B spelled stop_in (nothing_of (λ stop. f (refused stop))) (shown f (comes (seen_in held))) held (f reply) now)) (sym there)
    (reported_so (state (get_or old at none)).held (state new).held _ _ (λ held now did.
    does_shown spelled f (λ a. stop_in (f a)) stop_in (nothing_of refused) (nothing_of (λ stop. f (refused stop))) (λ a. refl) (λ stop n lost e. refl) (comes (seen_in held)) held reply now did) does))
    (subst (λ (s : KeeperState). HasCause s.faults (state new).faults (stop_in (f reply) ≡ Some (Stop.Keeper Here))) (sym there) cause)
    never)

-- ---- two instances, of which one puts

module _ {S A : Type 0} (seen_in : Held → S) (spelled : Spelling) (stop_in : A → Option Stop) (telling : Telling A)
    (at peer : ℕ) (comes : S → S → Effect A) (old : List KeeperState) (here there none : KeeperState) (output : A)
    (lt : at < length old) (peer_lt : peer < length old) (apart : at ≢ peer)
    (cause : HasCause (get_or old at none).faults here.faults (stop_in output ≡ Some (Stop.Keeper Here)))
    (peer_cause : HasCause (get_or old peer none).faults there.faults (stop_in output ≡ Some (Stop.Keeper There))) where
  -- what it means where this one of them puts
  abbrev pub meant : ℕ → Meaning S A
  meant into = record { at = at; peer = peer; into = into; comes = comes; telling = telling }

  -- the keepers afterwards
  abbrev both : List KeeperState
  both = set (set old at here) peer there

  -- the count of the instance that is asked
  count_here : count_at at both ≡ here.faults
  count_here = count_other (set old at here) peer at there apart ∙ count_same old at here lt

  -- the count of the peer
  count_there : count_at peer both ≡ there.faults
  count_there = count_same (set old at here) peer there (rw (length-set old at here) peer_lt)

  -- of all keepers only those of the two may have failed
  two_causes : (into place : ℕ) → RoseBy (fault_at stop_in place (meant into) output) (count_at place old) (count_at place both)
  two_causes into place =
      elim (cases_eq place at) [
        | inl same ↦
            rw (same, count_is old at none lt, count_here)
            (fault_rose (meant into) (stop_in output) at _ _ (λ is h. cause.rose is) (λ is h. absurd (apart (sym h))) cause.later)
        | inr other ↦
            elim (cases_eq place peer) [
              | inl same ↦
                  rw (same, count_is old peer none peer_lt, count_there)
                  (fault_rose (meant into) (stop_in output) peer _ _ (λ is h. absurd (apart h)) (λ is h. peer_cause.rose is) peer_cause.later)
              | inr neither ↦
                  rw (count_other (set old at here) peer place there neither, count_other old at place here other)
                  (fault_rose (meant into) (stop_in output) place _ _ (λ is h. absurd (other (sym h))) (λ is h. absurd (neither (sym h))) (omega arith))
            ]
      ]

  -- there are as many keepers as before
  two_places : length both ≡ length old
  two_places = length-set (set old at here) peer there ∙ length-set old at here

  -- the one that takes held this, and holds that now
  abbrev pub Did : (own from held now : Held) → Type 0
  Did own from held now = Does A spelled stop_in telling (comes (seen_in own) (seen_in from)) held output now

  -- what is put here, where what the other holds stays, is an act among all
  pub here_act : WhereReported (get_or old at none).held here.held (λ own mine. WhereReported (get_or old peer none).held there.held (λ from left. Did own from own mine))
      → StaysHeld (get_or old peer none).held there.held
      → IsAct S A seen_in spelled stop_in (meant at) old both output
  here_act does stays = record {
    places = two_places;
    causes = two_causes at;
    done = told_both old at peer here there none _ _ lt peer_lt apart
        (reported_so (get_or old at none).held here.held _ _ (λ own mine did. reported_both (get_or old peer none).held there.held _ _ did stays) does)
        (λ before mine left is. record {
          outcome = is.0.outcome;
          agree = is.0.agree;
          output_is = is.0.reply_is;
          tables_are =
              ap (set (set before at mine) peer) (is.1 ∙ sym (get_or-set_other before at peer mine nothing_held (λ e. apart (sym e))))
              ∙ set-get_or (set before at mine) peer nothing_held
              ∙ ap (set before at) is.0.held_is;
          fits = is.0.fits;
        });
  }

  -- and so is what is put there, where what this one holds stays
  pub there_act : WhereReported (get_or old at none).held here.held (λ own mine. WhereReported (get_or old peer none).held there.held (λ from left. Did own from from left))
      → StaysHeld (get_or old at none).held here.held
      → IsAct S A seen_in spelled stop_in (meant peer) old both output
  there_act does stays = record {
    places = two_places;
    causes = two_causes peer;
    done = told_both old at peer here there none _ _ lt peer_lt apart
        (reported_so (get_or old at none).held here.held _ (λ own mine. WhereReported (get_or old peer none).held there.held (λ from left. Did own from from left × (mine ≡ own)))
        (λ own mine is. reported_so (get_or old peer none).held there.held _ (λ from left. Did own from from left × (mine ≡ own)) (λ from left did. (did, is.1)) is.0)
        (reported_both (get_or old at none).held here.held _ _ does stays))
        (λ before mine left is. record {
          outcome = is.0.outcome;
          agree = is.0.agree;
          output_is = is.0.reply_is;
          tables_are =
              ap (λ first. set first peer left) (ap (set before at) is.1 ∙ set-get_or before at nothing_held)
              ∙ ap (set before peer) is.0.held_is;
          fits = is.0.fits;
        });
  }
