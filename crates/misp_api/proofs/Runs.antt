-- Turns one after another.
use Rattle.std.proofs.Common.{◌≡◌, ◌<◌, ◌≤◌, ◌+◌, ℕ, Bool, List, [], Option, Some, None, refl, sym, ap, ◌∙◌, subst, inl, inr, add-one, arith}
use Rattle.std.specs.Io.KnownBytes.{prepend_known}
use Rattle.misp_api.specs.Prelude.{Standing}
use Rattle.misp_api.specs.Session.{Runs, Session, is_last, ended, end_after}
use Rattle.misp_api.specs.Turn.{Point, IsAt, Turned}
use Rattle.misp_api.specs.declared.TheConstants.{MAX_REQUESTS}
use Rattle.misp_api.specs.declared.sessions.End.TheVariants as ends
use Rattle.misp_api.specs.declared.sessions.SessionEnd.{SessionEnd}
use Rattle.misp_api.specs.declared.turn.Turn.{Turn}
use Rattle.misp_api.specs.declared.turn.Turn.TheVariants as turns

pub starts : (left : Option (List ℕ)) (rest : List ℕ) (instance : Standing) (word : Option ℕ) (w : Option (List ℕ)) (p : Point) → rest ≡ [] → IsAt left instance word w p → IsAt (prepend_known rest left) instance word w p
starts left rest instance word w p none at = record {
  bytes_are = rw (none, at.bytes_are) refl;
  instance_is = at.instance_is;
  word_is = at.word_is;
  written_are = at.written_are;
}

-- only a turn that goes on ends no session
goes_on : (n : ℕ) (turn : Turn) → end_after n turn ≡ None → turn ≡ turns.Goes
goes_on n turns.Goes is = refl
goes_on n turns.Closes is = absurd cc
goes_on n turns.WriteFault is = absurd cc
goes_on n (turns.Ends end) is = absurd cc
goes_on n turns.NoRoom is = absurd cc

pub none_of : (found : Option SessionEnd) → ((end : SessionEnd) → found ≡ Some end → ⊥) → found ≡ None
none_of None not = refl
none_of (Some end) not = absurd (not end refl)

module _ (now n : ℕ) (p q : Point) (ran : Runs now n p q) (bytes : Option (List ℕ)) (instance : Standing) (word : Option ℕ) (w : Option (List ℕ)) where
  module _ (last : Bool) (turn : Turn) (found : Option SessionEnd) (last_is : last ≡ is_last n) (found_is : found ≡ end_after n turn) (turned : Turned now last q turn bytes instance word w) where
    pub one_more : found ≡ None → (next : Point) × Runs now (n + 1) p next × IsAt bytes instance word w next
    one_more none =
        let goes = rw (goes_on n turn (sym found_is ∙ none), last_is) at turned in
        (goes.0, subst (λ k. Runs now k p goes.0) (sym (add-one n)) (q, ran, goes.2), goes.1)

    pub ends_by : (end : SessionEnd) → n < MAX_REQUESTS → found ≡ Some end → Session now p end bytes instance word w
    ends_by end few some = inl (n, few, q, turn, ran, rw (← last_is) turned, sym found_is ∙ some)

  pub ends_full : MAX_REQUESTS ≤ n → n ≤ MAX_REQUESTS → IsAt bytes instance word w q → Session now p (record { requests = n; end = ends.Quota }) bytes instance word w
  ends_full many few at =
      let all : n ≡ MAX_REQUESTS = omega (arith, many, few) in
      inr (q, subst (λ k. Runs now k p q) all ran, at, ap (λ k. ended k ends.Quota) (sym all))
