-- One of a list is taken out, another is lent, and the first is put back.
use Rattle.std.proofs.Common.{◌≡◌, ℕ, zero, suc, ◌<◌, ◌-◌, ◌+◌, arith, List, [], ◌∷◌, false, nat_eq, slice_index_or, slice_set, length, refl, ap, sym, ◌∙◌, inl, inr, Option, Some, None, IfSome}
use Rattle.std.specs.Prelude.{◌⊎◌}
use Rattle.std.specs.List.{insert, remove}
use Rattle.std.proofs.lemmas.Bool.{false≢true, eq-eqb, cases_order}
use Rattle.misp_core.specs.Prelude.{Standing}
use Rattle.misp_protocol.specs.Counts.{no_count}
use Rattle.misp_protocol.specs.declared.cause.Cause.{Cause}
use Rattle.misp_sync.specs.declared.reply.SyncReply.{SyncReply}
use Rattle.misp_net.specs.Lending.{IsHeldOff}
use Rattle.std.proofs.lemmas.List.Edits.{get_or-remove_below, get_or-remove_above}

-- a link that refuses it
pub held_off : (own peer mine theirs : Standing) (reply : SyncReply) (bar : Option Cause)
    → IfSome bar (λ why. (reply ≡ SyncReply.Stopped no_count why) × (mine ≡ own) × (theirs ≡ peer))
    → IfSome bar (λ why. IsHeldOff own peer mine theirs reply (SyncReply.Stopped no_count why))
held_off own peer mine theirs reply None is = tt
held_off own peer mine theirs reply (Some why) is = record { just = is.0; own_is = is.1; peer_is = is.2 }

-- a list with this at a place
abbrev pub set_in : {X : Type 0} → ℕ → X → List X → List X
set_in place x xs = slice_set xs place x

module _ {X : Type 0} where
  put_back : (xs : List X) (i : ℕ) (y : X) → i < length xs → insert (remove xs i) i y ≡ slice_set xs i y
  put_back [] i y lt = absurd (omega arith)
  put_back (x ∷ xs) zero y lt = refl
  put_back (x ∷ xs) (suc i) y lt = ap (λ l. x ∷ l) (put_back xs i y (omega arith))

  -- where another is that was before it
  put_below : (xs : List X) (own peer : ℕ) (mine theirs : X) → own < length xs → peer < own
      → insert (slice_set (remove xs own) peer theirs) own mine ≡ slice_set (slice_set xs own mine) peer theirs
  put_below [] own peer mine theirs within lt = absurd (omega arith)
  put_below (x ∷ xs) zero peer mine theirs within lt = absurd (omega arith)
  put_below (x ∷ xs) (suc own) zero mine theirs within lt = ap (λ l. theirs ∷ l) (put_back xs own mine (omega arith))
  put_below (x ∷ xs) (suc own) (suc peer) mine theirs within lt = ap (λ l. x ∷ l) (put_below xs own peer mine theirs (omega arith) (omega arith))

  -- and behind it
  put_above : (xs : List X) (own place : ℕ) (mine theirs : X) → own < length xs → own < suc place
      → insert (slice_set (remove xs own) place theirs) own mine ≡ slice_set (slice_set xs own mine) (suc place) theirs
  put_above [] own place mine theirs within lt = absurd (omega arith)
  put_above (x ∷ xs) zero place mine theirs within lt = refl
  put_above (x ∷ xs) (suc own) zero mine theirs within lt = absurd (omega arith)
  put_above (x ∷ xs) (suc own) (suc place) mine theirs within lt = ap (λ l. x ∷ l) (put_above xs own place mine theirs (omega arith) (omega arith))

  module _ (xs : List X) (own peer place : ℕ) (within : own < length xs) (apart : nat_eq own peer ≡ false)
      (below : peer < own → place ≡ peer) (above : own < peer → place ≡ peer - 1) where
    -- both are in their places again
    pub both_back : (mine theirs : X) → insert (slice_set (remove xs own) place theirs) own mine ≡ slice_set (slice_set xs own mine) peer theirs
    both_back mine theirs = by_order (cases_order own peer)
      where
        by_order : (own ≡ peer) ⊎ ((own < peer) ⊎ (peer < own)) → insert (slice_set (remove xs own) place theirs) own mine ≡ slice_set (slice_set xs own mine) peer theirs
        by_order (inl same) = absurd (false≢true (sym apart ∙ eq-eqb own peer same))
        by_order (inr (inl lt)) =
            let is : suc (peer - 1) ≡ peer = omega arith in
            ap (λ k. insert (slice_set (remove xs own) k theirs) own mine) (above lt)
            ∙ put_above xs own (peer - 1) mine theirs within (omega arith)
            ∙ ap (λ k. slice_set (slice_set xs own mine) k theirs) is
        by_order (inr (inr lt)) = ap (λ k. insert (slice_set (remove xs own) k theirs) own mine) (below lt) ∙ put_below xs own peer mine theirs within lt

    -- the one that is lent
    pub lent : (d : X) → slice_index_or (remove xs own) place d ≡ slice_index_or xs peer d
    lent d = by_order (cases_order own peer)
      where
        by_order : (own ≡ peer) ⊎ ((own < peer) ⊎ (peer < own)) → slice_index_or (remove xs own) place d ≡ slice_index_or xs peer d
        by_order (inl same) = absurd (false≢true (sym apart ∙ eq-eqb own peer same))
        by_order (inr (inl lt)) =
            let is : (peer - 1) + 1 ≡ peer = omega arith in
            ap (λ k. slice_index_or (remove xs own) k d) (above lt) ∙ get_or-remove_above xs own d (peer - 1) (omega arith) within ∙ ap (λ k. slice_index_or xs k d) is
        by_order (inr (inr lt)) = ap (λ k. slice_index_or (remove xs own) k d) (below lt) ∙ get_or-remove_below xs own d peer lt within

-- one less
pub shorter : {X : Type 0} (xs : List X) (i : ℕ) → i < length xs → length (remove xs i) + 1 ≡ length xs
shorter [] i lt = absurd (omega arith)
shorter (x ∷ xs) zero lt = omega arith
shorter (x ∷ xs) (suc i) lt = omega (arith, shorter xs i (omega arith))

pub set_long : {X : Type 0} (xs : List X) (i : ℕ) (y : X) → length (slice_set xs i y) ≡ length xs
set_long [] i y = refl
set_long (x ∷ xs) zero y = omega arith
set_long (x ∷ xs) (suc i) y = omega (arith, set_long xs i y)

-- the place of the other is among the rest
pub within_rest : {X : Type 0} (xs : List X) (own peer place : ℕ) → own < length xs → peer < length xs → nat_eq own peer ≡ false
    → (peer < own → place ≡ peer) → (own < peer → place ≡ peer - 1) → place < length (remove xs own)
within_rest xs own peer place within other apart below above = by_order (cases_order own peer)
  where
    by_order : (own ≡ peer) ⊎ ((own < peer) ⊎ (peer < own)) → place < length (remove xs own)
    by_order (inl same) = absurd (false≢true (sym apart ∙ eq-eqb own peer same))
    by_order (inr (inl lt)) = omega (arith, above lt, shorter xs own within)
    by_order (inr (inr lt)) = omega (arith, below lt, shorter xs own within)
