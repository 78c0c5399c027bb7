-- What is told of the byte strings that passed grows by a part.
use Rattle.std.proofs.Common.{◌≡◌, ℕ, List, [], ◌∷◌, ◌++◌, Option, Some, None, Result, Ok, Err, MatchResult, inl, inr, refl, sym, ◌∙◌, ap, subst, append_assoc, append-nil}
use Rattle.misp_outside.specs.Wires.{GrowsByOne}
use Rattle.misp_dialogue.specs.Parties.{GrowsBy}
use Rattle.misp_sync.specs.Wire.{IsUnanswered}

module _ {A : Type 0} where
  -- by nothing
  pub grows_none : (told : Option (List A)) (P : List A → Type 0) → P [] → GrowsBy told told P
  grows_none None P holds = tt
  grows_none (Some items) P holds = ([], sym (append-nil items), holds)

  -- by one
  pub grows_one : (old new : Option (List A)) (item : A) (P : List A → Type 0) → GrowsByOne old new item → P (item ∷ []) → GrowsBy old new P
  grows_one None new item P one holds = tt
  grows_one (Some items) None item P one holds = absurd one
  grows_one (Some items) (Some more) item P one holds = (item ∷ [], one, holds)

  -- by one and another
  pub grows_two : (old mid new : Option (List A)) (item other : A) (P : List A → Type 0) → GrowsByOne old mid item → GrowsByOne mid new other → P (item ∷ other ∷ []) → GrowsBy old new P
  grows_two None mid new item other P one two holds = tt
  grows_two (Some items) None new item other P one two holds = absurd one
  grows_two (Some items) (Some more) None item other P one two holds = absurd two
  grows_two (Some items) (Some more) (Some all) item other P one two holds =
      (item ∷ other ∷ [], two ∙ ap (λ l. l ++ other ∷ []) one ∙ append_assoc items (item ∷ []) (other ∷ []), holds)

  -- what holds of the part
  pub grows_as : (old new : Option (List A)) (P Q : List A → Type 0) → ((more : List A) → P more → Q more) → GrowsBy old new P → GrowsBy old new Q
  grows_as None new P Q follows is = tt
  grows_as (Some items) None P Q follows is = absurd is
  grows_as (Some items) (Some all) P Q follows (more, same, holds) = (more, same, follows more holds)

-- ---- an ask

-- nothing passed
pub none_asked : (bytes : List ℕ) (old new : Option (List (List ℕ))) → new ≡ old → GrowsBy old new (λ more. IsUnanswered bytes more)
none_asked bytes old new same = subst (λ told. GrowsBy old told (λ more. IsUnanswered bytes more)) (sym same) (grows_none old (λ more. IsUnanswered bytes more) (inl refl))

-- the request did
pub only_asked : (bytes sent : List ℕ) (old new : Option (List (List ℕ))) → sent ≡ bytes → GrowsByOne old new sent → GrowsBy old new (λ more. IsUnanswered bytes more)
only_asked bytes sent old new same one = grows_one old new sent (λ more. IsUnanswered bytes more) one (inr (ap (λ s. s ∷ []) same))

-- and the reply after it, where it was answered
pub asked_whole : {V E : Type 0} (items : V → List ℕ) (bytes sent : List ℕ) (old mid new : Option (List (List ℕ))) (r : Result V E) → sent ≡ bytes → GrowsByOne old mid sent
    → MatchResult r (λ answer. GrowsByOne mid new (items answer)) (λ _. new ≡ mid)
    → GrowsBy old new (λ more. MatchResult r (λ reply. more ≡ bytes ∷ items reply ∷ []) (λ _. IsUnanswered bytes more))
asked_whole items bytes sent old mid new (Ok reply) same one two = grows_two old mid new sent (items reply) (λ more. more ≡ bytes ∷ items reply ∷ []) one two (ap (λ s. s ∷ items reply ∷ []) same)
asked_whole items bytes sent old mid new (Err fault) same one two = subst (λ told. GrowsBy old told (λ more. IsUnanswered bytes more)) (sym two) (only_asked bytes sent old mid same one)
