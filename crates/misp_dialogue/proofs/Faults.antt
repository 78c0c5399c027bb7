-- A cause of one party is told only where that party refused or was stopped by it.
use Rattle.std.proofs.Common.{ℕ, List, [], ◌∷◌, Option, None, Some, subst}
use Rattle.misp_outside.specs.Causes.{HasCause}
use Rattle.misp_dialogue.specs.Conversed.{after}
use Rattle.misp_dialogue.specs.Dialogue.{Dialogue, Over, Ask}
use Rattle.misp_dialogue.specs.Parties.{Conduct, PartyState}
use Rattle.misp_dialogue.specs.Shares.{ByReplies, EndsBy, EndsOnlyBy, IfFailed, IsFailedBy, IsStoppedBy, failure}
use Rattle.misp_dialogue.specs.declared.ending.Ending.{Ending}
use Rattle.misp_dialogue.specs.declared.side.Side.{Side}

pub ends_only_after : {Q R N C : Type 0} (P : C → Type 0) (d : Dialogue Q R N C) (rs : List R) → EndsOnlyBy P d
    → EndsOnlyBy P (after d rs)
ends_only_after P d [] only = only
ends_only_after P (Over n why) (r ∷ rs) only = ends_only_after P (Over n why) rs only
ends_only_after P (Ask n side q more) (r ∷ rs) only = ends_only_after P (more r) rs (only r)

module _ {Q R N C : Type 0} (P : C → Type 0) (memory : C) (no_memory : P memory → ⊥) where
  -- where the other side never refuses by it
  failed_source : (d : Dialogue Q R N C) (last : Option C) (ending : Ending N C) → EndsOnlyBy (λ c. P c → ⊥) d
      → IfFailed (λ c. P c → ⊥) (failure Side.Sink d last) → EndsBy memory d last ending → IsStoppedBy P ending
      → IsFailedBy P (failure Side.Source d last)
  failed_source (Over n None) None ending only other is p = absurd (subst (IsStoppedBy P) is p)
  failed_source (Over n (Some cause)) None ending only other is p = absurd (only (subst (IsStoppedBy P) is p))
  failed_source (Over n why) (Some cause) ending only other is p = absurd is
  failed_source (Ask n side q more) None ending only other is p = absurd (no_memory (subst (IsStoppedBy P) is p))
  failed_source (Ask n Side.Source q more) (Some cause) ending only other is p = subst (IsStoppedBy P) is p
  failed_source (Ask n Side.Sink q more) (Some cause) ending only other is p = absurd (other (subst (IsStoppedBy P) is p))

  failed_sink : (d : Dialogue Q R N C) (last : Option C) (ending : Ending N C) → EndsOnlyBy (λ c. P c → ⊥) d
      → IfFailed (λ c. P c → ⊥) (failure Side.Source d last) → EndsBy memory d last ending → IsStoppedBy P ending
      → IsFailedBy P (failure Side.Sink d last)
  failed_sink (Over n None) None ending only other is p = absurd (subst (IsStoppedBy P) is p)
  failed_sink (Over n (Some cause)) None ending only other is p = absurd (only (subst (IsStoppedBy P) is p))
  failed_sink (Over n why) (Some cause) ending only other is p = absurd is
  failed_sink (Ask n side q more) None ending only other is p = absurd (no_memory (subst (IsStoppedBy P) is p))
  failed_sink (Ask n Side.Sink q more) (Some cause) ending only other is p = subst (IsStoppedBy P) is p
  failed_sink (Ask n Side.Source q more) (Some cause) ending only other is p = absurd (other (subst (IsStoppedBy P) is p))

never : {Q C : Type 0} (I P : C → Type 0) (last : Option (_)) → ((c : C) → I c → P c → ⊥) → IfFailed {Q = Q} I last
    → IfFailed (λ c. P c → ⊥) last
never I P None f is = tt
never I P (Some x) f is = f x.cause is

has_cause : (before now : ℕ) (F G : Type 0) → (G → F) → HasCause before now F → HasCause before now G
has_cause before now F G f c = record { later = c.later; rose = λ g. c.rose (f g) }

module _ {HA HB Q R N C : Type 0} (memory : C) (ka : Conduct HA Q R C) (kb : Conduct HB Q R C) (P : C → Type 0)
    (no_memory : P memory → ⊥) (d : Dialogue Q R N C) (only : EndsOnlyBy (λ c. P c → ⊥) d)
    (old new : PartyState HA × PartyState HB) (ending : Ending N C) (by : ByReplies memory ka kb d old new ending) where
  -- such a cause is told, and so the source refused or was stopped by it
  pub by_source : ((c : C) → kb.IsCause c → P c → ⊥) → IsStoppedBy P ending
      → IsFailedBy P (failure Side.Source (after d by.replies) by.last)
  by_source apart =
      failed_source P memory no_memory (after d by.replies) by.last ending (ends_only_after _ d by.replies only)
      (never kb.IsCause P _ apart by.sink.why) by.ends

  -- or the sink
  pub by_sink : ((c : C) → ka.IsCause c → P c → ⊥) → IsStoppedBy P ending
      → IsFailedBy P (failure Side.Sink (after d by.replies) by.last)
  by_sink apart =
      failed_sink P memory no_memory (after d by.replies) by.last ending (ends_only_after _ d by.replies only)
      (never ka.IsCause P _ apart by.source.why) by.ends
