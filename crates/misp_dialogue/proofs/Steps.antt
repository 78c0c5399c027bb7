-- How a dialogue that is held goes on and ends.
use Rattle.std.proofs.Common.{◌≡◌, [], ◌∷◌, Option, Ok, Err, refl, ap, subst, inl, inr}
use Rattle.misp_dialogue.specs.Conversed.{Asks, Conversed, Ends, IsStep, Replied, after, between, ended}
use Rattle.misp_dialogue.specs.Dialogue.{Dialogue, Over, Ask, IsAsk, IsAsking, IsOver, counted}
use Rattle.misp_dialogue.specs.Parties.{Conduct, PartyState}
use Rattle.misp_dialogue.specs.declared.ending.Ending.{Ending}
use Rattle.misp_dialogue.specs.declared.side.Side.{Side}

module _ {Q R N C W : Type 0} (memory : C) (asks : Asks Q R C W) where
  pub over : (d : Dialogue Q R N C) (w : W) (n : N) (why : Option C)
      → IsOver d why → n ≡ counted d → Conversed memory asks d w w (ended n why)
  over (Over m end) w n why is count =
      record { replies = []; mid = w; replied = refl; ends = (refl, cc) }
  over (Ask m side request more) w n why is count = absurd is

  pub unmade : (d : Dialogue Q R N C) (w : W) (n : N) (cause : C) → IsAsking d → n ≡ counted d
      → cause ≡ memory → Conversed memory asks d w w (Ending.Stopped n cause)
  unmade (Over m end) w n cause asking count is = absurd asking
  unmade (Ask m side request more) w n cause asking count is =
      record { replies = []; mid = w; replied = refl; ends = inr (refl, cc) }

  pub stopped : (d : Dialogue Q R N C) (old new : W) (n : N) (s : Side) (q : Q)
      (next : R → Dialogue Q R N C) (cause : C) → IsAsk d s q next → n ≡ counted d
      → asks s old q (Err cause) new → Conversed memory asks d old new (Ending.Stopped n cause)
  stopped (Over m end) old new n s q next cause is count asked = absurd is
  stopped (Ask m side request more) old new n s q next cause is count asked = record {
    replies = [];
    mid = old;
    replied = refl;
    ends = inl (
      cause,
      subst (λ s. asks s old request (Err cause) new) is.0
          (subst (λ q. asks s old q (Err cause) new) is.1 asked),
      ap (λ n. Ending.Stopped n cause) count,
    );
  }

  pub stepped : (d e : Dialogue Q R N C) (old new : W) (s : Side) (q : Q)
      (next : R → Dialogue Q R N C) (reply : R) → IsAsk d s q next
      → asks s old q (Ok reply) new → e ≡ next reply → IsStep asks d e old new
  stepped (Over m end) e old new s q next reply is asked so = absurd is
  stepped (Ask m side request more) e old new s q next reply is asked so = (
    reply,
    subst (λ s. asks s old request (Ok reply) new) is.0
        (subst (λ q. asks s old q (Ok reply) new) is.1 asked),
    subst (λ f. e ≡ f reply) is.2 so,
  )

  -- what is held after a step is held with it
  pub held_on : (d e : Dialogue Q R N C) (old mid new : W) (ending : Ending N C)
      → IsStep asks d e old mid → Conversed memory asks e mid new ending
      → Conversed memory asks d old new ending
  held_on (Over m end) e old mid new ending x held = absurd x
  held_on (Ask m side request more) e old mid new ending x held = record {
    replies = x.0 ∷ held.replies;
    mid = held.mid;
    replied = (mid, x.1, subst (λ e. Replied asks e mid held.replies held.mid) x.2 held.replied);
    ends = subst (λ e. Ends memory asks (after e held.replies) held.mid new ending) x.2 held.ends;
  }

-- the same where what is set up at each party stays
module _ {SA SB HA HB Q R N C : Type 0} (memory : C) (ka : SA → Conduct HA Q R C) (kb : SB → Conduct HB Q R C) where
  pub held_after : (a a1 : SA) (b b1 : SB) → a1 ≡ a → b1 ≡ b → (d e : Dialogue Q R N C)
      (old mid new : PartyState HA × PartyState HB) (ending : Ending N C)
      → IsStep (between (ka a) (kb b)) d e old mid
      → Conversed memory (between (ka a1) (kb b1)) e mid new ending
      → Conversed memory (between (ka a) (kb b)) d old new ending
  held_after a a1 b b1 is_a is_b d e old mid new ending x held =
      held_on memory (between (ka a) (kb b)) d e old mid new ending x
      (subst (λ a. Conversed memory (between (ka a) (kb b)) e mid new ending) is_a
      (subst (λ b. Conversed memory (between (ka a1) (kb b)) e mid new ending) is_b held))
