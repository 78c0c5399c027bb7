-- A pull takes what comes of the parts of a manifest, one after another.
use Rattle.std.proofs.Common.{List, [], ◌∷◌, ◌++◌, Option, None, Some, sym, subst, inl, inr}
use Rattle.misp_dialogue.specs.Dialogue.{Over, Ask}
use Rattle.misp_dialogue.specs.Parties.{Conduct}
use Rattle.misp_dialogue.specs.Taking.{Batching, Takes}
use Rattle.misp_dialogue.specs.declared.side.Side.TheVariants.{Sink}
use Rattle.misp_dialogue.proofs.Taking.{asked, looked, over, sink_refused}
use Rattle.misp_protocol.specs.Counts.{IsTally}
use Rattle.misp_protocol.specs.TextTakes.{PartsCome}
use Rattle.misp_protocol.specs.Text.{Text, lacking, packed, through}
use Rattle.misp_protocol.specs.declared.cause.Cause.{Cause}
use Rattle.misp_protocol.specs.declared.request.Answer.{Answer}
use Rattle.misp_protocol.specs.declared.request.Request.{Request}
use Rattle.misp_protocol.specs.declared.part_keys.PartKeysFields.{PartKeysFields as PartKeys}
use Rattle.misp_protocol.specs.declared.count.Tally.{Tally}
use Rattle.misp_protocol.proofs.PushText.{part_taken}

module _ {HA HB B : Type 0} (ka : Conduct HA Request Answer Cause) (kb : Conduct HB Request Answer Cause)
    (b : Batching HB Tally B) where
  -- of each part nothing is wanted, or its rows are fetched and taken
  pub through_takes : (ks : List PartKeys) (n : Tally) (s : HA) (t : HB) (done : List B) (why : Option Cause)
      → IsTally n → PartsCome ka kb b s t ks done why → Takes ka kb b (through ks n) s t n done why
  through_takes [] n s t done why fine all =
      subst (λ why. Takes ka kb b (Over n None) s t n done why) (sym all.1)
      (subst (λ done. Takes ka kb b (Over n None) s t n done None) (sym all.0) (over ka kb b n None s t))
  through_takes (k ∷ ks) n s t done why fine (inl bad) =
      let d : Text = Ask n Sink (Request.Missing k) (lacking n (through ks)) in
      subst (λ why. Takes ka kb b d s t n done why) (sym bad.3)
      (subst (λ done. Takes ka kb b d s t n done (Some bad.0)) (sym bad.2)
      (sink_refused ka kb b n (Request.Missing k) (lacking n (through ks)) bad.0 s t bad.1))
  through_takes (k ∷ ks) n s t done why fine (inr (inl none)) =
      looked ka kb b n (Request.Missing k) (lacking n (through ks)) (Answer.Wanted None) s t done why none.0
      (λ ask held sound. through_takes ks n s t done why fine none.1)
  through_takes (k ∷ ks) n s t done why fine (inr (inr (w, p, count, first, later, next, misses, has, is, done_is, rest))) =
      subst (λ done. Takes ka kb b (Ask n Sink (Request.Missing k) (lacking n (through ks))) s t n done why) (sym done_is)
      (looked ka kb b n (Request.Missing k) (lacking n (through ks)) (Answer.Wanted (Some w)) s t (first ++ later) why misses
      (λ ask held sound. asked ka kb b n (Request.Rows w) (packed n (through ks)) (Answer.Part p) s t (first ++ later) why has
      (λ ask held sound. part_taken ka kb b n p (through ks) s t next count first later why fine is
      (λ ask m fits. through_takes ks m s next later why fits (rest ask)))))
