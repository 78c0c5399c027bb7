-- What is reported of the peer of a wire that was asked.
use Rattle.std.proofs.Common.{◌≡◌, ◌<◌, ◌^◌, ℕ, true, List, length, Option, None, Some, Result, Ok, Err, refl, sym, subst, ◌∙◌, inl, inr, arith}
use Rattle.misp_outside.specs.Causes.{HasCause}
use Rattle.misp_store.specs.Sharing.{HasSoundAdmin}
use Rattle.misp_core.specs.Prelude.{Did, Held, Standing, host_of, seen_in}
use Rattle.misp_outside.specs.Reporting.{WhereReported}
use Rattle.misp_dialogue.specs.Parties.{IsErrBy, IsReply}
use Rattle.misp_protocol.specs.declared.cause.Cause.{Cause}
use Rattle.misp_protocol.specs.declared.request.Answer.{Answer}
use Rattle.misp_protocol.specs.declared.request.Request.{Request}
use Rattle.misp_client.proofs.ReadBack.{tells_alone}
use Rattle.misp_client.proofs.Suiting.{suits_did}
use Rattle.misp_client.specs.Answers.{IsToldBy}
use Rattle.misp_client.specs.Calling.{IsCallable, called as called_at}
use Rattle.misp_client.specs.Telling.{told}
use Rattle.misp_client.specs.declared.call.Call.{Call}
use Rattle.misp_sync.proofs.Peers.{by_peers, same_peer}
use Rattle.misp_outside.proofs.Reporting.{known_with, reported_so}
use Rattle.misp_sync.proofs.WireDone.{Leaves, done, leaves_lost, leaves_read}
use Rattle.misp_sync.proofs.WireRead.{body_short, keeper_read}
use Rattle.misp_sync.specs.Wire.{IsAnswered, IsSamePeer, MayBeDone, Meet, held_of, peer_of}
use Rattle.misp_sync.specs.WireAnswers.{IsCutShort, IsFaultOfPeer, IsReadAs, call_of, faults_of, wire_conduct}

-- what is reported of the peer of a wire before and after
pub record OfPeer (key : List ℕ) (q : Request) (result : Result Answer Cause) (old new : Option Standing) : Type 0 where
  pub held : WhereReported (held_of old) (held_of new) (IsReply (wire_conduct (peer_of old) key) q result)
  pub peer : HasCause (faults_of old) (faults_of new) (IsErrBy (IsFaultOfPeer (peer_of old)) result)

-- nothing is reported of a peer of another process
pub of_none : (key : List ℕ) (q : Request) (result : Result Answer Cause) → OfPeer key q result None None
of_none key q result = record {
  held = tt;
  peer = record { later = omega arith; rose = λ h. absurd (never result h) };
}
  where
    never : (result : Result Answer Cause) → IsErrBy (IsFaultOfPeer None) result → ⊥
    never (Ok answer) h = h
    never (Err cause) h = h

module _ (key : List ℕ) (call : Call) (callable : IsCallable key call) (q : Request) (is : call_of q ≡ Some call) where
  -- a peer of this process
  module _ (old new : Standing) (result : Result Answer Cause) where
    abbrev Replies : Held → Held → Type 0
    Replies held left = Leaves (host_of old) key call q is held result left

    module _ (bytes : List ℕ) (small : length bytes < 2 ^ 63) (a : IsAnswered key call old new bytes) where
      abbrev CameTo : Held → Held → Type 0
      CameTo held left = Did (called_at (host_of old) a.now key call (seen_in held)) held a.reply left

      told_of : (held left : Held) → CameTo held left → IsToldBy call bytes result → result ≡ told call a.reply
      told_of held left did by =
          let suits = suits_did (host_of old) a.now key call callable.call_is held a.reply left did in
          tells_alone call a.reply a.sound a.worded suits (body_short a.reply bytes a.bytes_are small) result (subst (λ b. IsToldBy call b result) a.bytes_are by)

      replies : IsReadAs (Some call) bytes result → (held left : Held) → CameTo held left × (HasSoundAdmin held) → Replies held left
      replies (inl memory) held left did =
          subst (λ r. Leaves (host_of old) key call q is held r left) (sym memory)
          (leaves_lost (host_of old) key call q is held Cause.NoMemory a.reply left (inr refl) (done (host_of old) a.now key call held a.reply left did.0))
      replies (inr by) held left did =
          leaves_read (host_of old) key call q is held result a.reply left (record { groups = did.1; owners = a.owners }) (told_of held left did.0 by)
          (done (host_of old) a.now key call held a.reply left did.0)

      ends : IsReadAs (Some call) bytes result → WhereReported old.held new.held Replies
      ends reads = reported_so old.held new.held _ Replies (replies reads) (known_with old.held new.held CameTo HasSoundAdmin a.replied a.groups)

  rose_of : (old new : Standing) (result : Result Answer Cause) (bytes : List ℕ) → length bytes < 2 ^ 63 → (a : IsAnswered key call old new bytes) → IsReadAs (Some call) bytes result
      → HasCause old.faults new.faults (IsErrBy (λ cause. cause ≡ Cause.Refused 503 26) result)
  rose_of old new (Ok answer) bytes small a reads = record { later = a.cause.later; rose = λ h. absurd h }
  rose_of old new (Err cause) bytes small a reads =
      record { later = a.cause.later; rose = λ h. a.cause.rose (keeper_read call a.reply bytes a.bytes_are a.worded small cause h reads) }

  no_rise : (cause : Cause) → IsCutShort cause → cause ≡ Cause.Refused 503 26 → ⊥
  no_rise cause (inl link) h = let no : Cause.Link ≡ Cause.Refused 503 26 = sym link ∙ h in absurd cc
  no_rise cause (inr memory) h = let no : Cause.NoMemory ≡ Cause.Refused 503 26 = sym memory ∙ h in absurd cc

  ends_cut : (old new : Standing) (cause : Cause) → IsCutShort cause → MayBeDone key call old new → WhereReported old.held new.held (Replies old new (Err cause))
  ends_cut old new cause cut =
      reported_so old.held new.held _ (Replies old new (Err cause)) (λ held left may. elim may [
        | inl stays ↦ inl (stays, inr (inl cut))
        | inr did ↦ leaves_lost (host_of old) key call q is held cause did.1 left cut (done (host_of old) did.0 key call held did.1 left did.2)
      ])

  -- it replied, and the reply was read
  pub peer_read : (old new : Option Standing) → Meet old new IsSamePeer → (bytes : List ℕ) → length bytes < 2 ^ 63 → Meet old new (λ old new. IsAnswered key call old new bytes)
      → (result : Result Answer Cause) → IsReadAs (Some call) bytes result → OfPeer key q result old new
  peer_read old new same bytes small answered result reads =
      by_peers (λ old new. Meet old new (λ old new. IsAnswered key call old new bytes) → OfPeer key q result old new) old new (same_peer old new same) (λ answered. of_none key q result)
      (λ a b host answered. record { held = ends a b result bytes small answered reads; peer = rose_of a b result bytes small answered reads }) answered

  -- no reply came
  pub peer_cut : (old new : Option Standing) → Meet old new IsSamePeer → (cause : Cause) → IsCutShort cause → Meet old new (MayBeDone key call) → OfPeer key q (Err cause) old new
  peer_cut old new same cause cut =
      by_peers (λ old new. Meet old new IsSamePeer → Meet old new (MayBeDone key call) → OfPeer key q (Err cause) old new) old new (same_peer old new same) (λ same may. of_none key q (Err cause))
      (λ a b host same may. record { held = ends_cut a b cause cut may; peer = record { later = same.later; rose = λ h. absurd (no_rise cause cut h) } }) same
