-- What a request to the peer of a wire comes to.
use Rattle.std.proofs.Common.{◌≡◌, ◌<◌, ◌^◌, ℕ, List, [], ◌∷◌, length, Option, None, Some, IfOk, Result, Ok, Err, refl, sym, ap, subst, ◌∙◌, inl, inr, arith}
use Rattle.misp_outside.specs.Causes.{HasCause, StaysUnless}
use Rattle.misp_core.specs.Prelude.{Host, Standing}
use Rattle.misp_dialogue.specs.Parties.{GrowsBy, IsErrBy, IsOkBy, IsTrail}
use Rattle.misp_protocol.specs.Values.{IsAskable, IsSoundAnswer}
use Rattle.misp_protocol.specs.declared.cause.Cause.{Cause}
use Rattle.misp_protocol.specs.declared.request.Answer.{Answer}
use Rattle.misp_protocol.specs.declared.request.Request.{Request}
use Rattle.misp_lists.proofs.Lists.{some_same}
use Rattle.misp_client.specs.Calling.{IsCall, IsCallable}
use Rattle.misp_client.specs.Calls.{call_text}
use Rattle.misp_client.specs.declared.call.Call.{Call}
use Rattle.misp_sync.proofs.Growing.{grows_so}
use Rattle.misp_sync.proofs.Peers.{same_peer}
use Rattle.misp_sync.proofs.WirePeer.{OfPeer, peer_cut, peer_read}
use Rattle.misp_sync.proofs.WireRead.{read_cause, read_link, same_cause}
use Rattle.misp_sync.specs.Wire.{IsAnswered, IsSamePeer, IsUnanswered, MayBeDone, Meet, peer_of, wire_state}
use Rattle.misp_sync.specs.WireAnswers.{IsCalled, IsCutShort, IsReadAs, IsWireCause, call_of, text_of, wire_conduct}

-- ---- the request

no_call : (call : Call) → None ≡ Some call → ⊥
no_call call h = cc

askable_of : (q : Request) (call : Call) → call_of q ≡ Some call → (key : List ℕ) → IsCallable key call → IsAskable q
askable_of Request.Groups call is key callable = tt
askable_of Request.Manifest call is key callable = tt
askable_of (Request.Rows w) call is key callable = subst IsCall (sym (some_same (Call.Rows w) call is)) callable.call_is
askable_of (Request.TakeGroups gs) call is key callable = (subst IsCall (sym (some_same (Call.TakeGroups gs) call is)) callable.call_is).0
askable_of (Request.TakePart p) call is key callable = subst IsCall (sym (some_same (Call.TakePart p) call is)) callable.call_is
askable_of Request.Packages call is key callable = tt
askable_of (Request.Missing k) call is key callable = absurd (no_call call is)

-- ---- what went over it

module _ (key : List ℕ) (call : Call) (q : Request) (is : call_of q ≡ Some call) (host : Option Host) where
  text_is : call_text key call ≡ text_of key (call_of q)
  text_is = sym (ap (text_of key) is)

  reads_so : (bytes : List ℕ) (result : Result Answer Cause) → IsReadAs (Some call) bytes result → IsReadAs (call_of q) bytes result
  reads_so bytes result reads = subst (λ o. IsReadAs o bytes result) (sym is) reads

  trail_so : (sent bytes : List ℕ) (result : Result Answer Cause) → sent ≡ call_text key call → IsReadAs (Some call) bytes result → (more : List (List ℕ)) → more ≡ sent ∷ bytes ∷ []
      → IsTrail (wire_conduct host key) q result more
  trail_so sent bytes (Ok answer) e reads more m = (bytes, m ∙ ap (λ t. t ∷ bytes ∷ []) (e ∙ text_is), reads_so bytes (Ok answer) reads)
  trail_so sent bytes (Err cause) e reads more m = inr (inr (bytes, m ∙ ap (λ t. t ∷ bytes ∷ []) (e ∙ text_is), reads_so bytes (Err cause) reads))

  pub trail_read : (old new : Option (List (List ℕ))) (sent bytes : List ℕ) (result : Result Answer Cause) → sent ≡ call_text key call → IsReadAs (Some call) bytes result
      → GrowsBy old new (λ more. more ≡ sent ∷ bytes ∷ []) → GrowsBy old new (IsTrail (wire_conduct host key) q result)
  trail_read old new sent bytes result e reads grows =
      grows_so old new (λ more. more ≡ sent ∷ bytes ∷ []) (IsTrail (wire_conduct host key) q result) (trail_so sent bytes result e reads) grows

  pub trail_cut : (old new : Option (List (List ℕ))) (sent : List ℕ) (cause : Cause) → IsCutShort cause → sent ≡ call_text key call
      → GrowsBy old new (IsUnanswered sent) → GrowsBy old new (IsTrail (wire_conduct host key) q (Err cause))
  trail_cut old new sent cause cut e grows =
      grows_so old new (IsUnanswered sent) (IsTrail (wire_conduct host key) q (Err cause))
      (λ more h. elim h [ inl none ↦ inr (inl (cut, inl none)) | inr one ↦ inr (inl (cut, inr (one ∙ ap (λ t. t ∷ []) (e ∙ text_is)))) ]) grows

-- ---- how often it failed

pub record OfFaults (result : Result Answer Cause) (old new : ℕ) : Type 0 where
  pub cause : HasCause old new (IsErrBy (λ cause. cause ≡ Cause.Link) result)
  pub stays : StaysUnless old new (IsErrBy (λ cause. cause ≡ Cause.Link) result)

pub faults_same : (result : Result Answer Cause) (old new : ℕ) → new ≡ old → (IsErrBy (λ cause. cause ≡ Cause.Link) result → ⊥) → OfFaults result old new
faults_same result old new same other = record {
  cause = record { later = omega (arith, same); rose = λ h. absurd (other h) };
  stays = λ _. same;
}

pub read_no_link : (call : Call) (bytes : List ℕ) (result : Result Answer Cause) → IsReadAs (Some call) bytes result → IsErrBy (λ cause. cause ≡ Cause.Link) result → ⊥
read_no_link call bytes (Ok answer) reads h = h
read_no_link call bytes (Err cause) reads h = read_link call bytes cause reads h

-- ---- a call

sound_of : (result : Result Answer Cause) → IfOk result IsSoundAnswer → IsOkBy IsSoundAnswer result
sound_of (Ok answer) fits = fits
sound_of (Err cause) fits = tt

cut_cause : (cause : Cause) → IsCutShort cause → IsWireCause cause
cut_cause cause (inl link) = subst IsWireCause (sym link) tt
cut_cause cause (inr memory) = subst IsWireCause (sym memory) tt

module _ (key : List ℕ) (call : Call) (callable : IsCallable key call) (po : Option Standing) (to : Option (List (List ℕ))) (fo : ℕ) where
  abbrev Came : Result Answer Cause → Option Standing → Option (List (List ℕ)) → ℕ → Type 0
  Came result pn tn fn = IsCalled key call (wire_state po to fo) result (wire_state pn tn fn)

  called : (result : Result Answer Cause) (pn : Option Standing) (tn : Option (List (List ℕ))) (fn : ℕ) → IsOkBy IsSoundAnswer result
      → ((q : Request) → call_of q ≡ Some call → OfPeer key q result po pn)
      → ((q : Request) → call_of q ≡ Some call → GrowsBy to tn (IsTrail (wire_conduct (peer_of po) key) q result))
      → ((cause : Cause) → result ≡ Err cause → IsWireCause cause) → OfFaults result fo fn → peer_of pn ≡ peer_of po → Came result pn tn fn
  called result pn tn fn sound peer trail why faults host = record {
    exchanged = λ q is. record {
      askable = askable_of q call is key callable;
      sound = sound;
      held = (peer q is).held;
      trail = trail q is;
      why = why;
      cause = faults.cause;
      stays = faults.stays;
      peer = (peer q is).peer;
    };
    host = host;
  }

  -- a reply came, and was read
  pub called_read : (pn : Option Standing) (tn : Option (List (List ℕ))) (fn : ℕ) (sent bytes : List ℕ) → sent ≡ call_text key call → length bytes < 2 ^ 63
      → Meet po pn IsSamePeer → Meet po pn (λ old new. IsAnswered key call old new bytes) → GrowsBy to tn (λ more. more ≡ sent ∷ bytes ∷ []) → fn ≡ fo
      → (result : Result Answer Cause) → IsReadAs (Some call) bytes result → IfOk result IsSoundAnswer → Came result pn tn fn
  called_read pn tn fn sent bytes text small same answered grows faults result reads fits =
      called result pn tn fn (sound_of result fits)
      (λ q is. peer_read key call callable q is po pn same bytes small answered result reads)
      (λ q is. trail_read key call q is (peer_of po) to tn sent bytes result text reads grows)
      (λ cause err. read_cause call bytes cause (subst (IsReadAs (Some call) bytes) err reads))
      (faults_same result fo fn faults (read_no_link call bytes result reads))
      (same_peer po pn same)

  -- none came
  pub called_cut : (pn : Option Standing) (tn : Option (List (List ℕ))) (fn : ℕ) (sent : List ℕ) → sent ≡ call_text key call
      → Meet po pn IsSamePeer → Meet po pn (MayBeDone key call) → GrowsBy to tn (IsUnanswered sent)
      → (cause : Cause) → IsCutShort cause → OfFaults (Err cause) fo fn → Came (Err cause) pn tn fn
  called_cut pn tn fn sent text same may grows cause cut faults =
      called (Err cause) pn tn fn tt
      (λ q is. peer_cut key call callable q is po pn same cause cut may)
      (λ q is. trail_cut key call q is (peer_of po) to tn sent cause cut text grows)
      (λ other err. subst IsWireCause (same_cause cause other err) (cut_cause cause cut))
      faults
      (same_peer po pn same)

-- the wire failed
pub faults_link : {F : Type 0} (old new : ℕ) → F → HasCause old new F → OfFaults (Err Cause.Link) old new
faults_link old new failed cause = record {
  cause = record { later = cause.later; rose = λ h. cause.rose failed };
  stays = λ other. absurd (other refl);
}

pub faults_memory : (old new : ℕ) → new ≡ old → OfFaults (Err Cause.NoMemory) old new
faults_memory old new same = faults_same (Err Cause.NoMemory) old new same (λ h. absurd cc)
