-- What is read of the bytes that a peer replied.
use Rattle.std.proofs.Common.{◌≡◌, ◌⊎◌, ◌==◌, ◌<◌, ◌^◌, ℕ, Bool, true, false, List, length, Option, None, Some, Result, Err, refl, sym, ap, subst, ◌∙◌, inl, inr, arith, if◌then◌else◌}
use Rattle.misp_http.proofs.ReplyReadBack.{body_within, read_back}
use Rattle.misp_core.specs.Effects.{by_keeper, stop_in}
use Rattle.misp_core.specs.Sound.{IsWorded}
use Rattle.misp_core.specs.Text.{body_text, http_text, kind_of as body_kind, status_of}
use Rattle.misp_core.specs.declared.reply.Reply.{Reply}
use Rattle.misp_protocol.specs.declared.cause.Body.{Body}
use Rattle.misp_protocol.specs.declared.cause.Cause.{Cause}
use Rattle.misp_protocol.specs.declared.request.Answer.{Answer}
use Rattle.misp_client.proofs.ReadBack.{only_told, tells_alone}
use Rattle.misp_client.proofs.Stops.{keeper_told}
use Rattle.misp_client.specs.Answers.{IsToldBy, kind_of, or_garbled, read_of, refused_by}
use Rattle.misp_client.specs.Bodies.{rule_told}
use Rattle.misp_client.specs.declared.call.Call.{Call}
use Rattle.misp_client.proofs.RefusedCalls.{no_refusal}
use Rattle.misp_sync.specs.WireAnswers.{IsReadAs, IsWireCause}

-- ---- causes

-- a reply that is read refuses by these alone
abbrev pub IsReadCause : Cause → Type 0
IsReadCause cause = ((body : Body) × (cause ≡ Cause.Garbled body)) ⊎ ((status : ℕ) × (rule : ℕ) × (cause ≡ Cause.Refused status rule))

pub same_cause : (a b : Cause) → ◌≡◌ {A = Result Answer Cause} (Err a) (Err b) → a ≡ b
same_cause a b h = cc

garbled_cause : (form : Body) (found : Option Answer) (cause : Cause) → or_garbled form found ≡ Err cause → (kind : Body) × (cause ≡ Cause.Garbled kind)
garbled_cause form None cause h = (form, same_cause cause (Cause.Garbled form) (sym h))
garbled_cause form (Some answer) cause h = absurd (no_refusal answer cause h)

refused_cause : (status : ℕ) (rule : Option ℕ) (cause : Cause) → ◌≡◌ {A = Result Answer Cause} (Err (refused_by status rule)) (Err cause) → IsReadCause cause
refused_cause status None cause h = inl (Body.Body, same_cause cause (Cause.Garbled Body.Body) (sym h))
refused_cause status (Some rule) cause h = inr (status, rule, same_cause cause (Cause.Refused status rule) (sym h))

status_cause : (b : Bool) (status : ℕ) (form : Body) (found : Option Answer) (rule : Option ℕ) (cause : Cause)
    → (if b then or_garbled form found else Err (refused_by status rule)) ≡ Err cause → IsReadCause cause
status_cause true status form found rule cause h = inl (garbled_cause form found cause h)
status_cause false status form found rule cause h = refused_cause status rule cause h

told_cause : (call : Call) (bytes : List ℕ) (result : Result Answer Cause) (cause : Cause) → result ≡ Err cause → IsToldBy call bytes result → IsReadCause cause
told_cause call bytes result cause h (inl reply) =
    status_cause (reply.0 == 200) reply.0 (kind_of call) (read_of call reply.1) (rule_told reply.1) cause (reply.3 ∙ h)
told_cause call bytes result cause h (inr (inl head)) = inl (Body.Head, same_cause cause (Cause.Garbled Body.Head) (sym h ∙ head.1))
told_cause call bytes result cause h (inr (inr other)) = inl (Body.Body, same_cause cause (Cause.Garbled Body.Body) (sym h ∙ other.1))

-- what was read says nothing of a link or of the own keeper
pub wire_cause : (cause : Cause) → IsReadCause cause → IsWireCause cause
wire_cause cause (inl garbled) = subst IsWireCause (sym garbled.1) tt
wire_cause cause (inr refused) = subst IsWireCause (sym refused.2) tt

memory_cause : (cause : Cause) → ◌≡◌ {A = Result Answer Cause} (Err cause) (Err Cause.NoMemory) → cause ≡ Cause.NoMemory
memory_cause cause h = same_cause cause Cause.NoMemory h

pub read_cause : (call : Call) (bytes : List ℕ) (cause : Cause) → IsReadAs (Some call) bytes (Err cause) → IsWireCause cause
read_cause call bytes cause (inl memory) = subst IsWireCause (sym (memory_cause cause memory)) tt
read_cause call bytes cause (inr by) = wire_cause cause (told_cause call bytes (Err cause) cause refl by)

-- nor that the wire failed
no_link : (cause : Cause) → cause ≡ Cause.Link → IsReadCause cause → ⊥
no_link cause link (inl garbled) = let no : Cause.Link ≡ Cause.Garbled garbled.0 = sym link ∙ garbled.1 in absurd cc
no_link cause link (inr refused) = let no : Cause.Link ≡ Cause.Refused refused.0 refused.1 = sym link ∙ refused.2 in absurd cc

pub read_link : (call : Call) (bytes : List ℕ) (cause : Cause) → IsReadAs (Some call) bytes (Err cause) → cause ≡ Cause.Link → ⊥
read_link call bytes cause (inl memory) link = let no : Cause.Link ≡ Cause.NoMemory = sym link ∙ memory_cause cause memory in absurd cc
read_link call bytes cause (inr by) link = no_link cause link (told_cause call bytes (Err cause) cause refl by)

-- ---- the bytes of a reply

pub body_short : (reply : Reply) (bytes : List ℕ) → bytes ≡ http_text reply true → length bytes < 2 ^ 63 → length (body_text reply) < 2 ^ 63
body_short reply bytes e small =
    let same : length bytes ≡ length (http_text reply true) = ap length e in
    let inside = body_within (status_of reply) (body_kind reply) (body_text reply) true in
    omega arith

-- ---- the keeper of the peer

abbrev refusal : Cause
refusal = Cause.Refused 503 26

garbled_alone : (form : Body) (found : Option Answer) (cause : Cause) → cause ≡ refusal → Err cause ≡ or_garbled form found → ⊥
garbled_alone form found cause is h =
    let garbled = garbled_cause form found cause (sym h) in
    let no : Cause.Refused 503 26 ≡ Cause.Garbled garbled.0 = sym is ∙ garbled.1 in
    absurd cc

-- its failure is read only where the reply reports it, whatever was answered
keeper_read_of : (call : Call) (reply : Reply) → IsWorded reply → length (body_text reply) < 2 ^ 63 → (cause : Cause) → cause ≡ Cause.Refused 503 26
    → IsToldBy call (http_text reply true) (Err cause) → stop_in reply ≡ by_keeper
keeper_read_of call (Reply.Ok answer) worded short cause is by =
    let body = body_text (Reply.Ok answer) in
    let reads = read_back 200 (body_kind (Reply.Ok answer)) body true short refl in
    absurd (garbled_alone (kind_of call) (read_of call body) cause is (only_told call (http_text (Reply.Ok answer) true) 200 body reads (Err cause) by))
keeper_read_of call (Reply.Refused r) worded short cause is by =
    keeper_told call (Reply.Refused r) (sym (tells_alone call (Reply.Refused r) tt worded tt short (Err cause) by) ∙ ap Err is)

pub keeper_read : (call : Call) (reply : Reply) (bytes : List ℕ) → bytes ≡ http_text reply true → IsWorded reply → length bytes < 2 ^ 63 → (cause : Cause) → cause ≡ Cause.Refused 503 26
    → IsReadAs (Some call) bytes (Err cause) → stop_in reply ≡ by_keeper
keeper_read call reply bytes e worded small cause is (inl memory) = let no : Cause.Refused 503 26 ≡ Cause.NoMemory = sym is ∙ memory_cause cause memory in absurd cc
keeper_read call reply bytes e worded small cause is (inr by) =
    keeper_read_of call reply worded (body_short reply bytes e small) cause is (subst (λ b. IsToldBy call b (Err cause)) e by)
