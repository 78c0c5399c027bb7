-- How a peer answers over a wire what it is asked in a synchronisation.
use Rattle.std.specs.Prelude.{◌≡◌, ◌⊎◌, ℕ, true, List, [], Option, None, Some, Result, Ok, Err, IfSome}
use Rattle.misp_effects.specs.Effect.{left}
use Rattle.misp_store.specs.Sharing.{HasSoundAdmin}
use Rattle.misp_core.specs.Prelude.{Effect, Held, Host, Standing, seen_in, spelled}
use Rattle.misp_core.specs.declared.reply.Reply.{Reply}
use Rattle.misp_client.specs.Answers.{IsToldBy}
use Rattle.misp_client.specs.Calling.{called}
use Rattle.misp_client.specs.Calls.{call_text}
use Rattle.misp_client.specs.Telling.{told}
use Rattle.misp_client.specs.declared.call.Call.{Call}
use Rattle.misp_dialogue.specs.Parties.{Conduct, Exchanged, PartyState}
use Rattle.misp_protocol.specs.Values.{IsAskable, IsSoundAnswer}
use Rattle.misp_protocol.specs.declared.cause.Body.{Body}
use Rattle.misp_protocol.specs.declared.cause.Cause.{Cause}
use Rattle.misp_protocol.specs.declared.request.Answer.{Answer}
use Rattle.misp_protocol.specs.declared.request.Request.{Request}
use Rattle.misp_sync.specs.Wire.{HasOwners, WireState, held_of, peer_of}

-- ---- what it is asked

-- the call that a request is, where a peer is asked it
abbrev pub call_of : Request → Option Call
call_of Request.Groups = Some Call.Groups
call_of Request.Manifest = Some Call.Manifest
call_of (Request.Rows w) = Some (Call.Rows w)
call_of (Request.TakeGroups groups) = Some (Call.TakeGroups groups)
call_of (Request.TakePart p) = Some (Call.TakePart p)
call_of request = None

-- ---- what it answers

-- an answer with what is held then
abbrev pub with_held : Result Answer Cause → Held → Result (Answer × Held) Cause
with_held (Ok answer) new = Ok (answer, new)
with_held (Err cause) new = Err cause

-- what an effect tells of a call, and what is held then
abbrev pub told_with : Held → Call → Effect Reply → Result (Answer × Held) Cause
told_with held call e = with_held (told call e.reply) (left spelled e held)

-- what a peer that is asked nothing answers
abbrev pub unasked : Cause
unasked = Cause.Garbled Body.Body

-- the answer of a peer to a call of this key, and what it holds then; no moment changes it
abbrev pub call_answer : Host → List ℕ → Held → Option Call → Result (Answer × Held) Cause
call_answer peer key held None = Err unasked
call_answer peer key held (Some call) =
    told_with held call (called peer 0 key call (seen_in held))

-- of a peer of another process nothing is said
abbrev pub wire_answer : Option Host → List ℕ → Held → Request → Result (Answer × Held) Cause
wire_answer None key held request = Err unasked
wire_answer (Some peer) key held request = call_answer peer key held (call_of request)

-- ---- how it behaves

-- the peer's keeper failed, or memory ran out there
abbrev pub IsPeerStop : Cause → Type 0
IsPeerStop cause = (cause ≡ Cause.Refused 503 26) ⊎ (cause ≡ Cause.Refused 507 27)

-- what carries failed, or memory ran out here
abbrev pub IsCutShort : Cause → Type 0
IsCutShort cause = (cause ≡ Cause.Link) ⊎ (cause ≡ Cause.NoMemory)

-- the rows of the administration there ascend, each a group or an item, and each key of a peer of this
-- process is of an organisation
pub record IsPeerHeld (host : Option Host) (held : Held) : Type 0 where
  pub groups : HasSoundAdmin held
  pub owners : IfSome host HasOwners

-- a wire says nothing of a link or of the own keeper
abbrev pub IsWireCause : Cause → Type 0
IsWireCause Cause.NoLink = ⊥
IsWireCause Cause.LinkOff = ⊥
IsWireCause Cause.NoPeer = ⊥
IsWireCause Cause.Keeper = ⊥
IsWireCause (Cause.BadRow name) = ⊥
IsWireCause cause = Unit {0}

-- the bytes of a call, or none
abbrev pub text_of : List ℕ → Option Call → List ℕ
text_of key None = []
text_of key (Some call) = call_text key call

-- The keeper of the peer failed, where it is of this process: of another nothing is counted.
abbrev pub IsFaultOfPeer : Option Host → Cause → Type 0
IsFaultOfPeer None cause = ⊥
IsFaultOfPeer (Some peer) cause = cause ≡ Cause.Refused 503 26

-- this is told by bytes that were replied; or memory ran out
abbrev pub IsReadAs : Option Call → List ℕ → Result Answer Cause → Type 0
IsReadAs None bytes result = ⊥
IsReadAs (Some call) bytes result = (result ≡ Err Cause.NoMemory) ⊎ IsToldBy call bytes result

-- who the peer is where it is of this process, the key, and what is asked through
pub record WireSetting : Type 0 where
  pub host : Option Host
  pub key : List ℕ
  pub through : List ℕ

abbrev pub wire_conduct : Option Host → List ℕ → Conduct Held Request Answer Cause
wire_conduct host key = record {
  IsAskable = IsAskable;
  IsSound = IsSoundAnswer;
  IsHeld = IsPeerHeld host;
  answer = wire_answer host key;
  text = λ request. text_of key (call_of request);
  IsUnsent = λ request cause. (call_of request ≡ None) × (cause ≡ unasked);
  Reads = λ request. IsReadAs (call_of request);
  IsCause = IsWireCause;
  IsStop = λ cause. IsCutShort cause ⊎ IsPeerStop cause;
  IsLoss = IsCutShort;
  IsFault = λ cause. cause ≡ Cause.Link;
  IsPeerFault = IsFaultOfPeer host;
}

-- ---- what is reported of it

-- how often the keeper of the peer has failed
abbrev pub faults_of : Option Standing → ℕ
faults_of None = 0
faults_of (Some peer) = peer.faults

abbrev pub party_state : WireState → PartyState Held
party_state w =
    record {
      held = held_of w.peer;
      trail = w.trail;
      faults = w.faults;
      peer_faults = faults_of w.peer;
    }

-- A call with this key came to this, as a request that is this call. The peer is the one that it
-- was.
pub record IsCalled (key : List ℕ) (call : Call) (old : WireState) (result : Result Answer Cause)
    (new : WireState) : Type 0 where
  pub exchanged : (request : Request) → call_of request ≡ Some call
      → Exchanged (wire_conduct (peer_of old.peer) key) (party_state old) request result
      (party_state new)
  pub host : peer_of new.peer ≡ peer_of old.peer
