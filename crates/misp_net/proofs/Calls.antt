-- What a peer of the same process is asked comes to what is stated of the call.
use Rattle.std.proofs.Common.{◌≡◌, ◌<◌, ◌^◌, ℕ, Bool, true, false, List, ◌++◌, codes, length, refl, ◌∙◌, ap, subst, arith, inl, inr, Some, Result, Ok, Err, IfOk, IfSome, OnErr, drop_at, length-append, if◌then◌else◌}
use Rattle.std.specs.List.{list_all}
use Rattle.std.specs.Prelude.{MatchResult, ◌⊎◌}
use Rattle.misp_outside.specs.Reporting.{WhereReported}
use Rattle.misp_outside.proofs.Reporting.{reported_so}
use Rattle.misp_lists.proofs.Bytes.{IsBytes, IsBytes-drop}
use Rattle.misp_http.specs.Texts.{authorization_line, connection_line, content_length_line, crlf, request_text}
use Rattle.misp_http.specs.declared.fault.Fault.TheVariants.{BadHead}
use Rattle.misp_http.specs.declared.fault.HeadFault.TheVariants.{LongBody}
use Rattle.misp_http.specs.declared.request.Read.TheVariants as reads
use Rattle.misp_store.specs.Sharing.{HasSoundAdmin}
use Rattle.misp_core.specs.Prelude.{Did, Effect, Held, Seen, Standing, host_of, seen_in}
use Rattle.misp_core.specs.Text.{http_text}
use Rattle.misp_core.specs.declared.reply.Reply.{Reply}
use Rattle.misp_client.specs.Calling.{called, is_short}
use Rattle.misp_client.specs.Calls.{body_of, call_text, method_of, target_of}
use Rattle.misp_client.specs.Requests.{read_of_call, request_of}
use Rattle.misp_client.specs.declared.call.Call.{Call}
use Rattle.misp_api.specs.Answering.{IsReplied, IsSync, replied}
use Rattle.misp_api.specs.Exchange.{IsExchanged, IsLeftSo}
use Rattle.misp_api.specs.Request.{is_byte}
use Rattle.misp_api.specs.Sending.{read_form}
use Rattle.misp_api.specs.Turn.{closes}
use Rattle.misp_api.proofs.Handed.{listed_bytes}
use Rattle.misp_sync.specs.Wire.{HasOwners, IsAnswered, MayBeDone}

-- ---- its bytes

-- its body is the end of them
module _ (key : List ℕ) (call : Call) (text : List ℕ) (is : text ≡ call_text key call) where
  abbrev before_body : List ℕ
  before_body =
      method_of call ++ codes " " ++ target_of call ++ codes " HTTP/1.1\r\n" ++ authorization_line (Some key) ++ content_length_line (length (body_of call)) ++ connection_line true ++ crlf

  pub body_fits : IsBytes text → list_all is_byte (body_of call) ≡ true
  unfolding request_text
  body_fits fits =
      listed_bytes (body_of call)
      (subst IsBytes (drop_at before_body (body_of call) (length before_body) refl) (IsBytes-drop (length before_body) (before_body ++ body_of call) (subst IsBytes is fits)))

  pub body_small : length text < 2 ^ 63 → length (body_of call) < 2 ^ 63
  unfolding request_text
  body_small small = omega (arith, small, ap length is, length-append before_body (body_of call))

closing : (key : List ℕ) (call : Call) (short : Bool) → closes (if short then reads.Request (request_of key call) else reads.Refused (BadHead LongBody)) ≡ true
closing key call true = refl
closing key call false = refl

-- ---- what it comes to

module _ (key : List ℕ) (call : Call) (now word : ℕ) (old new : Standing)
    (comes : (seen : Seen) → replied (host_of old) now (read_form (host_of old) word (read_of_call key call)) seen ≡ called (host_of old) now key call seen)
    (asked : IsSync (read_form (host_of old) word (read_of_call key call))) (groups : IfSome old.held HasSoundAdmin) (owners : HasOwners (host_of old)) where
  as_called : (held : Held) (reply : Reply) (left : Held) → IsReplied (host_of old) now (read_form (host_of old) word (read_of_call key call)) held reply left
      → Did (called (host_of old) now key call (seen_in held)) held reply left
  as_called held reply left did = subst (λ (x : Effect Reply). Did x held reply left) (comes (seen_in held)) did

  -- the peer answered it
  answered : (bytes : List ℕ) → IsExchanged now word (read_of_call key call) old new bytes → IsAnswered key call old new bytes
  answered bytes e = record {
    now = now;
    reply = e.reply;
    bytes_are = e.bytes_are ∙ ap (http_text e.reply) (closing key call (is_short (body_of call)));
    replied = reported_so old.held new.held _ _ (λ held left. as_called held e.reply left) e.answered.replied;
    groups = groups;
    owners = owners;
    sound = e.sound asked;
    worded = e.worded;
    cause = e.answered.cause;
  }

  -- or it may have done it
  left_by : (held left : Held) → IsLeftSo now (read_form (host_of old) word (read_of_call key call)) old held left
      → (left ≡ held) ⊎ ((moment : ℕ) × (reply : Reply) × Did (called (host_of old) moment key call (seen_in held)) held reply left)
  left_by held left (inl same) = inl same
  left_by held left (inr (reply, did)) = inr (now, reply, as_called held reply left did)

  pub call_answered : {V E : Type 0} (items : V → List ℕ) (result : Result V E) → IfOk result (λ v. IsExchanged now word (read_of_call key call) old new (items v))
      → OnErr result (WhereReported old.held new.held (IsLeftSo now (read_form (host_of old) word (read_of_call key call)) old))
      → MatchResult result (λ v. IsAnswered key call old new (items v)) (λ _. MayBeDone key call old new)
  call_answered items (Ok v) exchanged left = answered (items v) exchanged
  call_answered items (Err fault) exchanged left = reported_so old.held new.held _ _ left_by left
