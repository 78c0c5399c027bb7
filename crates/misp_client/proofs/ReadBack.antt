-- What a reply tells is read from its text.
use Rattle.std.proofs.Common.{◌≡◌, ◌<◌, ◌^◌, ℕ, Bool, true, List, length, Option, Some, None, Result, Err, refl, sym, ap, ◌∙◌, subst, inl, inr, option_and_then, option_map, unwrap_or, if◌then◌else◌}
use Rattle.std.specs.Result.{result_ok}
use Rattle.httparse.proofs.GrammarLemmas.{response_unique}
use Rattle.misp_ids.specs.Refusal.{rule_status}
use Rattle.misp_http.proofs.ReplyReadBack.{read_back}
use Rattle.misp_http.proofs.Readings.{one_reply}
use Rattle.misp_http.specs.Headers.{only_content_length}
use Rattle.misp_http.specs.Reply.{HasNoReplyHead, HasOtherBody, IsReply, reply_headers}
use Rattle.misp_http.specs.Texts.{IsReplyStatus}
use Rattle.misp_model.specs.Package.{IsPackage}
use Rattle.misp_model.specs.declared.package.PackageFields.{PackageFields as Package}
use Rattle.misp_manifest.specs.declared.manifest.ManifestFields.{ManifestFields}
use Rattle.misp_manifest.specs.declared.wanted.WantedFields.{WantedFields as Wanted}
use Rattle.misp_package.specs.Spelling.{spell_package}
use Rattle.misp_package.proofs.SpelledPackages.{package_of_bytes_again}
use Rattle.misp_wanted.proofs.ManifestFields.{manifest_again}
use Rattle.misp_wanted.specs.ManifestSpelling.{spell_manifest}
use Rattle.misp_wanted.specs.Manifests.{IsManifest}
use Rattle.misp_core.specs.Sound.{IsSound, IsSoundAnswer, IsWorded}
use Rattle.misp_core.specs.Text.{answer_text, body_text, http_text, kind_of as body_kind, status_of}
use Rattle.misp_core.specs.declared.reply.Answer.{Answer as Replied}
use Rattle.misp_core.specs.declared.reply.Reply.{Reply}
use Rattle.misp_protocol.specs.Parts.{parts_listed}
use Rattle.misp_protocol.specs.declared.cause.Cause.{Cause}
use Rattle.misp_protocol.specs.declared.request.Answer.{Answer}
use Rattle.misp_client.specs.Answers.{IsToldBy, answered_in, kind_of, or_garbled, read_of, refused_in}
use Rattle.misp_client.specs.Bodies.{if_for, manifest_in, package_in}
use Rattle.misp_client.specs.Telling.{IsTaken, Suits, SuitsAnswer, told, told_in}
use Rattle.misp_client.specs.declared.call.Call.{Call}
use Rattle.misp_client.proofs.GroupTexts.{groups_back}
use Rattle.misp_client.proofs.RefusalTexts.{no_success, refusal_told, status_is}
use Rattle.misp_client.proofs.TakenTexts.{taken_back}

-- ---- bodies

package_back : (w : Wanted) (p : Package) → IsPackage p → package_in w (spell_package p) ≡ if_for w p
unfolding package_in
package_back w p h = ap (λ r. option_and_then (if_for w) (result_ok r)) (package_of_bytes_again p h)

manifest_back : (ms : List ManifestFields) → IsManifest ms → manifest_in (spell_manifest ms) ≡ Some ms
unfolding manifest_in
manifest_back ms h = ap (λ r. result_ok r) (manifest_again ms h)

-- the body of an answer is read so, if it is sound
abbrev IsReadBack : Call → Replied → Type 0
IsReadBack call answer = IsSoundAnswer answer → read_of call (answer_text answer) ≡ told_in call answer

taken_read_back : (call : Call) (answer : Replied) → IsTaken answer → ((n : ℕ) → n < 2 ^ 64 → IsReadBack call (Replied.Taken n)) → IsReadBack call answer
taken_read_back call answer taken h = subst (IsReadBack call) (sym taken.2) (h taken.0 taken.1)

body_back : (call : Call) (answer : Replied) → SuitsAnswer call answer → IsReadBack call answer
body_back Call.Groups answer suits = subst (IsReadBack Call.Groups) (sym suits.1) (λ sound. ap (λ o. option_map Answer.Groups o) (groups_back suits.0 sound))
body_back Call.Manifest answer suits =
    subst (IsReadBack Call.Manifest) (sym suits.1) (λ sound. ap (λ o. option_map (λ events. Answer.Manifest (parts_listed events)) o) (manifest_back suits.0 sound))
body_back (Call.Rows w) answer suits = subst (IsReadBack (Call.Rows w)) (sym suits.1) (λ sound. ap (λ o. option_map Answer.Part o) (package_back w suits.0 sound))
body_back (Call.TakeGroups groups) answer suits =
    taken_read_back (Call.TakeGroups groups) answer suits (λ n small sound. ap (λ o. option_map Answer.Taken o) (taken_back (length groups) n small))
body_back (Call.TakePart p) answer suits =
    taken_read_back (Call.TakePart p) answer suits (λ n small sound. ap (λ o. option_map Answer.Taken o) (taken_back (length p.rows) n small))

-- ---- THE LAW: a reply is read as what it tells

pub reply_back : (call : Call) (reply : Reply) → IsSound reply → IsWorded reply → Suits call reply → answered_in call (status_of reply) (body_text reply) ≡ told call reply
reply_back call (Reply.Ok answer) sound worded suits = ap (or_garbled (kind_of call)) (body_back call answer suits sound)
reply_back call (Reply.Refused refusal) sound worded suits =
    let body = body_text (Reply.Refused refusal) in
    let status = rule_status refusal.name in
    ap (λ (b : Bool). if b then or_garbled (kind_of call) (read_of call body) else Err (refused_in status body)) (no_success refusal.name) ∙ ap Err (refusal_told refusal worded)

-- ---- bytes

status_good : (reply : Reply) → IsReplyStatus (status_of reply)
status_good (Reply.Ok answer) = refl
status_good (Reply.Refused refusal) = status_is refusal.name

some_none : {A : Type 0} (o : Option A) (x : A) → o ≡ Some x → o ≡ None → ⊥
some_none o x some none = cc

no_head : (bytes : List ℕ) (status : ℕ) (body : List ℕ) → HasNoReplyHead bytes → IsReply bytes status body → ⊥
no_head bytes status body none is = some_none (only_content_length (reply_headers is.head)) (length body) is.size (none is.head body is.begins)

other_body : (bytes : List ℕ) (status : ℕ) (body : List ℕ) → HasOtherBody bytes → IsReply bytes status body → ⊥
other_body bytes status body other is =
    let same = response_unique bytes other.0 is.head other.1 body other.3.reads is.begins.reads in
    let size : Some (length body) ≡ Some other.2 = sym is.size ∙ sym (ap (λ h. only_content_length (reply_headers h)) same.0) ∙ other.4 in
    other.5 (ap length same.1 ∙ ap (λ o. unwrap_or o 0) size)

-- bytes that are a reply tell what it tells, and nothing else
pub only_told : (call : Call) (bytes : List ℕ) (status : ℕ) (body : List ℕ) → IsReply bytes status body → (r : Result Answer Cause) → IsToldBy call bytes r → r ≡ answered_in call status body
only_told call bytes status body is r by =
    elim by [
      | inl reply ↦
          let same = one_reply bytes reply.0 status reply.1 body reply.2 is in
          sym reply.3 ∙ subst (λ s. answered_in call reply.0 reply.1 ≡ answered_in call s body) same.0 (ap (λ b. answered_in call reply.0 b) same.1)
      | inr none ↦ elim none [ inl head ↦ absurd (no_head bytes status body head.0 is) | inr other ↦ absurd (other_body bytes status body other.0 is) ]
    ]

module _ (call : Call) (reply : Reply) (sound : IsSound reply) (worded : IsWorded reply) (suits : Suits call reply) (short : length (body_text reply) < 2 ^ 63) where
  abbrev is_reply : IsReply (http_text reply true) (status_of reply) (body_text reply)
  is_reply = read_back (status_of reply) (body_kind reply) (body_text reply) true short (status_good reply)

  pub tells : IsToldBy call (http_text reply true) (told call reply)
  tells = inl (status_of reply, body_text reply, is_reply, reply_back call reply sound worded suits)

  pub tells_alone : (other : Result Answer Cause) → IsToldBy call (http_text reply true) other → other ≡ told call reply
  tells_alone other by = only_told call (http_text reply true) (status_of reply) (body_text reply) is_reply other by ∙ reply_back call reply sound worded suits
