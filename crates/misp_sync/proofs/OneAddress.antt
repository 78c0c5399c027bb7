-- Where the bytes that went are the stated ones, none went elsewhere.
use Rattle.std.proofs.Common.{◌≡◌, ◌+◌, ◌≤◌, ℕ, true, false, List, [], ◌∷◌, ◌++◌, append_assoc, arith, length, length-append, Option, None, Some, Result, Ok, Err, refl, sym, ap, subst, ◌∙◌, inl, inr}
use Rattle.std.specs.List.{list_all}
use Rattle.std.proofs.lemmas.Bool.{cases_Bool}
use Rattle.httparse.specs.Grammar.{ResponseHead, print_blank, print_end, print_reason, print_response, print_section, print_version}
use Rattle.misp_http.specs.Reply.{IsReply}
use Rattle.misp_http.specs.Texts.{request_text}
use Rattle.misp_outside.specs.Wires as wires
use Rattle.misp_core.specs.Prelude.{Host}
use Rattle.misp_client.specs.Answers.{IsToldBy}
use Rattle.misp_client.specs.Calls.{call_text}
use Rattle.misp_client.specs.declared.call.Call.{Call}
use Rattle.misp_dialogue.specs.Shares.{Exchange, Failure, Goes}
use Rattle.misp_protocol.specs.declared.cause.Cause.{Cause}
use Rattle.misp_protocol.specs.declared.request.Answer.{Answer}
use Rattle.misp_protocol.specs.declared.request.Request.{Request}
use Rattle.misp_sync.specs.Dialled.{ask_trail_to, asks_trail, went_to}
use Rattle.misp_sync.specs.WireAnswers.{IsReadAs, call_of, text_of, wire_conduct}

-- ---- bytes of a request and of an answer

no_front : (a b : List ℕ) → [] ≡ a ++ b → [] ≡ a
no_front [] b is = refl
no_front (y ∷ a) b is = absurd cc

no_back : (a b : List ℕ) → [] ≡ a ++ b → [] ≡ b
no_back [] b is = is
no_back (y ∷ a) b is = absurd cc

head_some : (h : ResponseHead) (rest : List ℕ) → [] ≡ print_response h ++ rest → ⊥
unfolding print_response
head_some h rest is =
    let status : [] ≡ print_blank h.blank ++ print_version h.minor ++ 32 ∷ h.digits =
    no_front _ (print_reason h.reason) (no_front _ (print_end h.line_end) (no_front _ (print_section h.fields h.last) (no_front (print_response h) rest is))) in
    absurd (no_line (no_back (print_blank h.blank ++ print_version h.minor) (32 ∷ h.digits) status))
  where
    no_line : [] ≡ 32 ∷ h.digits → ⊥
    no_line e = cc

reply_some : (status : ℕ) (body : List ℕ) → IsReply [] status body → ⊥
reply_some status body is = head_some is.head body is.begins.reads.1

call_some : (key : List ℕ) (call : Call) → [] ≡ call_text key call → ⊥
unfolding request_text
call_some key Call.Groups is = absurd cc
call_some key Call.Manifest is = absurd cc
call_some key (Call.Rows w) is = absurd cc
call_some key (Call.TakeGroups groups) is = absurd cc
call_some key (Call.TakePart p) is = absurd cc

-- what is asked so that anything is read has a text
text_some : (key : List ℕ) (o : Option Call) (bytes : List ℕ) (result : Result Answer Cause) → IsReadAs o bytes result → [] ≡ text_of key o → ⊥
text_some key None bytes result reads is = reads
text_some key (Some call) bytes result reads is = call_some key call is

-- no answer is read of no bytes
told_some : (call : Call) (answer : Answer) → IsToldBy call [] (Ok answer) → ⊥
told_some call answer (inl reply) = reply_some reply.0 reply.1 reply.2
told_some call answer (inr (inl head)) = absurd cc
told_some call answer (inr (inr body)) = absurd cc

answer_some : (o : Option Call) (answer : Answer) → IsReadAs o [] (Ok answer) → ⊥
answer_some None answer reads = reads
answer_some (Some call) answer (inl memory) = absurd cc
answer_some (Some call) answer (inr told) = told_some call answer told

-- ---- trails

abbrev head_of : List (List ℕ) → List ℕ
head_of [] = []
head_of (x ∷ xs) = x

abbrev others_of : List (List ℕ) → List (List ℕ)
others_of (x ∷ y ∷ xs) = xs
others_of xs = []

abbrev second_of : List (List ℕ) → List ℕ
second_of (x ∷ y ∷ xs) = y
second_of xs = []

-- two strings without bytes, after others
abbrev gap : List (List ℕ) → List (List ℕ) → List (List ℕ)
gap front rest = front ++ [] ∷ [] ∷ rest

long : (front rest : List (List ℕ)) → 2 + length front ≤ length (gap front rest)
long front rest = omega (arith, length-append front ([] ∷ [] ∷ rest))

module _ (host : Option Host) (key : List ℕ) where
  -- a request that was refused, or whose reply is lost
  none_last : (q : Request) (cause : Cause) (front rest : List (List ℕ)) → Goes (wire_conduct host key) [] (Some (record { request = q; cause = cause })) (gap front rest) → ⊥
  none_last q cause front rest (inl unsent) = let more = long front rest in let few : length (gap front rest) ≡ 0 = ap length unsent.1 in absurd (omega (arith, more, few))
  none_last q cause front rest (inr (inl lost)) = elim lost.1 [
    | inl none ↦ (let more = long front rest in let few : length (gap front rest) ≡ 0 = ap length none in absurd (omega (arith, more, few)))
    | inr one ↦ (let more = long front rest in let few : length (gap front rest) ≡ 1 = ap length one in absurd (omega (arith, more, few)))
  ]
  none_last q cause [] rest (inr (inr read)) = text_some key (call_of q) read.0 (Err cause) read.2 (ap head_of read.1)
  none_last q cause (a ∷ front) rest (inr (inr read)) = let more = long (a ∷ front) rest in let few : length (gap (a ∷ front) rest) ≡ 2 = ap length read.1 in absurd (omega (arith, more, few))

  -- so two strings without bytes are in no trail
  none_go : (xs : List (Exchange Request Answer)) (last : Option (Failure Request Cause)) (front rest : List (List ℕ)) → Goes (wire_conduct host key) xs last (gap front rest) → ⊥
  none_go [] None front rest goes = let more = long front rest in let few : length (gap front rest) ≡ 0 = ap length goes in absurd (omega (arith, more, few))
  none_go [] (Some f) front rest goes = none_last f.request f.cause front rest goes
  none_go (x ∷ xs) last [] rest goes = text_some key (call_of x.request) goes.0 (Ok x.reply) goes.3 (ap head_of goes.2)
  none_go (x ∷ xs) last (a ∷ []) rest goes =
      answer_some (call_of x.request) x.reply (subst (λ bytes. IsReadAs (call_of x.request) bytes (Ok x.reply)) (sym (ap second_of goes.2)) goes.3)
  none_go (x ∷ xs) last (a ∷ b ∷ front) rest goes =
      none_go xs last front rest (subst (Goes (wire_conduct host key) xs last) (sym (ap others_of goes.2)) goes.4)

module _ (address : List ℕ) where
  -- an ask that went elsewhere is two of them
  elsewhere : (asks : List wires.Asked) → list_all (went_to address) asks ≡ false → (front : List (List ℕ)) × (rest : List (List ℕ)) × (asks_trail address asks ≡ gap front rest)
  elsewhere [] is = absurd cc
  elsewhere (ask ∷ asks) is = elim (cases_Bool (went_to address ask)) [
    | inl went ↦
        let others : list_all (went_to address) asks ≡ false = rw went at is in
        let more = elsewhere asks others in
        (ask_trail_to address ask ++ more.0, more.1, ap (λ trail. ask_trail_to address ask ++ trail) more.2 ∙ sym (append_assoc (ask_trail_to address ask) more.0 ([] ∷ [] ∷ more.1)))
    | inr gone ↦ ([], asks_trail address asks, rw gone refl)
  ]

  pub all_there : (host : Option Host) (key : List ℕ) (xs : List (Exchange Request Answer)) (last : Option (Failure Request Cause)) (asks : List wires.Asked)
      → Goes (wire_conduct host key) xs last (asks_trail address asks) → list_all (went_to address) asks ≡ true
  all_there host key xs last asks goes = elim (cases_Bool (list_all (went_to address) asks)) [
    | inl all ↦ all
    | inr not_all ↦ (let more = elsewhere asks not_all in absurd (none_go host key xs last more.0 more.1 (subst (Goes (wire_conduct host key) xs last) more.2 goes)))
  ]
