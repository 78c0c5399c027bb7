-- What was answered, as a session has it, and what goes out for it.
use Rattle.std.proofs.Common.{◌≡◌, ℕ, ◌<◌, ◌^◌, Bool, List, [], ◌++◌, drop, length, Option, Some, None, Result, Ok, Err, refl, sym, ap, ◌∙◌, subst, inl, inr, arith, IfSome, IfOk, OnErr, OnOk, IsOkAnd}
use Rattle.std.specs.Io.KnownBytes.{Appends}
use Rattle.misp_outside.specs.Causes.{HasCause}
use Rattle.misp_outside.specs.Reporting.{StaysHeld, WhereReported}
use Rattle.misp_outside.specs.declared.fault.KeeperFault.{KeeperFault}
use Rattle.misp_outside.proofs.Reporting.{reported_so, stays_same}
use Rattle.misp_http.specs.Faults.{fault_refusal}
use Rattle.misp_http.specs.Texts as http
use Rattle.misp_http.specs.declared.kind.BodyKind.{BodyKind}
use Rattle.misp_http.specs.declared.fault.Fault.{Fault}
use Rattle.misp_http.specs.declared.fault.HeadFault.{HeadFault}
use Rattle.misp_http.specs.declared.request.Request.{Request}
use Rattle.misp_http.specs.declared.request.Read.TheVariants as reads
use Rattle.misp_core.specs.Prelude.{Held, Host, host_of, refused}
use Rattle.misp_core.specs.Effects.{stop_by}
use Rattle.misp_core.specs.declared.planning.NoPlan.{NoPlan}
use Rattle.misp_core.proofs.Carried.{refused_did, stopped_did}
use Rattle.misp_api.specs.Prelude.{Commanded, Reading, Reply, RuleName, Standing, by_keeper, form_of, refused_by, replied, seen_in, stop_in}
use Rattle.misp_api.specs.Answering.{IsReplied, admin_after}
use Rattle.misp_api.specs.Refusing.{TurnsAway}
use Rattle.misp_api.specs.Request.{request_data}
use Rattle.misp_api.specs.Sending.{GoOut, IsAnswered}
use Rattle.misp_core.specs.Text.{body_text, http_text, kind_of, reply_text, status_of}
use Rattle.misp_api.specs.declared.TheConstants.{CHANGE_TEXT, REPLY_ROOM}
use Rattle.misp_api.proofs.HttpTexts.{body_behind, long_text, no_memory, text_long}
use Rattle.misp_api.proofs.Managed.{after_refusal}

-- ---- memory ran out

-- where nothing is put, it may be told that memory ran out
lost_did : (host : Host) (now : ℕ) (form : Reading Commanded) (old new : Option Held) → StaysHeld old new
    → WhereReported old new (λ held left. IsReplied host now form held (refused_by RuleName.NoMemory) left)
lost_did host now form old new = reported_so old new _ _ (λ held left same. stopped_did KeeperFault.NoMemory (replied host now form (seen_in held)) (Some held) (Some left) same)

lost_turned : {A : Type 0} (form : Reading A) (old new : Standing) (reply : Reply) → TurnsAway form old new reply → TurnsAway form old new (refused_by RuleName.NoMemory)
lost_turned (Ok x) old new reply away = tt
lost_turned (Err refusal) old new reply away = record { just = inr refl; no_fault = λ is. absurd cc; still = away.still }

-- ---- a request

module _ {E : Type 0} (result : Result Reply E) (now word : ℕ) (request : Request) (old new : Standing) where
  abbrev form : Reading Commanded
  form = form_of old.admin (request_data old.name word request)

  pub request_answered : IfOk result (λ reply. WhereReported old.held new.held (λ held left. IsReplied (host_of old) now form held reply left)) → IfOk result (λ reply. TurnsAway form old new reply)
      → HasCause old.faults new.faults (IsOkAnd result (λ reply. stop_in reply ≡ by_keeper)) → new.name ≡ old.name → IfOk result (λ reply. new.admin ≡ admin_after form old.admin reply)
      → IfOk result (IsAnswered now word (reads.Request request) old new)
  request_answered replies forms cause name admin = answered_in result replies forms cause admin
    where
      answered_in : (r : Result Reply E) → IfOk r (λ reply. WhereReported old.held new.held (λ held left. IsReplied (host_of old) now form held reply left)) → IfOk r (λ reply. TurnsAway form old new reply)
          → HasCause old.faults new.faults (IsOkAnd r (λ reply. stop_in reply ≡ by_keeper)) → IfOk r (λ reply. new.admin ≡ admin_after form old.admin reply)
          → IfOk r (IsAnswered now word (reads.Request request) old new)
      answered_in (Ok reply) replies forms cause admin = record { replied = replies; formed = forms; cause = record { later = cause.later; rose = cause.rose }; name = name; admin = admin }
      answered_in (Err short) replies forms cause admin = tt

  pub request_dropped : IfOk result (λ reply. TurnsAway form old new reply) → OnErr result (TurnsAway form old new (refused_by RuleName.NoMemory)) → StaysHeld old.held new.held
      → HasCause old.faults new.faults (IsOkAnd result (λ reply. stop_in reply ≡ by_keeper)) → new.name ≡ old.name → new.admin ≡ old.admin
      → IsAnswered now word (reads.Request request) old new (refused_by RuleName.NoMemory)
  request_dropped forms unformed held cause name admin = record {
    replied = lost_did (host_of old) now form old.held new.held held;
    formed = away result forms unformed;
    cause = record { later = cause.later; rose = λ is. absurd cc };
    name = name;
    admin = admin ∙ sym (after_refusal form old.admin _);
  }
    where
      away : (r : Result Reply E) → IfOk r (λ reply. TurnsAway form old new reply) → OnErr r (TurnsAway form old new (refused_by RuleName.NoMemory)) → TurnsAway form old new (refused_by RuleName.NoMemory)
      away (Ok reply) forms unformed = lost_turned form old new reply forms
      away (Err short) forms unformed = unformed

-- ---- bytes that are no request

fault_tells_none : (fault : Fault) → stop_by (fault_refusal fault).name ≡ None
fault_tells_none Fault.NoHead = refl
fault_tells_none Fault.LongHead = refl
fault_tells_none (Fault.BadHead HeadFault.ManyHeaders) = refl
fault_tells_none (Fault.BadHead HeadFault.Encoding) = refl
fault_tells_none (Fault.BadHead HeadFault.Length) = refl
fault_tells_none (Fault.BadHead HeadFault.LongBody) = refl

none_by_keeper : {found : Option _} → found ≡ None → found ≡ by_keeper → ⊥
none_by_keeper none is = let both : None ≡ by_keeper = sym none ∙ is in absurd cc

module _ (now word : ℕ) (fault : Fault) (i : Standing) where
  fault_did : (old : Option Held) → WhereReported old old (λ held left. IsReplied (host_of i) now (Err (fault_refusal fault)) held (Reply.Refused (fault_refusal fault)) left)
  fault_did None = tt
  fault_did (Some held) = refused_did (NoPlan.Refused (fault_refusal fault)) (refused (fault_refusal fault)) (Some held) (Some held) (record { is = refl; no_stop = fault_tells_none fault }) refl

  -- they are refused just so
  pub fault_answered : IsAnswered now word (reads.Refused fault) i i (Reply.Refused (fault_refusal fault))
  fault_answered =
      let none : stop_in (Reply.Refused (fault_refusal fault)) ≡ by_keeper → ⊥ = none_by_keeper (fault_tells_none fault) in
      record {
        replied = fault_did i.held;
        formed = record { just = inl refl; no_fault = none; still = refl };
        cause = record { later = omega arith; rose = λ is. absurd (none is) };
        name = refl;
        admin = refl;
      }

  pub fault_dropped : IsAnswered now word (reads.Refused fault) i i (refused_by RuleName.NoMemory)
  fault_dropped = record {
    replied = lost_did (host_of i) now (Err (fault_refusal fault)) i.held i.held (stays_same i.held i.held refl);
    formed = record { just = inr refl; no_fault = λ is. absurd cc; still = refl };
    cause = record { later = omega arith; rose = λ is. absurd cc };
    name = refl;
    admin = refl;
  }

-- ---- the moment and the word

-- what the clock was asked is what it tells
pub told_so : (at : Option ℕ) (n found : ℕ) → at ≡ Some n → IfSome at (λ told. found ≡ told) → found ≡ n
told_so at n found is says = rw is at says

-- ---- what goes out

-- it is a reply that was answered, or that memory ran out
module _ {E : Type 0} (close : Bool) (bytes : List ℕ) (P : Reply → Type 0) where
  pub gone : (result : Result Reply E) → GoOut result close bytes → IfOk result P → IfOk result (λ reply. length (body_text reply) < 2 ^ 64)
      → (IfOk result (λ reply. CHANGE_TEXT < length (reply_text reply)) → P (refused_by RuleName.NoMemory))
      → (reply : Reply) × P reply × (bytes ≡ http_text reply close)
  gone result (inl (reply, is, whole)) holds small dropped = (reply, subst (λ r. IfOk r P) is holds, whole)
  gone result (inr (none, long)) holds small dropped = (refused_by RuleName.NoMemory, dropped (longer result small long), none ∙ no_memory close)
    where
      longer : (r : Result Reply E) → IfOk r (λ reply. length (body_text reply) < 2 ^ 64) → IfOk r (λ reply. REPLY_ROOM < length (http_text reply close))
          → IfOk r (λ reply. CHANGE_TEXT < length (reply_text reply))
      longer (Ok reply) small long = long_text reply close small long
      longer (Err short) small long = tt

-- the body of a text that is held is held
pub small_body : {E : Type 0} (result : Result Reply E) (text : List ℕ) → length text < 2 ^ 63 → IfOk result (λ reply. text ≡ reply_text reply)
    → IfOk result (λ reply. length (body_text reply) < 2 ^ 64)
small_body (Ok reply) text small is = omega (arith, small, ap length is, text_long reply)
small_body (Err short) text small is = tt

-- the bytes of its status and of what stands behind the status in its text
pub its_text : (reply : Reply) (close : Bool) (status : ℕ) (kind : BodyKind) (body text : List ℕ) → status ≡ status_of reply → kind ≡ kind_of reply → text ≡ reply_text reply
    → body ≡ drop 4 text → http.reply_text status kind body close ≡ http_text reply close
its_text reply close status kind body text status_is kind_is text_is body_is =
    ap (λ s. http.reply_text s kind body close) status_is
    ∙ ap (λ k. http.reply_text (status_of reply) k body close) kind_is
    ∙ ap (λ b. http.reply_text (status_of reply) (kind_of reply) b close) (body_is ∙ ap (drop 4) text_is ∙ body_behind reply)

-- of the same bytes, after the same
pub appends_for : (before start after : Option (List ℕ)) (bytes told : List ℕ) → start ≡ before → bytes ≡ told → Appends start after bytes → Appends before after told
appends_for before start after bytes told same is appends = subst (λ b. Appends b after told) same (subst (λ b. Appends start after b) is appends)

pub where_full : {A E : Type 0} (r : Result A E) {P : Type 0} → P → OnErr r P
where_full (Ok x) holds = tt
where_full (Err short) holds = holds

pub where_room : {A E : Type 0} (r : Result A E) {P : Type 0} → P → OnOk r P
where_room (Ok x) holds = holds
where_room (Err short) holds = tt

-- what is put after nothing is all
pub put_alone : (reply : Reply) (close : Bool) (status : ℕ) (kind : BodyKind) (body text front out : List ℕ) → status ≡ status_of reply → kind ≡ kind_of reply → text ≡ reply_text reply
    → body ≡ drop 4 text → front ≡ [] → out ≡ front ++ http.reply_text status kind body close → out ≡ http_text reply close
put_alone reply close status kind body text front out status_is kind_is text_is body_is none put =
    put ∙ ap (λ f. f ++ http.reply_text status kind body close) none ∙ its_text reply close status kind body text status_is kind_is text_is body_is
