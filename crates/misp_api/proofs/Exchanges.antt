-- The one request that bytes are.
use Rattle.std.proofs.Common.{◌≡◌, ◌≢◌, ◌++◌, ℕ, Bool, List, [], append-nil, refl, ap, ◌∙◌, subst, arith, inl, inr, Option, Some, None, Result, Ok, Err, IfOk, IfSome, OnOk, OnErr}
use Rattle.std.specs.Io.KnownBytes.{prepend_known}
use Rattle.misp_outside.specs.Causes.{HasCause}
use Rattle.misp_outside.specs.Reporting.{StaysHeld, WhereReported}
use Rattle.misp_outside.proofs.Reporting.{reported_so}
use Rattle.misp_http.specs.Reading.{IsRead}
use Rattle.misp_http.specs.declared.request.Read.{Read}
use Rattle.misp_http.specs.declared.request.ReadEnd.{ReadEnd}
use Rattle.misp_http.proofs.Readings.{one_reading}
use Rattle.misp_core.specs.Sound.{IsSound, IsWorded}
use Rattle.misp_api.specs.Prelude.{Commanded, Held, Reading, Reply, Standing}
use Rattle.misp_core.specs.Prelude.{host_of}
use Rattle.misp_core.specs.Text.{http_text}
use Rattle.misp_api.specs.Answering.{IsReplied, IsSync}
use Rattle.misp_api.specs.Exchange.{IsExchanged, IsLeftSo}
use Rattle.misp_api.specs.Sending.{IsAnswered, read_form}
use Rattle.misp_api.specs.Turn.{closes}

-- an end that counts no fault has none
pub never_fails : {Failed : Type 0} → HasCause 0 0 Failed → Failed → ⊥
never_fails cause failed = absurd (omega (arith, cause.rose failed))

-- what is read of a source that has these bytes
pub read_of : (front left text : List ℕ) (result : Result Read ReadEnd) (after : Option (List ℕ)) → front ≡ [] → left ≡ text
    → IfSome (prepend_known front (Some left)) (λ bytes. IsRead bytes result after) → IsRead text result after
read_of front left text result after none same is = subst (λ bytes. IsRead bytes result after) ((λ i. none i ++ same i)) is

-- what is read of these bytes, where a source has no more
pub read_whole : (bytes left : List ℕ) (result : Result Read ReadEnd) (after : Option (List ℕ)) → left ≡ []
    → IfSome (prepend_known bytes (Some left)) (λ all. IsRead all result after) → IsRead bytes result after
read_whole bytes left result after none is = subst (λ all. IsRead all result after) (ap (λ l. bytes ++ l) none ∙ append-nil bytes) is

read_in : Read → Result Read ReadEnd → Read
read_in other (Ok read) = read
read_in other (Err end) = other

-- what is read of bytes is one thing
pub one_read : (bytes : List ℕ) (a b : Read) (x y : Option (List ℕ)) → IsRead bytes (Ok a) x → IsRead bytes (Ok b) y → a ≡ b
unfolding read_in
one_read bytes a b x y is is2 = ap (read_in a) (one_reading bytes (Ok a) (Ok b) x y tt tt is is2)

-- where bytes are read, they are not read as none, but memory may run out
pub not_unread : (bytes : List ℕ) (end : ReadEnd) (read : Read) (x y : Option (List ℕ)) → end ≢ ReadEnd.NoMemory → ◌≢◌ {A = Result Read ReadEnd} (Err end) (Err ReadEnd.ReadFault)
    → IsRead bytes (Err end) x → IsRead bytes (Ok read) y → ⊥
not_unread bytes ReadEnd.Ended read x y memory fault is is2 = let same = one_reading bytes (Err ReadEnd.Ended) (Ok read) x y tt tt is is2 in absurd cc
not_unread bytes ReadEnd.Cut read x y memory fault is is2 = let same = one_reading bytes (Err ReadEnd.Cut) (Ok read) x y tt tt is is2 in absurd cc
not_unread bytes ReadEnd.ReadFault read x y memory fault is is2 = absurd (fault refl)
not_unread bytes ReadEnd.NoMemory read x y memory fault is is2 = absurd (memory refl)

-- so there is no reply to bytes that are read as none
pub no_reply : {V E : Type 0} (r : Result V E) (P : V → Type 0) {Short : Type 0} → OnOk r Short → (Short → ⊥) → IfOk r P
no_reply (Ok v) P short not_ = absurd (not_ short)
no_reply (Err fault) P short not_ = tt

-- the bytes of what was answered
pub exchanged : {V E : Type 0} (items : V → List ℕ) (r : Result V E) (now word : ℕ) (read : Read) (old new : Standing) (reply : Reply) (close : Bool) → close ≡ closes read
    → IsAnswered now word read old new reply → (IsSync (read_form (host_of old) word read) → IsSound reply) → IsWorded reply
    → IfOk r (λ v. items v ≡ http_text reply close) → IfOk r (λ v. IsExchanged now word read old new (items v))
exchanged items (Ok v) now word read old new reply close closed answered sound worded bytes =
    record { reply = reply; answered = answered; sound = sound; worded = worded; bytes_are = bytes ∙ ap (http_text reply) closed }
exchanged items (Err short) now word read old new reply close closed answered sound worded bytes = tt

-- ---- where memory runs out

-- what holds unless there is a reply of some kind
pub unless_told : {V E : Type 0} (r : Result V E) (P : V → Type 0) {Q : Type 0} → (IfOk r P → Q) → OnErr r Q
unless_told (Ok v) P holds = tt
unless_told (Err short) P holds = holds tt

-- what is held stays
pub left_alone : (now : ℕ) (form : Reading Commanded) (i : Standing) (old new : Option Held) → StaysHeld old new → WhereReported old new (IsLeftSo now form i)
left_alone now form i old new = reported_so old new _ _ (λ held left same. inl same)

-- or it is what the reply leaves whose bytes were not made
pub left_replied : (now : ℕ) (form : Reading Commanded) (i : Standing) (old new : Option Held) (reply : Reply) → WhereReported old new (λ held left. IsReplied (host_of i) now form held reply left)
    → WhereReported old new (IsLeftSo now form i)
left_replied now form i old new reply = reported_so old new _ _ (λ held left is. inr (reply, is))
