-- The bytes of a line, read from a source and written to a sink that never fail.
use Rattle.std.proofs.Common.{◌≡◌, ◌≢◌, ℕ, List, [], ◌∷◌, ◌++◌, append_assoc, Option, Some, Result, Ok, Err, refl, ◌∙◌, ap, subst}
use Rattle.std.specs.Io.KnownBytes.{prepend_known}
use Rattle.hex.specs.Hex.{decode_of, encode_lower}
use Rattle.misp_outside.specs.Causes.{HasCause}
use Rattle.misp_http.specs.Reading.{IsConclusive, IsRead}
use Rattle.misp_http.specs.declared.request.Read.{Read}
use Rattle.misp_http.specs.declared.request.ReadEnd.{ReadEnd}
use Rattle.misp_script.specs.Step.{RawData, bytes_of}
use Rattle.misp_api.specs.Session.{Session, end_name}
use Rattle.misp_api.specs.Turn.{IsAt, Point}
use Rattle.misp_api.specs.declared.sessions.End.{End}
use Rattle.misp_api.specs.declared.sessions.SessionEnd.{SessionEnd}
use Rattle.misp_api.proofs.Exchanges.{never_fails}
use Rattle.misp_net.specs.Prelude.{Standing}
use Rattle.misp_net.specs.Running.{HasSession}

-- and what was read is read, by whatever name
pub read_as : (text : List ℕ) (read other : Read) (left : Option (List ℕ)) → read ≡ other → IsRead text (Ok read) left → IsRead text (Ok other) left
read_as text read other left same is = subst (λ r. IsRead text (Ok r) left) same is

-- the bytes of digits
pub bytes_are : (hex bytes : List ℕ) → decode_of hex ≡ Ok bytes → bytes ≡ bytes_of hex
bytes_are hex bytes is = rw is refl

-- a reading that neither failed nor wanted memory
pub conclusive : (result : Result Read ReadEnd) → result ≢ Err ReadEnd.ReadFault → result ≢ Err ReadEnd.NoMemory → IsConclusive result
conclusive (Ok read) no_fault memory = tt
conclusive (Err ReadEnd.Ended) no_fault memory = tt
conclusive (Err ReadEnd.Cut) no_fault memory = tt
conclusive (Err ReadEnd.ReadFault) no_fault memory = absurd (no_fault refl)
conclusive (Err ReadEnd.NoMemory) no_fault memory = absurd (memory refl)

-- the session of a line, over ends that have its bytes and never fail
pub session_went : (now word : ℕ) (r : RawData) (old new : Standing) (end : SessionEnd) (time : ℕ) (left start written : List ℕ) (after : Option (List ℕ)) (next : Option ℕ)
    → time ≡ now → left ≡ r.bytes → start ≡ []
    → ((t : ℕ) (p : Point) → Some time ≡ Some t → IsAt (Some left) old (Some word) (Some start) p → (rest : List ℕ) × Session t p end (prepend_known rest after) new next (Some written))
    → HasCause 0 0 (end.end ≡ End.ReadFault) → HasCause 0 0 (end.end ≡ End.WriteFault)
    → (Wrote : List ℕ → Type 0) → Wrote (end_name end.end ++ 32 ∷ encode_lower written) → HasSession now word r old new Wrote
session_went now word r old new end time left start written after next time_is left_is start_is session read write Wrote wrote =
    let p : Point = record { bytes = r.bytes; instance = old; word = word; written = [] } in
    let ran = session now p (ap Some time_is) (record { bytes_are = ap Some left_is; instance_is = refl; word_is = refl; written_are = ap Some start_is }) in
    (end, prepend_known ran.0 after, next, written, ran.1, never_fails read, never_fails write, wrote)

-- what was put behind some lines
pub put_behind : (before after name bytes told : List ℕ) → after ≡ before ++ name ++ 32 ∷ encode_lower bytes → bytes ≡ told → after ≡ before ++ (name ++ 32 ∷ encode_lower told)
put_behind before after name bytes told put same =
    put ∙ append_assoc before name (32 ∷ encode_lower bytes) ∙ ap (λ b. before ++ (name ++ 32 ∷ encode_lower b)) same
