-- What a request of a connection is replied, or bytes that are none, and the bytes of the reply.
use Rattle.std.specs.Prelude.{◌≡◌, ◌⊎◌, ℕ, ◌<◌, Bool, true, false, List, length, codes, Result, Ok, Err, IfOk}
use Rattle.misp_outside.specs.Causes.{HasCause}
use Rattle.misp_outside.specs.Reporting.{WhereReported}
use Rattle.misp_http.specs.Faults.{fault_refusal}
use Rattle.misp_http.specs.declared.request.Read.{Read}
use Rattle.misp_http.specs.declared.request.Read.TheVariants as reads
use Rattle.misp_core.specs.Prelude.{Host, Standing, host_of, stop_in}
use Rattle.misp_core.specs.Effects.{by_keeper}
use Rattle.misp_core.specs.declared.reply.Reply.{Reply}
use Rattle.misp_api.specs.Answering.{IsReplied, admin_after, form_at}
use Rattle.misp_api.specs.Commands.{Commanded}
use Rattle.misp_api.specs.Refusing.{TurnsAway}
use Rattle.misp_api.specs.Request.{Reading}
use Rattle.misp_core.specs.Text.{http_text}
use Rattle.misp_api.specs.declared.TheConstants.{REPLY_ROOM}

-- ---- what is replied

-- what bytes are that were read so, as a request of this word; bytes that are none are refused
abbrev pub read_form : Host → ℕ → Read → Reading Commanded
read_form host word (reads.Request request) = form_at host word request
read_form host word (reads.Refused fault) = Err (fault_refusal fault)

-- it was replied so at this moment, and the instance is left so
pub record IsAnswered (now word : ℕ) (read : Read) (old new : Standing) (reply : Reply)
    : Type 0 where
  -- where the keeper reports, reply and rows are the stated functions of what was read and is held
  pub replied : WhereReported old.held new.held
      (λ held left. IsReplied (host_of old) now (read_form (host_of old) word read) held reply left)
  -- what its form refuses is refused just so, and the instance stands as it stood
  pub formed : TurnsAway (read_form (host_of old) word read) old new reply
  pub cause : HasCause old.faults new.faults (stop_in reply ≡ by_keeper)
  pub name : new.name ≡ old.name
  pub admin : new.admin ≡ admin_after (read_form (host_of old) word read) old.admin reply

-- ---- its bytes

-- the same of want of memory, as one text
unfoldable pub no_memory_text : Bool → List ℕ
no_memory_text true =
    codes "HTTP/1.1 507 Insufficient Storage\r\nContent-Type: application/json\r\nContent-Length: 40\r\nConnection: close\r\n\r\n{\"name\":\"NoMemory\",\"place\":\"\",\"rule\":27}"
no_memory_text false =
    codes "HTTP/1.1 507 Insufficient Storage\r\nContent-Type: application/json\r\nContent-Length: 40\r\n\r\n{\"name\":\"NoMemory\",\"place\":\"\",\"rule\":27}"

-- the bytes that go out for what was answered: its own, or those of want of memory, where memory
-- ran out or its own are more than the room that was made
abbrev pub GoOut : {E : Type 0} → Result Reply E → Bool → List ℕ → Type 0
GoOut answered close bytes =
    ((reply : Reply) × (answered ≡ Ok reply) × (bytes ≡ http_text reply close))
    ⊎ ((bytes ≡ no_memory_text close)
    × IfOk answered (λ reply. REPLY_ROOM < length (http_text reply close)))
