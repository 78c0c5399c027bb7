-- What bytes are replied over a wire of one process.
use Rattle.std.specs.Prelude.{◌≡◌, ◌⊎◌, ℕ, List}
use Rattle.misp_http.specs.declared.request.Read.{Read}
use Rattle.misp_core.specs.Prelude.{Held, Standing, host_of}
use Rattle.misp_core.specs.Sound.{IsSound, IsWorded}
use Rattle.misp_core.specs.Text.{http_text}
use Rattle.misp_core.specs.declared.reply.Reply.{Reply}
use Rattle.misp_api.specs.Answering.{IsReplied, IsSync}
use Rattle.misp_api.specs.Commands.{Commanded}
use Rattle.misp_api.specs.Request.{Reading}
use Rattle.misp_api.specs.Sending.{IsAnswered, read_form}
use Rattle.misp_api.specs.Turn.{closes}

-- what was read was replied so, and these are the bytes of the reply; what a synchronisation is
-- replied can be read back from its text
pub record IsExchanged (now word : ℕ) (read : Read) (old new : Standing) (bytes : List ℕ)
    : Type 0 where
  pub reply : Reply
  pub answered : IsAnswered now word read old new reply
  pub sound : IsSync (read_form (host_of old) word read) → IsSound reply
  pub worded : IsWorded reply
  pub bytes_are : bytes ≡ http_text reply (closes read)

-- what is held where no reply came: what was held, or what some reply to this form leaves
abbrev pub IsLeftSo : ℕ → Reading Commanded → Standing → Held → Held → Type 0
IsLeftSo now form old held new =
    (new ≡ held) ⊎ ((reply : Reply) × IsReplied (host_of old) now form held reply new)
