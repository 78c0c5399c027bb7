-- What is written for the lines of a script.
use Rattle.std.specs.Prelude.{ℕ, suc, ◌+◌, ◌||◌, List, [], ◌∷◌, ◌++◌, codes, decimal, if◌then◌else◌}
use Rattle.hex.specs.Hex.{encode_lower}
use Rattle.misp_http.specs.declared.request.Read.{Read}
use Rattle.misp_core.specs.declared.reply.Reply.{Reply}
use Rattle.misp_core.specs.Text.{body_text, has_octets, http_text, reply_text}
use Rattle.misp_api.specs.Session.{end_name, is_last}
use Rattle.misp_api.specs.Turn.{closes}
use Rattle.misp_net.specs.Acts.{Done, One, Session}
use Rattle.misp_net.specs.declared.line.Output.{Output}
use Rattle.misp_net.specs.declared.line.Output.TheVariants.{Bad, Nothing, Replied, Synced, Unanswered}
use Rattle.misp_net.specs.SyncText.{sync_text}

-- a reply as a line shows it: its status, a space and its body, and octets in hexadecimal digits
abbrev pub shown_text : Reply → List ℕ
shown_text reply =
    if has_octets reply then codes "200 " ++ encode_lower (body_text reply) else reply_text reply

-- `bad` and the place of the first faulty field, `-` where nothing was asked, the reply, how the
-- session ended where there was none, or what a synchronisation was told
abbrev pub output_text : Output → List ℕ
output_text (Bad place) = codes "bad " ++ decimal place
output_text Nothing = codes "-"
output_text (Replied reply) = shown_text reply
output_text (Unanswered end) = end_name end
output_text (Synced reply) = sync_text reply

-- the bytes of replies to these requests, after so many
abbrev pub replies_text : ℕ → List Read → List Reply → List ℕ
replies_text n [] replies = []
replies_text n (read ∷ reads) [] = []
replies_text n (read ∷ reads) (reply ∷ replies) =
    http_text reply (closes read || is_last n) ++ replies_text (suc n) reads replies

-- what a line puts out: of a session how it ended, a space, and the bytes of its replies in
-- hexadecimal digits
abbrev pub done_text : Done → List ℕ
done_text (One a output) = output_text output
done_text (Session time word at reads replies end) =
    end_name end ++ 32 ∷ encode_lower (replies_text 0 reads replies)

-- a line: its number, a space, what it puts out and LF
abbrev pub line_of : ℕ → Done → List ℕ
line_of number d = decimal number ++ 32 ∷ done_text d ++ 10 ∷ []

-- the lines, numbered from there
abbrev pub text_from : ℕ → List Done → List ℕ
text_from number [] = []
text_from number (d ∷ dones) = line_of number d ++ text_from (number + 1) dones
