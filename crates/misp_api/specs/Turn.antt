-- One turn of a session: a request of a connection, or bytes that are none, and what it leaves.
use Rattle.std.specs.Prelude.{◌≡◌, ◌++◌, ℕ, Bool, true, false, ◌||◌, List, take, Option, Some, Ok, Err}
use Rattle.std.specs.Io.KnownBytes.{Appends}
use Rattle.misp_outside.specs.Clocks.{word_after}
use Rattle.misp_http.specs.Reading.{IsRead}
use Rattle.misp_http.specs.Streams.{AppendsSome}
use Rattle.misp_http.specs.declared.request.Read.{Read}
use Rattle.misp_http.specs.declared.request.Read.TheVariants as reads
use Rattle.misp_core.specs.Prelude.{Standing}
use Rattle.misp_core.specs.declared.reply.Reply.{Reply}
use Rattle.misp_api.specs.Sending.{IsAnswered}
use Rattle.misp_core.specs.Text.{http_text}
use Rattle.misp_api.specs.declared.sending.Delivery.{Delivery}
use Rattle.misp_api.specs.declared.sending.Delivery.TheVariants.{Written, WriteFault, NoRoom}
use Rattle.misp_api.specs.declared.turn.Turn.{Turn}
use Rattle.misp_api.specs.declared.turn.Turn.TheVariants as turns

-- whether the connection is closed after what was read, since a request asks so or is none
abbrev pub closes : Read → Bool
closes (reads.Request request) = request.close
closes (reads.Refused fault) = true

-- the next word of the clock after it, which is asked for requests alone
abbrev pub next_word : Read → ℕ → ℕ
next_word (reads.Request request) word = word_after word
next_word (reads.Refused fault) word = word

-- how its reply goes out: all of the bytes, some, or none; where there is no room for it, nothing
-- was asked
abbrev pub WentOut : ℕ → ℕ → Read → Bool → Standing → Standing
    → Option (List ℕ) → Option (List ℕ) → Delivery → Type 0
WentOut now word read close old new before after Written =
    (reply : Reply) × IsAnswered now word read old new reply
    × Appends before after (http_text reply close)
WentOut now word read close old new before after WriteFault =
    (reply : Reply) × IsAnswered now word read old new reply
    × AppendsSome before after (http_text reply close)
WentOut now word read close old new before after NoRoom = (new ≡ old) × (after ≡ before)

-- ---- turns

-- where a session stands: the bytes that are not read, the instance, the next word of the clock,
-- and what is written
pub record Point : Type 0 where
  pub bytes : List ℕ
  pub instance : Standing
  pub word : ℕ
  pub written : List ℕ

-- what source, clock and sink tell there, and how the instance stands
pub record IsAt (bytes : Option (List ℕ)) (instance : Standing) (word : Option ℕ)
    (written : Option (List ℕ)) (p : Point) : Type 0 where
  pub bytes_are : bytes ≡ Some p.bytes
  pub instance_is : instance ≡ p.instance
  pub word_is : word ≡ Some p.word
  pub written_are : written ≡ Some p.written

-- what was read there, and what it was replied
pub record Answers (now : ℕ) (p : Point) (read : Read) (left : Option (List ℕ))
    (instance : Standing) (word : Option ℕ) (reply : Reply) : Type 0 where
  pub is : IsRead p.bytes (Ok read) left
  pub answered : IsAnswered now p.word read p.instance instance reply
  pub word_is : word ≡ Some (next_word read p.word)

-- a request that does not ask to close was answered
pub record Goes (now : ℕ) (last : Bool) (p q : Point) : Type 0 where
  pub read : Read
  pub reply : Reply
  pub answers : Answers now p read (Some q.bytes) q.instance (Some q.word) reply
  pub stays : closes read ≡ false
  pub wrote : q.written ≡ p.written ++ http_text reply last

-- how a turn goes, which may be the last that there may be
abbrev pub Turned : ℕ → Bool → Point → Turn
    → Option (List ℕ) → Standing → Option ℕ → Option (List ℕ) → Type 0
Turned now last p turns.Goes bytes instance word written =
    (q : Point) × IsAt bytes instance word written q × Goes now last p q
Turned now last p turns.Closes bytes instance word written =
    (read : Read) × (reply : Reply) × Answers now p read bytes instance word reply
    × (closes read ≡ true) × (written ≡ Some (p.written ++ http_text reply true))
Turned now last p (turns.Ends end) bytes instance word written =
    (instance ≡ p.instance) × (word ≡ Some p.word) × (written ≡ Some p.written)
    × ((left : Option (List ℕ)) × IsRead p.bytes (Err end) left)
Turned now last p turns.NoRoom bytes instance word written =
    (instance ≡ p.instance) × (word ≡ Some p.word) × (written ≡ Some p.written)
Turned now last p turns.WriteFault bytes instance word written =
    (read : Read) × (reply : Reply) × Answers now p read bytes instance word reply
    × ((n : ℕ) × (written ≡ Some (p.written ++ take n (http_text reply (closes read || last)))))
