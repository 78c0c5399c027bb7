-- The bytes of replies: what stands behind the status, and how long they are.
use Rattle.std.proofs.Common.{◌≡◌, suc, ◌+◌, ◌/◌, ◌%◌, ◌<◌, ◌≤◌, ◌^◌, ◌&&◌, ℕ, Bool, true, false, List, [], ◌∷◌, ◌++◌, codes, decimal, drop, length, length-append, IsTrue, refl, ap, arith}
use Rattle.std.proofs.Math.Dec.{leb, ltb}
use Rattle.std.proofs.lemmas.Bool.{and_parts, leb-true, ltb-true}
use Rattle.std.proofs.lemmas.Fmt.{decimal_step, decimal_digit, length-decimal-le_succ}
use Rattle.json.specs.Print.{escape_byte}
use Rattle.misp_ids.specs.Refusal.{rule_name, rule_status}
use Rattle.misp_format.specs.Replies.{refusal_data}
use Rattle.misp_ids.specs.declared.refusal.RuleName.{RuleName}
use Rattle.misp_http.specs.Texts.{IsReplyStatus, is_reply_status, reason_of, connection_line}
use Rattle.misp_core.specs.Effects.{refused_by}
use Rattle.misp_core.specs.declared.reply.Reply.{Reply}
use Rattle.misp_api.specs.Sending.{no_memory_text}
use Rattle.misp_core.specs.Text.{body_text, http_text, kind_of, reply_text, status_of}
use Rattle.misp_api.specs.declared.TheConstants.{CHANGE_TEXT, REPLY_ROOM}
use Rattle.misp_http.specs.Texts as http
use Rattle.misp_http.specs.declared.kind.BodyKind.{BodyKind}
use Rattle.misp_http.specs.declared.kind.BodyKind.TheVariants.{Json, Octets}

-- ---- statuses

-- it is the status of a reply, of three digits, and its phrase is short
abbrev is_status : ℕ → Bool
is_status n = is_reply_status n && (leb 100 n && (ltb n 1000 && leb (length (reason_of n)) 40))

rule_is : (name : RuleName) → is_status (rule_status name) ≡ true
unfolding reason_of
rule_is RuleName.NoKey = refl
rule_is RuleName.BadRequest = refl
rule_is RuleName.TooLarge = refl
rule_is RuleName.NoRoute = refl
rule_is RuleName.NoMethod = refl
rule_is RuleName.BadJson = refl
rule_is RuleName.BadField = refl
rule_is RuleName.NoPermission = refl
rule_is RuleName.NotGranted = refl
rule_is RuleName.NotOwner = refl
rule_is RuleName.LockedCopy = refl
rule_is RuleName.EventExists = refl
rule_is RuleName.EventGone = refl
rule_is RuleName.ElementExists = refl
rule_is RuleName.GroupNotUsable = refl
rule_is RuleName.OlderTime = refl
rule_is RuleName.TimeLimit = refl
rule_is RuleName.BinaryType = refl
rule_is RuleName.ProposalExists = refl
rule_is RuleName.ProposalClosed = refl
rule_is RuleName.NoLink = refl
rule_is RuleName.LinkOff = refl
rule_is RuleName.PeerRefused = refl
rule_is RuleName.PeerGarbled = refl
rule_is RuleName.LinkFault = refl
rule_is RuleName.KeeperFault = refl
rule_is RuleName.NoMemory = refl
rule_is RuleName.BadRow = refl
rule_is RuleName.GroupExists = refl
rule_is RuleName.NoGroup = refl
rule_is RuleName.NotCreator = refl
rule_is RuleName.LockedGroup = refl
rule_is RuleName.OrgExists = refl
rule_is RuleName.NoOrg = refl
rule_is RuleName.KeyExists = refl
rule_is RuleName.UnknownKey = refl
rule_is RuleName.LinkExists = refl
rule_is RuleName.NoPeer = refl
rule_is RuleName.ElementFull = refl

status_is : (reply : Reply) → is_status (status_of reply) ≡ true
unfolding reason_of
status_is (Reply.Ok answer) = refl
status_is (Reply.Refused refusal) = rule_is refusal.name

module _ (n : ℕ) (is : is_status n ≡ true) where
  parts : (is_reply_status n ≡ true) × ((leb 100 n && (ltb n 1000 && leb (length (reason_of n)) 40)) ≡ true)
  parts = and_parts _ _ is

  digits : (leb 100 n ≡ true) × ((ltb n 1000 && leb (length (reason_of n)) 40) ≡ true)
  digits = and_parts _ _ parts.1

  ends : (ltb n 1000 ≡ true) × (leb (length (reason_of n)) 40 ≡ true)
  ends = and_parts _ _ digits.1

  some : 100 ≤ n
  some = leb-true 100 n digits.0

  few : n < 1000
  few = ltb-true n 1000 ends.0

  phrase : length (reason_of n) ≤ 40
  phrase = leb-true (length (reason_of n)) 40 ends.1

  three : decimal n ≡ (48 + (n / 10) / 10) ∷ (48 + (n / 10) % 10) ∷ (48 + n % 10) ∷ []
  three =
      let first : decimal n ≡ decimal (n / 10) ++ (48 + n % 10) ∷ [] = decimal_step n (omega (arith, some)) (omega (arith, few)) in
      let second : decimal (n / 10) ≡ decimal ((n / 10) / 10) ++ (48 + (n / 10) % 10) ∷ [] = decimal_step (n / 10) (omega (arith, some)) (omega (arith, few)) in
      let last : decimal ((n / 10) / 10) ≡ (48 + (n / 10) / 10) ∷ [] = decimal_digit ((n / 10) / 10) (omega (arith, few)) in
      rw (first, second, last) refl

pub has_status : (reply : Reply) → IsReplyStatus (status_of reply)
has_status reply = is_true (parts (status_of reply) (status_is reply)).0
  where
    is_true : {b : Bool} → b ≡ true → IsTrue b
    is_true same = same

-- ---- behind the status

pub body_behind : (reply : Reply) → drop 4 (reply_text reply) ≡ body_text reply
body_behind (Reply.Ok answer) = refl
body_behind (Reply.Refused refusal) =
    ap (λ front. drop 4 (front ++ 32 ∷ body_text (Reply.Refused refusal))) (three (rule_status refusal.name) (rule_is refusal.name))

-- the status, a space and the body
pub text_long : (reply : Reply) → length (reply_text reply) ≡ suc (suc (suc (suc (length (body_text reply)))))
text_long (Reply.Ok answer) = refl
text_long (Reply.Refused refusal) =
    ap (λ front. length (front ++ 32 ∷ body_text (Reply.Refused refusal))) (three (rule_status refusal.name) (rule_is refusal.name))

-- ---- the room of a reply

close_short : (close : Bool) → length (connection_line close) ≤ 19
close_short true = omega arith
close_short false = omega arith

kind_short : (kind : BodyKind) → length (http.content_type_line kind) ≤ 40
kind_short Json = omega arith
kind_short Octets = omega arith

-- what needs more than the room has a text that is longer than that of any change
pub long_text : (reply : Reply) (close : Bool) → length (body_text reply) < 2 ^ 64 → REPLY_ROOM < length (http_text reply close) → CHANGE_TEXT < length (reply_text reply)
unfolding http.reply_text
long_text reply close small long =
    let n : ℕ = status_of reply in
    let body : List ℕ = body_text reply in
    let count : List ℕ = decimal (length body) in
    let version : List ℕ = codes "HTTP/1.1 " ++ decimal n in
    let status : List ℕ = version ++ codes " " in
    let phrased : List ℕ = status ++ reason_of n in
    let line : List ℕ = phrased ++ http.crlf in
    let named : List ℕ = codes "Content-Length: " ++ count in
    let counted : List ℕ = named ++ http.crlf in
    let kind : List ℕ = line ++ http.content_type_line (kind_of reply) in
    let sized : List ℕ = kind ++ counted in
    let shut : List ℕ = sized ++ connection_line close in
    let head : List ℕ = shut ++ http.crlf in
    let front : length (decimal n) ≡ 3 = ap length (three n (status_is reply)) in
    omega (
      arith,
      long,
      front,
      phrase n (status_is reply),
      length-decimal-le_succ (length body) small,
      close_short close,
      kind_short (kind_of reply),
      text_long reply,
      length-append (codes "HTTP/1.1 ") (decimal n),
      length-append version (codes " "),
      length-append status (reason_of n),
      length-append phrased http.crlf,
      length-append (codes "Content-Length: ") count,
      length-append named http.crlf,
      length-append line (http.content_type_line (kind_of reply)),
      length-append kind counted,
      length-append sized (connection_line close),
      length-append shut http.crlf,
      length-append head body,
    )

-- ---- want of memory

size : decimal 40 ≡ codes "40"
size =
    let first : decimal 40 ≡ decimal 4 ++ 48 ∷ [] = decimal_step 40 (omega arith) (omega arith) in
    let last : decimal 4 ≡ 52 ∷ [] = decimal_digit 4 (omega arith) in
    rw (first, last) refl

rule : decimal 27 ≡ codes "27"
rule =
    let first : decimal 27 ≡ decimal 2 ++ 55 ∷ [] = decimal_step 27 (omega arith) (omega arith) in
    let last : decimal 2 ≡ 50 ∷ [] = decimal_digit 2 (omega arith) in
    rw (first, last) refl

-- the same with whatever stands before the empty line
with_end : (shut : List ℕ)
    → codes "HTTP/1.1 507 Insufficient Storage\r\nContent-Type: application/json\r\nContent-Length: 40\r\n" ++ shut ++ codes "\r\n" ++ codes "{\"name\":\"NoMemory\",\"place\":\"\",\"rule\":27}"
    ≡ http.status_line 507 ++ http.content_type_line Json ++ http.content_length_line (length (body_text (refused_by RuleName.NoMemory))) ++ shut ++ http.crlf
    ++ body_text (refused_by RuleName.NoMemory)
unfolding reason_of refusal_data rule_name escape_byte
with_end shut = rw (three 507 refl, rule, size) refl

pub no_memory : (close : Bool) → no_memory_text close ≡ http_text (refused_by RuleName.NoMemory) close
unfolding no_memory_text http.reply_text
no_memory true = with_end (connection_line true)
no_memory false = with_end []

-- ---- what a keeper stopped

failed_rule : decimal 26 ≡ codes "26"
failed_rule =
    let first : decimal 26 ≡ decimal 2 ++ 54 ∷ [] = decimal_step 26 (omega arith) (omega arith) in
    let last : decimal 2 ≡ 50 ∷ [] = decimal_digit 2 (omega arith) in
    rw (first, last) refl

pub failed_text : codes "503 {\"name\":\"KeeperFault\",\"place\":\"\",\"rule\":26}" ≡ reply_text (refused_by RuleName.KeeperFault)
unfolding reason_of refusal_data rule_name escape_byte
failed_text = rw (three 503 refl, failed_rule) refl

pub lost_text : codes "507 {\"name\":\"NoMemory\",\"place\":\"\",\"rule\":27}" ≡ reply_text (refused_by RuleName.NoMemory)
unfolding reason_of refusal_data rule_name escape_byte
lost_text = rw (three 507 refl, rule) refl
