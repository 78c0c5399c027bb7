-- Turns of a session.
use Rattle.std.proofs.Common.{◌≡◌, ◌≢◌, ℕ, Bool, true, false, ◌||◌, List, ◌++◌, take, Option, Some, None, Result, Ok, refl, sym, ap, ◌∙◌}
use Rattle.std.specs.Prelude.{IfSome}
use Rattle.std.specs.Io.KnownBytes.{Appends}
use Rattle.misp_http.specs.Reading.{IsRead}
use Rattle.misp_http.specs.declared.request.Read.{Read}
use Rattle.misp_http.specs.declared.request.Read.TheVariants as reads
use Rattle.misp_http.specs.declared.request.ReadEnd.{ReadEnd}
use Rattle.misp_api.specs.Prelude.{Reply, Standing}
use Rattle.misp_api.specs.Sending.{IsAnswered}
use Rattle.misp_core.specs.Text.{http_text}
use Rattle.misp_api.specs.Turn.{Point, IsAt, Answers, Turned, WentOut, closes, next_word}
use Rattle.misp_api.specs.declared.sending.Delivery.{Delivery}
use Rattle.misp_api.specs.declared.sending.Delivery.TheVariants.{Written, WriteFault, NoRoom}
use Rattle.misp_api.specs.declared.turn.Turn.TheVariants as turns

appended : (now : Option (List ℕ)) (front text : List ℕ) → Appends (Some front) now text → now ≡ Some (front ++ text)
appended None front text appends = absurd appends
appended (Some all) front text appends = ap Some appends

written_has_room : Written ≢ NoRoom
written_has_room is = absurd cc

fault_has_room : WriteFault ≢ NoRoom
fault_has_room is = absurd cc

-- a request is read with what is left behind it
left_behind : (read : Read) (bytes : List ℕ) (left : Option (List ℕ)) → closes read ≡ false → IsRead bytes (Ok read) left → (rest : List ℕ) × (left ≡ Some rest)
left_behind (reads.Request request) bytes left stays is = (_, is.left)
left_behind (reads.Refused fault) bytes left stays is = absurd cc

module _ (now : ℕ) (last : Bool) (p : Point) (unread left : Option (List ℕ)) (old new : Standing) (words later : Option ℕ) (w after : Option (List ℕ)) (at : IsAt unread old words w p)
    (result : Result Read ReadEnd) (read : Read) (read_is : result ≡ Ok read) (reading : IfSome unread (λ bytes. IsRead bytes result left))
    (close : Bool) (close_is : close ≡ (closes read || last)) (delivery : Delivery) (went : WentOut now p.word read close old new w after delivery)
    (next : delivery ≢ NoRoom → later ≡ Some (next_word read p.word)) where
  read_at : IsRead p.bytes (Ok read) left
  read_at = rw (at.bytes_are, read_is) at reading

  answers : (reply : Reply) → delivery ≢ NoRoom → IsAnswered now p.word read p.instance new reply → Answers now p read left new later reply
  answers reply room answered = record { is = read_at; answered = answered; word_is = next room }

  pub goes : closes read ≡ false → delivery ≡ Written → Turned now last p turns.Goes left new later after
  goes stays out =
      let opened : close ≡ last = close_is ∙ ap (λ b. b || last) stays in
      let sent = rw (out, opened, at.instance_is, at.written_are) at went in
      let rest = left_behind read p.bytes left stays read_at in
      let room : delivery ≢ NoRoom = λ no. written_has_room (sym out ∙ no) in
      let q : Point = record { bytes = rest.0; instance = new; word = next_word read p.word; written = p.written ++ http_text sent.0 last } in (
        q,
        record { bytes_are = rest.1; instance_is = refl; word_is = next room; written_are = appended after p.written (http_text sent.0 last) sent.2 },
        record {
          read = read;
          reply = sent.0;
          answers = record { is = rw rest.1 at read_at; answered = sent.1; word_is = refl };
          stays = stays;
          wrote = refl;
        },
      )

  pub shuts : closes read ≡ true → delivery ≡ Written → Turned now last p turns.Closes left new later after
  shuts asks out =
      let shut : close ≡ true = close_is ∙ ap (λ b. b || last) asks in
      let sent = rw (out, shut, at.instance_is, at.written_are) at went in
      (read, sent.0, answers sent.0 (λ no. written_has_room (sym out ∙ no)) sent.1, asks, appended after p.written (http_text sent.0 true) sent.2)

  pub breaks : delivery ≡ WriteFault → Turned now last p turns.WriteFault left new later after
  breaks out =
      let sent = rw (out, close_is, at.instance_is, at.written_are) at went in
      (read, sent.0, answers sent.0 (λ no. fault_has_room (sym out ∙ no)) sent.1, (sent.2.0, appended after p.written (take sent.2.0 (http_text sent.0 (closes read || last))) sent.2.1))

  pub no_room : delivery ≡ NoRoom → (delivery ≡ NoRoom → later ≡ words) → Turned now last p turns.NoRoom left new later after
  no_room is still =
      let same = rw is at went in
      (same.0 ∙ at.instance_is, still is ∙ at.word_is, same.1 ∙ at.written_are)
