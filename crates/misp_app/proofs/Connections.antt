-- Connections, served one after another.
use Rattle.std.proofs.Common.{◌≡◌, ◌<◌, ◌≤◌, ◌+◌, ℕ, suc, Bool, true, false, List, [], ◌∷◌, ◌++◌, length, take, Option, Some, None, Result, Ok, Err, add-one, refl, sym, ap, ◌∙◌, subst, inl, inr, arith}
use Rattle.std.specs.Prelude.{All, IsSome, MatchOption}
use Rattle.std.specs.Io.KnownBytes.{prepend_known, Appends}
use Rattle.std.proofs.lemmas.List.Elements.{All-head, All-tail}
use Rattle.misp_outside.specs.Causes.{HasCause}
use Rattle.misp_outside.specs.Wires.{Connection, LosesFirst, GrowsByOne}
use Rattle.misp_http.specs.Streams.{AppendsSome}
use Rattle.misp_http.proofs.Sending.{appends_more}
use Rattle.misp_core.specs.Prelude.{Standing}
use Rattle.misp_api.specs.Session.{Session, is_last}
use Rattle.misp_api.specs.Turn.{Point, IsAt, Turned}
use Rattle.misp_api.specs.declared.sessions.End.{End}
use Rattle.misp_api.specs.declared.sessions.SessionEnd.{SessionEnd}
use Rattle.misp_api.specs.declared.turn.Turn.{Turn}
use Rattle.misp_api.specs.declared.turn.Turn.TheVariants as turns
use Rattle.misp_app.specs.Serving.{line_of, Server, IsServer, IsTold, IsLineFault, ServesOne, OneServed, Serves, Served}
use Rattle.misp_app.specs.declared.serving.ServeFault.{ServeFault}
use Rattle.misp_app.specs.declared.serving.ServeFault.TheVariants as faults

pub given_some : {X : Type 0} (next : Option X) (x : X) (P : Type 0) (Q : X → Type 0) → next ≡ Some x → MatchOption next P Q → Q x
given_some next x P Q is given = rw is at given

known : {X : Type 0} (o : Option X) → IsSome o → (x : X) × (o ≡ Some x)
known None is = absurd cc
known (Some x) is = (x, refl)

taken : (xs ys : List ℕ) (k : ℕ) → take (length xs + k) (xs ++ ys) ≡ xs ++ take k ys
taken [] ys k = let none : 0 + k ≡ k = omega arith in rw none refl
taken (x ∷ xs) ys k = let more : length (x ∷ xs) + k ≡ suc (length xs + k) = omega arith in rw more (ap (λ zs. x ∷ zs) (taken xs ys k))

-- ---- the clock still tells its word after a session

module _ (time : ℕ) where
  turn_tells : (last : Bool) (q : Point) (turn : Turn) (bytes : Option (List ℕ)) (instance : Standing) (word : Option ℕ) (w : Option (List ℕ)) → Turned time last q turn bytes instance word w → (v : ℕ) × (word ≡ Some v)
  turn_tells last q turns.Goes bytes instance word w turned = (_, turned.1.word_is)
  turn_tells last q turns.Closes bytes instance word w turned = (_, turned.2.word_is)
  turn_tells last q (turns.Ends end) bytes instance word w turned = (_, turned.1)
  turn_tells last q turns.NoRoom bytes instance word w turned = (_, turned.1)
  turn_tells last q turns.WriteFault bytes instance word w turned = (_, turned.2.word_is)

  session_tells : (p : Point) (end : SessionEnd) (bytes : Option (List ℕ)) (instance : Standing) (word : Option ℕ) (w : Option (List ℕ)) → Session time p end bytes instance word w → (v : ℕ) × (word ≡ Some v)
  session_tells p end bytes instance word w ran = elim ran [
    | inl by_turn ↦ turn_tells (is_last by_turn.0) by_turn.2 by_turn.3 bytes instance word w by_turn.5
    | inr full ↦ (_, full.2.word_is)
  ]

  module _ (n : ℕ) (s : Server) (coming : List Connection) (old new : Standing) (words later : Option ℕ) (back0 back1 back2 : Option (List Connection)) (c0 c1 c2 : Option (List Connection)) (first last : Connection) (end : SessionEnd)
      (at : IsServer old words back0 s) (c0_is : c0 ≡ Some coming) (told : All IsTold coming) (loses : LosesFirst c0 c1 first) (c2_is : c2 ≡ c1) (same_back : back1 ≡ back0) (grows : GrowsByOne back1 back2 last)
      (ran : (p : Point) → IsAt first.left old words first.written p → (rest : List ℕ) × Session time p end (prepend_known rest last.left) new later last.written)
      (read : HasCause first.source_faults last.source_faults (end.end ≡ End.ReadFault)) (write : HasCause first.sink_faults last.sink_faults (end.end ≡ End.WriteFault)) where
    lost : (c : Option (List Connection)) → LosesFirst (Some coming) c first → (left : List Connection) × (coming ≡ first ∷ left) × (c ≡ Some left)
    lost None bad = absurd bad
    lost (Some left) is = (left, is, refl)

    grown : (b : Option (List Connection)) → GrowsByOne (Some s.back) b last → b ≡ Some (s.back ++ last ∷ [])
    grown None bad = absurd bad
    grown (Some back) is = ap Some is

    pub served : (after : Server) × (left : List Connection) × (line : List ℕ) × ServesOne time n s coming after left line × IsServer new later back2 after × (c2 ≡ Some left) × (line ≡ line_of (n + 1) end)
    served =
        let rest = lost c1 (rw c0_is at loses) in
        let here : All IsTold (first ∷ rest.0) = rw rest.1 at told in
        let tells : IsTold first = All-head IsTold first rest.0 here in
        let bytes = known first.left tells.0 in
        let written = known first.written tells.1 in
        let p : Point = record { bytes = bytes.0; instance = s.instance; word = s.word; written = written.0 } in
        let session = ran p (record { bytes_are = bytes.1; instance_is = at.instance_is; word_is = at.word_is; written_are = written.1 }) in
        let word = session_tells p end _ _ _ _ session.1 in
        let back : back2 ≡ Some (s.back ++ last ∷ []) = grown back2 (rw (same_back, at.back_is) at grows) in
        let after : Server = record { instance = new; word = word.0; back = s.back ++ last ∷ [] } in (
          after,
          rest.0,
          line_of (n + 1) end,
          record { first = first; last = last; end = end; came = rest.1; back = refl; session = (bytes.0, written.0, session.0, bytes.1, written.1, subst (λ v. Session time p end (prepend_known session.0 last.left) new v last.written) word.1 session.1); read = read; write = write; line_is = refl },
          record { instance_is = refl; word_is = word.1; back_is = back },
          c2_is ∙ rest.2,
          refl,
        )

  -- the line could not be written whole
  pub stopped : (n : ℕ) (s after : Server) (coming left : List Connection) (line : List ℕ) (instance : Standing) (word : Option ℕ) (back : Option (List Connection)) (later : Option (List Connection)) (before now : Option (List ℕ)) (fault : ServeFault) → IsLineFault fault → ServesOne time n s coming after left line → IsServer instance word back after → later ≡ Some left → AppendsSome before now line → OneServed time n s coming instance word back later before now (Err fault)
  stopped n s after coming left line instance word back later before now faults.DoorFault bad serves at left_is wrote = absurd bad
  stopped n s after coming left line instance word back later before now faults.WriteFault ok serves at left_is wrote = (after, left, line, serves, at, left_is, wrote)
  stopped n s after coming left line instance word back later before now faults.OutOfMemory ok serves at left_is wrote = (after, left, line, serves, at, left_is, wrote)

  -- ---- all connections

  module _ (n : ℕ) (s mid : Server) (coming others : List Connection) (front : List ℕ) (so_far : Serves time n s coming mid others front) (told : All IsTold others) (w0 w1 w2 : Option (List ℕ)) (wrote : Appends w0 w1 front) (instance : Standing) (word : Option ℕ) (back later : Option (List Connection)) where
    pub served_more : (found : Result Bool ServeFault) → found ≡ Ok true → OneServed time n mid others instance word back later w1 w2 found → (after : Server) × (left : List Connection) × (lines : List ℕ) × Serves time (n + 1) s coming after left lines × IsServer instance word back after × (later ≡ Some left) × All IsTold left × Appends w0 w2 lines
    served_more found is one0 =
        let one = rw is at one0 in (
          one.0,
          one.1,
          front ++ one.2,
          subst (λ k. Serves time k s coming one.0 one.1 (front ++ one.2)) (sym (add-one n)) (mid, others, front, one.2, so_far, one.3, refl),
          one.4,
          one.5,
          All-tail IsTold one.3.first one.1 (rw one.3.came at told),
          appends_more w0 w1 w2 front one.2 wrote one.6,
        )

    pub served_out : {U : Type 0} (count : ℕ) (u : U) (found : Result Bool ServeFault) → n ≤ count → found ≡ Ok false → OneServed time n mid others instance word back later w1 w2 found → Served time count s coming instance word back later w0 w2 (Ok u)
    served_out count u found few is one0 =
        let one = rw is at one0 in
        (n, mid, others, front, few, so_far, one.0, one.2, rw one.3 wrote, inr one.1)

    broken : (after : Server) (left : List Connection) (line : List ℕ) → ServesOne time n mid others after left line → AppendsSome w1 w2 line → Serves time (n + 1) s coming after left (front ++ line) × AppendsSome w0 w2 (front ++ line)
    broken after left line one some =
        let cut : take (length front + some.0) (front ++ line) ≡ front ++ take some.0 line = taken front line some.0 in (
          subst (λ k. Serves time k s coming after left (front ++ line)) (sym (add-one n)) (mid, others, front, line, so_far, one, refl),
          (length front + some.0, rw cut (appends_more w0 w1 w2 front (take some.0 line) wrote some.1)),
        )

    pub served_until : (U : Type 0) (count : ℕ) (fault : ServeFault) (found : Result Bool ServeFault) → n < count → found ≡ Err fault → OneServed time n mid others instance word back later w1 w2 found → Served {U = U} time count s coming instance word back later w0 w2 (Err fault)
    served_until U count faults.DoorFault found lt is one0 =
        let one = rw is at one0 in
        (n, mid, others, front, omega (arith, lt), so_far, one.0, one.1, rw one.2 wrote)
    served_until U count faults.WriteFault found lt is one0 =
        let one = rw is at one0 in
        let half = broken one.0 one.1 one.2 one.3 one.6 in
        (n + 1, one.0, one.1, front ++ one.2, omega (arith, lt), half.0, one.4, one.5, half.1)
    served_until U count faults.OutOfMemory found lt is one0 =
        let one = rw is at one0 in
        let half = broken one.0 one.1 one.2 one.3 one.6 in
        (n + 1, one.0, one.1, front ++ one.2, omega (arith, lt), half.0, one.4, one.5, half.1)
