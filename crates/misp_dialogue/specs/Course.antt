-- What a dialogue comes to where it is known what its two parties hold.
use Rattle.std.specs.Prelude.{◌≡◌, ◌⊎◌, ℕ, zero, suc, Some, Result, Ok, Err}
use Rattle.misp_dialogue.specs.Conversed.{ended}
use Rattle.misp_dialogue.specs.Dialogue.{Dialogue, Over, Ask}
use Rattle.misp_dialogue.specs.Parties.{Conduct, PartyState}
use Rattle.misp_dialogue.specs.declared.ending.Ending.{Ending}
use Rattle.misp_dialogue.specs.declared.side.Side.{Side}

-- where a dialogue is, and what its parties hold there
pub record Course (HA HB Q R N C : Type 0) : Type 0 where
  pub rest : Dialogue Q R N C
  pub source : HA
  pub sink : HB

abbrev pub course : {HA HB Q R N C : Type 0} → Dialogue Q R N C → HA → HB → Course HA HB Q R N C
course d s t = record { rest = d; source = s; sink = t }

-- after the answer of the source, or of the sink: a refusal ends it
abbrev pub by_source : {HA HB Q R N C : Type 0} → N → (R → Dialogue Q R N C) → HA → HB
    → Result (R × HA) C → Course HA HB Q R N C
by_source n more s t (Ok x) = course (more x.0) x.1 t
by_source n more s t (Err cause) = course (Over n (Some cause)) s t

abbrev pub by_sink : {HA HB Q R N C : Type 0} → N → (R → Dialogue Q R N C) → HA → HB
    → Result (R × HB) C → Course HA HB Q R N C
by_sink n more s t (Ok x) = course (more x.0) s x.1
by_sink n more s t (Err cause) = course (Over n (Some cause)) s t

module _ {HA HB Q R N C : Type 0} (ka : Conduct HA Q R C) (kb : Conduct HB Q R C) where
  -- after one request and its stated answer
  abbrev pub stepped : Dialogue Q R N C → HA → HB → Course HA HB Q R N C
  stepped (Over n why) s t = course (Over n why) s t
  stepped (Ask n Side.Source q more) s t = by_source n more s t (ka.answer s q)
  stepped (Ask n Side.Sink q more) s t = by_sink n more s t (kb.answer t q)

  abbrev pub step : Course HA HB Q R N C → Course HA HB Q R N C
  step c = stepped c.rest c.source c.sink

  -- after so many
  abbrev pub gone : ℕ → Course HA HB Q R N C → Course HA HB Q R N C
  gone zero c = c
  gone (suc k) c = gone k (step c)

-- where there is an answer, its reply is such a one
abbrev pub IsAnswerBy : {H R C : Type 0} → (R → Type 0) → Result (R × H) C → Type 0
IsAnswerBy P (Ok x) = P x.0
IsAnswerBy P (Err cause) = Unit {0}

module _ {HA HB Q R N C : Type 0} (ka : Conduct HA Q R C) (kb : Conduct HB Q R C) where
  -- the request that comes next is a value of its type, if one comes
  abbrev pub NextFits : Dialogue Q R N C → Type 0
  NextFits (Over n why) = Unit {0}
  NextFits (Ask n Side.Source q more) = ka.IsAskable q
  NextFits (Ask n Side.Sink q more) = kb.IsAskable q

  -- so is its stated reply, and what is held there
  abbrev pub ReplyFits : Dialogue Q R N C → HA → HB → Type 0
  ReplyFits (Over n why) s t = Unit {0}
  ReplyFits (Ask n Side.Source q more) s t =
      IsAnswerBy (λ r. ka.IsHeld s × ka.IsSound r) (ka.answer s q)
  ReplyFits (Ask n Side.Sink q more) s t =
      IsAnswerBy (λ r. kb.IsHeld t × kb.IsSound r) (kb.answer t q)

  -- and so are as many from here on
  abbrev pub Fits : ℕ → Course HA HB Q R N C → Type 0
  Fits zero c = Unit {0}
  Fits (suc k) c =
      (NextFits c.rest × ReplyFits c.rest c.source c.sink) × Fits k (step ka kb c)

-- a cause that may stop a request to a side, and one with which its reply may be lost
abbrev pub MayStop : {HA HB Q R C : Type 0} → Conduct HA Q R C → Conduct HB Q R C → Side → C
    → Type 0
MayStop ka kb Side.Source cause = ka.IsStop cause
MayStop ka kb Side.Sink cause = kb.IsStop cause

abbrev pub MayLose : {HA HB Q R C : Type 0} → Conduct HA Q R C → Conduct HB Q R C → Side → C
    → Type 0
MayLose ka kb Side.Source cause = ka.IsLoss cause
MayLose ka kb Side.Sink cause = kb.IsLoss cause

-- the two hold this
abbrev pub Hold : {HA HB : Type 0} → PartyState HA × PartyState HB → HA → HB → Type 0
Hold w s t = (w.0.held ≡ Some s) × (w.1.held ≡ Some t)

-- they hold what they hold there
abbrev pub HoldAt : {HA HB Q R N C : Type 0} → PartyState HA × PartyState HB
    → Course HA HB Q R N C → Type 0
HoldAt w c = Hold w c.source c.sink

-- it is over there; or the next request was stopped, and was not done or its reply is lost
abbrev pub EndsAt : {HA HB Q R N C : Type 0} → C → Conduct HA Q R C → Conduct HB Q R C
    → Dialogue Q R N C → HA → HB → PartyState HA × PartyState HB → Ending N C → Type 0
EndsAt memory ka kb (Over n why) s t new ending = (ending ≡ ended n why) × Hold new s t
EndsAt memory ka kb (Ask n side q more) s t new ending =
    (cause : _) × (ending ≡ Ending.Stopped n cause)
    × ((((cause ≡ memory) ⊎ MayStop ka kb side cause) × Hold new s t)
    ⊎ (MayLose ka kb side cause × NextFits ka kb (Ask n side q more)
    × HoldAt new (stepped ka kb (Ask n side q more) s t)))

-- After so many requests with their stated answers it ended.
pub record ByStates {HA HB Q R N C : Type 0} (memory : C) (ka : Conduct HA Q R C)
    (kb : Conduct HB Q R C) (d : Dialogue Q R N C) (s : HA) (t : HB)
    (new : PartyState HA × PartyState HB) (ending : Ending N C) : Type 0 where
  pub count : ℕ
  pub fits : Fits ka kb count (course d s t)
  pub ends : EndsAt memory ka kb (gone ka kb count (course d s t)).rest
      (gone ka kb count (course d s t)).source (gone ka kb count (course d s t)).sink new ending
