-- What a sink takes of a dialogue: batches, one after another.
use Rattle.std.specs.Prelude.{◌≡◌, ◌⊎◌, ℕ, List, [], ◌∷◌, ◌++◌, Option, Some}
use Rattle.std.specs.List.{AllByRecursion}
use Rattle.misp_dialogue.specs.Conversed.{ended}
use Rattle.misp_dialogue.specs.Course.{Course, Fits, NextFits, MayLose, MayStop, course, gone, step}
use Rattle.misp_dialogue.specs.Dialogue.{Dialogue, IsOver, counted}
use Rattle.misp_dialogue.specs.Parties.{Conduct, PartyState}
use Rattle.misp_dialogue.specs.declared.ending.Ending.{Ending}
use Rattle.misp_dialogue.specs.declared.side.Side.{Side}

-- how a batch is put and how it is counted, and what holds of each that is put
pub record Batching (H N B : Type 0) : Type 1 where
  pub put : B → H → H
  pub tally : N → B → N
  pub IsBatch : B → Type 0

module _ {H N B : Type 0} (b : Batching H N B) where
  -- what is held with these put
  abbrev pub put_all : List B → H → H
  put_all [] held = held
  put_all (x ∷ xs) held = put_all xs (b.put x held)

  -- what is counted with these
  abbrev pub tally_all : N → List B → N
  tally_all n [] = n
  tally_all n (x ∷ xs) = tally_all (b.tally n x) xs

  -- the first of these batches is put
  pub record OneMore (old : H) (later : List B) (new : H) : Type 0 where
    pub one : B
    pub rest : List B
    pub later_is : later ≡ one ∷ rest
    pub new_is : new ≡ b.put one old
    pub fits : b.IsBatch one

module _ {HA HB Q R N C B : Type 0} (ka : Conduct HA Q R C) (kb : Conduct HB Q R C)
    (b : Batching HB N B) where
  -- Of these batches the first are put and counted, and all where it is over, which this ended if
  -- anything did. The next request has one put or none.
  pub record At (s : HA) (t : HB) (n : N) (all : List B) (why : Option C)
      (c : Course HA HB Q R N C) : Type 0 where
    pub first : List B
    pub later : List B
    pub all_is : all ≡ first ++ later
    pub fits : AllByRecursion b.IsBatch first
    pub source : c.source ≡ s
    pub sink : c.sink ≡ put_all b first t
    pub count : counted c.rest ≡ tally_all b n first
    pub whole : (end : Option C) → IsOver c.rest end → (later ≡ []) × (end ≡ why)
    pub next_source : (step ka kb c).source ≡ s
    pub next_sink : NextFits ka kb c.rest
        → ((step ka kb c).sink ≡ c.sink) ⊎ OneMore b c.sink later (step ka kb c).sink

  -- and so wherever the dialogue is
  abbrev pub Takes : Dialogue Q R N C → HA → HB → N → List B → Option C → Type 0
  Takes d s t n all why =
      (k : ℕ) → Fits ka kb k (course d s t) → At s t n all why (gone ka kb k (course d s t))

-- All was taken, and it ended as it was to end. Or it was stopped after the first batches; or after
-- one more, which is not counted, for the reply to it is lost.
abbrev pub EndsAfter : {HA HB Q R N C B : Type 0} → C → Conduct HA Q R C → Conduct HB Q R C
    → Batching HB N B → HB → N → List B → List B → Option C → Option HB → Ending N C → Type 0
EndsAfter memory ka kb b t n first later why new ending =
    ((later ≡ []) × (ending ≡ ended (tally_all b n first) why) × (new ≡ Some (put_all b first t)))
    ⊎ ((cause : _) × (ending ≡ Ending.Stopped (tally_all b n first) cause)
    × ((((cause ≡ memory) ⊎ MayStop ka kb Side.Source cause ⊎ MayStop ka kb Side.Sink cause
    ⊎ MayLose ka kb Side.Source cause) × (new ≡ Some (put_all b first t)))
    ⊎ (MayLose ka kb Side.Sink cause × ((held : _) × (new ≡ Some held)
    × ((held ≡ put_all b first t) ⊎ OneMore b (put_all b first t) later held)))))

-- the first of these batches were taken
pub record TookFirst {HA HB Q R N C B : Type 0} (memory : C) (ka : Conduct HA Q R C)
    (kb : Conduct HB Q R C) (b : Batching HB N B) (s : HA) (t : HB) (n : N) (all : List B)
    (why : Option C) (new : PartyState HA × PartyState HB) (ending : Ending N C) : Type 0 where
  pub first : List B
  pub later : List B
  pub all_is : all ≡ first ++ later
  pub fits : AllByRecursion b.IsBatch first
  pub source : new.0.held ≡ Some s
  pub ends : EndsAfter memory ka kb b t n first later why new.1.held ending
