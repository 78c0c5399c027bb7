-- What is refused by its form, over every keeper.
use Rattle.std.specs.Prelude.{◌≡◌, ◌⊎◌, Ok, Err}
use Rattle.misp_ids.specs.declared.refusal.Refusal.{Refusal}
use Rattle.misp_api.specs.Prelude.{Reading, Reply, RuleName, Standing, by_keeper, refused_by, stop_in}

-- it is refused just so, unless memory ran out; it tells no fault of the keeper, and the instance
-- stands as it stood, with what the keeper holds and its count of faults
pub record IsTurnedAway (refusal : Refusal) (old new : Standing) (reply : Reply) : Type 0 where
  pub just : (reply ≡ Reply.Refused refusal) ⊎ (reply ≡ refused_by RuleName.NoMemory)
  pub no_fault : stop_in reply ≡ by_keeper → ⊥
  pub still : new ≡ old

-- what the reading refuses is refused just so, and the instance stands as it stood
abbrev pub TurnsAway : {A : Type 0} → Reading A → Standing → Standing → Reply → Type 0
TurnsAway (Ok x) old new reply = Unit {0}
TurnsAway (Err refusal) old new reply = IsTurnedAway refusal old new reply
