-- What is asked of the two parties of a synchronisation for it to take batches.
use Rattle.std.specs.Prelude.{◌≡◌, ◌⊎◌, ◌≤◌, ℕ, List, [], ◌∷◌, ◌++◌, length, Option, None, Some, Ok, Err}
use Rattle.misp_dialogue.specs.Parties.{Conduct}
use Rattle.misp_dialogue.specs.Taking.{Batching}
use Rattle.misp_protocol.specs.Counts.{IsTally, with_groups, with_taken}
use Rattle.misp_protocol.specs.declared.cause.Cause.{Cause}
use Rattle.misp_protocol.specs.declared.request.Answer.{Answer}
use Rattle.misp_protocol.specs.declared.request.Request.{Request}
use Rattle.misp_groups.specs.declared.group.GroupFields.{GroupFields as Group}
use Rattle.misp_model.specs.declared.package.PackageFields.{PackageFields as Package}
use Rattle.misp_protocol.specs.declared.part_keys.PartKeysFields.{PartKeysFields as PartKeys}
use Rattle.misp_protocol.specs.declared.count.Tally.{Tally}
use Rattle.misp_manifest.specs.declared.wanted.WantedFields.{WantedFields as Wanted}

-- the sink takes so many of a package, in no batch or in one
pub record IsTaken {HB B : Type 0} (kb : Conduct HB Request Answer Cause) (b : Batching HB Tally B)
    (t : HB) (p : Package) (count : ℕ) (done : List B) (next : HB) : Type 0 where
  pub answer : kb.answer t (Request.TakePart p) ≡ Ok (Answer.Taken count, next)
  pub few : count ≤ length p.rows
  pub batches : ((done ≡ []) × (next ≡ t) × ((n : Tally) → with_taken n p.event count ≡ n))
      ⊎ ((one : B) × (done ≡ one ∷ []) × (next ≡ b.put one t)
      × (kb.IsAskable (Request.TakePart p) → b.IsBatch one
      × ((n : Tally) → IsTally n → with_taken n p.event count ≡ b.tally n one)))

-- each of these packages is taken so, one after another; or the sink refuses one
abbrev pub AllTaken : {HB B : Type 0} → Conduct HB Request Answer Cause → Batching HB Tally B → HB
    → List Package → List B → Option Cause → Type 0
AllTaken kb b t [] done why = (done ≡ []) × (why ≡ None)
AllTaken {B = B} kb b t (p ∷ ps) done why =
    ((cause : Cause) × (kb.answer t (Request.TakePart p) ≡ Err cause) × (done ≡ [])
    × (why ≡ Some cause))
    ⊎ ((count : ℕ) × (first : List B) × (later : List B) × (next : _)
    × IsTaken kb b t p count first next × (done ≡ first ++ later)
    × (kb.IsAskable (Request.TakePart p) → AllTaken kb b next ps later why))

-- the source lists packages, which are taken so; or it refuses
abbrev pub PackagesCome : {HA HB B : Type 0} → Conduct HA Request Answer Cause
    → Conduct HB Request Answer Cause → Batching HB Tally B → HA → HB → List B → Option Cause
    → Type 0
PackagesCome ka kb b s t done why =
    ((cause : Cause) × (ka.answer s Request.Packages ≡ Err cause) × (done ≡ [])
    × (why ≡ Some cause))
    ⊎ ((ps : List Package) × (ka.answer s Request.Packages ≡ Ok (Answer.Packages ps, s))
    × (ka.IsSound (Answer.Packages ps) → AllTaken kb b t ps done why))

-- Of each of these parts nothing is wanted, or rows are, which the source has and the sink takes,
-- one part after another; or the sink refuses at one.
abbrev pub PartsCome : {HA HB B : Type 0} → Conduct HA Request Answer Cause
    → Conduct HB Request Answer Cause → Batching HB Tally B → HA → HB → List PartKeys → List B
    → Option Cause → Type 0
PartsCome ka kb b s t [] done why = (done ≡ []) × (why ≡ None)
PartsCome {B = B} ka kb b s t (k ∷ ks) done why =
    ((cause : Cause) × (kb.answer t (Request.Missing k) ≡ Err cause) × (done ≡ [])
    × (why ≡ Some cause))
    ⊎ ((kb.answer t (Request.Missing k) ≡ Ok (Answer.Wanted None, t))
    × PartsCome ka kb b s t ks done why)
    ⊎ ((w : Wanted) × (p : Package) × (count : ℕ) × (first : List B) × (later : List B)
    × (next : _) × (kb.answer t (Request.Missing k) ≡ Ok (Answer.Wanted (Some w), t))
    × (ka.answer s (Request.Rows w) ≡ Ok (Answer.Part p, s))
    × IsTaken kb b t p count first next × (done ≡ first ++ later)
    × (kb.IsAskable (Request.TakePart p) → PartsCome ka kb b s next ks later why))

-- ---- groups, and what comes after them

-- the source has these groups, and the sink takes so many of them in one batch
pub record GroupsCome {HA HB B : Type 0} (ka : Conduct HA Request Answer Cause)
    (kb : Conduct HB Request Answer Cause) (b : Batching HB Tally B) (s : HA) (t : HB) (n : Tally)
    (gs : List Group) (groups : B) : Type 0 where
  pub count : ℕ
  pub passes : ka.answer s Request.Groups ≡ Ok (Answer.Groups gs, s)
  pub taken :
      kb.answer t (Request.TakeGroups gs) ≡ Ok (Answer.Taken count, b.put groups t)
  pub few : count ≤ length gs
  pub fits : kb.IsAskable (Request.TakeGroups gs) → b.IsBatch groups
  pub counts : with_groups n count ≡ b.tally n groups

-- after these groups, the packages that the source lists come so
pub record PushComes {HA HB B : Type 0} (ka : Conduct HA Request Answer Cause)
    (kb : Conduct HB Request Answer Cause) (b : Batching HB Tally B) (s : HA) (t : HB) (n : Tally)
    (groups : B) (done : List B) (why : Option Cause) : Type 0 where
  pub gs : List Group
  pub first : GroupsCome ka kb b s t n gs groups
  pub come : kb.IsHeld t → kb.IsAskable (Request.TakeGroups gs)
      → PackagesCome ka kb b s (b.put groups t) done why
