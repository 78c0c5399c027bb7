-- The dialogue that a leader still has to hold.
use Rattle.std.specs.Prelude.{ℕ, ◌+◌, ◌*◌, ◌^◌, List, length, None}
use Rattle.misp_ids.specs.declared.label.Direction.{Direction}
use Rattle.misp_dialogue.specs.Dialogue.{Over, Ask}
use Rattle.misp_dialogue.specs.declared.side.Side.TheVariants.{Source}
use Rattle.misp_model.specs.declared.package.PackageFields.{PackageFields as Package}
use Rattle.misp_protocol.specs.Text.{Text, asking, counting, grouped, handing, lacking, listed, listing, packed, synchronising, taking, taking_groups, through}
use Rattle.misp_protocol.specs.declared.count.Tally.{Tally}
use Rattle.misp_protocol.specs.declared.leader.Stage.{Stage}
use Rattle.misp_protocol.specs.declared.leader.SyncLeader.{SyncLeader}
use Rattle.misp_protocol.specs.declared.part_keys.PartKeysFields.{PartKeysFields as PartKeys}
use Rattle.misp_protocol.specs.declared.request.Answer.{Answer}
use Rattle.misp_protocol.specs.declared.request.Request.{Request}

-- what comes after the part or the package at hand
abbrev pub rest_of : Direction → List PartKeys → List Package → Tally → Text
rest_of Direction.Pull parts packages = through parts
rest_of Direction.Push parts packages = handing packages

-- what is still to be asked at a stage, where no reply is awaited
abbrev pub led_by : Direction → List PartKeys → List Package → Tally → Stage → Text
led_by d ks ps n Stage.Groups = synchronising d n
led_by d ks ps n (Stage.TakesGroups groups) = taking_groups d n groups
led_by d ks ps n Stage.Lists = listing d n
led_by d ks ps n Stage.Next = rest_of d ks ps n
led_by d ks ps n (Stage.Fetches wanted) =
    Ask n Source (Request.Rows wanted) (packed n (rest_of d ks ps))
led_by d ks ps n (Stage.Takes p) = taking n p (rest_of d ks ps)
led_by d ks ps n (Stage.Over cause) = Over n cause
led_by d ks ps n waits = Over n None

-- how it goes on by the reply that is awaited there
abbrev pub awaited_by : Direction → List PartKeys → List Package → Tally → Stage → Answer → Text
awaited_by d ks ps n Stage.AwaitsGroups = asking d n
awaited_by d ks ps n (Stage.AwaitsGroupsTaken most) = grouped d n most
awaited_by d ks ps n Stage.AwaitsList = listed d n
awaited_by d ks ps n Stage.AwaitsWanted = lacking n (rest_of d ks ps)
awaited_by d ks ps n Stage.AwaitsPart = packed n (rest_of d ks ps)
awaited_by d ks ps n (Stage.AwaitsTaken event most) = counting n event most (rest_of d ks ps)
awaited_by d ks ps n asks = λ answer. led_by d ks ps n asks

-- if it is at a stage
abbrev pub led_at : SyncLeader → Stage → Text
led_at l stage = led_by l.direction l.parts.items l.packages.items l.tally stage

abbrev pub awaited_at : SyncLeader → Stage → Answer → Text
awaited_at l stage = awaited_by l.direction l.parts.items l.packages.items l.tally stage

-- what a leader still has to ask, and how it goes on by the reply that it awaits
abbrev pub led : SyncLeader → Text
led l = led_at l l.stage

abbrev pub awaited : SyncLeader → Answer → Text
awaited l = awaited_at l l.stage

-- no more requests than this are still to come, with so many parts or packages
abbrev pub left_by : ℕ → Stage → ℕ
left_by k Stage.Groups = 2 ^ 70
left_by k Stage.AwaitsGroups = 2 ^ 69
left_by k (Stage.TakesGroups groups) = 2 ^ 69
left_by k (Stage.AwaitsGroupsTaken most) = 2 ^ 68
left_by k Stage.Lists = 2 ^ 68
left_by k Stage.AwaitsList = 2 ^ 67
left_by k Stage.Next = 4 * k
left_by k Stage.AwaitsWanted = 4 * k + 3
left_by k (Stage.Fetches wanted) = 4 * k + 2
left_by k Stage.AwaitsPart = 4 * k + 1
left_by k (Stage.Takes p) = 4 * k + 1
left_by k (Stage.AwaitsTaken event most) = 4 * k
left_by k (Stage.Over cause) = 0

abbrev pub left_at : SyncLeader → Stage → ℕ
left_at l stage = left_by (length l.parts.items + length l.packages.items) stage

abbrev pub left_of : SyncLeader → ℕ
left_of l = left_at l l.stage
