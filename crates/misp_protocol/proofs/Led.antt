-- What a leader counts.
use Rattle.std.proofs.Common.{◌≡◌, List, [], ◌∷◌, refl}
use Rattle.misp_ids.specs.declared.label.Direction.{Direction}
use Rattle.misp_dialogue.specs.Dialogue.{counted}
use Rattle.misp_protocol.specs.Leading.{led_by}
use Rattle.misp_model.specs.declared.package.PackageFields.{PackageFields as Package}
use Rattle.misp_protocol.specs.declared.count.Tally.{Tally}
use Rattle.misp_protocol.specs.declared.leader.Stage.{Stage}
use Rattle.misp_protocol.specs.declared.part_keys.PartKeysFields.{PartKeysFields as PartKeys}

pub counted_led : (d : Direction) (ks : List PartKeys) (ps : List Package) (n : Tally) (stage : Stage)
    → counted (led_by d ks ps n stage) ≡ n
counted_led d ks ps n Stage.Groups = refl
counted_led d ks ps n Stage.AwaitsGroups = refl
counted_led d ks ps n (Stage.TakesGroups groups) = refl
counted_led d ks ps n (Stage.AwaitsGroupsTaken most) = refl
counted_led d ks ps n Stage.Lists = refl
counted_led d ks ps n Stage.AwaitsList = refl
counted_led Direction.Pull [] ps n Stage.Next = refl
counted_led Direction.Pull (k ∷ ks) ps n Stage.Next = refl
counted_led Direction.Push ks [] n Stage.Next = refl
counted_led Direction.Push ks (p ∷ ps) n Stage.Next = refl
counted_led d ks ps n Stage.AwaitsWanted = refl
counted_led d ks ps n (Stage.Fetches wanted) = refl
counted_led d ks ps n Stage.AwaitsPart = refl
counted_led d ks ps n (Stage.Takes p) = refl
counted_led d ks ps n (Stage.AwaitsTaken event most) = refl
counted_led d ks ps n (Stage.Over cause) = refl
