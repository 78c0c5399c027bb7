-- Lists that are reported before and after, and what they grow by.
use Rattle.std.proofs.Common.{List, [], append-nil, Option, None, Some, sym}
use Rattle.misp_dialogue.specs.Parties.{GrowsBy}

pub grows_so : {A : Type 0} (a b : Option (List A)) (P Q : List A → Type 0) → ((x : List A) → P x → Q x) → GrowsBy a b P → GrowsBy a b Q
grows_so None b P Q h p = tt
grows_so (Some a) None P Q h p = absurd p
grows_so (Some a) (Some b) P Q h p = (p.0, p.1, h p.0 p.2)

-- nothing is added
pub grows_none : {A : Type 0} (a : Option (List A)) (P : List A → Type 0) → P [] → GrowsBy a a P
grows_none None P p = tt
grows_none (Some a) P p = ([], sym (append-nil a), p)
