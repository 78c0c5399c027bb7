-- The dialogues of a pull and of a push.
use Rattle.std.specs.Prelude.{ℕ, nat_le, List, [], ◌∷◌, length, Option, None, Some, if◌then◌else◌}
use Rattle.misp_ids.specs.declared.label.Direction.{Direction}
use Rattle.misp_dialogue.specs.Dialogue.{Dialogue, Over, Ask}
use Rattle.misp_dialogue.specs.declared.side.Side.TheVariants.{Source, Sink}
use Rattle.misp_elem.specs.Prelude.{EventId}
use Rattle.misp_groups.specs.declared.group.GroupFields.{GroupFields as Group}
use Rattle.misp_manifest.specs.declared.wanted.WantedFields.{WantedFields as Wanted}
use Rattle.misp_model.specs.declared.package.PackageFields.{PackageFields as Package}
use Rattle.misp_protocol.specs.Counts.{with_groups, with_taken}
use Rattle.misp_protocol.specs.declared.cause.Body.{Body}
use Rattle.misp_protocol.specs.declared.cause.Cause.{Cause}
use Rattle.misp_protocol.specs.declared.count.Tally.{Tally}
use Rattle.misp_protocol.specs.declared.part_keys.PartKeysFields.{PartKeysFields as PartKeys}
use Rattle.misp_protocol.specs.declared.request.Answer.{Answer}
use Rattle.misp_protocol.specs.declared.request.Request.{Request}

abbrev pub Text : Type 0
Text = Dialogue Request Answer Tally Cause

-- ---- what is read of an answer

abbrev pub groups_in : Answer → Option (List Group)
groups_in (Answer.Groups groups) = Some groups
groups_in answer = None

abbrev pub manifest_in : Answer → Option (List PartKeys)
manifest_in (Answer.Manifest parts) = Some parts
manifest_in answer = None

abbrev pub part_in : Answer → Option Package
part_in (Answer.Part p) = Some p
part_in answer = None

abbrev pub packages_in : Answer → Option (List Package)
packages_in (Answer.Packages ps) = Some ps
packages_in answer = None

abbrev pub wanted_in : Answer → Option (Option Wanted)
wanted_in (Answer.Wanted w) = Some w
wanted_in answer = None

-- of at most so many
abbrev pub taken_in : ℕ → Answer → Option ℕ
taken_in most (Answer.Taken n) = if nat_le n most then Some n else None
taken_in most answer = None

-- it goes on with what is read of an answer, or ends where nothing is
abbrev pub reads : {A : Type 0} → Tally → Body → Option A → (A → Text) → Text
reads n kind None more = Over n (Some (Cause.Garbled kind))
reads n kind (Some x) more = more x

-- ---- parts

-- the package is taken, and counted
abbrev pub counting : Tally → EventId → ℕ → (Tally → Text) → Answer → Text
counting n event most more answer =
    reads n Body.Taken (taken_in most answer) (λ k. more (with_taken n event k))

abbrev pub taking : Tally → Package → (Tally → Text) → Text
taking n p more =
    Ask n Sink (Request.TakePart p) (counting n p.event (length p.rows) more)

-- these rows of a package are asked for, and taken, where any are wanted
abbrev pub packed : Tally → (Tally → Text) → Answer → Text
packed n more answer = reads n Body.Package (part_in answer) (λ p. taking n p more)

abbrev pub fetching : Tally → Option Wanted → (Tally → Text) → Text
fetching n None more = more n
fetching n (Some w) more = Ask n Source (Request.Rows w) (packed n more)

-- of what a manifest says of a package what is wanted is asked for
abbrev pub lacking : Tally → (Tally → Text) → Answer → Text
lacking n more answer = reads n Body.Body (wanted_in answer) (λ w. fetching n w more)

-- ---- each part, or each package, one after another

abbrev pub through : List PartKeys → Tally → Text
through [] n = Over n None
through (k ∷ ks) n = Ask n Sink (Request.Missing k) (lacking n (through ks))

abbrev pub handing : List Package → Tally → Text
handing [] n = Over n None
handing (p ∷ ps) n = taking n p (handing ps)

-- ---- the two

-- what is asked of the source after the groups, and how it goes on
abbrev pub list_request : Direction → Request
list_request Direction.Pull = Request.Manifest
list_request Direction.Push = Request.Packages

abbrev pub listed : Direction → Tally → Answer → Text
listed Direction.Pull n answer = reads n Body.Manifest (manifest_in answer) (λ ks. through ks n)
listed Direction.Push n answer = reads n Body.Package (packages_in answer) (λ ps. handing ps n)

abbrev pub listing : Direction → Tally → Text
listing direction n = Ask n Source (list_request direction) (listed direction n)

abbrev pub grouped : Direction → Tally → ℕ → Answer → Text
grouped direction n most answer =
    reads n Body.Taken (taken_in most answer) (λ k. listing direction (with_groups n k))

abbrev pub taking_groups : Direction → Tally → List Group → Text
taking_groups direction n groups =
    Ask n Sink (Request.TakeGroups groups) (grouped direction n (length groups))

abbrev pub asking : Direction → Tally → Answer → Text
asking direction n answer = reads n Body.Groups (groups_in answer) (taking_groups direction n)

-- a synchronisation in this direction: first the groups, and then the rows
abbrev pub synchronising : Direction → Tally → Text
synchronising direction n = Ask n Source Request.Groups (asking direction n)
