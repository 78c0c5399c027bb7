-- What a text asks of whom, and by which causes it ends itself.
use Rattle.std.specs.Prelude.{◌≡◌, List, [], ◌∷◌, Option, None, Some}
use Rattle.misp_ids.specs.declared.label.Direction.{Direction}
use Rattle.misp_manifest.specs.declared.wanted.WantedFields.{WantedFields as Wanted}
use Rattle.misp_dialogue.specs.Dialogue.{Over, Ask}
use Rattle.misp_dialogue.specs.declared.side.Side.{Side}
use Rattle.misp_model.specs.declared.package.PackageFields.{PackageFields as Package}
use Rattle.misp_protocol.specs.Text.{Text}
use Rattle.misp_protocol.specs.declared.cause.Cause.{Cause}
use Rattle.misp_protocol.specs.declared.part_keys.PartKeysFields.{PartKeysFields as PartKeys}
use Rattle.misp_protocol.specs.declared.request.Answer.{Answer}
use Rattle.misp_protocol.specs.declared.request.Request.{Request}

-- ---- causes

-- a reply had not the form of what was asked
abbrev pub IsGarbled : Cause → Type 0
IsGarbled Cause.NoLink = ⊥
IsGarbled Cause.LinkOff = ⊥
IsGarbled Cause.NoPeer = ⊥
IsGarbled (Cause.Refused status rule) = ⊥
IsGarbled (Cause.Garbled kind) = Unit {0}
IsGarbled Cause.Link = ⊥
IsGarbled Cause.Keeper = ⊥
IsGarbled Cause.NoMemory = ⊥
IsGarbled (Cause.BadRow name) = ⊥

-- ---- whom it asks what

-- whatever is replied, only such requests are made of a side
abbrev pub AsksOnly : (Side → Request → Type 0) → Text → Type 0
AsksOnly P (Over n why) = Unit {0}
AsksOnly P (Ask n side request more) =
    P side request × ((answer : Answer) → AsksOnly P (more answer))

-- the source of a pull says what passes, and the sink takes it and says what of it is wanted
abbrev pub IsAskedOfPull : Side → Request → Type 0
IsAskedOfPull Side.Source Request.Groups = Unit {0}
IsAskedOfPull Side.Source Request.Manifest = Unit {0}
IsAskedOfPull Side.Source (Request.Rows wanted) = Unit {0}
IsAskedOfPull Side.Sink (Request.TakeGroups groups) = Unit {0}
IsAskedOfPull Side.Sink (Request.Missing part) = Unit {0}
IsAskedOfPull Side.Sink (Request.TakePart p) = Unit {0}
IsAskedOfPull side other = ⊥

-- the source of a push says what passes, and the sink takes it
abbrev pub IsAskedOfPush : Side → Request → Type 0
IsAskedOfPush Side.Source Request.Groups = Unit {0}
IsAskedOfPush Side.Source Request.Packages = Unit {0}
IsAskedOfPush Side.Sink (Request.TakeGroups groups) = Unit {0}
IsAskedOfPush Side.Sink (Request.TakePart p) = Unit {0}
IsAskedOfPush side other = ⊥

abbrev pub IsAskedOf : Direction → Side → Request → Type 0
IsAskedOf Direction.Pull = IsAskedOfPull
IsAskedOf Direction.Push = IsAskedOfPush

-- ---- what is wanted is asked for

-- rows are wanted by the answer to this request: by that to `Missing` alone
abbrev pub wanted_by : Request → Answer → Option Wanted
wanted_by (Request.Missing part) (Answer.Wanted wanted) = wanted
wanted_by request answer = None

-- This request is made where these rows are wanted: it asks for them, and where none are wanted it
-- asks for no rows.
abbrev pub IsAskWhere : Option Wanted → Request → Type 0
IsAskWhere None (Request.Rows asked) = ⊥
IsAskWhere None request = Unit {0}
IsAskWhere (Some wanted) (Request.Rows asked) = asked ≡ wanted
IsAskWhere (Some wanted) request = ⊥

-- Wherever rows of a part are wanted, the next request is for them; and rows are asked for nowhere
-- else. These are wanted at the beginning.
abbrev pub AsksAsWanted : Option Wanted → Text → Type 0
AsksAsWanted wanted (Over n why) = wanted ≡ None
AsksAsWanted wanted (Ask n side request more) =
    IsAskWhere wanted request
    × ((answer : Answer) → AsksAsWanted (wanted_by request answer) (more answer))

-- ---- nothing that is listed is left out

-- which parts are still to be asked about after a request: those that a manifest lists, without the
-- first of them after each question
abbrev pub parts_left : Request → Answer → List PartKeys → List PartKeys
parts_left Request.Manifest (Answer.Manifest parts) before = parts
parts_left (Request.Missing part) answer (k ∷ ks) = ks
parts_left request answer ks = ks

-- a question about a part is one about the first of these
abbrev pub IsAboutFirst : Request → List PartKeys → Type 0
IsAboutFirst (Request.Missing part) [] = ⊥
IsAboutFirst (Request.Missing part) (k ∷ ks) = part ≡ k
IsAboutFirst request ks = Unit {0}

-- These parts are asked about, one by one and in their order, unless it ends by a cause. Where a
-- manifest comes, those are its parts.
abbrev pub AsksAboutEach : List PartKeys → Text → Type 0
AsksAboutEach ks (Over n None) = ks ≡ []
AsksAboutEach ks (Over n (Some cause)) = Unit {0}
AsksAboutEach ks (Ask n side request more) =
    IsAboutFirst request ks
    × ((answer : Answer) → AsksAboutEach (parts_left request answer ks) (more answer))

-- which packages are still to be handed in after a request
abbrev pub packages_left : Request → Answer → List Package → List Package
packages_left Request.Packages (Answer.Packages listed) before = listed
packages_left (Request.TakePart taken) answer (p ∷ ps) = ps
packages_left request answer ps = ps

-- a package that is handed in is the first of these
abbrev pub IsFirstHanded : Request → List Package → Type 0
IsFirstHanded (Request.TakePart taken) [] = ⊥
IsFirstHanded (Request.TakePart taken) (p ∷ ps) = taken ≡ p
IsFirstHanded request ps = Unit {0}

-- These packages are handed in, one by one and in their order, unless it ends by a cause. Where a
-- list of packages comes, those are its packages.
abbrev pub HandsInEach : List Package → Text → Type 0
HandsInEach ps (Over n None) = ps ≡ []
HandsInEach ps (Over n (Some cause)) = Unit {0}
HandsInEach ps (Ask n side request more) =
    IsFirstHanded request ps
    × ((answer : Answer) → HandsInEach (packages_left request answer ps) (more answer))
