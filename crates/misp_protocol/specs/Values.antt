-- What holds of requests and of answers as values of their types.
use Rattle.std.specs.Prelude.{◌<◌, ◌^◌, Option, None, Some}
use Rattle.misp_elem.specs.Prelude.{AllByRecursion}
use Rattle.misp_groups.specs.Group.{IsGroup}
use Rattle.misp_manifest.specs.Wanted.{IsWanted}
use Rattle.misp_manifest.specs.declared.wanted.WantedFields.{WantedFields}
use Rattle.misp_model.specs.Package.{IsPackage}
use Rattle.misp_protocol.specs.Parts.{IsListed, IsPartKeys}
use Rattle.misp_protocol.specs.declared.request.Answer.{Answer}
use Rattle.misp_protocol.specs.declared.request.Request.{Request}

abbrev pub IsAskable : Request → Type 0
IsAskable Request.Groups = Unit {0}
IsAskable Request.Manifest = Unit {0}
IsAskable (Request.Rows w) = IsWanted w
IsAskable Request.Packages = Unit {0}
IsAskable (Request.TakeGroups groups) = AllByRecursion IsGroup groups
IsAskable (Request.Missing part) = IsPartKeys part
IsAskable (Request.TakePart p) = IsPackage p

-- rows of a part are wanted, or none are
abbrev pub IsWantedOrNone : Option WantedFields → Type 0
IsWantedOrNone None = Unit {0}
IsWantedOrNone (Some w) = IsWanted w

abbrev pub IsSoundAnswer : Answer → Type 0
IsSoundAnswer (Answer.Groups groups) = AllByRecursion IsGroup groups
IsSoundAnswer (Answer.Manifest parts) = IsListed parts
IsSoundAnswer (Answer.Part p) = IsPackage p
IsSoundAnswer (Answer.Packages ps) = AllByRecursion IsPackage ps
IsSoundAnswer (Answer.Wanted w) = IsWantedOrNone w
IsSoundAnswer (Answer.Taken n) = n < 2 ^ 64
