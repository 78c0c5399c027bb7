-- Replies that are read back from their texts.
use Rattle.std.specs.Prelude.{◌≡◌, ◌^◌, ◌-◌, Bool, true, List}
use Rattle.std.specs.List.{AllByRecursion}
use Rattle.std.specs.List.Sorted.{IsStrictlySortedBy}
use Rattle.std.specs.Str.{is_utf8}
use Rattle.misp_ids.specs.Uid.{IsUid}
use Rattle.misp_lists.specs.Prelude.{Ordering, nat_cmp}
use Rattle.misp_elem.specs.Fields.{IsBetween}
use Rattle.misp_groups.specs.Group.{IsGroup}
use Rattle.misp_model.specs.Machine.{pulls}
use Rattle.misp_model.specs.Package.{IsPackage}
use Rattle.misp_model.specs.declared.ask.Ask.{Ask}
use Rattle.misp_wanted.specs.Manifests.{IsManifest}
use Rattle.misp_core.specs.declared.reply.Answer.{Answer}
use Rattle.misp_core.specs.declared.reply.EventParts.{EventParts}
use Rattle.misp_core.specs.declared.reply.Reply.{Reply}

-- whether it is what a synchronisation asks: what a pull asks, or that a package is taken
abbrev pub syncs : Ask → Bool
syncs (Ask.TakePart p) = true
syncs ask = pulls ask

-- by the number that the identifier of the event is
abbrev pub by_event : EventParts → EventParts → Ordering
by_event a b = nat_cmp a.event.0.0 b.event.0.0

-- an event has one package at least, and as many as four bytes count
pub record IsListed (e : EventParts) : Type 0 where
  pub event : IsUid e.event.0
  pub parts : IsBetween 1 (2 ^ 32 - 1) e.parts

-- each event stands once, in the order of the identifiers
pub record AreListed (events : List EventParts) : Type 0 where
  pub each : AllByRecursion IsListed events
  pub ascend : IsStrictlySortedBy by_event events

-- its groups are groups, its package is one, its events are listed so, and its manifest is one
abbrev pub IsSoundAnswer : Answer → Type 0
IsSoundAnswer (Answer.Groups groups) = AllByRecursion IsGroup groups
IsSoundAnswer (Answer.Parts events) = AreListed events
IsSoundAnswer (Answer.Part part) = IsPackage part
IsSoundAnswer (Answer.Manifest events) = IsManifest events
IsSoundAnswer answer = Unit {0}

abbrev pub IsSound : Reply → Type 0
IsSound (Reply.Ok answer) = IsSoundAnswer answer
IsSound (Reply.Refused refusal) = Unit {0}

-- what a refusal says of its place is text
abbrev pub IsWorded : Reply → Type 0
IsWorded (Reply.Ok answer) = Unit {0}
IsWorded (Reply.Refused refusal) = is_utf8 refusal.place ≡ true
