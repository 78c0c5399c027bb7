-- What a path is for, and the identifiers and the number that it ends with.
use Rattle.std.specs.Prelude.{ℕ, ◌+◌, ◌^◌, ◌==◌, ◌&&◌, Bool, false, not, nat_le, nat_lt, List, [], ◌∷◌, length, take, drop, position, codes, find, Option, Some, None, option_map, if◌then◌else◌}
use Rattle.std.specs.Char.{is_ascii_digit}
use Rattle.std.specs.List.{list_all}
use Rattle.std.specs.Option.{option_map_or}
use Rattle.std.specs.Str.Parse.{digits_value}
use Rattle.misp_ids.specs.Uid.{read_uid}
use Rattle.misp_groups.specs.Prelude.{Uid}
use Rattle.misp_api.specs.declared.path_kind.AdminRoute.{AdminRoute}
use Rattle.misp_api.specs.declared.path_kind.PathKind.{PathKind}
use Rattle.misp_api.specs.declared.path_ids.PathIds.{PathIds}
use Rattle.misp_api.specs.Pattern.{is_slash, fits_pattern}

-- ---- what a path is for

-- the patterns of paths, each with what it is for; a name in braces is an identifier, or the number
-- of a part
unfoldable pub paths : List (List ℕ × PathKind)
paths =
    (codes "/events/view/{event}", PathKind.ViewEvent)
    ∷ (codes "/events/view/{event}/{owner}", PathKind.ViewEvent)
    ∷ (codes "/events/index", PathKind.Index)
    ∷ (codes "/events/restSearch", PathKind.SearchEvents)
    ∷ (codes "/attributes/restSearch", PathKind.SearchAttributes)
    ∷ (codes "/events/add", PathKind.AddEvent)
    ∷ (codes "/events/edit/{event}", PathKind.EditEvent)
    ∷ (codes "/events/delete/{event}", PathKind.DeleteEvent)
    ∷ (codes "/events/publish/{event}", PathKind.Publish)
    ∷ (codes "/attributes/add/{event}", PathKind.AddAttributes)
    ∷ (codes "/attributes/add/{event}/{object}", PathKind.AddAttributes)
    ∷ (codes "/attributes/edit/{event}/{attribute}", PathKind.EditAttribute)
    ∷ (codes "/attributes/edit/{event}/{object}/{attribute}", PathKind.EditAttribute)
    ∷ (codes "/attributes/delete/{event}/{attribute}", PathKind.DeleteAttribute)
    ∷ (codes "/attributes/delete/{event}/{object}/{attribute}", PathKind.DeleteAttribute)
    ∷ (codes "/objects/add/{event}", PathKind.AddObject)
    ∷ (codes "/objects/edit/{event}/{object}", PathKind.EditObject)
    ∷ (codes "/objects/delete/{event}/{object}", PathKind.DeleteObject)
    ∷ (codes "/references/add/{event}/{object}", PathKind.AddReference)
    ∷ (codes "/references/delete/{event}/{object}/{reference}", PathKind.DeleteReference)
    ∷ (codes "/tags/attach/{event}", PathKind.Tag)
    ∷ (codes "/tags/attach/{event}/{attribute}", PathKind.Tag)
    ∷ (codes "/tags/attach/{event}/{object}/{attribute}", PathKind.Tag)
    ∷ (codes "/tags/remove/{event}", PathKind.Untag)
    ∷ (codes "/tags/remove/{event}/{attribute}", PathKind.Untag)
    ∷ (codes "/tags/remove/{event}/{object}/{attribute}", PathKind.Untag)
    ∷ (codes "/shadow_attributes/add/{event}", PathKind.Propose)
    ∷ (codes "/shadow_attributes/add/{event}/{attribute}", PathKind.Propose)
    ∷ (codes "/shadow_attributes/add/{event}/{object}/{attribute}", PathKind.Propose)
    ∷ (codes "/shadow_attributes/accept/{event}", PathKind.Accept)
    ∷ (codes "/shadow_attributes/discard/{event}", PathKind.Discard)
    ∷ (codes "/sightings/add/{event}/{attribute}", PathKind.Sight)
    ∷ (codes "/sightings/add/{event}/{object}/{attribute}", PathKind.Sight)
    ∷ (codes "/sharing_groups/index", PathKind.Groups)
    ∷ (codes "/sharing_groups/add", PathKind.AddGroup)
    ∷ (codes "/sharing_groups/edit", PathKind.EditGroup)
    ∷ (codes "/sync/groups", PathKind.SyncGroups)
    ∷ (codes "/sync/events", PathKind.SyncEvents)
    ∷ (codes "/sync/part/{event}/{part}", PathKind.SyncPart)
    ∷ (codes "/sync/manifest", PathKind.SyncManifest)
    ∷ (codes "/sync/rows", PathKind.SyncRows)
    ∷ (codes "/sync/part", PathKind.TakePart)
    ∷ (codes "/admin/organisations/add", PathKind.Admin AdminRoute.AddOrganisation)
    ∷ (codes "/admin/keys/add", PathKind.Admin AdminRoute.AddAuthKey)
    ∷ (codes "/admin/keys/revoke", PathKind.Admin AdminRoute.RevokeAuthKey)
    ∷ (codes "/admin/links/add", PathKind.Admin AdminRoute.AddServer)
    ∷ (codes "/admin/links/edit", PathKind.Admin AdminRoute.EditServer)
    ∷ []

-- what the first pattern is for that fits the path
unfoldable pub kind_of : List ℕ → Option PathKind
kind_of path = option_map (λ p. p.1) (find (λ p. fits_pattern p.0 path) paths)

-- ---- identifiers

abbrev pub one : Option Uid → Option PathIds
one a = option_map PathIds.One a

abbrev pub two : Option Uid → Option Uid → Option PathIds
two (Some a) (Some b) = Some (PathIds.Two a b)
two a b = None

abbrev pub three : Option Uid → Option Uid → Option Uid → Option PathIds
three (Some a) (Some b) (Some c) = Some (PathIds.Three a b c)
three a b c = None

-- one more in what stands behind a first slash, or two with the next slash between them
abbrev pub behind_one : Option Uid → List ℕ → Option ℕ → Option PathIds
behind_one a text None = two a (read_uid text)
behind_one a text (Some at) = three a (read_uid (take at text)) (read_uid (drop (at + 1) text))

-- one, or more with the first slash behind it
abbrev pub from_one : List ℕ → Option ℕ → Option PathIds
from_one text None = one (read_uid text)
from_one text (Some at) =
    behind_one (read_uid (take at text)) (drop (at + 1) text)
    (position is_slash (drop (at + 1) text))

-- the identifiers in a text with a slash between two: at most three
abbrev pub ids_in : List ℕ → Option PathIds
ids_in [] = Some PathIds.Nobody
ids_in (byte ∷ text) = from_one (byte ∷ text) (position is_slash (byte ∷ text))

-- what stands behind the first slash, or nothing
abbrev pub behind_slash : List ℕ → List ℕ
behind_slash text = option_map_or (λ at. drop (at + 1) text) (position is_slash text) []

-- what stands behind the third slash
abbrev pub ending : List ℕ → List ℕ
ending path = behind_slash (behind_slash (behind_slash path))

-- the identifiers of a path stand there
abbrev pub ids_of : List ℕ → Option PathIds
ids_of path = ids_in (ending path)

-- ---- parts

-- digits, of which the first is a zero only where it is the only one
abbrev pub is_numeral : List ℕ → Bool
is_numeral [] = false
is_numeral (d ∷ []) = list_all is_ascii_digit (d ∷ [])
is_numeral (d ∷ e ∷ ds) = not (d == 48) && list_all is_ascii_digit (d ∷ e ∷ ds)

-- a number of four bytes
abbrev pub four_bytes : ℕ → Option ℕ
four_bytes number = if nat_lt number (2 ^ 32) then Some number else None

-- a decimal number without leading zeros, of at most ten digits and of four bytes
abbrev pub number_in : List ℕ → Option ℕ
number_in text =
    if nat_le (length text) 10 && is_numeral text then four_bytes (digits_value 10 text) else None

abbrev pub part_by : Option Uid → Option ℕ → Option (Uid × ℕ)
part_by (Some event) (Some number) = Some (event, number)
part_by event number = None

-- an event and the number of a part, before and behind the first slash
abbrev pub part_in : List ℕ → Option ℕ → Option (Uid × ℕ)
part_in text None = None
part_in text (Some at) = part_by (read_uid (take at text)) (number_in (drop (at + 1) text))

-- those of a path stand behind its third slash
abbrev pub part_of : List ℕ → Option (Uid × ℕ)
part_of path = part_in (ending path) (position is_slash (ending path))
