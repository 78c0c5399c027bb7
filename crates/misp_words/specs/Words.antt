-- What the words of a command line ask for.
use Rattle.std.specs.Prelude.{◌≡◌, ℕ, Bool, true, false, not, ◌==◌, ◌&&◌, List, [], ◌∷◌, codes, bytes_eq, Option, Some, None, option_map, if◌then◌else◌}
use Rattle.std.specs.List.{list_any}
use Rattle.misp_ids.specs.Names.{is_inst_name}
use Rattle.misp_ids.specs.declared.label.Direction.{Direction}
use Rattle.misp_words.specs.Count.{count_of, events_of}
use Rattle.misp_words.specs.declared.command.Command.{Command}
use Rattle.misp_words.specs.declared.command.Command.TheVariants as command
use Rattle.misp_words.specs.declared.command.ServeWords.{ServeWords}
use Rattle.misp_words.specs.declared.command.SyncWords.{SyncWords}

-- ---- commands, as contracts see them

-- an instance, an address and how many connections
pub record ServeData : Type 0 where
  pub name : List ℕ
  pub address : List ℕ
  pub count : ℕ

-- an instance, one of its links, and the direction over it
pub record SyncData : Type 0 where
  pub name : List ℕ
  pub link : List ℕ
  pub direction : Direction

pub data CommandData : Type 0 where
  Net Check : CommandData
  Serve : ServeData → CommandData
  Sync : SyncData → CommandData
  Gen : ℕ → CommandData

abbrev pub serve_data : ServeWords → ServeData
serve_data words = record { name = words.name; address = words.address.now; count = words.count }

abbrev pub sync_data : SyncWords → SyncData
sync_data words = record { name = words.name; link = words.link; direction = words.direction }

abbrev pub command_data : Command → CommandData
command_data command.Net = Net
command_data command.Check = Check
command_data (command.Serve words) = Serve (serve_data words)
command_data (command.Sync words) = Sync (sync_data words)
command_data (command.Gen count) = Gen count

-- ---- the words of each command

abbrev pub begins_with_dash : List ℕ → Bool
begins_with_dash [] = false
begins_with_dash (byte ∷ bytes) = byte == 45

-- a name and an address with a count, where there is one
abbrev pub with_count : List ℕ → List ℕ → Option ℕ → Option ServeData
with_count name address None = None
with_count name address (Some count) =
    Some (record { name = name; address = address; count = count })

-- the name of an instance, an address that does not begin with `-`, and a count
abbrev pub serve_words : List ℕ → List ℕ → List ℕ → Option ServeData
serve_words name address count =
    if is_inst_name name && not (begins_with_dash address)
    then with_count name address (count_of count)
    else None

-- a direction by its name
abbrev pub direction_of : List ℕ → Option Direction
direction_of word =
    if bytes_eq word (codes "pull") then Some Direction.Pull
    else if bytes_eq word (codes "push") then Some Direction.Push
    else None

-- an instance and a link with a direction, where there is one
abbrev pub with_direction : List ℕ → List ℕ → Option Direction → Option SyncData
with_direction name link None = None
with_direction name link (Some direction) = Some (record { name = name; link = link; direction = direction })

-- the name of an instance, the name of a link, and a direction
abbrev pub sync_words : List ℕ → List ℕ → List ℕ → Option SyncData
sync_words name link direction =
    if is_inst_name name && is_inst_name link
    then with_direction name link (direction_of direction)
    else None

-- the command of this name that takes no words
abbrev pub command_named : List ℕ → Option CommandData
command_named word =
    if bytes_eq word (codes "net") then Some Net
    else if bytes_eq word (codes "check") then Some Check
    else None

-- the command of this name with a number
abbrev pub command_counted : List ℕ → List ℕ → Option CommandData
command_counted word count =
    if bytes_eq word (codes "gen") then option_map Gen (events_of count) else None

-- the command of this name with these three words
abbrev pub command_with : List ℕ → List ℕ → List ℕ → List ℕ → Option CommandData
command_with word name other last =
    if bytes_eq word (codes "serve")
    then option_map Serve (serve_words name other last)
    else if bytes_eq word (codes "sync")
    then option_map Sync (sync_words name other last)
    else None

-- what the words ask for, where they are accepted
abbrev pub command_of : List (List ℕ) → Option CommandData
command_of (word ∷ []) = command_named word
command_of (word ∷ count ∷ []) = command_counted word count
command_of (word ∷ name ∷ other ∷ last ∷ []) = command_with word name other last
command_of words = None

-- ---- a law

-- words of which one begins with a dash ask for nothing
abbrev pub NoDashIsAccepted : Type 0
NoDashIsAccepted = (words : List (List ℕ)) → list_any begins_with_dash words ≡ true → command_of words ≡ None
