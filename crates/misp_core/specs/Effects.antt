-- What a request comes to, and how a stop of it is told.
use Rattle.std.specs.Prelude.{ℕ, ◌==◌, List, [], ◌∷◌, Option, None, Some, Result, Ok, Err, if◌then◌else◌}
use Rattle.misp_ids.specs.Refusal.{rule_number, bare}
use Rattle.misp_effects.specs.Batches.{batch}
use Rattle.misp_effects.specs.Effect.{effect, Telling, nothing_of, Does}
use Rattle.misp_model.specs.declared.ask.Ask.{Ask}
use Rattle.misp_model.specs.Scene.{Scene}
use Rattle.misp_model.specs.Machine.{seeing}
use Rattle.misp_model.specs.Permission.{is_permitted, forbidden}
use Rattle.misp_store.specs.Prelude.{Admin, Batch, Effect, Group, Held, Here, KeeperFault, Refusal, Row, RuleName, Stop, spelled}
use Rattle.misp_store.specs.Seen.{Seen}
use Rattle.misp_core.specs.Answers.{Asked, bad_row, bare_scene, reply_in, scene_at, writes_in}
use Rattle.misp_core.specs.Reading.{rows_read}
use Rattle.misp_core.specs.Standing.{Host}
use Rattle.misp_core.specs.declared.reply.Reply.{Reply}

-- ---- refusals

-- the refusal by a rule that has no place
abbrev pub refused_by : RuleName → Reply
refused_by rule = Reply.Refused (bare rule)

-- the reply is a refusal
abbrev pub IsRefused : Reply → Type 0
IsRefused (Reply.Refused refusal) = Unit {0}
IsRefused (Reply.Ok answer) = ⊥

-- ---- stops

-- the rule that tells a stop
abbrev pub rule_told : Stop → RuleName
rule_told (Stop.Keeper side) = RuleName.KeeperFault
rule_told (Stop.Memory side) = RuleName.NoMemory
rule_told Stop.Carry = RuleName.LinkFault

-- whole or not at all: a stop is refused by its rule
abbrev pub telling : Telling Reply
telling = nothing_of (λ stop. refused_by (rule_told stop))

-- the stop that a rule tells
abbrev pub stop_by : RuleName → Option Stop
stop_by name =
    if rule_number name == 26 then Some (Stop.Keeper Here)
    else if rule_number name == 27 then Some (Stop.Memory Here) else None

-- read off the reply
abbrev pub stop_in : Reply → Option Stop
stop_in (Reply.Ok answer) = None
stop_in (Reply.Refused refusal) = stop_by refusal.name

-- the stop by the keeper of the instance
abbrev pub by_keeper : Option Stop
by_keeper = Some (Stop.Keeper Here)

-- the rule by which what a keeper stopped is refused
abbrev pub rule_of_stop : KeeperFault → RuleName
rule_of_stop KeeperFault.Failed = RuleName.KeeperFault
rule_of_stop KeeperFault.NoMemory = RuleName.NoMemory

-- ---- requests

-- a refusal puts nothing
abbrev pub refused : Refusal → Effect Reply
refused refusal = effect (Reply.Refused refusal) []

-- rows are one batch, and no rows are none
abbrev pub row_batches : List Row → List Batch
row_batches [] = []
row_batches (row ∷ rows) = batch (row ∷ rows) [] ∷ []

-- an ask in a scene: the reply of the definitions, and the rows that it writes
abbrev pub asked : Admin → Scene → Ask → Effect Reply
asked admin s ask = effect (reply_in admin s ask) (row_batches (writes_in s ask))

-- what is asked, with these groups and over what is read for it
abbrev pub asked_over :
    Host → ℕ → Asked → List Group → Result (List Row) (List ℕ) → Effect Reply
asked_over host now it groups (Ok rows) =
    asked host.admin (seeing (scene_at host now it.0 groups) rows) it.1
asked_over host now it groups (Err name) = refused (bad_row name)

-- what is read for what is asked, where this is seen
abbrev pub read_where : Host → ℕ → Asked → Seen → Result (List Row) (List ℕ)
read_where host now it seen = rows_read (bare_scene host now it.0 seen.groups) it.1 seen.rows

-- what is asked, where this is seen
abbrev pub asked_where : Host → ℕ → Asked → Seen → Effect Reply
asked_where host now it seen = asked_over host now it seen.groups (read_where host now it seen)

-- a request, where this is seen: the role of the caller must permit what it asks
abbrev pub requested : Host → ℕ → Asked → Seen → Effect Reply
requested host now it seen =
    if is_permitted it.0 it.1 then asked_where host now it seen else refused (forbidden it.1)

-- a call that was to have this effect did what it comes to under some outcome
abbrev pub Did : Effect Reply → Held → Reply → Held → Type 0
Did e held reply new = Does Reply spelled stop_in telling e held reply new
