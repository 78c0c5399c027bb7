-- How the own instance answers what it is asked in a synchronisation.
use Rattle.std.specs.Prelude.{◌≡◌, ◌⊎◌, ℕ, true, List, [], ◌∷◌, length, Option, None, Some, Result, Ok, Err}
use Rattle.misp_elem.specs.declared.key.KeyForm.{KeyForm as Key}
use Rattle.misp_manifest.specs.declared.wanted.WantedFields.{WantedFields}
use Rattle.misp_orgs.specs.declared.link.Link.{Link}
use Rattle.misp_effects.specs.Batches.{Batch, IsReadable}
use Rattle.misp_outside.specs.Held.{with_batch}
use Rattle.misp_store.specs.Sharing.{HasSoundAdmin}
use Rattle.misp_store.specs.declared.fault.LoadFault.{LoadFault}
use Rattle.misp_store.specs.declared.reach.Reach.{Reach}
use Rattle.misp_core.specs.Prelude.{EventId, Held, Host, Row, Standing, groups_of, host_of, seen_in, spelled}
use Rattle.misp_core.specs.Sending.{packages_pushed}
use Rattle.misp_core.specs.Taking.{groups_taken, package_taken, with_groups_taken, with_package}
use Rattle.misp_dialogue.specs.Parties.{Conduct, Exchanged, PartyState}
use Rattle.misp_dialogue.specs.Taking.{Batching}
use Rattle.misp_wanted.specs.Wanting.{wanted_keys}
use Rattle.misp_protocol.specs.Counts.{counted}
use Rattle.misp_protocol.specs.Values.{IsAskable, IsSoundAnswer}
use Rattle.misp_sync.specs.Pushed.{groups_carried}
use Rattle.misp_sync.specs.Ways.{push_way}
use Rattle.misp_protocol.specs.declared.cause.Body.{Body}
use Rattle.misp_protocol.specs.declared.cause.Cause.{Cause}
use Rattle.misp_protocol.specs.declared.count.Tally.{Tally}
use Rattle.misp_protocol.specs.declared.part_keys.PartKeysFields.{PartKeysFields as PartKeys}
use Rattle.misp_protocol.specs.declared.request.Answer.{Answer}
use Rattle.misp_protocol.specs.declared.request.Request.{Request}

-- ---- what it answers

-- rows, or the refusal that names the first that does not decode
abbrev pub over_rows : Result (List Row) (List ℕ) → (List Row → Answer × Held)
    → Result (Answer × Held) Cause
over_rows (Ok rows) answers = Ok (answers rows)
over_rows (Err name) answers = Err (Cause.BadRow name)

-- over the holder's own rows of an event
abbrev pub over_own : Link → Held → EventId → (List Row → Answer × Held)
    → Result (Answer × Held) Cause
over_own link held event answers =
    over_rows ((seen_in held).rows (Reach.Own link.holder event)) answers

-- these keys of a part, where there are any
abbrev pub wanted_list : PartKeys → List Key → Option WantedFields
wanted_list k [] = None
wanted_list k (key ∷ keys) =
    Some (record { event = k.event; part = k.part; keys = key ∷ keys })

-- the answer of an instance over a link, and what it holds then
abbrev pub own_answer : Host → Link → Held → Request → Result (Answer × Held) Cause
own_answer here link held Request.Groups =
    Ok (Answer.Groups (groups_carried link (seen_in held)), held)
own_answer here link held Request.Packages =
    over_rows ((seen_in held).rows Reach.All) (λ rows. (
      Answer.Packages (packages_pushed (push_way link.internal) here.name (groups_of held)
          link.push_org link.peer rows),
      held,
    ))
own_answer here link held (Request.TakeGroups groups) =
    Ok (
      Answer.Taken (length (groups_taken (groups_of held) groups)),
      with_groups_taken groups held,
    )
own_answer here link held (Request.Missing k) =
    over_own link held k.event (λ rows. (
      Answer.Wanted (wanted_list k (wanted_keys here.name rows link.holder k.event k.keys)),
      held,
    ))
own_answer here link held (Request.TakePart p) =
    over_own link held p.event (λ rows. (
      Answer.Taken (length (package_taken here.name rows (groups_of held) link.holder p)),
      with_package here.name rows link.holder p held,
    ))
own_answer here link held request = Err (Cause.Garbled Body.Body)

-- ---- how it behaves

-- its keeper failed, or memory ran out
abbrev pub IsOwnStop : Cause → Type 0
IsOwnStop cause = (cause ≡ Cause.Keeper) ⊎ (cause ≡ Cause.NoMemory)

abbrev pub own_conduct : Host × Link → Conduct Held Request Answer Cause
own_conduct s = record {
  IsAskable = IsAskable;
  IsSound = IsSoundAnswer;
  IsHeld = HasSoundAdmin;
  answer = own_answer s.0 s.1;
  text = λ request. [];
  IsUnsent = λ request cause. ⊥;
  Reads = λ request bytes result. ⊥;
  IsCause = λ cause. IsOwnStop cause ⊎ (cause ≡ Cause.Garbled Body.Body)
      ⊎ ((name : List ℕ) × (cause ≡ Cause.BadRow name));
  IsStop = IsOwnStop;
  IsLoss = λ cause. ⊥;
  IsFault = λ cause. cause ≡ Cause.Keeper;
  IsPeerFault = λ cause. ⊥;
}

-- ---- what is reported of it

-- nothing goes over a wire
abbrev pub own_state : Standing → PartyState Held
own_state i = record { held = i.held; trail = None; faults = i.faults; peer_faults = 0 }

-- why rows were not read
abbrev pub unread_cause : LoadFault → Cause
unread_cause LoadFault.KeeperFault = Cause.Keeper
unread_cause (LoadFault.BadRow name) = Cause.BadRow name
unread_cause LoadFault.NoMemory = Cause.NoMemory

-- what a request to it came to; its name and its administration stay
pub record IsAsked (link : Link) (request : Request) (old : Standing)
    (result : Result Answer Cause) (new : Standing) : Type 0 where
  pub exchanged : Exchanged (own_conduct (host_of old, link)) (own_state old) request result
      (own_state new)
  pub host : host_of new ≡ host_of old

-- ---- how batches are put and counted

abbrev pub batching : Batching Held Tally Batch
batching = record {
  put = λ b. with_batch (spelled b);
  tally = counted;
  IsBatch = IsReadable;
}
