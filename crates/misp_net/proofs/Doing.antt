-- What a line did, by what came of it at its instance.
use Rattle.std.proofs.Common.{◌≡◌, ◌⊎◌, ℕ, ◌<◌, [], ◌∷◌, ◌++◌, List, length, map, get_or, set, Option, Some, None, Result, Ok, Err, OnOk, OnErr, inl, inr, refl, sym, ◌∙◌, ap, subst, arith}
use Rattle.std.specs.Prelude.{⊤}
use Rattle.std.proofs.lemmas.List.{length-map, set-get_or}
use Rattle.misp_outside.specs.Causes.{RoseBy}
use Rattle.misp_script.specs.Step.{GroupData, SyncData, RawData, RequestData}
use Rattle.misp_api.specs.Administering.{group_form}
use Rattle.hex.specs.Hex.{encode_lower}
use Rattle.misp_api.specs.Session.{end_name, end_of}
use Rattle.misp_api.specs.Turn.{Point}
use Rattle.misp_effects.proofs.KeeperStates.{all_kept}
use Rattle.misp_dialogue.specs.Parties.{GrowsBy}
use Rattle.misp_net.proofs.Appending.{one_ran}
use Rattle.misp_net.specs.Prelude.{Act, AreAmong, AreKept, Bad, Done, Host, IsDone, KeeperState, Line, Nothing, Output, Ran, Replied, Seen, Standing, Unanswered, host_of, hosts_of, meaning, seen_in, spelled, states_of, stop_in}
use Rattle.misp_net.specs.Acts.{Administers, Asks, Does, Idle, IsPlaced, One, Session, Syncs, act, asks_from, outputs_done}
use Rattle.misp_net.specs.Carrying.{Carried, carried, carry_faults}
use Rattle.misp_net.specs.Lines.{sync_line}
use Rattle.misp_net.specs.Meaning.{AreAsFormed, IsAsFormed}
use Rattle.misp_net.specs.Passing.{IsPassed, IsPassedFor, Trail}
use Rattle.misp_net.specs.Running.{CutLine, HasSession, IsAct, IsAdministered, IsRequested, RanLine}
use Rattle.misp_net.specs.Text.{done_text, output_text}
use Rattle.misp_net.specs.Walk.{hosts_done, hosts_left}
use Rattle.misp_net.proofs.Carrying.{replies_none, rose_none}
use Rattle.misp_net.proofs.Growing.{grows_none}
use Rattle.misp_net.proofs.Turns.{session_done}
use Rattle.misp_net.proofs.Steps.{hosts_answered, hosts_kept, one_group, one_read, read_formed, silent_act, turned_output}
use Rattle.misp_script.specs.Step as commands

-- ---- where a call ended

pub on_ok : {A E P Q : Type 0} (r : Result A E) → (P → Q) → OnOk r P → OnOk r Q
on_ok (Ok x) follows holds = follows holds
on_ok (Err e) follows holds = tt

pub on_err : {A E P Q : Type 0} (r : Result A E) → (P → Q) → OnErr r P → OnErr r Q
on_err (Ok x) follows holds = tt
on_err (Err e) follows holds = follows holds

-- what holds of all errors
pub always_err : {A E P : Type 0} (r : Result A E) → P → OnErr r P
always_err (Ok x) holds = tt
always_err (Err e) holds = holds

-- ---- one act

one_done : (hosts : List Host) (a : Act) (old new : List KeeperState) (output : Output) → IsAct hosts a old new output → IsAsFormed (meaning hosts a).formed output
    → IsPlaced (length hosts) a.deed → IsDone hosts (One a output) old new
one_done hosts a old new output is formed placed = record {
  ran = one_ran Seen Output seen_in spelled stop_in (meaning hosts a).means old new output is;
  formed = (formed, tt);
  among = (placed, tt);
}

-- where nothing is asked
idle_done : (hosts : List Host) (time word : ℕ) (output : Output) (old : List KeeperState) → stop_in output ≡ None → IsAsFormed (Some output) output
    → IsDone hosts (One (act time word (Idle output)) output) old old
idle_done hosts time word output old none formed = one_done hosts (act time word (Idle output)) old old output (silent_act output old none) formed tt

pub nothing_ran : (time word : ℕ) (hosts : List Host) (old : List KeeperState) (before after : List ℕ) (carry : Carried) → after ≡ before ++ output_text Nothing
    → RanLine hosts hosts (Ok (record { time = time; word = word; command = commands.Nothing })) old old before after carry carry
nothing_ran time word hosts old before after carry text =
    let d : Done = One (act time word (Idle Nothing)) Nothing in
    (d, (Nothing, refl), idle_done hosts time word Nothing old refl refl, refl, text, rose_none 0 carry.faults carry.faults refl (omega arith), grows_none carry.passed (IsPassedFor hosts old old d) refl)

pub bad_ran : (place : ℕ) (hosts : List Host) (old : List KeeperState) (before after : List ℕ) (carry : Carried) → after ≡ before ++ output_text (Bad place)
    → RanLine hosts hosts (Err (record { place = place })) old old before after carry carry
bad_ran place hosts old before after carry text =
    let d : Done = One (act 0 0 (Idle (Bad place))) (Bad place) in
    (d, (Bad place, refl), idle_done hosts 0 0 (Bad place) old refl refl, refl, text, rose_none 0 carry.faults carry.faults refl (omega arith), grows_none carry.passed (IsPassedFor hosts old old d) refl)

-- a synchronisation among all keepers is what its line does
pub sync_done : (time word : ℕ) (hosts : List Host) (line : SyncData) (old new : List KeeperState) (output : Output) → line.at < length hosts → IsAct hosts (act time word (Syncs line)) old new output
    → Does (sync_line time word line) (One (act time word (Syncs line)) output) × IsDone hosts (One (act time word (Syncs line)) output) old new
sync_done time word hosts line old new output lt is = ((output, refl), one_done hosts (act time word (Syncs line)) old new output is tt lt)

-- it is written
pub sync_ran : (time word : ℕ) (hosts then : List Host) (line : SyncData) (old new : List KeeperState) (output : Output) (before after : List ℕ) (first last : Carried) → line.at < length hosts
    → IsAct hosts (act time word (Syncs line)) old new output → then ≡ hosts → after ≡ before ++ output_text output → RoseBy (carry_faults (output ∷ [])) first.faults last.faults
    → GrowsBy first.passed last.passed (IsPassed hosts old new (Syncs line) output)
    → RanLine hosts then (sync_line time word line) old new before after first last
sync_ran time word hosts then line old new output before after first last lt is same text rose passed =
    let (does, done) = sync_done time word hosts line old new output lt is in (One (act time word (Syncs line)) output, does, done, same, text, rose, passed)

-- it was done, and is not written
pub sync_cut : (time word : ℕ) (hosts : List Host) (line : SyncData) (old new : List KeeperState) (output : Output) (first last : Option Trail) → line.at < length hosts → IsAct hosts (act time word (Syncs line)) old new output
    → GrowsBy first last (IsPassed hosts old new (Syncs line) output) → CutLine hosts (sync_line time word line) old new first last
sync_cut time word hosts line old new output first last lt is passed =
    let (does, done) = sync_done time word hosts line old new output lt is in inr (One (act time word (Syncs line)) output, does, done, passed)

-- memory ran out before anything was done
pub cut_first : (hosts : List Host) (line : Line) (old : List KeeperState) (told : Option Trail) → CutLine hosts line old old told told
cut_first hosts line old told = inl (all_kept old, refl)

-- ---- at one of the instances

-- it stands as it stood
as_it_was : (old : List Standing) (at : ℕ) (none new : Standing) → new ≡ get_or old at none → set old at new ≡ old
as_it_was old at none new same = ap (set old at) same ∙ set-get_or old at none

pub still_kept : (old : List Standing) (at : ℕ) (none new : Standing) → new ≡ get_or old at none → AreKept (states_of old) (states_of (set old at new))
still_kept old at none new same = subst (λ all. AreKept (states_of old) (states_of all)) (sym (as_it_was old at none new same)) (all_kept (states_of old))

placed : (old : List Standing) (at : ℕ) → at < length old → at < length (hosts_of old)
placed old at lt = omega (arith, lt, length-map old host_of)

module _ (old : List Standing) (none new : Standing) (now word : ℕ) where
  -- a request of a line
  pub request_ran : (r : RequestData) → r.at < length old → (output : Output) (before after : List ℕ) (carry : Carried) → IsRequested now word r (get_or old r.at none) new output
      → after ≡ before ++ output_text output
      → RanLine (hosts_of old) (hosts_of (set old r.at new)) (Ok (record { time = now; word = word; command = commands.Request r })) (states_of old) (states_of (set old r.at new)) before after carry carry
  request_ran r lt output before after carry (Ok read, left, whole, is, (reply, output_is, answered)) text = (
    One (act now word (Asks r.at read)) (Replied reply),
    (Ok read, left, whole, is, (Replied reply, refl)),
    one_done (hosts_of old) (act now word (Asks r.at read)) (states_of old) (states_of (set old r.at new)) (Replied reply)
        (one_read now word r.at read old new none reply lt answered) (read_formed now word r.at read old new none reply lt answered) (placed old r.at lt),
    hosts_answered now word r.at read old new none reply lt answered,
    text ∙ ap (λ o. before ++ output_text o) output_is,
    rose_none _ carry.faults carry.faults (replies_none (reply ∷ [])) (omega arith),
    grows_none carry.passed (IsPassedFor (hosts_of old) (states_of old) (states_of (set old r.at new)) (One (act now word (Asks r.at read)) (Replied reply))) refl,
  )
  request_ran r lt output before after carry (Err end, left, whole, is, (output_is, new_is)) text =
      let out : Output = Unanswered (end_of end) in (
        One (act now word (Idle out)) out,
        (Err end, left, whole, is, (out, refl)),
        subst (λ all. IsDone (hosts_of old) (One (act now word (Idle out)) out) (states_of old) (states_of all)) (sym (as_it_was old r.at none new new_is))
            (idle_done (hosts_of old) now word out (states_of old) refl refl),
        ap hosts_of (as_it_was old r.at none new new_is),
        text ∙ ap (λ o. before ++ output_text o) output_is,
        rose_none 0 carry.faults carry.faults refl (omega arith),
        grows_none carry.passed (IsPassedFor (hosts_of old) (states_of old) (states_of (set old r.at new)) (One (act now word (Idle out)) out)) refl,
      )

  -- a group of a line
  pub group_ran : (line : GroupData) → line.at < length old → (output : Output) (before after : List ℕ) (carry : Carried) → IsAdministered now line (get_or old line.at none) new output
      → new.name ≡ (get_or old line.at none).name → new.admin ≡ (get_or old line.at none).admin → after ≡ before ++ output_text output
      → RanLine (hosts_of old) (hosts_of (set old line.at new)) (Ok (record { time = now; word = word; command = commands.Group line })) (states_of old) (states_of (set old line.at new)) before after carry carry
  group_ran line lt output before after carry (reply, output_is, did, away, cause) name admin text = (
    One (act now word (Administers line)) (Replied reply),
    (Replied reply, refl),
    one_done (hosts_of old) (act now word (Administers line)) (states_of old) (states_of (set old line.at new)) (Replied reply)
        (one_group now word line old new none reply lt did cause) (turned_output (group_form line.body) (get_or old line.at none) new reply away) (placed old line.at lt),
    hosts_kept old line.at new none lt name admin,
    text ∙ ap (λ o. before ++ output_text o) output_is,
    rose_none _ carry.faults carry.faults (replies_none (reply ∷ [])) (omega arith),
    grows_none carry.passed (IsPassedFor (hosts_of old) (states_of old) (states_of (set old line.at new)) (One (act now word (Administers line)) (Replied reply))) refl,
  )

  -- a session of a line
  module _ (r : RawData) (lt : r.at < length old) where
    pub session_ran : (Wrote : List ℕ → Type 0) (carry : Carried) → HasSession now word r (get_or old r.at none) new Wrote
        → (d : Done) × Does (Ok (record { time = now; word = word; command = commands.Raw r })) d
        × IsDone (hosts_of old) d (states_of old) (states_of (set old r.at new)) × (hosts_of (set old r.at new) ≡ hosts_done (hosts_of old) d) × Wrote (done_text d)
        × RoseBy (carry_faults (outputs_done d)) carry.faults carry.faults
        × GrowsBy carry.passed carry.passed (IsPassedFor (hosts_of old) (states_of old) (states_of (set old r.at new)) d)
    session_ran Wrote carry (end, left, next, written, session, no_read, no_write, wrote) =
        let p : Point = record { bytes = r.bytes; instance = get_or old r.at none; word = word; written = [] } in
        let is = session_done now r.at old none lt p end left new next written session no_read no_write in
        let acts : List Act = asks_from now word r.at is.reads in
        let first : set old r.at (get_or old r.at none) ≡ old = set-get_or old r.at none in (
          Session now word r.at is.reads is.replies end.end,
          (is.reads, is.replies, end.end, is.read, refl),
          record {
            ran = subst (λ (all : List Standing). Ran (hosts_of all) acts (states_of all) (states_of (set old r.at new)) (map Replied is.replies)) first is.ran;
            formed = subst (λ (all : List Standing). AreAsFormed (hosts_of all) acts (map Replied is.replies)) first is.formed;
            among = subst (λ (all : List Standing). AreAmong (length (hosts_of all)) acts) first is.among;
          },
          subst (λ (all : List Standing). hosts_of (set old r.at new) ≡ hosts_left (hosts_of all) acts (map Replied is.replies)) first is.walked,
          subst (λ text. Wrote (end_name end.end ++ 32 ∷ encode_lower text)) is.wrote wrote,
          rose_none _ carry.faults carry.faults (replies_none is.replies) (omega arith),
          grows_none carry.passed (IsPassedFor (hosts_of old) (states_of old) (states_of (set old r.at new)) (Session now word r.at is.reads is.replies end.end)) refl,
        )

    -- it was cut short before it began, or after it had ended
    pub session_cut : (told : Option Trail) → ((new ≡ get_or old r.at none) ⊎ HasSession now word r (get_or old r.at none) new (λ _. ⊤))
        → CutLine (hosts_of old) (Ok (record { time = now; word = word; command = commands.Raw r })) (states_of old) (states_of (set old r.at new)) told told
    session_cut told (inl same) = inl (still_kept old r.at none new same, refl)
    session_cut told (inr went) = let (d, does, is, then, wrote, rose, passed) = session_ran (λ text. ⊤) (carried 0 told) went in inr (d, does, is, passed)
