-- Instances that are before the other keepers.
use Rattle.std.proofs.Common.{◌≡◌, ℕ, true, List, ◌++◌, map, length, take, drop, Option, sym, ◌∙◌, ap, subst, take_at, drop_at}
use Rattle.std.proofs.lemmas.List.{length-map}
use Rattle.misp_script.specs.declared.description.Entry.{Entry}
use Rattle.misp_effects.specs.KeeperStates.{AllReport}
use Rattle.misp_effects.proofs.KeeperStates.{all_kept}
use Rattle.misp_effects.proofs.Courses.{run_kept}
use Rattle.misp_effects.proofs.Told.{told_then}
use Rattle.misp_store.specs.Sharing.{WereSound, is_sound}
use Rattle.misp_core.specs.Prelude.{list_all}
use Rattle.misp_net.specs.Prelude.{Act, AreKept, Done, HasRun, Host, IsCut, KeeperState, Line, Output, Ran, Standing, Tables, acts_of, described_host, host_of, hosts_of, outputs_of, state_of, states_of}
use Rattle.misp_net.specs.Asking.{names_of}
use Rattle.misp_net.specs.Carrying.{Carried}
use Rattle.misp_net.specs.Opening.{AreOpened, opened_states}
use Rattle.misp_net.specs.Passing.{Passes, Trail}
use Rattle.misp_net.proofs.Openings.{kept_tells}
use Rattle.misp_net.proofs.Passing.{passes_kept}
use Rattle.misp_net.proofs.Walks.{long_as}

-- there are as many as are described
pub opened_long : (instances : List Standing) (entries : List Entry) → names_of (hosts_of instances) ≡ names_of (map described_host entries) → length (states_of instances) ≡ length entries
opened_long instances entries names =
    length-map instances state_of ∙ sym (length-map instances host_of) ∙ long_as (hosts_of instances) (map described_host entries) names ∙ length-map entries described_host

-- Instances that were opened over the first keepers, and what these were before and are in the end.
pub record AreInFront (described hosts : List Host) (front after rest olds news : List KeeperState) (count : ℕ) : Type 0 where
  pub opened : AreOpened described front front hosts
  pub long : length front ≡ count
  pub kept : AreKept (opened_states (take count olds)) front
  pub left : rest ≡ drop count olds
  pub still : length after ≡ length front
  pub is : news ≡ after ++ rest

module _ {described hosts : List Host} {front after rest olds news : List KeeperState} {count : ℕ} (over : AreInFront described hosts front after rest olds news count) where
  -- the others are as they were
  pub others_kept : drop count news ≡ drop count olds
  others_kept = ap (drop count) over.is ∙ drop_at after rest count (over.still ∙ over.long) ∙ over.left

  in_the_end : take count news ≡ after
  in_the_end = ap (take count) over.is ∙ take_at after rest count (over.still ∙ over.long)

  -- a run of the instances is one of the first keepers, as these are once they are open
  ran_in_front : (acts : List Act) (outputs : List Output) → Ran hosts acts front after outputs → Ran hosts acts (opened_states (take count olds)) (take count news) outputs
  ran_in_front acts outputs ran = run_kept over.kept ran (rw in_the_end (all_kept after))

  -- the instances are those that open over what these then hold
  pub opened_in_front : (acts : List Act) (outputs : List Output) → Ran hosts acts front after outputs → AreOpened described (opened_states (take count olds)) (take count news) hosts
  opened_in_front acts outputs ran = record {
    names = over.opened.names;
    made = λ tables tell report.
        let last : AllReport after = subst AllReport in_the_end report in
        let was = ran.done last.0 last.1 in
        over.opened.made tables (kept_tells (opened_states (take count olds)) front tables was.0 over.kept tell was.1) (was.0, was.1);
  }

  -- and so is what passed
  passes_in_front : (dones : List Done) (first last : Option Trail) → Passes hosts dones front after first last → Passes hosts dones (opened_states (take count olds)) (take count news) first last
  passes_in_front dones first last passes =
      subst (λ now. Passes hosts dones (opened_states (take count olds)) now first last) (sym in_the_end) (passes_kept hosts (opened_states (take count olds)) front over.kept dones after first last passes)

  -- what was held of which all is sound, where it is still reported
  pub sound_in_front : {first last : Carried} {lines : List Line} {text : List ℕ} → WereSound (take count olds) front → HasRun hosts lines front after first last text → WereSound (take count olds) (take count news)
  sound_in_front sound run =
      let Sound : Tables → Tables → Type 0 = λ before left. list_all is_sound before ≡ true in
      subst (WereSound (take count olds)) (sym in_the_end) (told_then (take count olds) front after Sound _ Sound (λ before between left were did. were) sound run.ran.done)

  pub run_in_front : {first last : Carried} {lines : List Line} {text : List ℕ} → HasRun hosts lines front after first last text → HasRun hosts lines (opened_states (take count olds)) (take count news) first last text
  run_in_front {first} {last} run = record {
    dones = run.dones;
    done = run.done;
    text_is = run.text_is;
    ran = ran_in_front (acts_of run.dones) (outputs_of run.dones) run.ran;
    formed = run.formed;
    among = run.among;
    carried = run.carried;
    passed = passes_in_front run.dones first.passed last.passed run.passed;
  }

  -- also of one that was cut short
  pub cut_in_front : {first last : Option Trail} {lines : List Line} → IsCut hosts lines front after first last → IsCut hosts lines (opened_states (take count olds)) (take count news) first last
  cut_in_front {first} {last} cut = record {
    count = cut.count;
    dones = cut.dones;
    done = cut.done;
    ran = ran_in_front (acts_of cut.dones) (outputs_of cut.dones) cut.ran;
    passed = passes_in_front cut.dones first last cut.passed;
  }
