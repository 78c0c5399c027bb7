-- The lines of a script, one after another.
use Rattle.std.proofs.Common.{◌≡◌, ℕ, ◌+◌, take, List, [], ◌∷◌, ◌++◌, length, Option, refl, sym, ◌∙◌, ap, subst, inl, inr, arith, append_assoc, append-nil, length-append, take_at}
use Rattle.misp_outside.specs.Causes.{RoseBy}
use Rattle.misp_effects.proofs.Courses.{no_lines, rose_more, run_kept}
use Rattle.misp_effects.proofs.KeeperStates.{all_kept}
use Rattle.misp_dialogue.specs.Parties.{GrowsBy}
use Rattle.misp_net.specs.Acts.{Does, acts_done, outputs_done}
use Rattle.misp_net.specs.Carrying.{Carried, carry_faults}
use Rattle.misp_net.specs.Meaning.{AreAsFormed}
use Rattle.misp_net.specs.Passing.{IsPassedFor, Passes, Trail}
use Rattle.misp_net.specs.Prelude.{AreAmong, AreDone, AreKept, Done, HasRun, Host, IsCut, IsDone, KeeperState, Line, Output, Ran, Seen, acts_of, outputs_of, seen_in, spelled, stop_in}
use Rattle.misp_net.specs.Running.{CutLine}
use Rattle.misp_net.specs.Text.{line_of}
use Rattle.misp_net.specs.Walk.{hosts_done, hosts_left}
use Rattle.misp_net.proofs.Carrying.{faults_append, rose_none}
use Rattle.misp_net.proofs.Courses.{acts_push, among_append, done_push, formed_append, outputs_push, ran_append, ran_long, text_more}
use Rattle.misp_net.proofs.Passing.{hosts_over, over_left, over_long, over_push, passes_more, passes_still}

-- The lines ran, and these are the instances then.
pub record HasRunTo (hosts then : List Host) (lines : List Line) (old new : List KeeperState) (before after : Carried) (text : List ℕ) : Type 0 where
  pub run : HasRun hosts lines old new before after text
  pub then_are : then ≡ hosts_over hosts run.dones

pub none_run : (hosts : List Host) (old : List KeeperState) (carry : Carried) → HasRunTo hosts hosts [] old old carry carry []
none_run hosts old carry = record {
  run = record {
    dones = [];
    done = tt;
    text_is = refl;
    ran = no_lines Seen Output seen_in spelled stop_in old;
    formed = tt;
    among = tt;
    carried = rose_none 0 carry.faults carry.faults refl (omega arith);
    passed = (all_kept old, refl);
  };
  then_are = refl;
}

module _ (hosts : List Host) (old mid new : List KeeperState) (dones : List Done) (d : Done) (first next : Option Trail) (ran : Ran hosts (acts_of dones) old mid (outputs_of dones))
    (passed : Passes hosts dones old mid first next) (is : IsDone (hosts_over hosts dones) d mid new) where
  -- the instances before it
  before_it : hosts_over hosts dones ≡ hosts_left hosts (acts_of dones) (outputs_of dones)
  before_it = over_left hosts dones old mid first next passed

  -- what was done by the lines and one more
  more_done : Ran hosts (acts_of (dones ++ d ∷ [])) old new (outputs_of (dones ++ d ∷ []))
  more_done =
      subst (λ acts. Ran hosts acts old new (outputs_of (dones ++ d ∷ []))) (sym (acts_push dones d))
      (subst (λ outputs. Ran hosts (acts_of dones ++ acts_done d) old new outputs) (sym (outputs_push dones d))
      (ran_append hosts (acts_of dones) (acts_done d) (outputs_of dones) (outputs_done d) old mid new ran
      (subst (λ (there : List Host). Ran there (acts_done d) mid new (outputs_done d)) before_it is.ran)))

  more_formed : AreAsFormed hosts (acts_of dones) (outputs_of dones) → AreAsFormed hosts (acts_of (dones ++ d ∷ [])) (outputs_of (dones ++ d ∷ []))
  more_formed formed =
      subst (λ acts. AreAsFormed hosts acts (outputs_of (dones ++ d ∷ []))) (sym (acts_push dones d))
      (subst (λ outputs. AreAsFormed hosts (acts_of dones ++ acts_done d) outputs) (sym (outputs_push dones d))
      (formed_append hosts (acts_of dones) (acts_done d) (outputs_of dones) (outputs_done d) (ran_long hosts (acts_of dones) (outputs_of dones) old mid ran) formed
      (subst (λ (there : List Host). AreAsFormed there (acts_done d) (outputs_done d)) before_it is.formed)))

  more_among : AreAmong (length hosts) (acts_of dones) → AreAmong (length hosts) (acts_of (dones ++ d ∷ []))
  more_among among =
      subst (AreAmong (length hosts)) (sym (acts_push dones d))
      (among_append (length hosts) (acts_of dones) (acts_done d) among (subst (λ count. AreAmong count (acts_done d)) (over_long hosts dones) is.among))

-- how often what carries failed for the lines and one more
more_carried : (dones : List Done) (d : Done) (first next last : ℕ) → RoseBy (carry_faults (outputs_of dones)) first next → RoseBy (carry_faults (outputs_done d)) next last
    → RoseBy (carry_faults (outputs_of (dones ++ d ∷ []))) first last
more_carried dones d first next last rose more =
    subst (λ outputs. RoseBy (carry_faults outputs) first last) (sym (outputs_push dones d))
    (subst (λ n. RoseBy n first last) (sym (faults_append (outputs_of dones) (outputs_done d)))
    (rose_more _ _ _ _ _ rose more))

-- the lines ran, and one more over the instances then
run_more : (hosts : List Host) (lines : List Line) (line : Line) (old mid new : List KeeperState) (before after : List ℕ) (d : Done) (first next last : Carried)
    (run : HasRun hosts lines old mid first next before) → Does line d → IsDone (hosts_over hosts run.dones) d mid new → after ≡ before ++ line_of (1 + length lines) d
    → RoseBy (carry_faults (outputs_done d)) next.faults last.faults → GrowsBy next.passed last.passed (IsPassedFor (hosts_over hosts run.dones) mid new d)
    → HasRunTo hosts (hosts_done (hosts_over hosts run.dones) d) (lines ++ line ∷ []) old new first last after
run_more hosts lines line old mid new before after d first next last run does is text_is rose grows = record {
  run = record {
    dones = run.dones ++ d ∷ [];
    done = done_push lines line run.dones d run.done does;
    text_is = text_more lines run.dones d before after run.done run.text_is text_is;
    ran = more_done hosts old mid new run.dones d first.passed next.passed run.ran run.passed is;
    formed = more_formed hosts old mid new run.dones d first.passed next.passed run.ran run.passed is run.formed;
    among = more_among hosts old mid new run.dones d first.passed next.passed run.ran run.passed is run.among;
    carried = more_carried run.dones d first.faults next.faults last.faults run.carried rose;
    passed = passes_more hosts run.dones d old mid new first.passed next.passed last.passed run.passed is grows;
  };
  then_are = sym (over_push hosts run.dones d);
}

pub one_more : (hosts there then : List Host) (lines : List Line) (line : Line) (old mid new : List KeeperState) (before after : List ℕ) (d : Done) (first next last : Carried)
    → HasRunTo hosts there lines old mid first next before → Does line d → IsDone there d mid new → then ≡ hosts_done there d → after ≡ before ++ line_of (1 + length lines) d
    → RoseBy (carry_faults (outputs_done d)) next.faults last.faults → GrowsBy next.passed last.passed (IsPassedFor there mid new d)
    → HasRunTo hosts then (lines ++ line ∷ []) old new first last after
one_more hosts there then lines line old mid new before after d first next last to does is walked text_is rose grows =
    let are : there ≡ hosts_over hosts to.run.dones = to.then_are in
    subst (λ (now : List Host). HasRunTo hosts now (lines ++ line ∷ []) old new first last after) (sym (walked ∙ ap (λ (h : List Host). hosts_done h d) are))
    (run_more hosts lines line old mid new before after d first next last to.run does (subst (λ (h : List Host). IsDone h d mid new) are is) text_is rose
    (subst (λ (h : List Host). GrowsBy next.passed last.passed (IsPassedFor h mid new d)) are grows))

-- ---- cut short

-- no line was run
pub none_ran : (hosts : List Host) (lines : List Line) (old new : List KeeperState) (told : Option Trail) → AreKept old new → IsCut hosts lines old new told told
none_ran hosts lines old new told kept = record {
  count = 0;
  dones = [];
  done = tt;
  ran = run_kept (all_kept old) (no_lines Seen Output seen_in spelled stop_in old) kept;
  passed = (kept, refl);
}

module _ (before more lines : List Line) (line : Line) (all : before ++ line ∷ more ≡ lines) where
  -- the lines before one, and those with it
  first_lines : take (length before) lines ≡ before
  first_lines = ap (take (length before)) (sym all) ∙ take_at before (line ∷ more) (length before) refl

  next_lines : take (length before + 1) lines ≡ before ++ line ∷ []
  next_lines =
      let whole : (before ++ line ∷ []) ++ more ≡ lines = append_assoc before (line ∷ []) more ∙ all in
      let long : length (before ++ line ∷ []) ≡ length before + 1 = length-append before (line ∷ []) in
      ap (take (length before + 1)) (sym whole) ∙ take_at (before ++ line ∷ []) more (length before + 1) long

-- these were, and perhaps the next, which is not written
run_cut : (hosts : List Host) (before more lines : List Line) (line : Line) (old mid new : List KeeperState) (text : List ℕ) (first next : Carried) (last : Option Trail)
    (run : HasRun hosts before old mid first next text) → before ++ line ∷ more ≡ lines → CutLine (hosts_over hosts run.dones) line mid new next.passed last → IsCut hosts lines old new first.passed last
run_cut hosts before more lines line old mid new text first next last run all (inl (kept, same)) = record {
  count = length before;
  dones = run.dones;
  done = subst (λ front. AreDone front run.dones) (sym (first_lines before more lines line all)) run.done;
  ran = run_kept (all_kept old) run.ran kept;
  passed = passes_still hosts run.dones old mid new first.passed next.passed last run.passed kept same;
}
run_cut hosts before more lines line old mid new text first next last run all (inr (d, does, is, grows)) = record {
  count = length before + 1;
  dones = run.dones ++ d ∷ [];
  done = subst (λ front. AreDone front (run.dones ++ d ∷ [])) (sym (next_lines before more lines line all)) (done_push before line run.dones d run.done does);
  ran = more_done hosts old mid new run.dones d first.passed next.passed run.ran run.passed is;
  passed = passes_more hosts run.dones d old mid new first.passed next.passed last run.passed is grows;
}

pub some_ran : (hosts there : List Host) (before more lines : List Line) (line : Line) (old mid new : List KeeperState) (text : List ℕ) (first next : Carried) (last : Option Trail)
    → HasRunTo hosts there before old mid first next text → before ++ line ∷ more ≡ lines → CutLine there line mid new next.passed last → IsCut hosts lines old new first.passed last
some_ran hosts there before more lines line old mid new text first next last to all cut =
    run_cut hosts before more lines line old mid new text first next last to.run all (subst (λ (h : List Host). CutLine h line mid new next.passed last) to.then_are cut)

all_lines : (lines : List Line) → take (length lines) lines ≡ lines
all_lines lines = ap (take (length lines)) (sym (append-nil lines)) ∙ take_at lines [] (length lines) refl

-- all were
pub all_ran : (hosts : List Host) (lines : List Line) (old new : List KeeperState) (first last : Carried) (text : List ℕ) → HasRun hosts lines old new first last text
    → IsCut hosts lines old new first.passed last.passed
all_ran hosts lines old new first last text run = record {
  count = length lines;
  dones = run.dones;
  done = subst (λ front. AreDone front run.dones) (sym (all_lines lines)) run.done;
  ran = run.ran;
  passed = run.passed;
}
