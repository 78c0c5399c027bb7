-- What an organisation was never granted changes none of its replies.
use Rattle.std.proofs.Common.{◌≡◌, ℕ, zero, suc, Bool, true, false, List, [], ◌∷◌, length, map, take, drop, Option, Some, None, refl, sym, ◌∙◌, ap, subst, arith, if◌then◌else◌, take-append-drop}
use Rattle.std.specs.List.{AllByRecursion}
use Rattle.misp_ids.specs.Same.{Inst}
use Rattle.misp_effects.specs.Effect.{stop_of}
use Rattle.misp_effects.specs.KeeperStates.{AllReport}
use Rattle.misp_model.specs.Closed.{cut_rows}
use Rattle.misp_model.specs.Prelude.{IsClosed, Key}
use Rattle.misp_history.specs.Acts.{Net}
use Rattle.misp_history.specs.History.{tables}
use Rattle.misp_erasure.specs.Erasure.{cut_world, HasKnown, IsKept, erased_act, erase}
use Rattle.misp_erasure.specs.Kept.{kept, erased}
use Rattle.misp_erasure.proofs.Erasing.{kept_first, step_cut}
use Rattle.misp_erasure.proofs.Headline.{kept_is_closed, kept_has, cut_start, erased_groups, erased_made, erased_tables}
use Rattle.misp_net.specs.Prelude.{Act, AreAmong, AreDistinct, HasRun, Host, KeeperState, Line, OrgId, Outcome, Output, Stopped, Tell, Went, World, acts_of, links_of, meaning, outputs_of, start, step, stop_in, told_output}
use Rattle.misp_net.specs.Carrying.{Carried}
use Rattle.misp_net.specs.Hosts.{hosts_in, hosts_made}
use Rattle.misp_net.specs.History.{act_in, acts_in, told_outputs, world_after, empty_tables, is_of}
use Rattle.misp_net.specs.Promise.{ShowNoStop, only, replies_over, replies_to, own_forms, world_of, IsHistoryOf, IsNetRun, IsPrivateFor}
use Rattle.misp_net.proofs.Alike.{acts_alike, own_left}
use Rattle.misp_net.proofs.SyncLaw.{AreSyncLaws}
use Rattle.misp_net.proofs.Telling.{ArePut, world_whole}
use Rattle.misp_net.proofs.Made.{made_alike}
use Rattle.misp_net.proofs.Tied.{made_apart, made_first, tied}
use Rattle.misp_net.proofs.Walks.{idle_left}
use Rattle.misp_net.proofs.Histories.{course, each, newest_held, replied, set_up}
use Rattle.misp_net.proofs.Commands.{act_law, idle_same}
use Rattle.misp_history.specs.Acts as model

-- ---- its own among all

-- where its own are the same, and the rest is
only_same : {A : Type 0} (own : Bool) (x y : A) (xs ys : List A) → (own ≡ true → x ≡ y) → xs ≡ ys → only own x xs ≡ only own y ys
only_same true x y xs ys same rest = λ i. same refl i ∷ rest i
only_same false x y xs ys same rest = rest

-- where those that are its own in both have the same, and the rest is the same
only_alike : {A B : Type 0} (own its : Bool) (f g : B) (x y : A) (xs ys : List A) → (if own then Some f else None) ≡ (if its then Some g else None)
    → (own ≡ true → its ≡ true → f ≡ g → x ≡ y) → xs ≡ ys → only own x xs ≡ only its y ys
only_alike true true f g x y xs ys same one rest = let told : f ≡ g = cc in λ i. one refl refl told i ∷ rest i
only_alike true false f g x y xs ys same one rest = absurd cc
only_alike false true f g x y xs ys same one rest = absurd cc
only_alike false false f g x y xs ys same one rest = rest

-- ---- over a set of keys that has all that the organisation knows

module _ (keep : Key → Bool) (closed : IsClosed keep) (o : OrgId) (described : List Host) where
  -- its own acts are told the same
  own_act : (hosts : List Host) (w : World) (act : Act) → HasKnown o keep w → is_of o hosts act ≡ true
      → told_output Went hosts (cut_world keep w) act ≡ told_output Went hosts w act
  own_act hosts w act has own = (act_law hosts act).own keep closed o w own has

  kept_replies : (n : ℕ) (w : World) (acts : List Act) → IsKept o keep (links_of described) n w (acts_in n described w acts)
      → replies_over o n described (cut_world keep w) acts (erase o keep (links_of described) n w (acts_in n described w acts))
      ≡ replies_over o n described w acts (acts_in n described w acts)
  unfolding erase IsKept cut_world
  kept_replies n w [] has = refl
  kept_replies n w (act ∷ acts) has =
      let hosts : List Host = hosts_in described w in
      let a : model.Act = act_in hosts act in
      let after : World = step (links_of described) n w a in
      let more : List model.Act = acts_in (suc n) described after acts in
      only_same (is_of o hosts act) (told_output Went hosts (cut_world keep w) act) (told_output Went hosts w act)
      (replies_over o (suc n) described (step (links_of described) n (cut_world keep w) (erased_act o keep n w a)) acts (erase o keep (links_of described) (suc n) after more))
      (replies_over o (suc n) described after acts more) (own_act hosts w act has.0)
      (ap (λ v. replies_over o (suc n) described v acts (erase o keep (links_of described) (suc n) after more))
      (step_cut keep closed o (links_of described) n w a has.0 (kept_first keep o (links_of described) (suc n) after more has.2) has.1)
      ∙ kept_replies (suc n) after acts has.2)

private_replies : (o : OrgId) (described : List Host) (acts : List Act)
    → replies_over o 0 described start acts (erased o (links_of described) (acts_in 0 described start acts)) ≡ replies_over o 0 described start acts (acts_in 0 described start acts)
unfolding erased
private_replies o described acts =
    let history : List model.Act = acts_in 0 described start acts in
    let keep : Key → Bool = kept o (links_of described) 0 start history in
    ap (λ w. replies_over o 0 described w acts (erase o keep (links_of described) 0 start history)) (sym (cut_start keep))
    ∙ kept_replies keep (kept_is_closed o (links_of described) history) o described 0 start acts (kept_has o (links_of described) history)

-- ---- scripts that are alike

-- its own act, and by what it is refused
abbrev own_form : OrgId → List Host → Act → Option (Option Output)
own_form o hosts act = if is_of o hosts act then Some (meaning hosts act).refusal else None

-- over one history, which both come to without what is not kept, its own acts are told the same
module _ (o : OrgId) (described : List Host) (distinct : AreDistinct described) (keep others_keep : Key → Bool) where
  -- of two acts, by the instances of one moment, which are the same in all three states
  one_alike : (n : ℕ) (w v u : World) (act other : Act) (a : model.Act) → w.made ≡ v.made → w.made ≡ u.made
      → a ≡ erased_act o keep n v (act_in (hosts_in described v) act) → a ≡ erased_act o others_keep n u (act_in (hosts_in described u) other)
      → is_of o (hosts_in described w) other ≡ true → is_of o (hosts_in described w) act ≡ true → (meaning (hosts_in described w) other).refusal ≡ (meaning (hosts_in described w) act).refusal
      → told_output Went (hosts_in described w) w other ≡ told_output Went (hosts_in described w) w act
  one_alike n w v u act other a same also one two its own told =
      let first : hosts_in described w ≡ hosts_in described v = ap (hosts_made described) same in
      let second : hosts_in described w ≡ hosts_in described u = ap (hosts_made described) also in
      let mine : is_of o (hosts_in described v) act ≡ true = subst (λ hs. is_of o hs act ≡ true) first own in
      let theirs : is_of o (hosts_in described u) other ≡ true = subst (λ hs. is_of o hs other ≡ true) second its in
      let is : act_in (hosts_in described w) other ≡ act_in (hosts_in described w) act =
      ap (λ hs. act_in hs other) second
      ∙ sym (own_left o others_keep n u (hosts_in described u) other theirs)
      ∙ sym two
      ∙ one
      ∙ own_left o keep n v (hosts_in described v) act mine
      ∙ sym (ap (λ hs. act_in hs act) first) in
      acts_alike o (hosts_in described w) (made_apart described w.made distinct) w other act its own is told

  same_acts : (n : ℕ) (w v u : World) (acts others : List Act) (history : List model.Act) → w.made ≡ v.made → w.made ≡ u.made → own_forms o n described u others ≡ own_forms o n described v acts
      → history ≡ erase o keep (links_of described) n v (acts_in n described v acts) → history ≡ erase o others_keep (links_of described) n u (acts_in n described u others)
      → replies_over o n described w others history ≡ replies_over o n described w acts history
  unfolding erase
  same_acts n w v u [] [] history same also forms left right = refl
  same_acts n w v u [] (other ∷ others) history same also forms left right = absurd cc
  same_acts n w v u (act ∷ acts) [] history same also forms left right = absurd cc
  same_acts n w v u (act ∷ acts) (other ∷ others) [] same also forms left right = refl
  same_acts n w v u (act ∷ acts) (other ∷ others) (a ∷ history) same also forms left right =
      let mine : model.Act = act_in (hosts_in described v) act in
      let theirs : model.Act = act_in (hosts_in described u) other in
      let after : World = step (links_of described) n v mine in
      let behind : World = step (links_of described) n u theirs in
      let next : World = step (links_of described) n w a in
      let form : own_form o (hosts_in described u) other ≡ own_form o (hosts_in described v) act = cc in
      let rest : own_forms o (suc n) described behind others ≡ own_forms o (suc n) described after acts = cc in
      let one : a ≡ erased_act o keep n v mine = cc in
      let two : a ≡ erased_act o others_keep n u theirs = cc in
      let then_left : history ≡ erase o keep (links_of described) (suc n) after (acts_in (suc n) described after acts) = cc in
      let then_right : history ≡ erase o others_keep (links_of described) (suc n) behind (acts_in (suc n) described behind others) = cc in
      let hosts : List Host = hosts_in described w in
      let moment : own_form o hosts other ≡ own_form o hosts act =
      ap (λ made. own_form o (hosts_made described made) other) also ∙ form ∙ sym (ap (λ made. own_form o (hosts_made described made) act) same) in
      only_alike (is_of o hosts other) (is_of o hosts act) (meaning hosts other).refusal (meaning hosts act).refusal (told_output Went hosts w other) (told_output Went hosts w act)
      (replies_over o (suc n) described next others history) (replies_over o (suc n) described next acts history) moment (one_alike n w v u act other a same also one two)
      (same_acts (suc n) next after behind acts others history (made_alike o keep (links_of described) n w v a mine same one) (made_alike o others_keep (links_of described) n w u a theirs also two)
      rest then_left then_right)

replied_alike : (o : OrgId) (described : List Host) (distinct : AreDistinct described) (acts others : List Act) → own_forms o 0 described start others ≡ own_forms o 0 described start acts
    → erased o (links_of described) (acts_in 0 described start others) ≡ erased o (links_of described) (acts_in 0 described start acts)
    → replies_over o 0 described start others (acts_in 0 described start others) ≡ replies_over o 0 described start acts (acts_in 0 described start acts)
unfolding erased
replied_alike o described distinct acts others forms same =
    let history : List model.Act = acts_in 0 described start acts in
    let theirs : List model.Act = acts_in 0 described start others in
    sym (private_replies o described others)
    ∙ ap (λ all. replies_over o 0 described start others all) same
    ∙ same_acts o described distinct (kept o (links_of described) 0 start history) (kept o (links_of described) 0 start theirs)
    0 start start start acts others (erased o (links_of described) history) refl refl forms refl (sym same)
    ∙ private_replies o described acts

-- ---- what is left of the tables

take_erased : (o : OrgId) (keep : Key → Bool) (net : Net) (count n : ℕ) (w : World) (acts : List model.Act) → take count (erase o keep net n w acts) ≡ erase o keep net n w (take count acts)
unfolding erase
take_erased o keep net zero n w [] = refl
take_erased o keep net zero n w (act ∷ acts) = refl
take_erased o keep net (suc count) n w [] = refl
take_erased o keep net (suc count) n w (act ∷ acts) =
    ap (λ more. erased_act o keep n w act ∷ more) (take_erased o keep net count (suc n) (step net n w act) acts)

tables_left : (o : OrgId) (hosts : List Host) (history : List model.Act) (count : ℕ) (at : Inst)
    → tables (world_of hosts (take count (erased o (links_of hosts) history))).log at ≡ cut_rows (kept o (links_of hosts) 0 start history) (tables (world_of hosts (take count history)).log at)
unfolding erased
tables_left o hosts history count at =
    let net : Net = links_of hosts in
    ap (λ acts. tables (world_of hosts acts).log at) (take_erased o (kept o net 0 start history) net count 0 start history)
    ∙ subst (λ all. tables (world_of hosts (erase o (kept o net 0 start all) net 0 start (take count history))).log at ≡ cut_rows (kept o net 0 start all) (tables (world_of hosts (take count history)).log at))
    (take-append-drop count history) (erased_tables o net (take count history) (drop count history) at)

groups_left : (o : OrgId) (hosts : List Host) (history : List model.Act) (count : ℕ) (at : Inst)
    → (world_of hosts (take count (erased o (links_of hosts) history))).groups at ≡ (world_of hosts (take count history)).groups at
unfolding erased
groups_left o hosts history count at =
    let net : Net = links_of hosts in
    ap (λ acts. (world_of hosts acts).groups at) (take_erased o (kept o net 0 start history) net count 0 start history)
    ∙ subst (λ all. (world_of hosts (erase o (kept o net 0 start all) net 0 start (take count history))).groups at ≡ (world_of hosts (take count history)).groups at)
    (take-append-drop count history) (ap (λ groups. groups at) (erased_groups o net (take count history) (drop count history)))

-- what is made is left whole
made_left : (o : OrgId) (hosts : List Host) (history : List model.Act) (count : ℕ)
    → (world_of hosts (take count (erased o (links_of hosts) history))).made ≡ (world_of hosts (take count history)).made
unfolding erased
made_left o hosts history count =
    let net : Net = links_of hosts in
    ap (λ acts. (world_of hosts acts).made) (take_erased o (kept o net 0 start history) net count 0 start history)
    ∙ subst (λ all. (world_of hosts (erase o (kept o net 0 start all) net 0 start (take count history))).made ≡ (world_of hosts (take count history)).made)
    (take-append-drop count history) (erased_made o net (take count history) (drop count history))

-- ---- the run

-- where nothing is stopped, it is replied what the history says of all acts
replied_whole : (o : OrgId) (described : List Host) → AreDistinct described → (n : ℕ) (w : World) (acts : List Act) (outcomes : List Outcome) (outputs : List Output)
    → length outcomes ≡ length acts → AreAmong (length described) acts → map stop_of outcomes ≡ map stop_in outputs → AllByRecursion (λ output. stop_in output ≡ None) outputs
    → replies_to o (hosts_in described w) acts (told_outputs n described w acts outcomes) ≡ replies_over o n described w acts (acts_in n described w acts)
replied_whole o described distinct n w [] outcomes outputs each among agree none = refl
replied_whole o described distinct n w (act ∷ acts) [] outputs each among agree none = absurd (omega (arith, each))
replied_whole o described distinct n w (act ∷ acts) (outcome ∷ outcomes) [] each among agree none = absurd cc
replied_whole o described distinct n w (act ∷ acts) (Stopped stop k lost ∷ outcomes) (output ∷ outputs) each among agree none =
    let first : Some stop ≡ stop_in output = cc in absurd (let no_ : Some stop ≡ None = first ∙ none.0 in cc)
replied_whole o described distinct n w (act ∷ acts) (Went ∷ outcomes) (output ∷ outputs) each among agree none =
    let hosts : List Host = hosts_in described w in
    let told : Output = told_output Went hosts w act in
    let rest : map stop_of outcomes ≡ map stop_in outputs = cc in
    ap (only (is_of o hosts act) told)
    (ap (λ hs. replies_to o hs acts (told_outputs (suc n) described (world_after Went n described w act) acts outcomes)) (tied described distinct n w Went act among.0)
    ∙ ap (λ v. replies_to o (hosts_in described v) acts (told_outputs (suc n) described v acts outcomes)) (world_whole (links_of described) n w (act_in hosts act))
    ∙ replied_whole o described distinct (suc n) (step (links_of described) n w (act_in hosts act)) acts outcomes outputs (omega (arith, each)) among.1 rest none.1)

module _ (puts : ArePut) (law : AreSyncLaws) (hosts : List Host) (lines : List Line) (old new : List KeeperState) (before after : Carried) (text : List ℕ) (run : HasRun hosts lines old new before after text) where
  abbrev acts : List Act
  acts = acts_of run.dones

  abbrev outputs : List Output
  outputs = outputs_of run.dones

  module _ (distinct : AreDistinct hosts) (empty : Tell old (empty_tables hosts)) (reports : AllReport new) where
    abbrev outcomes : List Outcome
    outcomes = (course puts law hosts distinct acts old new outputs run.among run.ran empty reports).outcomes

    all_replied : outputs ≡ told_outputs 0 hosts start acts outcomes
    all_replied = replied puts law hosts distinct acts old new outputs run.among run.ran empty reports

    -- what it was replied is what the history says of all acts
    told_whole : ShowNoStop run.dones → (o : OrgId) → replies_to o hosts acts outputs ≡ replies_over o 0 hosts start acts (acts_in 0 hosts start acts)
    told_whole none o =
        ap (replies_to o hosts acts) all_replied
        ∙ ap (λ hs. replies_to o hs acts (told_outputs 0 hosts start acts outcomes)) (sym (made_first hosts))
        ∙ replied_whole o hosts distinct 0 start acts outcomes outputs (each puts law hosts distinct acts old new outputs run.among run.ran empty reports) run.among
        (course puts law hosts distinct acts old new outputs run.among run.ran empty reports).agree none.0

    is_private : ShowNoStop run.dones → (o : OrgId) → IsPrivateFor o hosts acts outputs
    is_private none o = record {
      kept = told_whole none o ∙ sym (private_replies o hosts acts);
      alike = λ others forms same. replied_alike o hosts distinct acts others forms same ∙ sym (told_whole none o);
      tables = tables_left o hosts (acts_in 0 hosts start acts);
      groups = groups_left o hosts (acts_in 0 hosts start acts);
      administration = λ count. ap (hosts_made hosts) (made_left o hosts (acts_in 0 hosts start acts) count);
    }

    is_history : IsHistoryOf hosts run.dones new
    is_history = record {
      outcomes = outcomes;
      each = each puts law hosts distinct acts old new outputs run.among run.ran empty reports;
      agree = (course puts law hosts distinct acts old new outputs run.among run.ran empty reports).agree;
      replied = all_replied;
      tables = reports.0;
      tables_are = reports.1;
      newest = newest_held puts law hosts distinct acts old new outputs run.among run.ran empty reports;
      administration = set_up puts law hosts distinct acts old new outputs run.among run.ran empty reports;
      private = is_private;
    }

  pub is_net_run : IsNetRun hosts lines old new before after text
  is_net_run = record {
    run = run;
    refused = λ moment outcome act tables idle. idle_same outcome moment act tables idle;
    unchanged = idle_left;
    history = is_history;
  }
