-- The erasure theorem with no premise.
use Rattle.std.proofs.Common.{List, ◌≡◌, Bool, refl, ap, sym, ◌∙◌, ℕ, [], ◌∷◌, suc, ◌++◌, true}
use Rattle.misp_history.proofs.Prelude.{Act, Inst, IsClosed, Key, Net, OrgId, World, cut, cut_rows, run, step, tables, tables_cut}
use Rattle.misp_history.specs.Acts.{replies_to}
use Rattle.misp_erasure.specs.Kept.{keys_ever_known, acceptances, kept_keys, kept, start, erased, replies}
use Rattle.misp_erasure.proofs.Keeping.{all_kept, is_closed, is_kept}
use Rattle.misp_erasure.specs.Erasure.{IsKept, cut_world, erase}
use Rattle.misp_erasure.proofs.Erasing.{kept_first, replies_cut, run_cut}
use Rattle.misp_erasure.proofs.Members.{member}
use Rattle.misp_erasure.proofs.Least.{least, ever_kept, pairs_in_acts}

pub kept_is_closed : (o : OrgId) (net : Net) (acts : List Act) → IsClosed (kept o net 0 start acts)
unfolding kept kept_keys all_kept
kept_is_closed o net acts = is_closed (keys_ever_known o net 0 start acts) (acceptances net 0 start acts)

pub kept_has : (o : OrgId) (net : Net) (acts : List Act) → IsKept o (kept o net 0 start acts) net 0 start acts
unfolding kept kept_keys all_kept
kept_has o net acts = is_kept (keys_ever_known o net 0 start acts) (acceptances net 0 start acts) o net 0 start acts (λ k m. m) (λ k m. m)

pub cut_start : (keep : Key → Bool) → cut_world keep start ≡ start
unfolding cut_world cut start
cut_start keep = refl

-- dropping from the acts every element that the organisation was never granted changes none of its replies
pub erasure : (o : OrgId) (net : Net) (acts : List Act) → replies o net (erased o net acts) ≡ replies o net acts
unfolding replies erased
erasure o net acts =
    ap (λ w. replies_to o net 0 w (erase o (kept o net 0 start acts) net 0 start acts)) (sym (cut_start (kept o net 0 start acts)))
    ∙ replies_cut (kept o net 0 start acts) (kept_is_closed o net acts) o net 0 start acts (kept_has o net acts)

-- acts that are the same to it give it the same replies
pub same_to_it : (o : OrgId) (net : Net) (acts others : List Act) → erased o net others ≡ erased o net acts → replies o net others ≡ replies o net acts
same_to_it o net acts others h = sym (erasure o net others) ∙ ap (replies o net) h ∙ erasure o net acts

-- the state after what is left of the acts is what is kept of the state after the acts
run_kept : (keep : Key → Bool) (c : IsClosed keep) (o : OrgId) (net : Net) (acts : List Act) → IsKept o keep net 0 start acts → run net 0 start (erase o keep net 0 start acts) ≡ cut_world keep (run net 0 start acts)
run_kept keep c o net acts h = ap (λ w. run net 0 w (erase o keep net 0 start acts)) (sym (cut_start keep)) ∙ run_cut keep c o net 0 start acts h

pub erased_run : (o : OrgId) (net : Net) (acts : List Act) → run net 0 start (erased o net acts) ≡ cut_world (kept o net 0 start acts) (run net 0 start acts)
unfolding erased
erased_run o net acts = run_kept (kept o net 0 start acts) (kept_is_closed o net acts) o net acts (kept_has o net acts)

-- a set that is kept of acts is kept of those before the last ones
kept_before : (keep : Key → Bool) (o : OrgId) (net : Net) (n : ℕ) (w : World) (acts more : List Act) → IsKept o keep net n w (acts ++ more) → IsKept o keep net n w acts
unfolding IsKept
kept_before keep o net n w [] more h = kept_first keep o net n w more h
kept_before keep o net n w (act ∷ acts) more h = (h.0, h.1, kept_before keep o net (suc n) (step net n w act) acts more h.2)

-- after each of the erased acts the state is what is kept of the state after the act
erased_part : (o : OrgId) (net : Net) (acts more : List Act) → run net 0 start (erase o (kept o net 0 start (acts ++ more)) net 0 start acts) ≡ cut_world (kept o net 0 start (acts ++ more)) (run net 0 start acts)
erased_part o net acts more =
    run_kept (kept o net 0 start (acts ++ more)) (kept_is_closed o net (acts ++ more)) o net acts (kept_before (kept o net 0 start (acts ++ more)) o net 0 start acts more (kept_has o net (acts ++ more)))

pub erased_tables : (o : OrgId) (net : Net) (acts more : List Act) (i : Inst) →
    tables (run net 0 start (erase o (kept o net 0 start (acts ++ more)) net 0 start acts)).log i ≡ cut_rows (kept o net 0 start (acts ++ more)) (tables (run net 0 start acts).log i)
unfolding cut_world
erased_tables o net acts more i =
    ap (λ (w : World). tables w.log i) (erased_part o net acts more) ∙ tables_cut (kept o net 0 start (acts ++ more)) (kept_is_closed o net (acts ++ more)) (run net 0 start acts).log i

-- and the groups are equal
pub erased_groups : (o : OrgId) (net : Net) (acts more : List Act) →
    (run net 0 start (erase o (kept o net 0 start (acts ++ more)) net 0 start acts)).groups ≡ (run net 0 start acts).groups
unfolding cut_world
erased_groups o net acts more = ap (λ (w : World). w.groups) (erased_part o net acts more)

-- and so is what was made of the administration
pub erased_made : (o : OrgId) (net : Net) (acts more : List Act) →
    (run net 0 start (erase o (kept o net 0 start (acts ++ more)) net 0 start acts)).made ≡ (run net 0 start acts).made
unfolding cut_world
erased_made o net acts more = ap (λ (w : World). w.made) (erased_part o net acts more)

-- the kept keys are the least set that is closed and has what it is to have
pub kept_is_least : (keep : Key → Bool) (o : OrgId) (net : Net) (acts : List Act) → IsClosed keep → IsKept o keep net 0 start acts → (k : Key) → kept o net 0 start acts k ≡ true → keep k ≡ true
unfolding kept kept_keys all_kept
kept_is_least keep o net acts c h k m =
    least keep c (keys_ever_known o net 0 start acts) (acceptances net 0 start acts) (ever_kept keep o net 0 start acts h) (pairs_in_acts keep o net 0 start acts h) k
    (member (kept_keys o net 0 start acts) k m)
