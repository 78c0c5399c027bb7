-- Leaving out of a run what an organisation was never granted leaves out of each state just that, and changes no reply.
use Rattle.std.proofs.Common.{◌≡◌, ℕ, refl, List, [], ◌∷◌, ◌++◌, Bool, true, false, ap, sym, ◌∙◌, map, cond, suc, ◌||◌, not, Option, Some, None, append-nil}
use Rattle.misp_history.proofs.Prelude.{Act, AddEvent, AddParts, Ask, Asks, Caller, Change, Command, Delete, DeleteEvent, EditAttribute, EditEvent, Group, Inst, IsClosed, Judge, Key, Misfits, Net, Nothing, OrgId, Other, Propose, Publish}
use Rattle.misp_history.proofs.Prelude.{Route, Scene, Sight, Syncs, TakePart, Version, World, all_both_give, and_parts, answer, asked, brings, cond_both, counted, cut, cut_rows, event_key, filter-map, filter_all, is_accepted, known}
use Rattle.misp_history.proofs.Prelude.{known_at, known_cut, list_all, list_all-append, moved, passing, run, same_org, same_org-sound, scene, step, synced, synced_groups, tables, tables_cut}
use Rattle.std.proofs.lemmas.List.Elements.{filter-append}
use Rattle.misp_model.specs.declared.change.Change.TheVariants.{DeleteReference, EditObject}
use Rattle.misp_model.proofs.Prelude.{cut_scene}
use Rattle.misp_model.specs.Closed.{HasPair, cut_body, erased_ask}
use Rattle.misp_model.proofs.Moving.{counted_cut}
use Rattle.misp_model.proofs.Plain_requests.{Follows, delete_element_follows, delete_follows, delete_reference_follows, edit_event_follows, edit_follows, edit_object_follows, propose_follows, publish_follows, sight_follows, tag_follows}
use Rattle.misp_model.proofs.Plain_requests.{take_follows, untag_follows}
use Rattle.misp_model.proofs.Judging.{judge_follows}
use Rattle.misp_history.specs.Acts.{replies_to, reply_to}
use Rattle.misp_erasure.specs.Erasure.{cut_world, HasKnown, HasPairs, IsKept, erased_request, erased_command, erased_act, erase}
use Rattle.misp_erasure.proofs.Moving.{passing_cut}
use Rattle.misp_erasure.proofs.Submitting.{add_event_follows, add_parts_follows}
use Rattle.misp_erasure.proofs.Owners.{brings_own}

-- what is kept at the beginning
pub kept_first : (keep : Key → Bool) (o : OrgId) (net : Net) (n : ℕ) (w : World) (acts : List Act) → IsKept o keep net n w acts → HasKnown o keep w
unfolding IsKept
kept_first keep o net n w [] h = h
kept_first keep o net n w (act ∷ acts) h = h.0

module _ (keep : Key → Bool) (c : IsClosed keep) where
  -- what is left of an accepted request is accepted over the kept rows and brings there what is kept; where nothing is left, nothing that it brings is kept
  pub follows : (s : Scene) (a : Ask) → HasPair keep s a → is_accepted s a ≡ true → Follows keep s a (erased_ask keep s a)
  unfolding erased_ask brings cut cut_body
  follows s (Ask.Change (AddEvent b)) pair h = add_event_follows keep c s b (keep (event_key b.event)) refl h
  follows s (Ask.Change (AddParts e b)) pair h = add_parts_follows keep c s b e _ refl h
  follows s (Ask.Change (EditAttribute e p edit)) pair h = edit_follows keep c s e p edit _ refl h
  follows s (Ask.Change (EditEvent e edit)) pair h = edit_event_follows keep c s e edit _ refl h
  follows s (Ask.Change (EditObject e x edit)) pair h = edit_object_follows keep c s e x edit _ refl h
  follows s (Ask.Change (Delete e p)) pair h = delete_element_follows keep c s e p _ refl h
  follows s (Ask.Change (DeleteReference e x u)) pair h = delete_reference_follows keep c s e x u h
  follows s (Ask.Change (Change.Tag e p tag)) pair h = tag_follows keep c s e p tag _ refl h
  follows s (Ask.Change (Change.Untag e p name)) pair h = untag_follows keep c s e p name _ refl h
  follows s (Sight e t d) pair h = sight_follows keep c s e t d _ refl h
  follows s (Ask.Change (DeleteEvent e)) pair h = delete_follows keep c s e _ refl h
  follows s (Ask.Change (Publish e)) pair h = publish_follows keep c s e _ refl h
  follows s (Propose d) pair h = propose_follows keep c s d _ refl h
  follows s (Judge e n accept) pair h = judge_follows keep c s e n accept _ refl pair h
  follows s (TakePart p) pair h = take_follows keep c s p _ refl h
  follows s _ pair h = refl

  known_at_cut : (w : World) (i : Inst) (o : OrgId) → known_at (cut_world keep w) i o ≡ cut_rows keep (known_at w i o)
  unfolding known_at cut_world
  known_at_cut w i o = ap (λ rows. known rows (w.groups i) i o) (tables_cut keep c w.log i) ∙ known_cut keep c (tables w.log i) (w.groups i) i o

  scene_cut : (n : ℕ) (w : World) (act : Act) (caller : Caller) → scene n (cut_world keep w) act caller ≡ cut_scene keep (scene n w act caller)
  unfolding scene cut_scene cut_world
  scene_cut n w act caller = rw (known_at_cut w act.at caller.org) refl

  -- a synchronisation
  moved_cut : (r : Route) (vs : List Version) → map (moved r) (cut keep vs) ≡ cut keep (map (moved r) vs)
  unfolding moved cut
  moved_cut r vs = sym (filter-map (moved r) (λ v. keep v.key) vs)

  append_cut : (xs ys : List Version) → cut keep (xs ++ ys) ≡ cut keep xs ++ cut keep ys
  unfolding cut
  append_cut xs ys = filter-append (λ v. keep v.key) xs ys

  synced_cut : (w : World) (r : Route) → synced (cut_world keep w) r ≡ cut_world keep (synced w r)
  unfolding synced cut_world
  synced_cut w r = λ i. record { log = (ap (λ vs. cut keep w.log ++ vs) came ∙ sym (append_cut w.log _)) i; groups = synced_groups w.groups r; made = w.made }
    where
      groups : List Group
      groups = synced_groups w.groups r r.into

      came : counted (tables (cut keep w.log) r.into) groups (map (moved r) (passing (cut keep w.log) (w.groups r.from) r))
          ≡ cut keep (counted (tables w.log r.into) groups (map (moved r) (passing w.log (w.groups r.from) r)))
      came =
          (λ i. counted (tables_cut keep c w.log r.into i) groups (map (moved r) (passing_cut keep c w.log (w.groups r.from) r i)))
          ∙ ap (counted (cut_rows keep (tables w.log r.into)) groups) (moved_cut r (passing w.log (w.groups r.from) r))
          ∙ counted_cut keep c (tables w.log r.into) groups (map (moved r) (passing w.log (w.groups r.from) r))

  -- a request, by what it brings
  world_is : (w : World) (xs ys : List Version) → xs ≡ cut keep ys → record (cut_world keep w) { log = (cut_world keep w).log ++ xs } ≡ cut_world keep (record w { log = w.log ++ ys })
  unfolding cut_world
  world_is w xs ys h = λ i. record { log = (ap (λ vs. cut keep w.log ++ vs) h ∙ sym (append_cut w.log ys)) i; groups = w.groups; made = w.made }

  nothing_kept : (w : World) (ys : List Version) → cut keep ys ≡ [] → cut_world keep w ≡ cut_world keep (record w { log = w.log ++ ys })
  unfolding cut_world
  nothing_kept w ys h = λ i. record { log = (sym (append_cut w.log ys ∙ ap (λ vs. cut keep w.log ++ vs) h ∙ append-nil (cut keep w.log))) i; groups = w.groups; made = w.made }

  -- a request over the kept rows, by what it brings there
  asked_cut : (n : ℕ) (w : World) (act : Act) (caller : Caller) (b : Ask) (ys : List Version) →
      cond (is_accepted (cut_scene keep (scene n w act caller)) b) (brings (cut_scene keep (scene n w act caller)) b) [] ≡ cut keep ys →
      asked (cut_world keep w) (scene n (cut_world keep w) act caller) b ≡ cut_world keep (record w { log = w.log ++ ys })
  unfolding asked
  asked_cut n w act caller b ys h = ap (λ t. asked (cut_world keep w) t b) (scene_cut n w act caller) ∙ world_is w _ ys h

  -- what is left of another's accepted request does what is kept of it
  left_step : (net : Net) (n : ℕ) (w : World) (act : Act) (caller : Caller) (a : Ask) (left : Option Ask) → Follows keep (scene n w act caller) a left →
      step net n (cut_world keep w) (record act { command = elim left [ None ↦ Nothing | Some b ↦ Asks caller b ] }) ≡ cut_world keep (record w { log = w.log ++ brings (scene n w act caller) a })
  unfolding step scene
  left_step net n w act caller a None f = nothing_kept w _ f
  left_step net n w act caller a (Some b) f =
      asked_cut n w act caller b (brings (scene n w act caller) a)
      (ap (λ t. cond t (brings (cut_scene keep (scene n w act caller)) b) []) f.accepted ∙ f.brought)

  -- another's request
  other_step : (net : Net) (n : ℕ) (w : World) (act : Act) (caller : Caller) (a : Ask) (b : Bool) → is_accepted (scene n w act caller) a ≡ b →
      (is_accepted (scene n w act caller) a ≡ true → Follows keep (scene n w act caller) a (erased_ask keep (scene n w act caller) a)) →
      step net n (cut_world keep w) (record act { command = cond b (elim (erased_ask keep (scene n w act caller) a) [ None ↦ Nothing | Some b ↦ Asks caller b ]) Nothing })
      ≡ cut_world keep (asked w (scene n w act caller) a)
  unfolding asked step cut
  other_step net n w act caller a true e f = left_step net n w act caller a _ (f e) ∙ ap (λ t. cut_world keep (record w { log = w.log ++ cond t (brings (scene n w act caller) a) [] })) (sym e)
  other_step net n w act caller a false e f = nothing_kept w [] refl ∙ ap (λ t. cut_world keep (record w { log = w.log ++ cond t (brings (scene n w act caller) a) [] })) (sym e)

  -- where all that the caller knows is kept, the kept rows are all
  own_scene : (s : Scene) → list_all (λ row. keep row.key) s.rows ≡ true → cut_scene keep s ≡ s
  unfolding cut_scene cut_rows
  own_scene s h = rw (filter_all (λ row. keep row.key) s.rows h) refl

  -- the organisation's own request
  own_step : (net : Net) (n : ℕ) (w : World) (act : Act) (caller : Caller) (a : Ask) → list_all (λ row. keep row.key) (known_at w act.at caller.org) ≡ true →
      list_all (λ v. keep v.key) (cond (is_accepted (scene n w act caller) a) (brings (scene n w act caller) a) []) ≡ true →
      step net n (cut_world keep w) (record act { command = Asks caller a }) ≡ cut_world keep (asked w (scene n w act caller) a)
  unfolding step scene asked cut
  own_step net n w act caller a h k =
      asked_cut n w act caller a _ (ap (λ t. cond (is_accepted t a) (brings t a) []) (own_scene (scene n w act caller) h) ∙ sym (filter_all (λ v. keep v.key) _ k))

  -- what the organisation's own request brings is kept, since it is its own from then on
  brought_kept : (o : OrgId) (w : World) (s : Scene) (a : Ask) → same_org s.by o ≡ true → HasKnown o keep (asked w s a) →
      list_all (λ v. keep v.key) (cond (is_accepted s a) (brings s a) []) ≡ true
  unfolding asked
  brought_kept o w s a h has = all_both_give (λ v. same_org v.owner s.by) (λ v. not (same_org v.owner o) || keep v.key) (λ v. keep v.key) each came
      (cond_both (is_accepted s a) (brings s a) [] (λ vs. list_all (λ v. same_org v.owner s.by) vs ≡ true) (λ e. brings_own s a) (λ e. refl)) later
    where
      came : List Version
      came = cond (is_accepted s a) (brings s a) []

      later : list_all (λ v. not (same_org v.owner o) || keep v.key) came ≡ true
      later =
          (and_parts (list_all (λ (v : Version). not (same_org v.owner o) || keep v.key) w.log) (list_all (λ (v : Version). not (same_org v.owner o) || keep v.key) came)
          (sym (list_all-append (λ (v : Version). not (same_org v.owner o) || keep v.key) w.log came) ∙ has.own)).1

      each : (v : Version) → same_org v.owner s.by ≡ true → (not (same_org v.owner o) || keep v.key) ≡ true → keep v.key ≡ true
      each v e g =
          let his : same_org v.owner o ≡ true = ap (same_org v.owner) (sym (same_org-sound s.by o h)) ∙ e in
          sym (ap (λ b. not b || keep v.key) his) ∙ g

  -- a request, of the organisation or of another
  request_step : (o : OrgId) (net : Net) (n : ℕ) (w : World) (act : Act) (caller : Caller) (a : Ask) → HasKnown o keep w → HasKnown o keep (asked w (scene n w act caller) a) → HasPair keep (scene n w act caller) a →
      step net n (cut_world keep w) (record act { command = erased_request o keep (scene n w act caller) caller a }) ≡ cut_world keep (asked w (scene n w act caller) a)
  unfolding erased_request scene
  request_step o net n w act caller a now later pair = by_org (same_org caller.org o) refl
    where
      s : Scene
      s = scene n w act caller

      by_org : (b : Bool) → same_org caller.org o ≡ b →
          step net n (cut_world keep w) (record act { command = cond b (Asks caller a) (cond (is_accepted s a) (elim (erased_ask keep s a) [ None ↦ Nothing | Some b ↦ Asks caller b ]) Nothing) }) ≡ cut_world keep (asked w s a)
      by_org false e = other_step net n w act caller a (is_accepted s a) refl (λ h. follows s a pair h)
      by_org true e = own_step net n w act caller a
          (ap (λ x. list_all (λ row. keep row.key) (known_at w act.at x)) (same_org-sound caller.org o e) ∙ now.granted act.at)
          (brought_kept o w s a e later)

  -- a request that its form refuses, a synchronisation
  misfit_step : (net : Net) (n : ℕ) (w : World) (act : Act) (caller : Caller) (b : Bool) →
      step net n (cut_world keep w) (record act { command = cond b (Misfits caller) Nothing }) ≡ cut_world keep w
  unfolding step
  misfit_step net n w act caller true = refl
  misfit_step net n w act caller false = refl

  route_step : (w : World) (o : Option Route) →
      elim o as (λ x. World) [ None ↦ cut_world keep w | Some r ↦ synced (cut_world keep w) r ] ≡ cut_world keep (elim o as (λ x. World) [ None ↦ w | Some r ↦ synced w r ])
  route_step w None = refl
  route_step w (Some r) = synced_cut w r

  -- for one act: the state after what is left of the act is what is kept of the state after it
  pub step_cut : (o : OrgId) (net : Net) (n : ℕ) (w : World) (act : Act) → HasKnown o keep w → HasKnown o keep (step net n w act) → HasPairs keep n w act →
      step net n (cut_world keep w) (erased_act o keep n w act) ≡ cut_world keep (step net n w act)
  unfolding erased_act erased_command step scene HasPairs cut_world
  step_cut o net n w act now later pairs = by_command act.command later pairs
    where
      by_command : (d : Command) → HasKnown o keep (step net n w (record act { command = d })) → HasPairs keep n w (record act { command = d }) →
          step net n (cut_world keep w) (record act { command = erased_command o keep n w (record act { command = d }) }) ≡ cut_world keep (step net n w (record act { command = d }))
      by_command (Asks caller a) l p = request_step o net n w act caller a now l p
      by_command (Misfits caller) l p = misfit_step net n w act caller (same_org caller.org o)
      by_command (Syncs direction link) l p = route_step w (net direction act.at link w.groups w.made)
      by_command _ l p = refl

  -- after the erased acts the state is what is kept of the state after the acts
  pub run_cut : (o : OrgId) (net : Net) (n : ℕ) (w : World) (acts : List Act) → IsKept o keep net n w acts →
      run net n (cut_world keep w) (erase o keep net n w acts) ≡ cut_world keep (run net n w acts)
  unfolding run erase IsKept
  run_cut o net n w [] h = refl
  run_cut o net n w (act ∷ acts) h =
      ap (λ v. run net (suc n) v (erase o keep net (suc n) (step net n w act) acts)) (step_cut o net n w act h.0 (kept_first keep o net (suc n) (step net n w act) acts h.2) h.1)
      ∙ run_cut o net (suc n) (step net n w act) acts h.2

  -- what is left of another's request has no reply to the organisation
  left_reply : (o : OrgId) (n : ℕ) (w : World) (act : Act) (caller : Caller) → same_org caller.org o ≡ false → (b : Bool) (left : Option Ask) →
      reply_to o n w (record act { command = cond b (elim left [ None ↦ Nothing | Some a ↦ Asks caller a ]) Nothing }) ≡ None
  unfolding reply_to scene
  left_reply o n w act caller e true None = refl
  left_reply o n w act caller e true (Some a) = ap (λ t. cond t (Some (answer (scene n w act caller) a)) None) e
  left_reply o n w act caller e false left = refl

  ask_reply : (o : OrgId) (n : ℕ) (w : World) (act : Act) (caller : Caller) (a : Ask) → HasKnown o keep w → (b : Bool) → same_org caller.org o ≡ b →
      reply_to o n (cut_world keep w) (record act { command = cond b (Asks caller a) (cond (is_accepted (scene n w act caller) a) (elim (erased_ask keep (scene n w act caller) a) [ None ↦ Nothing | Some b ↦ Asks caller b ]) Nothing) })
      ≡ cond b (Some (answer (scene n w act caller) a)) None
  unfolding scene reply_to
  ask_reply o n w act caller a now false e = left_reply o n (cut_world keep w) act caller e (is_accepted (scene n w act caller) a) (erased_ask keep (scene n w act caller) a)
  ask_reply o n w act caller a now true e =
      ap (λ t. cond t (Some (answer (scene n (cut_world keep w) act caller) a)) None) e
      ∙ ap (λ t. Some (answer t a)) (scene_cut n w act caller ∙ own_scene (scene n w act caller)
      (ap (λ x. list_all (λ row. keep row.key) (known_at w act.at x)) (same_org-sound caller.org o e) ∙ now.granted act.at))

  misfit_reply : (o : OrgId) (n : ℕ) (w : World) (act : Act) (caller : Caller) (b : Bool) → same_org caller.org o ≡ b →
      reply_to o n (cut_world keep w) (record act { command = cond b (Misfits caller) Nothing }) ≡ cond b (Some Other) None
  unfolding reply_to
  misfit_reply o n w act caller true e = ap (λ t. cond t (Some Other) None) e
  misfit_reply o n w act caller false e = refl

  -- the reply to the organisation at one act
  pub reply_cut : (o : OrgId) (n : ℕ) (w : World) (act : Act) → HasKnown o keep w → reply_to o n (cut_world keep w) (erased_act o keep n w act) ≡ reply_to o n w act
  unfolding erased_act erased_command reply_to scene erased_request cut_world
  reply_cut o n w act now = by_command act.command
    where
      by_command : (d : Command) → reply_to o n (cut_world keep w) (record act { command = erased_command o keep n w (record act { command = d }) }) ≡ reply_to o n w (record act { command = d })
      by_command (Asks caller a) = ask_reply o n w act caller a now (same_org caller.org o) refl
      by_command (Misfits caller) = misfit_reply o n w act caller (same_org caller.org o) refl
      by_command _ = refl

  -- the replies to the organisation are the same
  pub replies_cut : (o : OrgId) (net : Net) (n : ℕ) (w : World) (acts : List Act) → IsKept o keep net n w acts →
      replies_to o net n (cut_world keep w) (erase o keep net n w acts) ≡ replies_to o net n w acts
  unfolding replies_to erase IsKept
  replies_cut o net n w [] h = refl
  replies_cut o net n w (act ∷ acts) h =
      (λ i. reply_cut o n w act h.0 i ∷ replies_to o net (suc n) (step_cut o net n w act h.0 (kept_first keep o net (suc n) (step net n w act) acts h.2) h.1 i) (erase o keep net (suc n) (step net n w act) acts))
      ∙ ap (λ rs. reply_to o n w act ∷ rs) (replies_cut o net (suc n) (step net n w act) acts h.2)
