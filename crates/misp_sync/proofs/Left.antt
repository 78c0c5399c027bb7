-- What a keeper holds after a synchronisation is what it is to hold after the act, whatever stopped it.
use Rattle.std.proofs.Common.{◌≡◌, ℕ, zero, suc, true, false, List, [], ◌∷◌, Option, Some, None, refl, sym, ap, subst, ◌∙◌, inl, inr, map, take}
use Rattle.misp_ids.specs.declared.label.Direction.{Direction}
use Rattle.misp_orgs.specs.Admin.{link_of}
use Rattle.misp_orgs.specs.declared.link.Link.{Link}
use Rattle.misp_outside.specs.Held.{Held, put_admins, put_rows, with_batch}
use Rattle.misp_effects.specs.Batches.{AreReadable, Batch, IsReadable, batch, put_batches}
use Rattle.misp_effects.specs.Effect.{Outcome, Stopped, Went, left, under}
use Rattle.misp_format.specs.WholeGroup.{uncarried}
use Rattle.misp_lists.proofs.All.{all_take}
use Rattle.misp_model.proofs.Prelude.{AreRows, Group, Inst, Row, put_all}
use Rattle.misp_model.specs.Packing.{packages}
use Rattle.misp_history.specs.Acts.{Net, World, synced, synced_groups}
use Rattle.misp_history.specs.History.{tables}
use Rattle.misp_history.specs.Merging.{bringing, brought}
use Rattle.misp_history.specs.Outcomes.{arriving, first_brought, step_partly, synced_partly, takes}
use Rattle.misp_history.specs.Passing.{Route}
use Rattle.misp_store.specs.Batches.{spelled}
use Rattle.misp_core.specs.Prelude.{AllByRecursion, Host, Keeps, seen_in}
use Rattle.misp_core.specs.Taking.{groups_taken}
use Rattle.misp_sync.specs.History.{applied, pull_act, route_of, sync_act}
use Rattle.misp_sync.specs.Pulled.{pulled, pulled_over, telling}
use Rattle.misp_history.proofs.Bringing.{done_put, joined, joined_all, joined_first, partly_put, parts}
use Rattle.misp_sync.proofs.Coming.{batches_by, carried_by, groups_after}
use Rattle.misp_core.proofs.TakenGroups.{groups_after as taken_put}
use Rattle.misp_sync.proofs.GroupsTaken.{taken_uncarried}
use Rattle.misp_sync.proofs.Parts.{as_batches}
use Rattle.misp_sync.proofs.Stands.{Stands, batch_stands, keeps_there, made_at, parts_stand, stands_there}
use Rattle.misp_sync.proofs.Keeping.{held_sees}
use Rattle.misp_sync.proofs.Routes.{Comes, IsBetween, between_over, comes_over, put_under, under_is, world_by, world_is, world_none}

-- ---- nothing comes

abbrev AreIdle : List Batch → Type 0
AreIdle bs = AllByRecursion (λ b. b ≡ batch [] []) bs

idle_put : (held : Held) (bs : List Batch) → AreIdle bs → put_batches (map spelled bs) held ≡ held
unfolding with_batch put_rows put_admins
idle_put held [] all = refl
idle_put held (b ∷ bs) all = ap (λ b. put_batches (map spelled bs) (with_batch (spelled b) held)) all.0 ∙ idle_put held bs all.1

idle_under : (outcome : Outcome) (bs : List Batch) → AreIdle bs → AreIdle (put_under outcome bs)
idle_under Went bs all = all
idle_under (Stopped stop n lost) bs all = all_take _ n bs all

-- ---- it comes on a route

take_map : {X Y : Type 0} (f : X → Y) (n : ℕ) (xs : List X) → take n (map f xs) ≡ map f (take n xs)
take_map f zero xs = refl
take_map f (suc n) [] = refl
take_map f (suc n) (x ∷ xs) = ap (λ ys. f x ∷ ys) (take_map f n xs)

module _ (w : World) (r : Route) (are : AreRows (tables w.log r.from)) (held : Held) (keeps : Keeps r.into w held) where
  abbrev rows : List Row
  rows = tables w.log r.into

  abbrev groups : List Group
  groups = synced_groups w.groups r r.into

  abbrev brings : List (List Row)
  brings = parts (takes w r groups) [] (packages (arriving w r))

  abbrev first : Batch
  first = batch [] (groups_taken (w.groups r.into) (map uncarried (carried_by w r)))

  first_stands : IsReadable first → Stands rows groups (made_at w r.into) (with_batch (spelled first) held)
  unfolding put_all
  first_stands fits =
      subst (λ gs. Stands rows gs (made_at w r.into) (with_batch (spelled first) held))
      (taken_put (w.groups r.into) (map uncarried (carried_by w r)) ∙ taken_uncarried (w.groups r.into) (carried_by w r) ∙ sym (groups_after w r))
      (batch_stands [] (groups_taken (w.groups r.into) (map uncarried (carried_by w r))) rows (w.groups r.into) (made_at w r.into) held fits (stands_there r.into w held keeps))

  some_keep : (p : ℕ) → AreReadable (first ∷ as_batches (take p brings))
      → Keeps r.into (synced_partly w r true p) (put_batches (map spelled (first ∷ as_batches (take p brings))) held)
  unfolding synced_partly first_brought
  some_keep p fits =
      keeps_there r.into (synced_partly w r true p) _ (put_all (joined (take p brings)) rows) groups (w.made r.into)
      (partly_put w r are p true ∙ ap (λ rs. put_all rs rows) (sym (joined_first (takes w r groups) p [] (packages (arriving w r))))) refl refl
      (parts_stand (take p brings) rows groups (made_at w r.into) (with_batch (spelled first) held) fits.1 (first_stands fits.0))

  route_keeps : (outcome : Outcome) → AreReadable (put_under outcome (first ∷ as_batches brings))
      → Keeps r.into (world_by w outcome (Some r)) (put_batches (map spelled (put_under outcome (first ∷ as_batches brings))) held)
  unfolding synced synced_partly first_brought brought bringing put_all
  route_keeps Went fits =
      keeps_there r.into (synced w r) _ (put_all (joined brings) rows) groups (w.made r.into)
      (done_put w r are ∙ ap (λ rs. put_all rs rows) (sym (joined_all (takes w r groups) [] (packages (arriving w r))))) refl refl
      (parts_stand brings rows groups (made_at w r.into) (with_batch (spelled first) held) fits.1 (first_stands fits.0))
  route_keeps (Stopped stop zero lost) fits = keeps_there r.into (synced_partly w r false 0) held rows (w.groups r.into) (w.made r.into) (partly_put w r are 0 false) refl refl (stands_there r.into w held keeps)
  route_keeps (Stopped stop (suc p) lost) fits =
      let cut : take p (as_batches brings) ≡ as_batches (take p brings) = take_map (λ rows. batch rows []) p brings in
      subst (λ bs. Keeps r.into (synced_partly w r true p) (put_batches (map spelled (first ∷ bs)) held)) (sym cut) (some_keep p (subst (λ bs. AreReadable (first ∷ bs)) cut fits))

-- ---- what is left

module _ (w : World) (here peer : Inst) (held : Held) (keeps : Keeps here w held) (are : AreRows (tables w.log peer)) where
  left_by : (o : Option Route) → IsBetween here peer o → (outcome : Outcome) → AreReadable (put_under outcome (batches_by w o))
      → Keeps here (world_by w outcome o) (put_batches (map spelled (put_under outcome (batches_by w o))) held)
  left_by None h outcome fits =
      subst (λ (v : World). Keeps here v (put_batches (map spelled (put_under outcome (batches_by w None))) held)) (sym (world_none w outcome))
      (subst (Keeps here w) (sym (idle_put held (put_under outcome (batches_by w None)) (idle_under outcome (batches_by w None) (refl, tt)))) keeps)
  left_by (Some r) h outcome fits =
      subst (λ i. Keeps i (world_by w outcome (Some r)) (put_batches (map spelled (put_under outcome (batches_by w (Some r)))) held)) h.0
      (route_keeps w r (subst (λ i. AreRows (tables w.log i)) (sym h.1) are) held (subst (λ i. Keeps i w held) (sym h.0) keeps) outcome fits)

  left_where : (o : Option Route) (bs : List Batch) → IsBetween here peer o → Comes w bs o → (outcome : Outcome) → AreReadable (put_under outcome bs)
      → Keeps here (world_by w outcome o) (put_batches (map spelled (put_under outcome bs)) held)
  left_where o bs h (inl e) outcome =
      subst (λ bs. AreReadable (put_under outcome bs) → Keeps here (world_by w outcome o) (put_batches (map spelled (put_under outcome bs)) held)) (sym e) (left_by o h outcome)
  left_where o bs h (inr e) outcome = λ fits.
      let none : put_batches (map spelled (put_under outcome bs)) held ≡ held =
      ap (λ bs. put_batches (map spelled (put_under outcome bs)) held) e.0 ∙ idle_put held (put_under outcome []) (idle_under outcome [] tt) in
      let same : world_by w outcome o ≡ w = ap (world_by w outcome) e.1 ∙ world_none w outcome in
      subst (λ (v : World). Keeps here v (put_batches (map spelled (put_under outcome bs)) held)) (sym same) (subst (Keeps here w) (sym none) keeps)

-- the keeper of the instance that a synchronisation goes into holds what it is to hold after the act, whatever stopped it
pub left_under : (net : Net) (n now : ℕ) (w : World) (direction : Direction) (here link into from : Inst) (held : Held) (outcome : Outcome) (o : Option Route) (bs put : List Batch) → Keeps into w held → AreRows (tables w.log from)
    → net direction here link w.groups w.made ≡ o → IsBetween into from o → Comes w bs o → put ≡ put_under outcome bs → AreReadable put
    → Keeps into (step_partly net n w (sync_act direction here now link) (applied outcome)) (put_batches (map spelled put) held)
left_under net n now w direction here link into from held outcome o bs put keeps are e between comes is fits =
    subst (λ (v : World). Keeps into v (put_batches (map spelled put) held)) (sym (world_is net n now w direction here link outcome o e))
    (subst (λ bs. Keeps into (world_by w outcome o) (put_batches (map spelled bs) held)) (sym is) (left_where w into from held keeps are o bs between comes outcome (subst AreReadable is fits)))

-- of a pull
pub left_there : (net : Net) (n now : ℕ) (w : World) (here peer : Host) (link : Inst) (own there : Held) (outcome : Outcome) → Keeps here.name w own → Keeps peer.name w there
    → net Direction.Pull here.name link w.groups w.made ≡ route_of here link peer → AreReadable (under telling outcome (pulled here link peer (seen_in own) (seen_in there))).batches
    → Keeps here.name (step_partly net n w (pull_act here.name now link) (applied outcome)) (left spelled (under telling outcome (pulled here link peer (seen_in own) (seen_in there))) own)
unfolding pulled
left_there net n now w here peer link own there outcome keeps peers e =
    let found : Option Link = link_of here.admin.links link in
    left_under net n now w Direction.Pull here.name link here.name peer.name own outcome (route_of here link peer) (pulled_over here.name found peer (seen_in own) (seen_in there)).batches
    (under telling outcome (pulled here link peer (seen_in own) (seen_in there))).batches keeps peers.are_rows e (between_over here.name peer found)
    (comes_over here.name peer w peers.are_rows (seen_in own) (seen_in there) (held_sees w here.name peer own there keeps peers) found)
    (under_is outcome (pulled here link peer (seen_in own) (seen_in there)))
