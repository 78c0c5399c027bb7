-- The versions of a log have the numbers of acts that were: after the n-th act none is above n.
use Rattle.std.proofs.Common.{ℕ, Bool, ltb, ◌≡◌, List, [], ◌∷◌, true, refl, map, suc, arith, ◌&&◌, Option, Some, None}
use Rattle.misp_history.proofs.Prelude.{Act, Asks, Caller, Command, Group, Inst, Net, Route, Scene, Syncs, Version, World, all-filter, all_both, and_from, and_parts, as_published, asked, brings, cond_both, counted, counts, handed_in}
use Rattle.misp_history.proofs.Prelude.{is_accepted, is_newest, known_there, let_out_row, list_all, moved, nat_tests, newest, newest_from, passes, passing, row_of, same_inst, scene, step, synced, synced_groups, tables, written}
use Rattle.misp_model.specs.declared.ask.Ask.{Ask}
use Rattle.misp_model.proofs.Owners.{brings_each}
use Rattle.misp_history.proofs.Adding.{below_next}

-- the version is of an act below the number
abbrev is_below : ℕ → Version → Bool
is_below n v = ltb v.act n

pub newest_within : (p : Version → Bool) (i : Inst) (before after : List Version) → list_all p after ≡ true → list_all p (newest_from i before after) ≡ true
unfolding newest_from
newest_within p i before [] h = refl
newest_within p i before (v ∷ after) h =
    let later = newest_within p i (v ∷ before) after (and_parts _ _ h).1 in
    cond_both (same_inst v.at i && is_newest before v after) _ _ (λ us. list_all p us ≡ true) (λ e. and_from _ _ (and_parts _ _ h).0 later) (λ e. later)

-- what moves keeps the number of its act
pub moved_within : (m : ℕ) (r : Route) (vs : List Version) → list_all (is_below m) vs ≡ true → list_all (is_below m) (map (moved r) vs) ≡ true
unfolding moved
moved_within m r [] h = refl
moved_within m r (v ∷ vs) h = and_from _ _ (and_parts _ _ h).0 (moved_within m r vs (and_parts _ _ h).1)

passing_within : (p : Version → Bool) (log : List Version) (groups : List Group) (r : Route) → list_all p log ≡ true → list_all p (passing log groups r) ≡ true
unfolding passing newest
passing_within p log groups r h = all-filter p (λ v. passes (known_there log groups r) groups r (row_of log v)) (newest_from r.from [] log) (newest_within p r.from [] log h)

synced_below : (n : ℕ) (w : World) (r : Route) → list_all (is_below (suc n)) w.log ≡ true → list_all (is_below (suc n)) (synced w r).log ≡ true
unfolding synced counted
synced_below n w r h =
    all_both (is_below (suc n)) w.log _ h
    (all-filter (is_below (suc n)) (counts (tables w.log r.into) (synced_groups w.groups r r.into) (map (moved r) (passing w.log (w.groups r.from) r)))
    (map (moved r) (passing w.log (w.groups r.from) r))
    (moved_within (suc n) r (passing w.log (w.groups r.from) r) (passing_within (is_below (suc n)) w.log (w.groups r.from) r h)))

-- what a request brings is of its act
brings_now : (s : Scene) (a : Ask) → list_all (is_below (suc s.act)) (brings s a) ≡ true
unfolding written as_published let_out_row handed_in
brings_now s a = brings_each s (is_below (suc s.act)) (λ k t l c. below s.act) (λ v h. h) (λ row. below s.act) (λ row. below s.act) a
  where
    below : (n : ℕ) → ltb n (suc n) ≡ true
    below n = grind (arith, nat_tests)

asked_below : (n : ℕ) (w : World) (act : Act) (c : Caller) (a : Ask) → list_all (is_below (suc n)) w.log ≡ true → list_all (is_below (suc n)) (asked w (scene n w act c) a).log ≡ true
unfolding asked scene
asked_below n w act c a h =
    all_both (is_below (suc n)) w.log _ h (cond_both (is_accepted (scene n w act c) a) _ _ (λ vs. list_all (is_below (suc n)) vs ≡ true) (λ e. brings_now (scene n w act c) a) (λ e. refl))

-- after the n-th act all acts of the log are below the next number
pub step_below : (net : Net) (n : ℕ) (w : World) (act : Act) → list_all (λ v. ltb v.act n) w.log ≡ true → list_all (λ v. ltb v.act (suc n)) (step net n w act).log ≡ true
unfolding step scene
step_below net n w act older = by_command act.command refl (below_next n w.log older)
  where
    by_command : (d : Command) → act.command ≡ d → list_all (is_below (suc n)) w.log ≡ true → list_all (is_below (suc n)) (step net n w act).log ≡ true
    by_command (Asks c a) e h = rw e (asked_below n w act c a h)
    by_command (Syncs direction link) e h = rw e (routed (net direction act.at link w.groups w.made))
      where
        routed : (o : Option Route) → list_all (is_below (suc n)) (elim o as (λ x. World) [ None ↦ w | Some r ↦ synced w r ]).log ≡ true
        routed None = h
        routed (Some r) = synced_below n w r h
    by_command _ e h = rw e h
