-- Each version comes from one that was written or handed in, and each row stands for a newest version.
use Rattle.std.proofs.Common.{◌≡◌, ℕ, suc, arith, Bool, true, false, not, cond, List, [], ◌∷◌, ◌++◌, map, Option, Some, None, Contains, refl, sym, ap, subst, ◌∙◌, ◌&&◌, inl, inr}
use Rattle.std.proofs.lemmas.List.Elements.{Contains-append_cases, Contains-append_left, Contains-append_right}
use Rattle.misp_ids.specs.declared.label.Way.{Way}
use Rattle.misp_levels.specs.Levels.{landed}
use Rattle.misp_levels.proofs.Steps.{down_landed}
use Rattle.misp_model.proofs.Owners.{brings_each}
use Rattle.misp_history.proofs.Prelude.{Act, Ask, Asks, Command, Inst, Net, Route, Row, Scene, Syncs, Version, World, all_has, as_published, asked, brings, content_now, counted, counts, false≢true, first_or, from_in_order, handed_in, has_path}
use Rattle.misp_history.proofs.Prelude.{here, in_order_has, is_accepted, is_newest, known_there, label_now, let_out_row, list_all, map_from, map_has, moved, newest, newest_from, of_part, passes, passing, row_of, run, same_inst, scene, stands_before}
use Rattle.misp_history.proofs.Prelude.{step, synced, synced_groups, tables, there, without_local_tags, written}
use Rattle.misp_history.specs.Origins.{ComesFrom, HaveOrigins, StandsFor}

-- ---- origins

more_origins : (log more : List Version) → HaveOrigins log → ((v : Version) → Contains more v → (u : Version) × (Contains (log ++ more) u × ComesFrom v u)) → HaveOrigins (log ++ more)
more_origins log more old new v m = elim (Contains-append_cases log more v m) [
  | inl a ↦ (let o = old v a in (o.0, (Contains-append_left log more o.0 o.1.0, o.1.1)))
  | inr b ↦ new v b
]

from_newest : (i : Inst) (before after : List Version) (v : Version) → Contains (newest_from i before after) v → Contains after v
unfolding newest_from
from_newest i before [] v m = m
from_newest i before (u ∷ after) v m = one (same_inst u.at i && is_newest before u after) m (λ k. there u after v (from_newest i (u ∷ before) after v k))
  where
    one : (b : Bool) → Contains (cond b (u ∷ newest_from i (u ∷ before) after) (newest_from i (u ∷ before) after)) v → (Contains (newest_from i (u ∷ before) after) v → Contains (u ∷ after) v)
        → Contains (u ∷ after) v
    one true k later = elim (first_or u (newest_from i (u ∷ before) after) v k) [ inl e ↦ subst (Contains (u ∷ after)) e (here u after) | inr n ↦ later n ]
    one false k later = later k

-- what comes by a synchronisation comes from where it came
synced_origins : (w : World) (r : Route) → HaveOrigins w.log → HaveOrigins (synced w r).log
unfolding synced counted passing newest moved
synced_origins w r old = more_origins w.log _ old (λ v m.
    let a = of_part (counts (tables w.log r.into) (synced_groups w.groups r r.into) (map (moved r) (passing w.log (w.groups r.from) r))) (map (moved r) (passing w.log (w.groups r.from) r)) v m in
    let f = map_from (moved r) (passing w.log (w.groups r.from) r) v a.1 in
    let b = of_part (λ u. passes (known_there w.log (w.groups r.from) r) (w.groups r.from) r (row_of w.log u)) (newest w.log r.from) f.0 f.1.0 in
    let o = old f.0 (from_newest r.from [] w.log f.0 b.1) in (
      o.0,
      (
        Contains-append_left w.log _ o.0 o.1.0,
        subst (λ (u : Version). ComesFrom u o.0) f.1.1 (record { path = o.1.1.path; key = o.1.1.key; stamp = o.1.1.stamp; label = o.1.1.label; content = o.1.1.content }),
      ),
    ))

-- what a request brings comes from nowhere else
no_path : (v : Version) → not (has_path v) ≡ true → v.path ≡ []
unfolding has_path
no_path v h = one v.path refl
  where
    one : (path : List Way) → v.path ≡ path → v.path ≡ []
    one [] e = e
    one (way ∷ ways) e = absurd (false≢true (sym (ap (λ (path : List Way). not (elim path as (λ x. Bool) [ [] ↦ false | x ∷ xs ↦ true ])) e) ∙ h))

brings_no_path : (s : Scene) (a : Ask) → list_all (λ v. not (has_path v)) (brings s a) ≡ true
unfolding written as_published let_out_row handed_in has_path
brings_no_path s a = brings_each s (λ v. not (has_path v)) (λ k t l c. refl) (λ v h. h) (λ row. refl) (λ row. refl) a

asked_origins : (w : World) (s : Scene) (a : Ask) → HaveOrigins w.log → HaveOrigins (asked w s a).log
unfolding asked
asked_origins w s a old = more_origins w.log _ old (one (is_accepted s a))
  where
    one : (b : Bool) (v : Version) → Contains (cond b (brings s a) []) v → (u : Version) × (Contains (w.log ++ cond b (brings s a) []) u × ComesFrom v u)
    one true v m =
        (v, (Contains-append_right w.log (brings s a) v m, record { path = no_path v (all_has (λ u. not (has_path u)) (brings s a) v (brings_no_path s a) m); key = refl; stamp = refl; label = refl; content = refl }))
    one false v m = (v, (Contains-append_right w.log [] v m, absurd (false≢true (no_element m))))
      where
        no_element : Contains [] v → false ≡ true
        no_element k = let lt = k.1 in absurd (omega arith)

step_origins : (net : Net) (n : ℕ) (w : World) (act : Act) → HaveOrigins w.log → HaveOrigins (step net n w act).log
unfolding step scene
step_origins net n w act old = by_command act.command refl
  where
    by_command : (d : Command) → act.command ≡ d → HaveOrigins (step net n w act).log
    by_command (Asks c a) e = rw e (asked_origins w (scene n w act c) a old)
    by_command (Syncs direction link) e = rw e (routed (net direction act.at link w.groups w.made))
      where
        routed : (o : Option Route) → HaveOrigins (elim o as (λ x. World) [ None ↦ w | Some r ↦ synced w r ]).log
        routed None = old
        routed (Some r) = synced_origins w r old
    by_command _ e = rw e old

pub run_origins : (net : Net) (n : ℕ) (w : World) (acts : List Act) → HaveOrigins w.log → HaveOrigins (run net n w acts).log
unfolding run
run_origins net n w [] old = old
run_origins net n w (act ∷ acts) old = run_origins net (suc n) (step net n w act) acts (step_origins net n w act old)

-- ---- rows

stands_for : (log : List Version) (v : Version) → StandsFor v (row_of log v)
unfolding row_of label_now content_now has_path
stands_for log v = record {
  owner = refl;
  key = refl;
  stamp = refl;
  label = refl;
  at_origin = λ e. ap (λ (path : List Way). cond (elim path as (λ x. Bool) [ [] ↦ false | x ∷ xs ↦ true ]) (without_local_tags v.content) v.content) e;
  after_hops = λ way ways e. ap (λ (path : List Way). cond (elim path as (λ x. Bool) [ [] ↦ false | x ∷ xs ↦ true ]) (without_local_tags v.content) v.content) e;
}

pub row_stands : (log : List Version) (i : Inst) (row : Row) → Contains (tables log i) row → (v : Version) × (Contains (newest log i) v × StandsFor v row)
unfolding tables
row_stands log i row m =
    let f = map_from (row_of log) (newest log i) row (from_in_order stands_before (map (row_of log) (newest log i)) row m) in
    (f.0, (f.1.0, subst (StandsFor f.0) f.1.1 (stands_for log f.0)))

pub version_stands : (log : List Version) (i : Inst) (v : Version) → Contains (newest log i) v → (row : Row) × (Contains (tables log i) row × StandsFor v row)
unfolding tables
version_stands log i v m =
    (row_of log v, (in_order_has stands_before (map (row_of log) (newest log i)) (row_of log v) (map_has (row_of log) (newest log i) v m), stands_for log v))

pub hop_lands : (r : Route) (v : Version) → label_now (moved r v) ≡ landed r.way (label_now v)
unfolding label_now moved
hop_lands r v = down_landed r.way v.label v.path
