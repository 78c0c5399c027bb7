-- A publishing puts each of its versions in its place as a row.
use Rattle.std.proofs.Common.{Bool, Contains, List, None, Option, Some, [], ap, append-nil, append_assoc, arith, cond, false, filter, inl, inr, is_some, leb, ltb, map, not, option_to_list, refl, subst, sym, true, ◌&&◌, ◌++◌, ◌||◌, ◌∙◌, ◌∷◌}
use Rattle.std.proofs.Common.{◌≡◌}
use Rattle.misp_history.proofs.Prelude.{AllByRecursion, Ask, EventId, Inst, Publish, Published, Row, Scene, Version, all_among, all_implied, and_left, and_parts, and_right, any_found, any_implies, any_in_order, any_map, any_never}
use Rattle.misp_history.proofs.Prelude.{as_published, ask_rules, at_publishing, bars, cases_Bool, change_rules, change_writes, changed, changed_row, event_key, event_of, false_from_ne_true, false≢true, filter_within, find_passes, fresh_row}
use Rattle.misp_history.proofs.Prelude.{has_home, has_path, holds_copy, holds_home, in_order, is_accepted, is_gone, is_handed_in, is_held_in, is_known, is_of_copy, is_published, is_row_of, is_statement, is_tombstone, known, let_go, let_out}
use Rattle.misp_history.proofs.Prelude.{let_out_row, list_all, list_any, list_any-append, map_from, map_same, newest, newest_more, none_refuses, not-true, of_part, or_left, or_parts, or_right, own_row, published_after, published_row, put}
use Rattle.misp_history.proofs.Prelude.{put_all, put_row, refuses, released, row_of, row_of_name, same_cell, same_event, same_event-sound, same_inst, same_key, same_key-refl, same_key-sound, same_org, same_org-refl, same_org-sound}
use Rattle.misp_history.proofs.Prelude.{stands_before, tables, unheld, written}
use Rattle.misp_model.specs.Scene.{sees as is_seen}
use Rattle.misp_history.proofs.Putting.{lets_out, row_of_more, is_other}
use Rattle.misp_history.proofs.AsNew.{backed, tables_sorted}
use Rattle.misp_history.proofs.Publishing.{IsPublishing, others_kept, published_tables, put_kept}
use Rattle.misp_history.proofs.Sorted.{put_row_sorted, put_each}
use Rattle.misp_history.proofs.Changing.{change_newer, found_there}

-- ---- versions that are no newer and publish nothing

-- the version lets nothing out, and the log has one as new in its cell
record IsIdle (log : List Version) (v : Version) : Type 0 where
  quiet : (u : Version) → lets_out v u ≡ false
  barred : list_any (λ a. same_cell a v && leb v.stamp a.stamp) log ≡ true

one_idle : (log : List Version) (v : Version) (i : Inst) → IsIdle log v → tables (log ++ v ∷ []) i ≡ tables log i
unfolding tables
one_idle log v i is =
    (λ j. in_order stands_before (map (λ u. row_of_more log v u (is.quiet u) j) (newest (log ++ v ∷ []) i)))
    ∙ ap (λ us. in_order stands_before (map (row_of log) us))
    (newest_more v log i ∙ ap (λ b. cond b (filter (λ u. not (same_cell u v)) (newest log i) ++ v ∷ []) (newest log i)) (and_right (same_inst v.at i) _ (ap not is.barred)))

idle_more : (v : Version) (log vs : List Version) → AllByRecursion (IsIdle log) vs → AllByRecursion (IsIdle (log ++ v ∷ [])) vs
idle_more v log vs a = all_implied (IsIdle log) (IsIdle (log ++ v ∷ []))
    (λ u is. record { quiet = is.quiet; barred = list_any-append (λ a. same_cell a u && leb u.stamp a.stamp) log (v ∷ []) ∙ or_left _ _ is.barred }) vs a

-- they change nothing
all_idle : (i : Inst) (vs log : List Version) → AllByRecursion (IsIdle log) vs → tables (log ++ vs) i ≡ tables log i
all_idle i [] log a = ap (λ l. tables l i) (append-nil log)
all_idle i (v ∷ vs) log a =
    ap (λ l. tables l i) (sym (append_assoc log (v ∷ []) vs)) ∙ all_idle i vs (log ++ v ∷ []) (idle_more v log vs a.1) ∙ one_idle log v i a.0

-- ---- what a publishing lets out
module _ (s : Scene) (e : EventId) where
  held_row : (row : Row) → is_held_in s e row ≡ true → (row.owner ≡ s.by) × ((same_event (event_of row.key) e ≡ true) × ((row.held ≡ true) × (same_key row.key (event_key e) ≡ false)))
  unfolding is_held_in
  held_row row h = let a = and_parts _ _ h in let b = and_parts _ _ a.1 in let c = and_parts _ _ b.1 in (same_org-sound row.owner s.by a.0, (b.0, (c.0, not-true _ c.1)))

  -- one version that is let out is idle
  let_out_idle : (log : List Version) (row : Row) → is_held_in s e row ≡ true → Contains (tables log s.at) row → IsIdle log (let_out_row s row)
  unfolding let_out_row same_cell event_of event_key
  let_out_idle log row h there = record {
    quiet = λ u. and_left (same_inst s.at u.at && same_org s.by u.owner && same_key row.key (event_key (event_of u.key))) (is_published Published && (not (has_path (let_out_row s row)) && ltb u.act s.act))
        (and_right (same_inst s.at u.at && same_org s.by u.owner) (same_key row.key (event_key (event_of u.key))) (not_event (event_of u.key)));
    barred = (λ j. list_any (λ a. (same_inst a.at s.at && same_org a.owner (sym is.0 j) && same_key a.key row.key) && leb row.stamp a.stamp) log) ∙ backed log s.at row there;
  }
    where
      is : (row.owner ≡ s.by) × ((same_event (event_of row.key) e ≡ true) × ((row.held ≡ true) × (same_key row.key (event_key e) ≡ false)))
      is = held_row row h

      not_event : (f : EventId) → same_key row.key (event_key f) ≡ false
      not_event f = false_from_ne_true _ (λ k.
          let key : row.key ≡ event_key f = same_key-sound row.key (event_key f) k in
          let event : f ≡ e = ap event_of (sym key) ∙ same_event-sound (event_of row.key) e is.1.0 in
          false≢true (sym is.1.1.1 ∙ ap (λ x. same_key x (event_key e)) (key ∙ ap event_key event) ∙ same_key-refl (event_key e)))

  lets_idle : (log : List Version) → AllByRecursion (IsIdle log) (map (let_out_row s) (filter (is_held_in s e) (tables log s.at)))
  lets_idle log = all_among (IsIdle log) (map (let_out_row s) (filter (is_held_in s e) (tables log s.at))) (λ v m.
      let f = map_from (let_out_row s) (filter (is_held_in s e) (tables log s.at)) v m in
      let k = of_part (is_held_in s e) (tables log s.at) f.0 f.1.0 in
      subst (IsIdle log) f.1.1 (let_out_idle log f.0 k.0 k.1))

  -- as a row it is the held one with no hold
  let_out_fresh : (row : Row) → is_held_in s e row ≡ true → (row.held && row.carried) ≡ false → fresh_row (let_out_row s row) ≡ unheld row
  unfolding fresh_row let_out_row is_published
  let_out_fresh row h c =
      let here : row.carried ≡ false = sym (ap (λ b. b && row.carried) (held_row row h).1.1.0) ∙ c in
      λ i. record (unheld row) { owner = sym (held_row row h).0 i; held = not (or_right (is_statement row.key || is_gone row.content) true refl i); carried = sym here i }

  lets_fresh : (rows : List Row) → list_any (λ row. row.held && row.carried) rows ≡ false → map fresh_row (map (let_out_row s) (filter (is_held_in s e) rows)) ≡ map unheld (filter (is_held_in s e) rows)
  lets_fresh [] c = refl
  lets_fresh (row ∷ rows) c = elim (cases_Bool (is_held_in s e row)) [
    | inl h ↦ rw h (λ i. let_out_fresh row h (or_parts _ _ c).0 i ∷ lets_fresh rows (or_parts _ _ c).1 i)
    | inr h ↦ rw h (lets_fresh rows (or_parts _ _ c).1)
  ]

  -- the held rows that the caller knows of its copy are those of the tables
  known_held : (rows : List Row) → filter (is_held_in s e) (known rows s.groups s.at s.by) ≡ filter (is_held_in s e) rows
  unfolding known is_known
  known_held rows = filter_within (is_held_in s e) (is_held_in s e) (is_known rows s.groups s.at s.by) (λ row h. refl) (λ row h. or_left _ _ (ap (λ w. same_org w s.by) (held_row row h).0 ∙ same_org-refl s.by)) rows

-- ---- the tables after both
filter_put_out : (h : Row → Bool) (before : Row → Row → Bool) (x : Row) (ys : List Row) → h x ≡ false → filter h (put before x ys) ≡ filter h ys
unfolding put
filter_put_out h before x [] e = rw e refl
filter_put_out h before x (y ∷ ys) e = elim (cases_Bool (before x y)) [
  | inl k ↦ rw (k, e) refl
  | inr k ↦ rw k (ap (λ zs. cond (h y) (y ∷ zs) zs) (filter_put_out h before x ys e))
]

-- clearing the hold of held rows is clearing that of all
clear_alike : (row : Row) (a b k : Bool) → not (a && k) ≡ true → cond (a && (b && (row.held && not k))) (unheld row) row ≡ cond (a && b) (unheld row) row
clear_alike row true true true h = absurd (false≢true h)
clear_alike row true true false h = elim (cases_Bool row.held) [ inl g ↦ rw g refl | inr g ↦ rw g refl ]
clear_alike row _ _ _ h = refl

not_last : (a b c k : Bool) → k ≡ true → (a && (b && (c && not k))) ≡ false
not_last a b c k h = grind arith

held_is_here : (p h s g b a : Bool) → (not (p || h || s || g || b || a) && (h || p)) ≡ false
held_is_here p h s g b a = grind arith

-- no row that is held was carried
held_not_carried : (log : List Version) (i : Inst) → list_any (λ row. row.held && row.carried) (tables log i) ≡ false
unfolding tables row_of released
held_not_carried log i =
    any_in_order stands_before (λ row. row.held && row.carried) (map (row_of log) (newest log i)) ∙ any_map (row_of log) (λ row. row.held && row.carried) (newest log i)
    ∙ any_never (λ u. (row_of log u).held && (row_of log u).carried)
    (λ u. held_is_here (has_path u) (is_handed_in u.came) (is_statement u.key) (is_gone u.content) (is_published u.came) (published_after log u)) (newest log i)

module _ (s : Scene) (e : EventId) (log : List Version) (sees : s.rows ≡ known (tables log s.at) s.groups s.at s.by) where
  abbrev held : Row → Bool
  held = is_held_in s e

  -- the row with no hold, where it is one that is let out
  abbrev cleared : Row → Row
  cleared row = cond (held row) (unheld row) row

  abbrev table : List Row
  table = tables log s.at

  lets_are : map fresh_row (let_out s e) ≡ map unheld (filter held table)
  unfolding let_out
  lets_are =
      ap (λ rows. map fresh_row (map (let_out_row s) (filter held rows))) sees
      ∙ ap (λ rows. map fresh_row (map (let_out_row s) rows)) (known_held s e table)
      ∙ lets_fresh s e table (held_not_carried log s.at)

  lets_are_idle : AllByRecursion (IsIdle log) (let_out s e)
  unfolding let_out
  lets_are_idle = subst (λ rows. AllByRecursion (IsIdle log) (map (let_out_row s) rows)) (sym (ap (filter held) sees ∙ known_held s e table)) (lets_idle s e log)

  module _ (p : Version) (is : IsPublishing s.act s.at s.by e p) where
    not_held : held (fresh_row p) ≡ false
    unfolding is_held_in fresh_row
    not_held =
        not_last (same_org p.owner s.by) (same_event (event_of p.key) e) (not (is_statement p.key || is_gone p.content || is_published p.came)) (same_key p.key (event_key e))
        (ap (λ k. same_key k (event_key e)) is.key ∙ same_key-refl (event_key e))

    held_other : (row : Row) → held row ≡ true → is_other p row ≡ true
    held_other row h = ap not (and_right (same_org row.owner p.owner) (same_key row.key p.key) (ap (same_key row.key) is.key ∙ (held_row s e row h).1.1.1))

    other_cleared : (row : Row) → is_other p row ≡ true → cleared row ≡ let_go s.by e row
    unfolding is_held_in let_go is_of_copy
    other_cleared row h =
        clear_alike row (same_org row.owner s.by) (same_event (event_of row.key) e) (same_key row.key (event_key e))
        ((λ i. not (same_org row.owner (sym is.owner i) && same_key row.key (sym is.key i))) ∙ h)

    -- the rows that are put after the event's own
    abbrev grown : List Row
    grown = put_row (fresh_row p) table

    held_grown : filter held grown ≡ filter held table
    unfolding put_row fresh_row
    held_grown =
        filter_put_out held stands_before (fresh_row p) (filter (is_other p) table) not_held
        ∙ filter_within held held (is_other p) (λ row h. refl) held_other table

    cleared_grown : map cleared grown ≡ put_row (fresh_row p) (map (let_go s.by e) table)
    unfolding put_row fresh_row let_go
    cleared_grown =
        put_kept held (fresh_row p) (filter (is_other p) table)
        ∙ (λ i. put stands_before (ap (λ b. cond b (unheld (fresh_row p)) (fresh_row p)) not_held i)
        ((map_same cleared (let_go s.by e) (is_other p) other_cleared table ∙ sym (others_kept (is_of_copy s.by e) p table)) i))

    pub let_go_all : list_all (λ u. ltb u.act s.act) log ≡ true → list_any (λ a. same_cell a p && leb p.stamp a.stamp) log ≡ false →
        tables (log ++ p ∷ let_out s e) s.at ≡ put_row (fresh_row p) (map (let_go s.by e) table)
    let_go_all older newer =
        ap (λ l. tables l s.at) (sym (append_assoc log (p ∷ []) (let_out s e)))
        ∙ all_idle s.at (let_out s e) (log ++ p ∷ []) (idle_more p log (let_out s e) lets_are_idle)
        ∙ published_tables s.act s.at s.by e p is log older newer

    pub both_put : list_all (λ u. ltb u.act s.act) log ≡ true → list_any (λ a. same_cell a p && leb p.stamp a.stamp) log ≡ false →
        tables (log ++ p ∷ let_out s e) s.at ≡ put_all (map fresh_row (p ∷ let_out s e)) table
    unfolding put_all
    both_put older newer =
        let_go_all older newer
        ∙ sym
        (ap (λ rows. put_all rows grown) (lets_are ∙ ap (map unheld) (sym held_grown))
        ∙ put_each held grown (put_row_sorted (fresh_row p) table (tables_sorted log s.at))
        ∙ cleared_grown)

  -- ---- an accepted publishing
  home_from : (c v h : Bool) → (not c && not v || h && not true) ≡ false → (not c && v) ≡ false → (c && not h) ≡ false → h ≡ true
  home_from c v h a b d = grind arith

  is_home : is_accepted s (Ask.Change (Publish e)) ≡ true → holds_home s e ≡ true
  unfolding is_accepted ask_rules change_rules bars refuses
  is_home accepted =
      let none : refuses (change_rules s (Publish e)) ≡ false = none_refuses _ accepted in
      home_from (holds_copy s e) (sees_event) (holds_home s e) (or_parts _ _ none).0 (or_parts _ _ (or_parts _ _ none).1).0 (or_parts _ _ (or_parts _ _ (or_parts _ _ none).1).1).0
    where
      sees_event : Bool
      sees_event = is_seen s (event_key e)

  pub is_there : is_accepted s (Ask.Change (Publish e)) ≡ true → is_some (own_row s (event_key e)) ≡ true
  unfolding own_row holds_home has_home
  is_there accepted =
      sym (any_found (is_row_of s.by (event_key e)) s.rows)
      ∙ any_implies (λ row. is_row_of s.by (event_key e) row && (not (is_tombstone row) && not row.carried)) (is_row_of s.by (event_key e)) (λ row h. (and_parts _ _ h).0) s.rows (is_home accepted)

  module _ (row : Row) (found : own_row s (event_key e) ≡ Some row) where
    name_is : (row.owner ≡ s.by) × (row.key ≡ event_key e)
    unfolding own_row
    name_is = row_of_name s.by (event_key e) row (find_passes (is_row_of s.by (event_key e)) s.rows row found)

    -- the event's own version
    abbrev own : Version
    own = as_published (changed s row row.label (at_publishing s.now row.content))

    own_is : IsPublishing s.act s.at s.by e own
    unfolding as_published changed written
    own_is = record { at = refl; owner = refl; key = name_is.1; came = refl; path = refl; act = refl }

    own_newer : list_any (λ a. same_cell a own && leb own.stamp a.stamp) log ≡ false
    unfolding as_published changed written same_cell own_row
    own_newer = change_newer s log sees row row.label (at_publishing s.now row.content) name_is.0 (found_there s log sees (is_row_of s.by (event_key e)) row found)

    -- as a row
    own_fresh : fresh_row own ≡ published_row s.now row
    unfolding fresh_row as_published changed written is_published published_row
    own_fresh = λ i. record (published_row s.now row) { owner = sym name_is.0 i; held = not (or_right (is_statement row.key || is_gone (at_publishing s.now row.content)) true refl i) }

    writes_are : change_writes s (Publish e) ≡ own ∷ let_out s e
    unfolding change_writes changed_row
    writes_are = ap (λ o. map as_published (map (λ row. changed s row row.label (at_publishing s.now row.content)) (option_to_list o)) ++ let_out s e) found

    pub published_there : list_all (λ u. ltb u.act s.act) log ≡ true →
        tables (log ++ change_writes s (Publish e)) s.at ≡ put_row (published_row s.now row) (map (let_go s.by e) table)
    published_there older =
        ap (λ vs. tables (log ++ vs) s.at) writes_are ∙ let_go_all own own_is older own_newer
        ∙ ap (λ r. put_row r (map (let_go s.by e) table)) own_fresh

    published_row_put : list_all (λ u. ltb u.act s.act) log ≡ true →
        tables (log ++ change_writes s (Publish e)) s.at ≡ put_all (map fresh_row (change_writes s (Publish e))) table
    published_row_put older =
        ap (λ vs. tables (log ++ vs) s.at) writes_are ∙ both_put own own_is older own_newer
        ∙ ap (λ vs. put_all (map fresh_row vs) table) (sym writes_are)

  pub published_put : is_accepted s (Ask.Change (Publish e)) ≡ true → list_all (λ u. ltb u.act s.act) log ≡ true →
      tables (log ++ change_writes s (Publish e)) s.at ≡ put_all (map fresh_row (change_writes s (Publish e))) table
  published_put accepted older = one (own_row s (event_key e)) refl
    where
      one : (o : Option Row) → own_row s (event_key e) ≡ o → tables (log ++ change_writes s (Publish e)) s.at ≡ put_all (map fresh_row (change_writes s (Publish e))) table
      one None f = absurd (false≢true (ap is_some (sym f) ∙ is_there accepted))
      one (Some row) f = published_row_put row f older
