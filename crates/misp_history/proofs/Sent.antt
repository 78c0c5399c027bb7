-- What passes in a synchronisation is told by the sender's rows, each key once.
use Rattle.std.proofs.Common.{◌≡◌, List, Bool, true, ap, arith, sym, ◌∙◌, inl, inr, ltb, Some, None, false, refl, map, cond, ◌&&◌, Option, Contains, filter, lt-ltb, subst}
use Rattle.misp_history.proofs.Prelude.{Content, Element, Group, IsDistinct, IsTable, Key, OrgId, Reference, Route, Row, Tag, Version, all-map, all_of_kept, and_from, and_parts, and_right, any_has, apart_in_order, arrived, arriving_rows}
use Rattle.misp_history.proofs.Prelude.{cases_order, content_now, distinct_from_map, distinct_map, distinct_part, distinct_weaker, element_passes, event_of, exportable, false_from_ne_true, false≢true, filter-map, filter_all, filter_among}
use Rattle.misp_history.proofs.Prelude.{from_in_order, granted, granted_known, has_path, in_one_cell, in_order, in_order_has, in_order_rows, is_known, is_least, is_sent_owner, kept_has, known, known_there, label_now, list_all, map_from}
use Rattle.misp_history.proofs.Prelude.{map_has, map_twice, moved, newest, not-true, one_cell, passes, passes_by, passing, passing_rows, row_of, same_cell, same_inst, same_inst-refl, same_key, same_key-refl, same_key-sound, same_org}
use Rattle.misp_history.proofs.Prelude.{same_org-sound, sent_copy, stands_before, tables, without_local_tags}
use Rattle.misp_levels.proofs.Steps.{down_landed}
use Rattle.misp_model.proofs.KnownRows.{granted_is_known}
use Rattle.misp_history.proofs.AsNew.{tables_are_tables, newest_apart}
use Rattle.misp_history.proofs.Arriving.{settled, comes}

and_within : (a b c : Bool) → (b && c) ≡ false → (a && b && c) ≡ false
and_within a b c h = grind arith

map_within : {X Y : Type 0} (g : X → Y) (xs ys : List X) → ((z : X) → Contains xs z → Contains ys z) → (y : Y) → Contains (map g xs) y → Contains (map g ys) y
map_within g xs ys h y m = let f = map_from g xs y m in subst (Contains (map g ys)) f.1.1 (map_has g ys f.0 (h f.0 f.1.0))

-- ---- what passes is granted, and of one key from one owner
module _ (rows : List Row) (groups : List Group) (route : Route) where
  element_passes_granted : (row : Row) → element_passes rows groups route row ≡ true → granted rows groups route.from route.«for» row ≡ true
  unfolding element_passes
  element_passes_granted row h = (and_parts _ _ (and_parts _ _ (and_parts _ _ h).0).0).1

  least_granted : (row : Row) (b : Bool) → (is_least rows groups route.from route.«for» row && b) ≡ true → granted rows groups route.from route.«for» row ≡ true
  unfolding is_least
  least_granted row b h = (and_parts _ _ (and_parts _ _ h).0).0

  by_granted : (row : Row) (k : Key) → passes_by rows groups route row k ≡ true → granted rows groups route.from route.«for» row ≡ true
  unfolding passes_by
  by_granted row (Element e p) h = element_passes_granted row h
  by_granted row (Reference e x t u) h = element_passes_granted row h
  by_granted row _ h = least_granted row _ h

  pub passes_granted : (row : Row) → passes rows groups route row ≡ true → granted rows groups route.from route.«for» row ≡ true
  unfolding passes
  passes_granted row h = by_granted row row.key h

  sent_owner : (o : Option Row) (v w : OrgId) → is_sent_owner o v ≡ true → is_sent_owner o w ≡ true → v ≡ w
  unfolding is_sent_owner
  sent_owner None v w h k = absurd (false≢true h)
  sent_owner (Some row) v w h k = sym (same_org-sound row.owner v h) ∙ same_org-sound row.owner w k

  none_less : (x y : Row) → Contains rows y → same_key y.key x.key ≡ true → granted rows groups route.from route.«for» y ≡ true →
      is_least rows groups route.from route.«for» x ≡ true → ltb y.owner.0.0 x.owner.0.0 ≡ true → ⊥
  unfolding is_least
  none_less x y c s g l lt =
      false≢true (sym (not-true _ (and_parts _ _ l).1)
      ∙ any_has (λ r. same_key r.key x.key && ltb r.owner.0.0 x.owner.0.0 && granted rows groups route.from route.«for» r) rows y c (and_from _ _ (and_from _ _ s lt) g))

  -- two rows of one key, each from the least owner
  least_owner : (a b : Row) → Contains rows a → Contains rows b → same_key a.key b.key ≡ true → same_key b.key a.key ≡ true →
      is_least rows groups route.from route.«for» a ≡ true → is_least rows groups route.from route.«for» b ≡ true → a.owner ≡ b.owner
  unfolding is_least
  least_owner a b m n s t h k = elim (cases_order a.owner.0.0 b.owner.0.0) [
    | inl x ↦ λ i. record { 0 = record { 0 = x i } }
    | inr y ↦ elim y [ inl x ↦ absurd (none_less b a m s (and_parts _ _ h).0 k (lt-ltb a.owner.0.0 b.owner.0.0 x)) | inr x ↦ absurd (none_less a b n t (and_parts _ _ k).0 h (lt-ltb b.owner.0.0 a.owner.0.0 x)) ]
  ]

  element_owner : (a b : Row) → a.key ≡ b.key → element_passes rows groups route a ≡ true → element_passes rows groups route b ≡ true → a.owner ≡ b.owner
  unfolding element_passes
  element_owner a b e x y =
      sent_owner (sent_copy rows groups route (event_of b.key)) a.owner b.owner
      (sym (ap (λ j. is_sent_owner (sent_copy rows groups route (event_of j)) a.owner) e) ∙ (and_parts _ _ (and_parts _ _ (and_parts _ _ x).0).0).0)
      (and_parts _ _ (and_parts _ _ (and_parts _ _ y).0).0).0

  once_by : (a b : Row) → Contains rows a → Contains rows b → same_key a.key b.key ≡ true → same_key b.key a.key ≡ true → a.key ≡ b.key →
      (j : Key) → passes_by rows groups route a j ≡ true → passes_by rows groups route b j ≡ true → a.owner ≡ b.owner
  unfolding passes_by
  once_by a b m n s t e (Element f p) x y = element_owner a b e x y
  once_by a b m n s t e (Reference f z p u) x y = element_owner a b e x y
  once_by a b m n s t e _ x y = least_owner a b m n s t (and_parts _ _ x).0 (and_parts _ _ y).0

  passes_once : (a b : Row) → Contains rows a → Contains rows b → same_key a.key b.key ≡ true → same_key b.key a.key ≡ true →
      passes rows groups route a ≡ true → passes rows groups route b ≡ true → a.owner ≡ b.owner
  unfolding passes
  passes_once a b m n s t h k =
      let e : a.key ≡ b.key = same_key-sound a.key b.key s in
      once_by a b m n s t e a.key h (ap (passes_by rows groups route b) e ∙ k)

-- ---- what passes of a history
module _ (log : List Version) (groups : List Group) (route : Route) where
  -- the sender's rows, what is known of them, and which of them pass
  abbrev rows : List Row
  rows = tables log route.from

  abbrev seen : List Row
  seen = known (tables log route.from) groups route.from route.«for»

  abbrev pub goes : Row → Bool
  goes = passes (known (tables log route.from) groups route.from route.«for») groups route

  abbrev pub loose : List Row
  loose = map (row_of log) (newest log route.from)

  in_table : (x : Row) → Contains loose x → Contains rows x
  unfolding tables
  in_table x m = in_order_has stands_before loose x m

  goes_known : (x : Row) → Contains rows x → goes x ≡ true → is_known rows groups route.from route.«for» x ≡ true
  goes_known x m h =
      granted_is_known rows groups route.from route.«for» x
      (sym (granted_known rows groups route.from route.«for» (tables_are_tables log route.from) x m) ∙ passes_granted seen groups route x h)

  goes_seen : (x : Row) → Contains loose x → goes x ≡ true → Contains seen x
  unfolding known
  goes_seen x m h = kept_has (is_known rows groups route.from route.«for») rows x (in_table x m) (goes_known x (in_table x m) h)

  -- of all rows pass those that pass of the known ones
  pub arriving_in_order : arriving_rows rows groups route ≡ map (arrived route) (in_order stands_before (filter goes loose))
  unfolding arriving_rows passing_rows known tables
  arriving_in_order =
      ap (map (arrived route)) (filter_among goes goes (is_known rows groups route.from route.«for») rows (λ x m q. refl) (λ x m h. goes_known x m h) ∙ in_order_rows goes loose)

  one_key : (a b : Row) → Contains loose a → Contains loose b → goes a ≡ true → goes b ≡ true → same_key a.key b.key ≡ true → in_one_cell a b ≡ true
  one_key a b m n h k t =
      let e : a.key ≡ b.key = same_key-sound a.key b.key t in
      one_cell a b (passes_once seen groups route a b (goes_seen a m h) (goes_seen b n k) t (ap (same_key b.key) e ∙ same_key-refl b.key) h k) e

  -- each key passes once
  pub keys_apart : IsDistinct (λ (a b : Row). same_key a.key b.key) (filter goes loose)
  keys_apart = distinct_part in_one_cell (λ a b. same_key a.key b.key) goes loose one_key (newest_apart log route.from)

  -- ---- as what they arrive
  exportable_twice : (tags : List Tag) → exportable (exportable tags) ≡ exportable tags
  unfolding exportable
  exportable_twice tags = filter_all (λ t. t.exportable) (exportable tags) (all_of_kept (λ t. t.exportable) (λ t. t.exportable) (λ t h. h) tags)

  without_twice : (c : Content) → without_local_tags (without_local_tags c) ≡ without_local_tags c
  unfolding without_local_tags
  without_twice (Content.Event b) = λ i. Content.Event (record b { tags = exportable_twice b.tags i })
  without_twice (Content.Attribute b) = λ i. Content.Attribute (record b { tags = exportable_twice b.tags i })
  without_twice _ = refl

  without_once : (b : Bool) (c : Content) → without_local_tags c ≡ without_local_tags (cond b (without_local_tags c) c)
  without_once true c = sym (without_twice c)
  without_once false c = refl

  one_settled : (v : Version) → settled (moved route v) ≡ arrived route (row_of log v)
  unfolding settled moved arrived row_of label_now content_now has_path
  one_settled v = λ i. record (arrived route (row_of log v)) { label = down_landed route.way v.label v.path i; content = without_once (has_path v) v.content i }

  pub coming_settled : map settled (map (moved route) (passing log groups route)) ≡ map (arrived route) (filter goes loose)
  unfolding passing known_there
  coming_settled =
      map_twice (moved route) settled (λ v. arrived route (row_of log v)) one_settled (passing log groups route)
      ∙ sym (map_twice (row_of log) (arrived route) (λ v. arrived route (row_of log v)) (λ v. refl) (passing log groups route))
      ∙ ap (map (arrived route)) (sym (filter-map (row_of log) goes (newest log route.from)))

  pub all_come : (vs : List Version) → list_all (comes route.into) (map (moved route) vs) ≡ true
  unfolding moved has_path
  all_come vs = all-map (comes route.into) (moved route) (λ v. and_from _ _ (same_inst-refl route.into) refl) vs

  -- what arrives are the versions that come, as rows, in another order
  pub came_so : (x : Row) → Contains (arriving_rows rows groups route) x → Contains (map settled (map (moved route) (passing log groups route))) x
  came_so x m = subst (λ rs. Contains rs x) (sym coming_settled) (map_within (arrived route) _ (filter goes loose) (from_in_order stands_before (filter goes loose)) x (subst (λ rs. Contains rs x) arriving_in_order m))

  pub came_back : (x : Row) → Contains (map settled (map (moved route) (passing log groups route))) x → Contains (arriving_rows rows groups route) x
  came_back x m = subst (λ rs. Contains rs x) (sym arriving_in_order) (map_within (arrived route) (filter goes loose) _ (in_order_has stands_before (filter goes loose)) x (subst (λ rs. Contains rs x) coming_settled m))

  arrived_apart : (a b : Row) → same_key a.key b.key ≡ false → in_one_cell (arrived route a) (arrived route b) ≡ false
  unfolding in_one_cell arrived
  arrived_apart a b h = and_right (same_org route.holder route.holder) _ h

  -- of different names as they come
  pub settled_table : IsTable (map settled (map (moved route) (passing log groups route)))
  settled_table = subst IsTable (sym coming_settled) (distinct_map (arrived route) (λ a b. same_key a.key b.key) in_one_cell arrived_apart (filter goes loose) keys_apart)

  pub moved_apart : IsDistinct same_cell (map (moved route) (passing log groups route))
  unfolding same_cell in_one_cell settled
  moved_apart =
      distinct_weaker same_cell (λ a b. in_one_cell (settled a) (settled b)) (λ a b h. and_within (same_inst a.at b.at) (same_org a.owner b.owner) (same_key a.key b.key) h) (map (moved route) (passing log groups route))
      (distinct_from_map settled in_one_cell (map (moved route) (passing log groups route)) settled_table)

  pub arriving_table : IsTable (arriving_rows rows groups route)
  arriving_table =
      subst IsTable (sym arriving_in_order)
      (distinct_map (arrived route) (λ a b. same_key a.key b.key) in_one_cell arrived_apart (in_order stands_before (filter goes loose)) (apart_in_order (λ a b. same_key a.key b.key) back stands_before (filter goes loose) keys_apart))
    where
      back : (a b : Row) → same_key a.key b.key ≡ false → same_key b.key a.key ≡ false
      back a b h = false_from_ne_true _ (λ g. false≢true (sym h ∙ ap (same_key a.key) (same_key-sound b.key a.key g) ∙ same_key-refl a.key))
