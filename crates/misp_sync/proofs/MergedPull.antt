-- What a pull leaves of what is held and what passes.
use Rattle.std.proofs.Common.{◌≡◌, ◌∙◌, ◌&&◌, ℕ, Bool, true, false, not, List, [], ◌∷◌, Contains, Option, Some, None, Result, Ok, Err, ap, arith, filter, if◌then◌else◌, map, nat_eq, refl, subst, sym}
use Rattle.misp_lists.specs.Order.{in_order}
use Rattle.misp_lists.proofs.Elements.{any_has, here, there, of_part}
use Rattle.std.specs.List.{starts_with}
use Rattle.misp_outside.specs.Held.{with_batch}
use Rattle.misp_groups.specs.Changes.{take_groups}
use Rattle.misp_effects.specs.Batches.{AreReadable, Batch, batch, put_batches}
use Rattle.misp_effects.specs.Effect.{Effect, behind, effect, left}
use Rattle.misp_model.specs.Packing.{is_own, packages}
use Rattle.misp_model.specs.Pulling.{pull_route, pulled_packages}
use Rattle.misp_model.specs.Scene.{Partner}
use Rattle.misp_model.proofs.Prelude.{EventId, Group, Inst, IsDistinct, IsTable, OrgId, Row, Scene, event_key, event_of, event_rows, false≢true, is_row_of, list_all, list_any, name_bytes, put_all, put_row, same_event, same_key, same_key-refl, same_key-sound, same_org, same_org-refl, same_org-sound, seeing, stands_before, uid, and_from, and_parts}
use Rattle.misp_history.specs.Merging.{arrives, counts_row, handed, is_newer_row, is_taken, merged, rows_taken}
use Rattle.misp_history.specs.Passing.{Route}
use Rattle.misp_history.proofs.ByPackages.{merged_packages, merged_whole}
use Rattle.misp_history.proofs.Packing.{packages_are, packages_cover}
use Rattle.misp_history.proofs.Passed.{all_arrive, with_own}
use Rattle.misp_history.proofs.Sorted.{IsSorted, in_order_sorted}
use Rattle.misp_store.specs.Batches.{spelled}
use Rattle.misp_store.specs.Raw.{rows_in}
use Rattle.misp_store.specs.Sharing.{or_none}
use Rattle.misp_store.specs.declared.reach.Reach.{Reach}
use Rattle.misp_store.proofs.HeldRows.{rows_again}
use Rattle.misp_outside.specs.declared.row.AdminRow.{AdminRow}
use Rattle.misp_admin_rows.specs.Rows.{item_rows}
use Rattle.misp_core.specs.Prelude.{Ask, Caller, Held, Host, Seen, forbidden, groups_of, scene_at, seen_in}
use Rattle.misp_core.specs.Taking.{groups_taken}
use Rattle.misp_core.proofs.Arriving.{arriving_apart}
use Rattle.misp_core.proofs.Pulled.{pulled_by as pulled_on, pulled_nobodys, pulled_none}
use Rattle.misp_protocol.specs.declared.cause.Cause.{Cause}
use Rattle.misp_client.specs.Telling.{refused_as}
use Rattle.misp_sync.specs.Laws.{Holds, IsPullable, rows_passed, untouched}
use Rattle.misp_sync.specs.Pulled.{all_pulled, ends, events_sent, events_taken, groups_sent, pulled_by}
use Rattle.misp_core.proofs.OtherEvents.{kept_out, put_out}
use Rattle.misp_history.proofs.Bringing.{joined, joined_all, parts}
use Rattle.misp_sync.proofs.EventRows.{merged_cut}
use Rattle.misp_sync.proofs.Events.{Tells, events_are}
use Rattle.misp_core.proofs.TakenGroups.{groups_after as taken_put}
use Rattle.misp_history.proofs.Handed.{arriving_handed}
use Rattle.misp_sync.proofs.Listed.{events_listed, sent_handed}
use Rattle.misp_sync.proofs.OwnRows.{own_read, rows_tell}
use Rattle.misp_sync.proofs.Parts.{as_batches}
use Rattle.misp_sync.proofs.Stands.{Stands, batch_stands, parts_stand}

-- ---- rows that nothing comes of

module _ (coming : List Row) where
  abbrev is_untouched : Row → Bool
  is_untouched row = not (list_any (is_row_of row.owner row.key) coming)

  comes_itself : (x : Row) → Contains coming x → is_untouched x ≡ false
  unfolding is_row_of
  comes_itself x m = ap not (any_has (is_row_of x.owner x.key) coming x m (and_from _ _ (same_org-refl x.owner) (same_key-refl x.key)))

  other_name : (x : Row) → Contains coming x → (y : Row) → is_untouched y ≡ true → not (same_org y.owner x.owner && same_key y.key x.key) ≡ true
  unfolding is_row_of
  other_name x m y h = one (same_org y.owner x.owner && same_key y.key x.key) refl
    where
      one : (b : Bool) → (same_org y.owner x.owner && same_key y.key x.key) ≡ b → not (same_org y.owner x.owner && same_key y.key x.key) ≡ true
      one false is = ap not is
      one true is =
          let both = and_parts (same_org y.owner x.owner) (same_key y.key x.key) is in
          let named : is_row_of y.owner y.key x ≡ true =
          and_from _ _ (ap (same_org x.owner) (same_org-sound y.owner x.owner both.0) ∙ same_org-refl x.owner) (ap (same_key x.key) (same_key-sound y.key x.key both.1) ∙ same_key-refl x.key) in
          absurd (false≢true (sym (ap not (any_has (is_row_of y.owner y.key) coming x m named)) ∙ h))

  untouched_put : (taken : List Row) → ((x : Row) → Contains taken x → Contains coming x) → (rows : List Row) → untouched coming (put_all taken rows) ≡ untouched coming rows
  unfolding put_all put_row
  untouched_put [] come rows = refl
  untouched_put (x ∷ taken) come rows =
      let m : Contains coming x = come x (here x taken) in
      untouched_put taken (λ y n. come y (there x taken y n)) (put_row x rows)
      ∙ put_out stands_before is_untouched x (filter (λ r. not (same_org r.owner x.owner && same_key r.key x.key)) rows) (comes_itself x m)
      ∙ kept_out is_untouched (λ r. not (same_org r.owner x.owner && same_key r.key x.key)) (other_name x m) rows

  pub untouched_stay : (i : Inst) (rows : List Row) (groups : List Group) → untouched coming (merged i rows groups coming) ≡ untouched coming rows
  unfolding merged rows_taken
  untouched_stay i rows groups =
      untouched_put (rows_taken i rows groups coming)
      (λ x m. (of_part (counts_row i rows groups coming) coming x (of_part (is_newer_row rows) (filter (counts_row i rows groups coming) coming) x m).1).1) rows

-- ---- what passes

-- the rows, where all of them are rows
abbrev rows_or_none : Result (List Row) (List ℕ) → List Row
rows_or_none (Ok rows) = rows
rows_or_none (Err name) = []

-- each key comes once, for the holder, with its event's own row
pub record Comes (w : OrgId) (coming : List Row) : Type 0 where
  pub table : IsTable coming
  pub owned : list_all (arrives w) coming ≡ true
  pub with_event : (x : Row) → Contains coming x → list_any (λ r. same_key r.key (event_key (event_of x.key))) coming ≡ true

module _ (here : Inst) (w : OrgId) (peer : Host) (caller : Caller) (own : Held) (there : Seen) (mine : List Row) (groups : List Group) (rows : List Row) (can : IsPullable peer caller own there mine groups rows) where
  abbrev scene : Scene
  scene = scene_at peer 0 caller there.groups

  abbrev coming : List Row
  coming = rows_passed w peer caller there.groups rows

  abbrev sent : List Group
  sent = groups_sent peer caller there.groups

  abbrev later : List Group
  later = take_groups groups sent

  comes : Comes w coming
  unfolding IsDistinct
  comes = one scene.partner refl
    where
      one : (o : Option Partner) → scene.partner ≡ o → Comes w coming
      one None e =
          subst (Comes w) (sym (ap (map (handed w)) (pulled_none scene e rows)))
          (record { table = tt; owned = refl; with_event = λ x m. let lt = m.1 in absurd (omega arith) })
      one (Some p) e =
          let r : Route = record (pull_route scene p) { holder = w } in
          subst (Comes w) (sym (ap (map (handed w)) (pulled_on scene p e rows) ∙ arriving_handed rows there.groups r))
          (record {
            table = arriving_apart rows there.groups r can.apart;
            owned = all_arrive rows there.groups r can.apart can.are_rows;
            with_event = with_own rows there.groups r;
          })

  tells : (e : EventId) → Tells here w later mine coming comes.table comes.owned (seen_in own) e
  tells = rows_tell here w later mine coming comes.table comes.owned own can.holds.rows_are can.holds.are_rows

  abbrev brings : List (List Row)
  brings = parts (is_taken here mine later coming) [] (packages coming)

  own_groups : groups_of own ≡ groups
  own_groups = ap or_none can.holds.groups_are

  -- the pull takes the groups, and of each package what it brings
  pub pulled_is : pulled_by here w peer (Some caller) (seen_in own) there ≡ effect None (batch [] (groups_taken groups sent) ∷ as_batches brings)
  pulled_is =
      ap (λ b. if b then all_pulled here w (seen_in own) sent (events_sent peer caller there.groups (there.rows Reach.All)) else ends (Some (refused_as (forbidden Ask.SyncGroups)))) can.permitted
      ∙ ap (λ found. all_pulled here w (seen_in own) sent (events_sent peer caller there.groups found)) can.reported
      ∙ ap (λ events. all_pulled here w (seen_in own) sent (Ok events)) (events_listed (seeing scene rows) w coming (pulled_nobodys scene rows) refl)
      ∙ (λ i. behind (batch [] (groups_taken (own_groups i) sent)) (events_taken here w (take_groups (own_groups i) sent) (seen_in own) listed))
      ∙ ap (behind (batch [] (groups_taken groups sent)))
      (events_are here w later mine coming comes.table comes.owned (pulled_packages (seeing scene rows)) (sent_handed (seeing scene rows) w coming (pulled_nobodys scene rows) refl) (seen_in own) tells)
    where
      listed : List (EventId × List (List Row))
      listed = map (λ x. (event_of x.key, pulled_packages (seeing scene rows) (event_of x.key))) (filter is_own (in_order stands_before coming))

  own_sorted : IsSorted mine
  own_sorted = subst IsSorted can.own_ascend (in_order_sorted mine can.own_apart)

  -- together they bring what is merged
  brings_merged : put_all (joined brings) mine ≡ merged here mine later coming
  brings_merged =
      ap (λ taken. put_all taken mine) (joined_all (is_taken here mine later coming) [] (packages coming))
      ∙ sym (merged_packages here mine later coming comes.table w comes.owned (packages coming) (packages_are coming comes.table))
      ∙ merged_whole here mine later coming comes.table w comes.owned (packages coming) (packages_are coming comes.table) own_sorted (packages_cover coming comes.table comes.with_event)

  abbrev first : Batch
  first = batch [] (groups_taken groups sent)

  put_then : AreReadable (first ∷ as_batches brings) → Holds (merged here mine later coming) later (put_batches (map spelled (first ∷ as_batches brings)) own)
  unfolding put_all
  put_then fits =
      let items : List AdminRow = item_rows own.admin in
      let groups_put : Stands mine later items (with_batch (spelled first) own) =
      subst (λ gs. Stands mine gs items (with_batch (spelled first) own)) (taken_put groups sent)
      (batch_stands [] (groups_taken groups sent) mine groups items own fits.0 (record { holds = can.holds; items_are = refl })) in
      subst (λ rs. Holds rs later (put_batches (map spelled (first ∷ as_batches brings)) own)) brings_merged (parts_stand brings mine later items (with_batch (spelled first) own) fits.1 groups_put).holds

  pub pull_leaves : AreReadable (pulled_by here w peer (Some caller) (seen_in own) there).batches
      → Holds (merged here mine later coming) later (left spelled (pulled_by here w peer (Some caller) (seen_in own) there) own)
  pull_leaves fits =
      subst (λ (e : Effect (Option Cause)). Holds (merged here mine later coming) later (left spelled e own)) (sym pulled_is)
      (put_then (subst (λ (e : Effect (Option Cause)). AreReadable e.batches) pulled_is fits))

  -- the holder's own rows of an event then
  pub event_leaves : AreReadable (pulled_by here w peer (Some caller) (seen_in own) there).batches → (e : EventId) (before : List Row) → (seen_in own).rows (Reach.Own w e) ≡ Ok before
      → (seen_in (left spelled (pulled_by here w peer (Some caller) (seen_in own) there) own)).rows (Reach.Own w e) ≡ Ok (merged here before later (event_rows e coming))
  event_leaves fits e before read =
      let all : Holds (merged here mine later coming) later (left spelled (pulled_by here w peer (Some caller) (seen_in own) there) own) = pull_leaves fits in
      let named : (Row → Bool) = λ r. same_event (event_of r.key) e && starts_with nat_eq (name_bytes r) (uid w.0) in
      let were : filter named mine ≡ before = ap rows_or_none (sym (own_read w e mine own can.holds.rows_are can.holds.are_rows) ∙ read) in
      own_read w e (merged here mine later coming) (left spelled (pulled_by here w peer (Some caller) (seen_in own) there) own) all.rows_are all.are_rows
      ∙ ap Ok (merged_cut here w later mine coming comes.table comes.owned own_sorted e ∙ ap (λ rs. merged here rs later (event_rows e coming)) were)

-- ---- what is seen then

pub seen_so : (rows : List Row) (groups : List Group) (held : Held) → Holds rows groups held → ((seen_in held).rows Reach.All ≡ Ok rows) × ((seen_in held).groups ≡ groups)
seen_so rows groups held h = (ap rows_in h.rows_are ∙ rows_again rows h.are_rows, ap or_none h.groups_are)
