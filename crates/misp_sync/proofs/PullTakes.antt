-- A pull takes what it comes to.
use Rattle.std.proofs.Common.{◌≡◌, ◌<◌, ◌+◌, ◌-◌, ◌^◌, ◌∙◌, ℕ, nat_cmp, eqb, Less, leb, leb-true, Bool, true, false, List, [], ◌∷◌, flat_map, length, map, filter, Contains, Option, None, Some, Result, Ok, Err, refl, sym, ap, subst, arith, if◌then◌else◌}
use Rattle.std.proofs.lemmas.List.Folds.{flat_map-map}
use Rattle.std.proofs.lemmas.Option.{slice_get_within}
use Rattle.std.specs.List.{AllByRecursion, slice_get}
use Rattle.std.specs.List.Sorted.{IsStrictlySortedBy}
use Rattle.misp_ids.specs.Uid.{IsUid}
use Rattle.misp_ids.specs.declared.label.Direction.{Direction}
use Rattle.misp_ids.specs.declared.refusal.RuleName.{RuleName}
use Rattle.misp_orgs.specs.Admin.{who_of}
use Rattle.misp_orgs.specs.declared.link.Link.{Link}
use Rattle.misp_dialogue.specs.Parties.{Conduct}
use Rattle.misp_dialogue.specs.Taking.{Takes}
use Rattle.misp_dialogue.proofs.Taking.{asked, source_refused}
use Rattle.misp_lists.specs.Order.{in_order}
use Rattle.misp_lists.proofs.All.{all_among, all_both, all_map, all_of}
use Rattle.misp_lists.proofs.Elements.{kept_has, of_part}
use Rattle.misp_lists.proofs.Ordering.{from_in_order}
use Rattle.misp_lists.proofs.Prelude.{and_parts}
use Rattle.misp_effects.specs.Batches.{Batch, batch}
use Rattle.misp_effects.specs.Effect.{Effect}
use Rattle.misp_groups.specs.Changes.{take_groups}
use Rattle.misp_outside.specs.Held.{put_rows, with_batch}
use Rattle.misp_elem.specs.Fields.{IsBetween}
use Rattle.misp_manifest.specs.Manifest.{IsKeysOfPart, IsManifestEvent, key_stamp, said_of}
use Rattle.misp_manifest.specs.declared.manifest.ManifestFields.{ManifestFields}
use Rattle.misp_model.proofs.Manifests.{said_of_each}
use Rattle.misp_model.proofs.Prelude.{EventId, Group, Row, Scene, event_of, event_rows, length-map, map-map, nat_tests, same_event, same_event-refl, stands_before}
use Rattle.misp_model.specs.Manifests.{only_of, pulled_manifest}
use Rattle.misp_model.specs.Packing.{is_own}
use Rattle.misp_model.specs.Pulling.{pulled_events, pulled_packages, pulled_rows}
use Rattle.misp_store.specs.Sharing.{HasSoundAdmin}
use Rattle.misp_store.specs.declared.reach.Reach.{Reach}
use Rattle.misp_core.proofs.PulledEvents.{some_package}
use Rattle.misp_core.specs.Answers.{bad_row}
use Rattle.misp_core.specs.Prelude.{Ask, Caller, Held, Host, IsGroup, bare, forbidden, groups_of, is_permitted, scene_at, seeing, seen_in}
use Rattle.misp_core.specs.Taking.{groups_taken, with_groups_taken}
use Rattle.misp_client.specs.Telling.{refused_as}
use Rattle.misp_protocol.specs.Counts.{IsTally, no_tally}
use Rattle.misp_protocol.specs.Parts.{IsListed, by_event, parts_listed, parts_of}
use Rattle.misp_protocol.specs.Text.{asking, listed, listing, synchronising}
use Rattle.misp_protocol.specs.TextTakes.{GroupsCome, PartsCome}
use Rattle.misp_protocol.specs.declared.cause.Cause.{Cause}
use Rattle.misp_protocol.specs.declared.count.Tally.{Tally}
use Rattle.misp_protocol.specs.declared.request.Answer.{Answer}
use Rattle.misp_protocol.specs.declared.request.Request.{Request}
use Rattle.misp_protocol.proofs.PullText.{through_takes}
use Rattle.misp_protocol.proofs.PushText.{grouped_takes}
use Rattle.misp_sync.specs.OwnAnswers.{batching, own_conduct}
use Rattle.misp_sync.specs.Pulled.{all_pulled, ends, events_sent, events_taken, groups_sent, pulled_by, rows_pulled, with_packages}
use Rattle.misp_sync.specs.WireAnswers.{wire_conduct}
use Rattle.misp_sync.proofs.Granted.{got_among}
use Rattle.misp_protocol.proofs.ListedParts.{HasParts, are_events}
use Rattle.misp_sync.proofs.PeerAnswers.{barred_answered, groups_answered, manifest_answered, nobody_answered, rows_answered}
use Rattle.misp_sync.proofs.PullParts.{Apart, IsSent, IsServed, IsUntouched, Sent, all_served, events_come, listed_of}
use Rattle.misp_sync.proofs.TakenGroups.{groups_then, taken_are}
use Rattle.misp_client.proofs.Suiting.{few_groups}

-- ---- what is sent of events

module _ (s : Scene) where
  -- a listed event has a package
  some_sent : (row : Row) → Contains (pulled_rows s) row → is_own row ≡ true → 0 < length (pulled_packages s (event_of row.key))
  some_sent row m own =
      some_package (event_rows (event_of row.key) (pulled_rows s)) row
      (kept_has (λ r. same_event (event_of r.key) (event_of row.key)) (pulled_rows s) row m (same_event-refl (event_of row.key))) own

  all_some : AllByRecursion (λ (e : EventId × ℕ). 0 < length (pulled_packages s e.0)) (pulled_events s)
  unfolding pulled_events
  all_some =
      all_map (λ row. (event_of row.key, length (pulled_packages s (event_of row.key)))) (λ row. 0 < length (pulled_packages s (event_of row.key)))
      (λ (e : EventId × ℕ). 0 < length (pulled_packages s e.0)) (λ row h. h) (filter is_own (in_order stands_before (pulled_rows s)))
      (all_among (λ row. 0 < length (pulled_packages s (event_of row.key))) (filter is_own (in_order stands_before (pulled_rows s)))
      (λ row m. let its = of_part is_own (in_order stands_before (pulled_rows s)) row m in
      some_sent row (from_in_order stands_before (pulled_rows s) row its.1) its.0))

  -- what a manifest says is said of the events with their packages
  manifest_said : pulled_manifest s ≡ map (λ (x : Sent). said_of x.0 x.1) (with_packages s)
  manifest_said = said_of_each s ∙ sym (map-map (λ (x : Sent). said_of x.0 x.1) (λ (e : EventId × ℕ). (e.0, pulled_packages s e.0)) (pulled_events s))

  listed_so : parts_listed (pulled_manifest s) ≡ flat_map listed_of (with_packages s)
  listed_so = ap parts_listed manifest_said ∙ flat_map-map parts_of (λ (x : Sent). said_of x.0 x.1) (with_packages s)

  sent_some : AllByRecursion (λ (x : Sent). 0 < length x.1) (with_packages s)
  sent_some = all_map (λ (e : EventId × ℕ). (e.0, pulled_packages s e.0)) (λ (e : EventId × ℕ). 0 < length (pulled_packages s e.0)) (λ (x : Sent). 0 < length x.1) (λ e h. h) (pulled_events s) all_some

abbrev said : Sent → ManifestFields
said x = said_of x.0 x.1

have_parts : (xs : List Sent) → AllByRecursion (λ (x : Sent). 0 < length x.1) xs → AllByRecursion HasParts (map said xs)
have_parts [] some = tt
have_parts (x ∷ xs) some = (subst (λ n. 0 < n) (sym (length-map x.1 (map key_stamp))) some.0, have_parts xs some.1)

less_apart : (m n : ℕ) → nat_cmp m n ≡ Less → eqb m n ≡ false
less_apart m n h = grind (arith, nat_tests)

all_apart : (x : Sent) (xs : List Sent) → AllByRecursion (λ y. by_event (said x) y ≡ Less) (map said xs) → AllByRecursion (λ y. same_event x.0 y.0 ≡ false) xs
unfolding same_event
all_apart x [] are = tt
all_apart x (y ∷ xs) are = (less_apart x.0.0.0 y.0.0.0 are.0, all_apart x xs are.1)

apart_of : (xs : List Sent) → IsStrictlySortedBy by_event (map said xs) → Apart xs
unfolding IsStrictlySortedBy
apart_of [] up = tt
apart_of (x ∷ xs) up = (all_apart x xs up.0, apart_of xs up.1)

-- ---- lists

all_unmap : {X Y : Type 0} (f : X → Y) (P : Y → Type 0) (xs : List X) → AllByRecursion P (map f xs) → AllByRecursion (λ x. P (f x)) xs
all_unmap f P [] all = tt
all_unmap f P (x ∷ xs) all = (all.0, all_unmap f P xs all.1)

few : (n m : ℕ) → n < m → IsBetween 1 (2 ^ 32 - 1) m → n < 2 ^ 32
few n m lt h = omega (arith, lt, leb-true m (2 ^ 32 - 1) (and_parts (leb 1 m) (leb m (2 ^ 32 - 1)) h).1)

-- ---- the pull

module _ (here peer : Host) (link : Link) (own there : Held) (owner : IsUid link.holder.0) where
  abbrev source : Conduct Held Request Answer Cause
  source = wire_conduct (Some peer) link.key

  abbrev taker : Conduct Held Request Answer Cause
  taker = own_conduct (here, link)

  -- such an effect is what a pull takes
  abbrev Pulls : Effect (Option Cause) → Type 0
  Pulls e = Takes source taker batching (synchronising Direction.Pull no_tally) there own no_tally e.batches e.reply

  module _ (caller : Caller) (who : who_of peer.admin link.key ≡ Some caller) (may : is_permitted caller Ask.SyncGroups ≡ true) where
    abbrev gs : List Group
    gs = groups_sent peer caller (groups_of there)

    abbrev known : List Group
    known = take_groups (groups_of own) gs

    abbrev groups : Batch
    groups = batch [] (groups_taken (groups_of own) gs)

    abbrev after : Held
    after = with_groups_taken gs own

    -- ---- the groups

    groups_come : GroupsCome source taker batching there own no_tally gs groups
    groups_come = record {
      count = length (groups_taken (groups_of own) gs);
      passes = groups_answered peer link.key there caller who may;
      taken = refl;
      few = few_groups (groups_of own) gs;
      fits = λ are. record { rows = tt; groups = taken_are (groups_of own) gs are; items = tt };
      counts = refl;
    }

    known_after : HasSoundAdmin own → AllByRecursion IsGroup gs → groups_of after ≡ known
    known_after alone are = groups_then own gs alone (taken_are (groups_of own) gs are)

    untouched : (x : Sent) → IsUntouched here link owner source there (seen_in own) after x
    unfolding with_batch put_rows
    untouched x = refl

    -- ---- the rows

    module _ (rows : List Row) (read : (seen_in there).rows Reach.All ≡ Ok rows) where
      abbrev scene : Scene
      scene = seeing (scene_at peer 0 caller (groups_of there)) rows

      abbrev sent : List Sent
      sent = with_packages (seeing (scene_at peer 0 caller (groups_of there)) rows)

      served_one : (e : EventId) → IsManifestEvent (said_of e (pulled_packages scene e)) → (n : ℕ) (p : List Row) → slice_get (pulled_packages scene e) n ≡ Some p
          → IsServed here link owner source there e (length (pulled_packages scene e)) n p
      served_one e is n p at = record {
        event = is.event;
        number = few n (length (pulled_packages scene e)) (slice_get_within (pulled_packages scene e) n p at)
            (subst (λ m. IsBetween 1 (2 ^ 32 - 1) m) (length-map (pulled_packages scene e) (map key_stamp)) is.count);
        keys = all_of (λ p. IsKeysOfPart e (map key_stamp p)) (pulled_packages scene e) p
            (all_unmap (map key_stamp) (IsKeysOfPart e) (pulled_packages scene e) is.parts) (got_among (pulled_packages scene e) n p at);
        answer = λ w w_is event part.
            rows_answered peer link.key there caller who may rows read w w_is p ((λ i. slice_get (pulled_packages scene (event i)) (part i)) ∙ at)
            ∙ (λ i. Ok (
              Answer.Part (only_of w.keys (record { event = event i; part = part i; parts = length (pulled_packages scene (event i)); rows = p })),
              there,
            ));
      }

      sent_one : (e : EventId) → 0 < length (pulled_packages scene e) → IsManifestEvent (said_of e (pulled_packages scene e))
          → IsSent here link owner source there (e, pulled_packages scene e)
      sent_one e some is = record {
        some = some;
        served = all_served here link owner source there e (length (pulled_packages scene e)) 0 (pulled_packages scene e)
            (λ j p at. let same : j ≡ 0 + j = omega arith in
            subst (λ m. IsServed here link owner source there e (length (pulled_packages scene e)) m p) same (served_one e is j p at));
      }

      all_sent : AllByRecursion IsManifestEvent (map said sent) → AllByRecursion (IsSent here link owner source there) sent
      all_sent are =
          all_map (λ (e : EventId × ℕ). (e.0, pulled_packages scene e.0))
          (λ (e : EventId × ℕ). (0 < length (pulled_packages scene e.0)) × IsManifestEvent (said_of e.0 (pulled_packages scene e.0)))
          (IsSent here link owner source there) (λ e h. sent_one e.0 h.0 h.1) (pulled_events scene)
          (all_both (λ (e : EventId × ℕ). 0 < length (pulled_packages scene e.0)) (λ (e : EventId × ℕ). IsManifestEvent (said_of e.0 (pulled_packages scene e.0))) (pulled_events scene)
          (all_some scene)
          (all_unmap (λ (e : EventId × ℕ). (e.0, pulled_packages scene e.0)) (λ (x : Sent). IsManifestEvent (said x)) (pulled_events scene)
          (all_unmap said IsManifestEvent sent are)))

      parts_come : HasSoundAdmin own → AllByRecursion IsGroup gs → IsListed (parts_listed (pulled_manifest scene))
          → PartsCome source taker batching there after (parts_listed (pulled_manifest scene))
          (events_taken here.name link.holder known (seen_in own) sent).batches (events_taken here.name link.holder known (seen_in own) sent).reply
      parts_come alone are is =
          let events = are_events (map said sent) (have_parts sent (sent_some scene)) (subst (λ ms. IsListed (parts_listed ms)) (manifest_said scene) is) in
          subst (λ ks. PartsCome source taker batching there after ks
          (events_taken here.name link.holder known (seen_in own) sent).batches (events_taken here.name link.holder known (seen_in own) sent).reply) (sym (listed_so scene))
          (events_come here link owner source there sent (all_sent events.0) (apart_of sent events.1) (seen_in own) known after (known_after alone are)
          (all_among (IsUntouched here link owner source there (seen_in own) after) sent (λ x m. untouched x)))

    -- over what is read of all rows there
    abbrev coming : Result (List Row) (List ℕ) → Effect (Option Cause)
    coming read = rows_pulled here.name link.holder known (seen_in own) (events_sent peer caller (groups_of there) read)

    abbrev counted_groups : Tally
    counted_groups = batching.tally no_tally groups

    rows_take : (read : Result (List Row) (List ℕ)) → (seen_in there).rows Reach.All ≡ read → IsTally counted_groups → HasSoundAdmin own → AllByRecursion IsGroup gs
        → Takes source taker batching (listing Direction.Pull counted_groups) there after counted_groups (coming read).batches (coming read).reply
    rows_take (Ok rows) is fine alone are =
        asked source taker batching counted_groups Request.Manifest (listed Direction.Pull counted_groups) (Answer.Manifest (parts_listed (pulled_manifest (scene rows is)))) there after
        (coming (Ok rows)).batches (coming (Ok rows)).reply (manifest_answered peer link.key there caller who may (Ok rows) is)
        (λ ask held sound. through_takes source taker batching (parts_listed (pulled_manifest (scene rows is))) counted_groups there after
        (coming (Ok rows)).batches (coming (Ok rows)).reply fine (parts_come rows is alone are sound))
    rows_take (Err name) is fine alone are =
        source_refused source taker batching counted_groups Request.Manifest (listed Direction.Pull counted_groups) (refused_as (bad_row name)) there after
        (manifest_answered peer link.key there caller who may (Err name) is)

    all_take : Pulls (all_pulled here.name link.holder (seen_in own) gs (events_sent peer caller (groups_of there) ((seen_in there).rows Reach.All)))
    all_take =
        let e = coming ((seen_in there).rows Reach.All) in
        grouped_takes source taker batching Direction.Pull no_tally there own gs groups e.batches e.reply groups_come (rows_take ((seen_in there).rows Reach.All) refl)

  -- ---- who asks

  refused_so : (cause : Cause) → source.answer there Request.Groups ≡ Err cause → Pulls (ends (Some cause))
  refused_so cause is = source_refused source taker batching no_tally Request.Groups (asking Direction.Pull no_tally) cause there own is

  by_role : (caller : Caller) → who_of peer.admin link.key ≡ Some caller → (may : Bool) → is_permitted caller Ask.SyncGroups ≡ may
      → Pulls (if may then all_pulled here.name link.holder (seen_in own) (groups_sent peer caller (groups_of there))
      (events_sent peer caller (groups_of there) ((seen_in there).rows Reach.All)) else ends (Some (refused_as (forbidden Ask.SyncGroups))))
  by_role caller who true may = all_take caller who may
  by_role caller who false may = refused_so (refused_as (forbidden Ask.SyncGroups)) (barred_answered peer link.key there caller who may)

  by_caller : (found : Option Caller) → who_of peer.admin link.key ≡ found → Pulls (pulled_by here.name link.holder peer found (seen_in own) (seen_in there))
  by_caller None who = refused_so (refused_as (bare RuleName.NoKey)) (nobody_answered peer link.key there who)
  by_caller (Some caller) who = by_role caller who (is_permitted caller Ask.SyncGroups) refl

-- what a pull over a link comes to is what its dialogue takes
pub pull_takes : (here peer : Host) (link : Link) (own there : Held) → IsUid link.holder.0 →
    let e = pulled_by here.name link.holder peer (who_of peer.admin link.key) (seen_in own) (seen_in there) in
    Takes (wire_conduct (Some peer) link.key) (own_conduct (here, link)) batching (synchronising Direction.Pull no_tally) there own no_tally e.batches e.reply
pull_takes here peer link own there owner = by_caller here peer link own there owner (who_of peer.admin link.key) refl
