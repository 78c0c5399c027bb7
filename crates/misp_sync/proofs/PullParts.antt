-- What a pull takes of the parts of events, one after another.
use Rattle.std.proofs.Common.{◌≡◌, ◌<◌, ◌+◌, ◌^◌, ◌∙◌, ℕ, suc, false, true, List, [], ◌∷◌, ◌++◌, append_assoc, length, map, filter, flat_map, nat_eq, Option, Some, Result, Ok, Err, refl, sym, ap, subst, inl, inr, arith}
use Rattle.std.specs.List.{AllByRecursion, list_all, slice_get, starts_with}
use Rattle.misp_ids.specs.Uid.{IsUid}
use Rattle.misp_effects.specs.Batches.{Batch}
use Rattle.misp_dialogue.specs.Parties.{Conduct}
use Rattle.misp_orgs.specs.declared.link.Link.{Link}
use Rattle.misp_outside.specs.Held.{is_named, raw_name, rows_named, with_batch}
use Rattle.misp_elem.specs.Prelude.{IsKey, key}
use Rattle.misp_elem.specs.declared.key.KeyForm.{KeyForm as Key}
use Rattle.misp_manifest.specs.Manifest.{IsKeysOfPart, key_stamp, said_of}
use Rattle.misp_manifest.specs.Wanted.{IsWanted}
use Rattle.misp_manifest.specs.declared.wanted.WantedFields.{WantedFields as Wanted}
use Rattle.misp_model.proofs.Prelude.{EventId, Group, OrgId, Row, and_from, event_key, event_of, name_bytes, put_all, false≢true, same_event, same_event-refl, uid}
use Rattle.misp_model.proofs.Spelled.{begins_with_itself}
use Rattle.misp_store.specs.Raw.{raw_row}
use Rattle.misp_model.specs.Manifests.{is_asked_for, only_of}
use Rattle.misp_model.specs.Package.{IsPackage}
use Rattle.misp_model.specs.declared.package.PackageFields.{PackageFields as Package}
use Rattle.misp_history.specs.Merging.{handed, merged, rows_taken}
use Rattle.misp_lists.proofs.All.{all_both, all_implied, all_true}
use Rattle.misp_store.specs.declared.reach.Reach.{Reach}
use Rattle.misp_core.specs.Effects.{row_batches}
use Rattle.misp_core.specs.Prelude.{Held, Host, Seen, groups_of, seen_in}
use Rattle.misp_core.specs.Taking.{package_taken, with_package}
use Rattle.misp_wanted.specs.Wanting.{wanted_keys}
use Rattle.misp_wanted.proofs.Wants.{none_taken, taken_alike}
use Rattle.misp_protocol.specs.Parts.{parts_from, parts_of}
use Rattle.misp_protocol.specs.TextTakes.{IsTaken, PartsCome}
use Rattle.misp_protocol.specs.declared.cause.Cause.{Cause}
use Rattle.misp_protocol.specs.declared.part_keys.PartKeysFields.{PartKeysFields as PartKeys}
use Rattle.misp_protocol.specs.declared.request.Answer.{Answer}
use Rattle.misp_protocol.specs.declared.request.Request.{Request}
use Rattle.misp_sync.specs.OwnAnswers.{batching, over_rows, own_conduct, wanted_list}
use Rattle.misp_sync.specs.Pulled.{event_taken, events_taken, package_batches}
use Rattle.misp_core.proofs.AlikeTaken.{IsAt, part_at, taken_same}
use Rattle.misp_core.proofs.OtherEvents.{OthersStay, batch_put_so, stay_none, stay_put, stay_then}
use Rattle.misp_sync.proofs.OwnTakes.{own_taken}
use Rattle.misp_core.proofs.RowsAlike.{AlikeFor, IsOurs, rows_read_alike}
use Rattle.misp_sync.proofs.TakenRows.{are_of_event, taken_ours}
use Rattle.misp_sync.proofs.WantedFits.{wanted_fits}

-- an event with its packages
abbrev pub Sent : Type 0
Sent = EventId × List (List Row)

-- what a manifest lists of it
abbrev pub listed_of : Sent → List PartKeys
listed_of x = parts_of (said_of x.0 x.1)

-- no two of these are of one event
abbrev pub Apart : List Sent → Type 0
Apart [] = Unit {0}
Apart (x ∷ xs) = AllByRecursion (λ y. same_event x.0 y.0 ≡ false) xs × Apart xs

-- a row of an owner and an event is held under a name of theirs
ours_named : (w : OrgId) (e : EventId) (r : Row) → IsOurs w e r → is_named e (uid w.0) (raw_name (raw_row r)) ≡ true
unfolding raw_row name_bytes same_event
ours_named w e r is = and_from _ _ is.2 (ap (λ (o : OrgId). starts_with nat_eq (uid o.0 ++ key r.key) (uid w.0)) is.1 ∙ begins_with_itself (uid w.0) (key r.key))

module _ {HA : Type 0} (here : Host) (link : Link) (owner : IsUid link.holder.0) (ka : Conduct HA Request Answer Cause) (s : HA) where
  abbrev taker : Conduct Held Request Answer Cause
  taker = own_conduct (here, link)

  -- ---- one event

  module _ (e : EventId) (parts : ℕ) where
    abbrev whole : ℕ → List Row → Package
    whole n rows = record { event = e; part = n; parts = parts; rows = rows }

    -- the source has the wanted rows of this package, whose keys are those of a part
    pub record IsServed (n : ℕ) (rows : List Row) : Type 0 where
      pub event : IsUid e.0
      pub number : n < 2 ^ 32
      pub keys : IsKeysOfPart e (map key_stamp rows)
      pub answer : (w : Wanted) → IsWanted w → w.event ≡ e → w.part ≡ n
          → ka.answer s (Request.Rows w) ≡ Ok (Answer.Part (only_of w.keys (whole n rows)), s)

    -- and so of each of these, numbered from here on
    abbrev pub AreServed : ℕ → List (List Row) → Type 0
    AreServed n [] = Unit {0}
    AreServed n (p ∷ ps) = IsServed n p × AreServed (suc n) ps

    pub all_served : (n : ℕ) (ps : List (List Row)) → ((j : ℕ) (p : List Row) → slice_get ps j ≡ Some p → IsServed (n + j) p) → AreServed n ps
    all_served n [] h = tt
    all_served n (p ∷ ps) h =
        let first : n + 0 ≡ n = omega arith in
        let later : (j : ℕ) → n + suc j ≡ suc n + j = λ j. omega arith in
        (subst (λ m. IsServed m p) first (h 0 p refl), all_served (suc n) ps (λ j q at. subst (λ m. IsServed m q) (later j) (h (suc j) q at)))

    abbrev part_keys : ℕ → List Row → PartKeys
    part_keys n rows = record { event = e; part = n; keys = map key_stamp rows }

    -- the holder's rows of the event are read, and tests find in them what they find in these
    pub record HasRows (t : Held) (rows : List Row) : Type 0 where
      pub seen : List Row
      pub read : (seen_in t).rows (Reach.Own link.holder e) ≡ Ok seen
      pub alike : AlikeFor link.holder seen rows

    -- ---- one part

    module _ (n : ℕ) (p : List Row) (served : IsServed n p) (t : Held) (rows : List Row) (has : HasRows t rows) where
      abbrev arriving : List Row
      arriving = map (handed link.holder) p

      -- what is taken of the whole package
      abbrev all_taken : List Row
      all_taken = rows_taken here.name rows (groups_of t) arriving

      at : AllByRecursion (IsAt e) p
      at = part_at e p served.keys

      own_key : (ks : List Row) → IsKeysOfPart e (map key_stamp ks) → IsKey (event_key e)
      own_key [] is = absurd (false≢true is.count)
      own_key (row ∷ ks) is = subst IsKey is.stamped.0.0.1 is.stamped.0.0.0

      its_event : list_all (λ row. same_event (event_of row.key) e) p ≡ true
      its_event =
          all_true (λ row. same_event (event_of row.key) e) p
          (all_implied (IsAt e) (λ row. same_event (event_of row.key) e ≡ true) (λ row is. ap (λ f. same_event f e) is.1 ∙ same_event-refl e) p at)

      abbrev wanted : List Key
      wanted = wanted_keys here.name has.seen link.holder e (map key_stamp p)

      misses : (keys : List Key) → wanted ≡ keys
          → taker.answer t (Request.Missing (part_keys n p)) ≡ Ok (Answer.Wanted (wanted_list (part_keys n p) keys), t)
      misses keys is =
          ap (λ x. over_rows x (λ seen. (
            Answer.Wanted (wanted_list (part_keys n p) (wanted_keys here.name seen link.holder e (map key_stamp p))),
            t,
          ))) has.read
          ∙ ap (λ ks. Ok (Answer.Wanted (wanted_list (part_keys n p) ks), t)) is

      seen_same : rows_taken here.name has.seen (groups_of t) arriving ≡ all_taken
      seen_same = taken_same here.name link.holder has.seen rows has.alike e (own_key p served.keys) (groups_of t) p at

      -- nothing is wanted, and nothing is taken
      none_here : wanted ≡ [] → all_taken ≡ []
      none_here none = sym seen_same ∙ none_taken here.name link.holder has.seen (groups_of t) e p its_event none

      module _ (keys : List Key) (are : wanted ≡ keys) where
        abbrev some : Package
        some = only_of keys (whole n p)

        some_of : some.event ≡ e
        unfolding only_of
        some_of = refl

        -- of the wanted rows all is taken
        some_taken : package_taken here.name has.seen (groups_of t) link.holder some ≡ all_taken
        unfolding only_of
        some_taken =
            ap (λ ks. rows_taken here.name has.seen (groups_of t) (map (handed link.holder) (filter (is_asked_for e ks) p))) (sym are)
            ∙ taken_alike here.name link.holder has.seen (groups_of t) e p its_event
            ∙ seen_same

        read_some : (seen_in t).rows (Reach.Own link.holder some.event) ≡ Ok has.seen
        unfolding only_of
        read_some = has.read

        abbrev next : Held
        next = with_package here.name has.seen link.holder some t

        taken_so : IsTaken taker batching t some (length (package_taken here.name has.seen (groups_of t) link.holder some))
            (row_batches (package_taken here.name has.seen (groups_of t) link.holder some)) next
        taken_so = own_taken here link owner t some has.seen read_some

        -- what is held then of the event, and of others
        module _ (packs : IsPackage some) where
          abbrev taken : List Row
          taken = package_taken here.name has.seen (groups_of t) link.holder some

          ours : AllByRecursion (IsOurs link.holder e) taken
          ours = subst (λ f. AllByRecursion (IsOurs link.holder f) taken) some_of (taken_ours link.holder owner some packs here.name (groups_of t) has.seen)

          has_next : HasRows next (put_all all_taken rows)
          unfolding with_batch rows_named
          has_next =
              let more = rows_read_alike link.holder e (λ raw. is_named e (uid link.holder.0) (raw_name raw)) (ours_named link.holder e) taken ours t.rows has.seen rows has.read has.alike in
              record { seen = more.0; read = more.1; alike = subst (λ ts. AlikeFor link.holder more.0 (put_all ts rows)) some_taken more.2 }

          beside_next : OthersStay link.holder e t next
          beside_next = subst (OthersStay link.holder e t) (sym (batch_put_so taken t)) (stay_put link.holder e taken t (are_of_event link.holder e taken ours))

    -- ---- all of its packages

    -- its packages from a number on come, where what is listed after them comes
    pub event_comes : (n : ℕ) (ps : List (List Row)) → AreServed n ps → (t : Held) (rows : List Row) (groups : List Group)
        → groups_of t ≡ groups → HasRows t rows → (rest : List PartKeys) (later : List Batch) (why : Option Cause)
        → ((u : Held) → OthersStay link.holder e t u → PartsCome ka taker batching s u rest later why)
        → PartsCome ka taker batching s t (parts_from e n (map (map key_stamp) ps) ++ rest)
        (package_batches here.name groups rows (map (map (handed link.holder)) ps) ++ later) why
    unfolding package_batches merged put_all
    event_comes n [] served t rows groups same has rest later why comes = comes t (stay_none link.holder e t)
    event_comes n (p ∷ ps) served t rows groups same has rest later why comes =
        by_wanted (λ u rs still found. event_comes (suc n) ps served.1 u rs groups still found rest later why) (wanted n p served.0 t rows has) refl
      where
        all_is : all_taken n p served.0 t rows has ≡ rows_taken here.name rows groups (map (handed link.holder) p)
        all_is = ap (λ g. rows_taken here.name rows g (map (handed link.holder) p)) same

        -- the packages after it come from whatever is held then
        Again : Type 0
        Again = (u : Held) (rs : List Row) → groups_of u ≡ groups → HasRows u rs → ((v : Held) → OthersStay link.holder e u v → PartsCome ka taker batching s v rest later why)
            → PartsCome ka taker batching s u (parts_from e (suc n) (map (map key_stamp) ps) ++ rest)
            (package_batches here.name groups rs (map (map (handed link.holder)) ps) ++ later) why

        by_wanted : Again → (keys : List Key) → wanted n p served.0 t rows has ≡ keys
            → PartsCome ka taker batching s t (part_keys n p ∷ (parts_from e (suc n) (map (map key_stamp) ps) ++ rest))
            ((row_batches (rows_taken here.name rows groups (map (handed link.holder) p))
            ++ package_batches here.name groups (merged here.name rows groups (map (handed link.holder) p)) (map (map (handed link.holder)) ps)) ++ later) why
        by_wanted again [] none = inr (inl (
          misses n p served.0 t rows has [] none,
          subst (λ done. PartsCome ka taker batching s t (parts_from e (suc n) (map (map key_stamp) ps) ++ rest) done why)
              (ap (λ ts. (row_batches ts ++ package_batches here.name groups (put_all ts rows) (map (map (handed link.holder)) ps)) ++ later)
              (sym (none_here n p served.0 t rows has none) ∙ all_is))
              (again t rows same has comes),
        ))
        by_wanted again (k ∷ ks) are =
            let after : Held = next n p served.0 t rows has (k ∷ ks) are in
            let mine : List Row = package_taken here.name has.seen (groups_of t) link.holder (some n p served.0 t rows has (k ∷ ks) are) in
            let rest_batches : List Batch = package_batches here.name groups (merged here.name rows groups (map (handed link.holder) p)) (map (map (handed link.holder)) ps) in
            inr (inr (
              record { event = e; part = n; keys = k ∷ ks },
              some n p served.0 t rows has (k ∷ ks) are,
              length mine,
              row_batches mine,
              rest_batches ++ later,
              after,
              misses n p served.0 t rows has (k ∷ ks) are,
              served.0.answer (record { event = e; part = n; keys = k ∷ ks })
                  (wanted_fits (part_keys n p) (record { event = served.0.event; part = served.0.number; keys = served.0.keys }) here.name link.holder has.seen (k ∷ ks) (sym are) (omega arith)) refl refl,
              taken_so n p served.0 t rows has (k ∷ ks) are,
              ap (λ ts. (row_batches ts ++ rest_batches) ++ later) (sym (some_taken n p served.0 t rows has (k ∷ ks) are ∙ all_is))
                  ∙ append_assoc (row_batches mine) rest_batches later,
              λ packs.
                  let beside = beside_next n p served.0 t rows has (k ∷ ks) are packs in
                  again after (merged here.name rows groups (map (handed link.holder) p)) (beside.groups ∙ same)
                  (subst (λ ts. HasRows after (put_all ts rows)) all_is (has_next n p served.0 t rows has (k ∷ ks) are packs))
                  (λ u further. comes u (stay_then link.holder e t after u beside further)),
            ))

  -- ---- events

  -- the source has the packages of the event, one at least
  pub record IsSent (x : Sent) : Type 0 where
    pub some : 0 < length x.1
    pub served : AreServed x.0 (length x.1) 0 x.1

  -- the holder's rows of the event are read as they are seen
  abbrev pub IsUntouched : Seen → Held → Sent → Type 0
  IsUntouched own t x = (seen_in t).rows (Reach.Own link.holder x.0) ≡ own.rows (Reach.Own link.holder x.0)

  pub events_come : (xs : List Sent) → AllByRecursion IsSent xs → Apart xs → (own : Seen) (groups : List Group) (t : Held)
      → groups_of t ≡ groups → AllByRecursion (IsUntouched own t) xs
      → PartsCome ka taker batching s t (flat_map listed_of xs) (events_taken here.name link.holder groups own xs).batches
      (events_taken here.name link.holder groups own xs).reply
  unfolding events_taken
  events_come [] sent apart own groups t same reads = (refl, refl)
  events_come (x ∷ xs) sent apart own groups t same reads =
      one (λ u still untouched. events_come xs sent.1 apart.1 own groups u still untouched) (own.rows (Reach.Own link.holder x.0)) refl
    where
      -- the events after it come from whatever is held then
      Again : Type 0
      Again = (u : Held) → groups_of u ≡ groups → AllByRecursion (IsUntouched own u) xs
          → PartsCome ka taker batching s u (flat_map listed_of xs) (events_taken here.name link.holder groups own xs).batches
          (events_taken here.name link.holder groups own xs).reply

      one : Again → (read : Result (List Row) (List ℕ)) → own.rows (Reach.Own link.holder x.0) ≡ read
          → PartsCome ka taker batching s t (parts_from x.0 0 (map (map key_stamp) x.1) ++ flat_map listed_of xs)
          (event_taken here.name link.holder groups read x.1 (events_taken here.name link.holder groups own xs)).batches
          (event_taken here.name link.holder groups read x.1 (events_taken here.name link.holder groups own xs)).reply
      one again (Ok rows) is =
          event_comes x.0 (length x.1) 0 x.1 sent.0.served t rows groups same
          (record { seen = rows; read = reads.0 ∙ is; alike = λ k k_is test. refl }) (flat_map listed_of xs)
          (events_taken here.name link.holder groups own xs).batches (events_taken here.name link.holder groups own xs).reply
          (λ u beside. again u (beside.groups ∙ same)
          (all_implied (λ y. (same_event x.0 y.0 ≡ false) × IsUntouched own t y) (IsUntouched own u) (λ y h. beside.rows y.0 h.0 ∙ h.1) xs
          (all_both (λ y. same_event x.0 y.0 ≡ false) (IsUntouched own t) xs apart.0 reads.1)))
      one again (Err name) is = two x.1 sent.0.some
        where
          two : (ps : List (List Row)) → 0 < length ps
              → PartsCome ka taker batching s t (parts_from x.0 0 (map (map key_stamp) ps) ++ flat_map listed_of xs) [] (Some (Cause.BadRow name))
          two [] some = absurd (omega arith)
          two (p ∷ ps) some = inl (
            Cause.BadRow name,
            ap (λ r. over_rows r (λ seen. (
              Answer.Wanted (wanted_list (record { event = x.0; part = 0; keys = map key_stamp p })
                  (wanted_keys here.name seen link.holder x.0 (map key_stamp p))),
              t,
            ))) (reads.0 ∙ is),
            refl,
            refl,
          )
