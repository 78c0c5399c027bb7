-- A pull of what is there already takes nothing.
use Rattle.std.proofs.Common.{◌≡◌, ◌&&◌, ◌||◌, Bool, true, not, leb, List, [], ◌∷◌, ◌++◌, Contains, Some, None, Ok, refl, sym, ap, subst, ◌∙◌, arith, filter, map, if◌then◌else◌}
use Rattle.std.proofs.lemmas.List.{map-append}
use Rattle.std.proofs.lemmas.List.Elements.{Contains-append_left, Contains-append_right}
use Rattle.misp_lists.proofs.Elements.{any_has, found, here, kept_has, of_part, there}
use Rattle.misp_lists.proofs.Ordering.{any_put}
use Rattle.misp_orgs.specs.Admin.{link_of, who_of}
use Rattle.misp_orgs.specs.declared.link.Link.{Link}
use Rattle.misp_outside.specs.Held.{put_admins, put_rows, with_batch}
use Rattle.misp_groups.specs.Changes.{take_groups}
use Rattle.misp_groups.specs.Groups.{put_groups}
use Rattle.misp_effects.specs.Batches.{batch}
use Rattle.misp_effects.specs.Effect.{behind, effect, left}
use Rattle.misp_model.proofs.Prelude.{AllByRecursion, EventId, Group, Inst, OrgId, Row, and_from, event_key, event_of, false≢true, has_copy, is_row_of, is_statement, list_any, or_left, put_all, put_row, same_key, same_key-refl, same_org, same_org-refl, stands_before}
use Rattle.misp_history.specs.Merging.{counts_row, handed, has_event_row, is_newer_row, is_welcome_row, merged, rows_taken}
use Rattle.misp_store.specs.Batches.{spelled}
use Rattle.misp_store.specs.declared.reach.Reach.{Reach}
use Rattle.misp_core.specs.Effects.{row_batches}
use Rattle.misp_core.specs.Prelude.{Ask, Caller, Held, Host, Seen, forbidden, seen_in}
use Rattle.misp_protocol.specs.Counts.{no_count, tally}
use Rattle.misp_protocol.specs.declared.cause.Cause.{Cause}
use Rattle.misp_client.specs.Telling.{refused_as}
use Rattle.misp_sync.specs.Laws.{BringsNothing, IsUpToDate, rows_of_packages}
use Rattle.misp_sync.specs.Pulled.{all_pulled, ends, event_taken, events_sent, events_taken, groups_sent, package_batches, pulled, pulled_by, pulled_over, rows_pulled, synced}
use Rattle.misp_sync.specs.declared.reply.SyncReply.{SyncReply}
use Rattle.misp_core.proofs.TakenGroups.{groups_after as taken_put}

-- ---- rows that are newer change a table where they are put

-- the row is of the owner and key of this one, and as new
abbrev as_new : Row → Row → Bool
as_new y r = is_row_of y.owner y.key r && leb y.stamp r.stamp

as_new_itself : (y : Row) → as_new y y ≡ true
unfolding is_row_of
as_new_itself y =
    let same : leb y.stamp y.stamp ≡ true = grind arith in
    and_from _ _ (and_from _ _ (same_org-refl y.owner) (same_key-refl y.key)) same

-- the last that is put is there
last_put : (x : Row) (xs rows : List Row) → (y : Row) × (Contains (x ∷ xs) y × (list_any (as_new y) (put_all (x ∷ xs) rows) ≡ true))
unfolding put_all put_row
last_put x [] rows =
    (x, (here x [], any_put stands_before (as_new x) x (filter (λ r. not (same_org r.owner x.owner && same_key r.key x.key)) rows) ∙ or_left _ _ (as_new_itself x)))
last_put x (z ∷ xs) rows = let f = last_put z xs (put_row x rows) in (f.0, (there x (z ∷ xs) f.0 f.1.0, f.1.1))

some_more : (a b c d e : Bool) → (d ≡ true → e ≡ true) → (a && (b || (c || d))) ≡ true → (a && (b || (c || e))) ≡ true
some_more a b c d e more h = grind (arith, more, h)

module _ (i : Inst) (groups : List Group) (rows : List Row) where
  -- so where merging leaves the rows, nothing of them is taken
  nothing_taken : (coming : List Row) → merged i rows groups coming ≡ rows → rows_taken i rows groups coming ≡ []
  unfolding merged rows_taken is_newer_row
  nothing_taken coming same = one (rows_taken i rows groups coming) refl
    where
      one : (taken : List Row) → rows_taken i rows groups coming ≡ taken → taken ≡ []
      one [] is = refl
      one (x ∷ xs) is =
          let f = last_put x xs rows in
          let among : Contains (rows_taken i rows groups coming) f.0 = subst (λ l. Contains l f.0) (sym is) f.1.0 in
          let newer : is_newer_row rows f.0 ≡ true = (of_part (is_newer_row rows) (filter (counts_row i rows groups coming) coming) f.0 among).0 in
          let is_there : list_any (as_new f.0) rows ≡ true = ap (list_any (as_new f.0)) (sym same ∙ ap (λ l. put_all l rows) is) ∙ f.1.1 in
          absurd (false≢true (sym (ap not is_there) ∙ newer))

  -- what counts of a part counts of the whole
  module _ (part all : List Row) (within : (x : Row) → Contains part x → Contains all x) where
    counts_too : (x : Row) → counts_row i rows groups part x ≡ true → counts_row i rows groups all x ≡ true
    unfolding counts_row has_event_row
    counts_too x =
        let test : (Row → Bool) = λ r. same_key r.key (event_key (event_of x.key)) && is_welcome_row i rows groups r in
        some_more (is_welcome_row i rows groups x) (is_statement x.key) (has_copy rows x.owner (event_of x.key)) (list_any test part) (list_any test all)
        (λ c. let f = found test part c in any_has test all f.0 (within f.0 f.1.0) f.1.1)

    part_none : rows_taken i rows groups all ≡ [] → rows_taken i rows groups part ≡ []
    unfolding rows_taken
    part_none none = one (rows_taken i rows groups part) refl
      where
        one : (taken : List Row) → rows_taken i rows groups part ≡ taken → taken ≡ []
        one [] is = refl
        one (x ∷ xs) is =
            let newer = of_part (is_newer_row rows) (filter (counts_row i rows groups part) part) x (subst (λ l. Contains l x) (sym is) (here x xs)) in
            let counts = of_part (counts_row i rows groups part) part x newer.1 in
            let taken : Contains (rows_taken i rows groups all) x =
            kept_has (is_newer_row rows) (filter (counts_row i rows groups all) all) x (kept_has (counts_row i rows groups all) all x (within x counts.1) (counts_too x counts.0)) newer.0 in
            let lt = (subst (λ l. Contains l x) none taken).1 in
            absurd (omega arith)

  -- packages of which nothing is taken together make no batch
  none_batched : (w : OrgId) (ps : List (List Row)) (all : List Row) → rows_taken i rows groups all ≡ [] → ((x : Row) → Contains (map (handed w) (rows_of_packages ps)) x → Contains all x)
      → package_batches i groups rows (map (map (handed w)) ps) ≡ []
  unfolding package_batches merged put_all
  none_batched w [] all none within = refl
  none_batched w (p ∷ ps) all none within =
      let split : map (handed w) (rows_of_packages (p ∷ ps)) ≡ map (handed w) p ++ map (handed w) (rows_of_packages ps) = map-append (handed w) p (rows_of_packages ps) in
      let first : rows_taken i rows groups (map (handed w) p) ≡ [] =
      part_none (map (handed w) p) all (λ x m. within x (subst (λ l. Contains l x) (sym split) (Contains-append_left (map (handed w) p) (map (handed w) (rows_of_packages ps)) x m))) none in
      ap (λ taken. row_batches taken ++ package_batches i groups (put_all taken rows) (map (map (handed w)) ps)) first
      ∙ none_batched w ps all none (λ x m. within x (subst (λ l. Contains l x) (sym split) (Contains-append_right (map (handed w) p) (map (handed w) (rows_of_packages ps)) x m)))

-- ---- the pull

module _ (here : Inst) (w : OrgId) (own : Seen) where
  none_comes : (events : List (EventId × List (List Row))) → AllByRecursion (BringsNothing here w own) events → events_taken here w own.groups own events ≡ effect None []
  unfolding events_taken
  none_comes [] all = refl
  none_comes (e ∷ events) all =
      let b = all.0 in
      let coming : List Row = map (handed w) (rows_of_packages e.1) in
      ap (λ found. event_taken here w own.groups found e.1 (events_taken here w own.groups own events)) b.read
      ∙ (λ i. effect (none_comes events all.1 i).reply
      (none_batched here own.groups b.rows w e.1 coming (nothing_taken here own.groups b.rows coming b.same) (λ x m. m) i ++ (none_comes events all.1 i).batches))

  module _ (peer : Host) (caller : Caller) (there : Seen) (is : IsUpToDate here w peer caller own there) where
    groups_stay : take_groups own.groups (groups_sent peer caller there.groups) ≡ own.groups
    unfolding put_groups
    groups_stay = sym (taken_put own.groups (groups_sent peer caller there.groups)) ∙ ap (put_groups own.groups) is.groups

    pub none_pulled : pulled_by here w peer (Some caller) own there ≡ effect None (batch [] [] ∷ [])
    none_pulled =
        ap (λ b. if b then all_pulled here w own (groups_sent peer caller there.groups) (events_sent peer caller there.groups (there.rows Reach.All)) else ends (Some (refused_as (forbidden Ask.SyncGroups)))) is.permitted
        ∙ ap (all_pulled here w own (groups_sent peer caller there.groups)) is.sent
        ∙ (λ i. behind (batch [] (is.groups i)) (rows_pulled here w (groups_stay i) own (Ok is.events)))
        ∙ ap (behind (batch [] [])) (none_comes is.events is.rows)

-- over a link
pub none_synced : (here peer : Host) (name : Inst) (link : Link) (caller : Caller) (own there : Seen) → link_of here.admin.links name ≡ Some link → link.on ≡ true → who_of peer.admin link.key ≡ Some caller
    → IsUpToDate here.name link.holder peer caller own there → pulled here name peer own there ≡ effect (SyncReply.Done no_count) (batch [] [] ∷ [])
unfolding pulled tally
none_synced here peer name link caller own there found on who is =
    ap (λ l. synced (pulled_over here.name l peer own there)) found
    ∙ ap (λ b. synced (if b then pulled_by here.name link.holder peer (who_of peer.admin link.key) own there else ends (Some Cause.LinkOff))) on
    ∙ ap (λ c. synced (pulled_by here.name link.holder peer c own there)) who
    ∙ ap synced (none_pulled here.name link.holder own peer caller there is)

-- what is held stays
pub none_left : (here : Inst) (w : OrgId) (peer : Host) (caller : Caller) (held : Held) (there : Seen) → IsUpToDate here w peer caller (seen_in held) there
    → left spelled (pulled_by here w peer (Some caller) (seen_in held) there) held ≡ held
unfolding with_batch put_rows put_admins
none_left here w peer caller held there is = ap (λ e. left spelled e held) (none_pulled here w (seen_in held) peer caller there is)
