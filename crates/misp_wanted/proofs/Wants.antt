-- What is wanted of a package is all that is taken of it.
use Rattle.std.proofs.Common.{◌≡◌, Bool, true, false, refl, ap, sym, subst, ◌∙◌, arith, List, [], ◌∷◌, map, ◌&&◌, ◌||◌, not, filter, Contains}
use Rattle.misp_lists.proofs.Elements.{all_has, any_has, filter_among, here, kept_has, map_has, there}
use Rattle.misp_lists.proofs.Lists.{any_cut, any_map, filter-map, filter_twice}
use Rattle.misp_model.specs.Package.{IsPackage, is_packed}
use Rattle.misp_model.specs.declared.package.PackageFields.{PackageFields}
use Rattle.misp_model.proofs.Prelude.{EventId, Group, Inst, Key, OrgId, Row, all_implies, and_from, and_parts, event_key, event_of, false_from_ne_true, has_copy, has_gone, has_home, is_made_at, is_statement, label_is_known, list_all, list_any}
use Rattle.misp_model.proofs.Prelude.{or_left, or_right, put_all, same_event, same_event-sound, same_key, same_key-refl}
use Rattle.misp_history.specs.Merging.{counts_row, handed, has_event_row, is_newer_row, is_welcome_row, merged, rows_taken}
use Rattle.misp_copies.specs.Copies.{copy_state, state_by, takes}
use Rattle.misp_manifest.specs.Manifest.{key_stamp}
use Rattle.misp_manifest.specs.declared.manifest.KeyStamp.{KeyStamp}
use Rattle.misp_package.specs.Landing.{IsLanding}
use Rattle.misp_package.specs.declared.landing.Landing.{Landing}
use Rattle.misp_model.specs.Manifests.{is_asked_for, only_of}
use Rattle.misp_wanted.specs.Wanting.{is_wanted, is_wanted_by, wanted_keys, wanted_of}
use Rattle.misp_wanted.proofs.OnlyRows.{only_is}

-- ---- lists

in_none : (k : Key) → Contains [] k → ⊥
in_none k m = let lt = m.1 in absurd (omega arith)

none_kept : (q : Row → Bool) (rows : List Row) → ((row : Row) → Contains rows row → q row ≡ false) → filter q rows ≡ []
none_kept q [] h = refl
none_kept q (r ∷ rows) h = rw (h r (here r rows), none_kept q rows (λ y m. h y (there r rows y m))) refl

-- ---- by a landing

module _ (l : Landing) (i : Inst) (w : OrgId) (e : EventId) (held : List Row) (is : IsLanding l i w e held) where
  wanted_same : (k : KeyStamp) → is_wanted_by l k ≡ is_wanted i held w e k
  unfolding is_wanted_by is_wanted
  wanted_same k = λ j. takes (is.state j) k.key (is.here j) && not (is.newest k.key k.stamp j)

  -- what a landing says is wanted
  pub wanted_landed : (keys : List KeyStamp) → map (λ k. k.key) (filter (is_wanted_by l) keys) ≡ wanted_keys i held w e keys
  wanted_landed keys = λ j. map (λ k. k.key) (filter (λ k. wanted_same k j) keys)

-- ---- what is welcome is wanted where it is new

welcome_takes : (gone home copy : Bool) (k : Key) (i : Inst) (known : Bool) →
    (not gone && (not home || is_statement k) && not (is_made_at i k) && known) ≡ true → takes (state_by gone home copy) k i ≡ true
unfolding takes state_by
welcome_takes true home copy k i known h = h
welcome_takes false true copy k i known h = (and_parts _ _ h).0
welcome_takes false false true k i known h = (and_parts _ _ h).0
welcome_takes false false false k i known h = (and_parts _ _ h).0

module _ (i : Inst) (w : OrgId) (held : List Row) (groups : List Group) where
  takes_welcome : (row : Row) → is_welcome_row i held groups (handed w row) ≡ true → takes (copy_state held w (event_of row.key)) row.key i ≡ true
  unfolding is_welcome_row handed copy_state
  takes_welcome row h = welcome_takes (has_gone held w (event_of row.key)) (has_home held w (event_of row.key)) (has_copy held w (event_of row.key)) row.key i (label_is_known groups row.label) h

  -- where all of these come the row counts and is newer
  abbrev test : List Row → Row → Bool
  test all row = counts_row i held groups (map (handed w) all) (handed w row) && is_newer_row held (handed w row)

  wanted_where : (all : List Row) (row : Row) → test all row ≡ true → is_wanted i held w (event_of row.key) (key_stamp row) ≡ true
  unfolding counts_row is_wanted is_newer_row handed
  wanted_where all row h =
      let both = and_parts (counts_row i held groups (map (handed w) all) (handed w row)) (is_newer_row held (handed w row)) h in
      let welcome = and_parts (is_welcome_row i held groups (handed w row)) _ both.0 in
      and_from _ _ (takes_welcome row welcome.0) both.1

  taken_by_test : (all : List Row) → rows_taken i held groups (map (handed w) all) ≡ map (handed w) (filter (test all) all)
  unfolding rows_taken
  taken_by_test all =
      filter_twice (counts_row i held groups (map (handed w) all)) (is_newer_row held) (map (handed w) all)
      ∙ filter-map (handed w) (λ r. counts_row i held groups (map (handed w) all) r && is_newer_row held r) all

  module _ (e : EventId) (rows : List Row) (of : list_all (λ row. same_event (event_of row.key) e) rows ≡ true) where
    abbrev keys : List Key
    keys = wanted_keys i held w e (map key_stamp rows)

    abbrev kept : List Row
    kept = filter (is_asked_for e keys) rows

    event_is : (row : Row) → Contains rows row → event_of row.key ≡ e
    event_is row m = same_event-sound (event_of row.key) e (all_has (λ r. same_event (event_of r.key) e) rows row of m)

    wanted_here : (row : Row) → Contains rows row → test rows row ≡ true → is_wanted i held w e (key_stamp row) ≡ true
    wanted_here row m h = ap (λ f. is_wanted i held w f (key_stamp row)) (sym (event_is row m)) ∙ wanted_where rows row h

    -- what is taken is kept
    taken_kept : (row : Row) → Contains rows row → test rows row ≡ true → is_asked_for e keys row ≡ true
    unfolding is_asked_for
    taken_kept row m h =
        let told = kept_has (is_wanted i held w e) (map key_stamp rows) (key_stamp row) (map_has key_stamp rows row m) (wanted_here row m h) in
        or_right (same_key row.key (event_key e)) _ (any_has (same_key row.key) keys row.key (map_has (λ k. k.key) (filter (is_wanted i held w e) (map key_stamp rows)) (key_stamp row) told) (same_key-refl row.key))

    own_kept : (row : Row) → (same_key row.key (event_key e) && is_welcome_row i held groups (handed w row)) ≡ true → is_asked_for e keys row ≡ true
    unfolding is_asked_for
    own_kept row h = or_left (same_key row.key (event_key e)) _ (and_parts _ _ h).0

    -- the event's own row comes with what is kept where it comes
    event_comes : list_any (λ r. same_key r.key (event_key e) && is_welcome_row i held groups r) (map (handed w) kept)
        ≡ list_any (λ r. same_key r.key (event_key e) && is_welcome_row i held groups r) (map (handed w) rows)
    unfolding handed
    event_comes =
        any_map (handed w) (λ r. same_key r.key (event_key e) && is_welcome_row i held groups r) kept
        ∙ any_cut (λ r. same_key r.key (event_key e) && is_welcome_row i held groups (handed w r)) (is_asked_for e keys) own_kept rows
        ∙ sym (any_map (handed w) (λ r. same_key r.key (event_key e) && is_welcome_row i held groups r) rows)

    test_same : (row : Row) → Contains rows row → test kept row ≡ test rows row
    unfolding counts_row has_event_row handed
    test_same row m =
        let f : e ≡ event_of row.key = sym (event_is row m) in
        let comes : list_any (λ r. same_key r.key (event_key (event_of row.key)) && is_welcome_row i held groups r) (map (handed w) kept)
        ≡ list_any (λ r. same_key r.key (event_key (event_of row.key)) && is_welcome_row i held groups r) (map (handed w) rows) =
        subst (λ g. list_any (λ r. same_key r.key (event_key g) && is_welcome_row i held groups r) (map (handed w) kept)
        ≡ list_any (λ r. same_key r.key (event_key g) && is_welcome_row i held groups r) (map (handed w) rows)) f event_comes in
        λ j. (is_welcome_row i held groups (handed w row) && (is_statement row.key || (has_copy held w (event_of row.key) || comes j))) && is_newer_row held (handed w row)

    pub taken_alike : rows_taken i held groups (map (handed w) kept) ≡ rows_taken i held groups (map (handed w) rows)
    taken_alike =
        taken_by_test kept
        ∙ ap (map (handed w)) (filter_among (test kept) (test rows) (is_asked_for e keys) rows (λ row m h. test_same row m) taken_kept)
        ∙ sym (taken_by_test rows)

    taken_wanted : (row : Row) → Contains rows row → test rows row ≡ true → Contains keys row.key
    taken_wanted row m h =
        let told = kept_has (is_wanted i held w e) (map key_stamp rows) (key_stamp row) (map_has key_stamp rows row m) (wanted_here row m h) in
        map_has (λ k. k.key) (filter (is_wanted i held w e) (map key_stamp rows)) (key_stamp row) told

    -- where nothing is wanted nothing is taken
    pub none_taken : keys ≡ [] → rows_taken i held groups (map (handed w) rows) ≡ []
    none_taken none =
        taken_by_test rows
        ∙ ap (map (handed w)) (none_kept (test rows) rows (λ row m. false_from_ne_true (test rows row) (λ h. in_none row.key (subst (λ ks. Contains ks row.key) none (taken_wanted row m h)))))

-- ---- packages

packed_of : (e : EventId) (row : Row) → is_packed e row ≡ true → same_event (event_of row.key) e ≡ true
unfolding same_event
packed_of e row h = (and_parts _ _ (and_parts _ _ (and_parts _ _ h).0).0).0

pub rows_of : (p : PackageFields) → IsPackage p → list_all (λ row. same_event (event_of row.key) p.event) p.rows ≡ true
rows_of p is = all_implies (is_packed p.event) (λ row. same_event (event_of row.key) p.event) (packed_of p.event) p.rows is.packed

module _ (i : Inst) (held : List Row) (w : OrgId) (p : PackageFields) (is : IsPackage p) where
  pub wanted_is : IsPackage (wanted_of i held w p)
  wanted_is = only_is (wanted_keys i held w p.event (map key_stamp p.rows)) p is

  pub wanted_taken : (groups : List Group) → rows_taken i held groups (map (handed w) (wanted_of i held w p).rows) ≡ rows_taken i held groups (map (handed w) p.rows)
  unfolding only_of
  wanted_taken groups = taken_alike i w held groups p.event p.rows (rows_of p is)

  pub wanted_merged : (groups : List Group) → merged i held groups (map (handed w) (wanted_of i held w p).rows) ≡ merged i held groups (map (handed w) p.rows)
  unfolding merged
  wanted_merged groups = ap (λ taken. put_all taken held) (wanted_taken groups)

  pub nothing_taken : (groups : List Group) → wanted_keys i held w p.event (map key_stamp p.rows) ≡ [] → rows_taken i held groups (map (handed w) p.rows) ≡ []
  nothing_taken groups none = none_taken i w held groups p.event p.rows (rows_of p is) none
