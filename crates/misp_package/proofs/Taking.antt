-- What a landing decides is taken of a package is what is taken by the rows that are held.
use Rattle.std.proofs.Common.{◌≡◌, List, Bool, true, false, refl, ap, sym, ◌∙◌, map, ◌&&◌, ◌||◌, not, filter}
use Rattle.misp_lists.proofs.Lists.{filter_twice}
use Rattle.misp_model.specs.Package.{IsPackage, is_packed}
use Rattle.misp_model.specs.declared.package.PackageFields.{PackageFields}
use Rattle.misp_model.proofs.Prelude.{EventId, Group, Inst, Key, OrgId, Row, all_implies, and_parts, any_agree, any_map, event_key, event_of, filter-map, filter_agree, has_copy, has_gone, has_home, is_made_at, is_statement, label_is_known}
use Rattle.misp_model.proofs.Prelude.{list_all, list_any, same_event, same_event-sound, same_key}
use Rattle.misp_history.specs.Merging.{counts_row, handed, has_event_row, is_newer_row, is_welcome_row, rows_taken}
use Rattle.misp_copies.specs.Copies.{copy_state, state_by, takes}
use Rattle.misp_package.specs.Landing.{IsLanding, is_welcome, is_welcome_event, has_event, is_copy, is_taken, taken_by}
use Rattle.misp_package.specs.Stamps.{is_as_new, stamp_at}
use Rattle.misp_package.specs.declared.landing.Landing.{Landing}

-- what is welcome by what there is
takes_by : (gone home copy : Bool) (k : Key) (i : Inst) (known : Bool) →
    (takes (state_by gone home copy) k i && known) ≡ (not gone && (not home || is_statement k) && not (is_made_at i k) && known)
unfolding takes state_by
takes_by true home copy k i known = refl
takes_by false true copy k i known = refl
takes_by false false true k i known = refl
takes_by false false false k i known = refl

-- a copy that was added here takes statements alone, and these need no copy
statement_alone : (s m known copy ev : Bool) → (s && m && known && (s || (true || ev))) ≡ (s && m && known && (s || (copy || ev)))
statement_alone true m known copy ev = refl
statement_alone false m known copy ev = refl

-- where a row is welcome, the state tells whether there is a copy
counts_by : (gone home copy : Bool) (k : Key) (i : Inst) (known ev : Bool) →
    (takes (state_by gone home copy) k i && known && (is_statement k || (is_copy (state_by gone home copy) || ev)))
    ≡ (takes (state_by gone home copy) k i && known && (is_statement k || (copy || ev)))
unfolding takes state_by is_copy
counts_by true home copy k i known ev = refl
counts_by false true copy k i known ev = statement_alone (is_statement k) (not (is_made_at i k)) known copy ev
counts_by false false true k i known ev = refl
counts_by false false false k i known ev = refl

module _ (i : Inst) (w : OrgId) (held : List Row) (groups : List Group) where
  -- the state of the owner's copy and the label tell what is welcome
  welcome_by_state : (row : Row) → (takes (copy_state held w (event_of row.key)) row.key i && label_is_known groups row.label) ≡ is_welcome_row i held groups (handed w row)
  unfolding is_welcome_row handed copy_state
  welcome_by_state row = takes_by (has_gone held w (event_of row.key)) (has_home held w (event_of row.key)) (has_copy held w (event_of row.key)) row.key i (label_is_known groups row.label)

  module _ (l : Landing) (e : EventId) (is : IsLanding l i w e held) where
    -- of the event
    abbrev ours : Row → Bool
    ours row = same_event (event_of row.key) e

    welcome_here : (row : Row) → ours row ≡ true → (takes (copy_state held w e) row.key i && label_is_known groups row.label) ≡ is_welcome_row i held groups (handed w row)
    welcome_here row own = (λ j. takes (copy_state held w (sym (same_event-sound (event_of row.key) e own) j)) row.key i && label_is_known groups row.label) ∙ welcome_by_state row

    welcome_is : (row : Row) → ours row ≡ true → is_welcome l groups row ≡ is_welcome_row i held groups (handed w row)
    unfolding is_welcome
    welcome_is row own = (λ j. takes (is.state j) row.key (is.here j) && label_is_known groups row.label) ∙ welcome_here row own

    event_is : (rows : List Row) → list_all ours rows ≡ true →
        list_any (is_welcome_event l groups) rows ≡ list_any (λ r. same_key r.key (event_key e) && is_welcome_row i held groups r) (map (handed w) rows)
    unfolding is_welcome_event handed
    event_is rows of =
        any_agree (is_welcome_event l groups) (λ r. same_key r.key (event_key e) && is_welcome_row i held groups (handed w r)) ours
        (λ r own. λ j. same_key r.key (event_key (is.event j)) && welcome_is r own j) rows of
        ∙ sym (any_map (handed w) (λ r. same_key r.key (event_key e) && is_welcome_row i held groups r) rows)

    newer_is : (row : Row) → not (is_as_new (stamp_at l.newest row.key) row.stamp) ≡ is_newer_row held (handed w row)
    unfolding is_newer_row handed
    newer_is row = ap not (is.newest row.key row.stamp)

    module _ (rows : List Row) (of : list_all ours rows ≡ true) where
      abbrev coming : List Row
      coming = map (handed w) rows

      abbrev comes : Bool
      comes = list_any (λ r. same_key r.key (event_key e) && is_welcome_row i held groups r) coming

      counts_is : (row : Row) → ours row ≡ true →
          (is_welcome l groups row && (is_statement row.key || has_event l groups rows)) ≡ counts_row i held groups coming (handed w row)
      unfolding counts_row has_event_row handed has_event copy_state is_welcome
      counts_is row own =
          let f : e ≡ event_of row.key = sym (same_event-sound (event_of row.key) e own) in
          (λ j. takes (is.state j) row.key (is.here j) && label_is_known groups row.label && (is_statement row.key || (is_copy (is.state j) || event_is rows of j)))
          ∙ counts_by (has_gone held w e) (has_home held w e) (has_copy held w e) row.key i (label_is_known groups row.label) comes
          ∙ (λ j. welcome_here row own j
          && (is_statement row.key || (has_copy held w (f j) || list_any (λ r. same_key r.key (event_key (f j)) && is_welcome_row i held groups r) coming)))

      taken_one : (row : Row) → ours row ≡ true →
          is_taken l groups (has_event l groups rows) row ≡ (counts_row i held groups coming (handed w row) && is_newer_row held (handed w row))
      unfolding is_taken
      taken_one row own = λ j. counts_is row own j && newer_is row j

      taken_are : taken_by l groups rows ≡ rows_taken i held groups coming
      unfolding rows_taken
      taken_are =
          ap (λ o. map (handed o) (filter (is_taken l groups (has_event l groups rows)) rows)) is.owner
          ∙ ap (map (handed w))
          (filter_agree (is_taken l groups (has_event l groups rows)) (λ row. counts_row i held groups coming (handed w row) && is_newer_row held (handed w row)) ours taken_one rows of)
          ∙ sym (filter-map (handed w) (λ r. counts_row i held groups coming r && is_newer_row held r) rows)
          ∙ sym (filter_twice (counts_row i held groups coming) (is_newer_row held) coming)

-- ---- packages

packed_carried : (e : EventId) (row : Row) → is_packed e row ≡ true → row.carried ≡ true
packed_carried e row h = (and_parts _ _ (and_parts _ _ h).0).1

packed_of : (e : EventId) (row : Row) → is_packed e row ≡ true → same_event (event_of row.key) e ≡ true
unfolding same_event
packed_of e row h = (and_parts _ _ (and_parts _ _ (and_parts _ _ h).0).0).0

-- the rows of a package are carried
pub are_carried : (p : PackageFields) → IsPackage p → list_all (λ row. row.carried) p.rows ≡ true
are_carried p is = all_implies (is_packed p.event) (λ row. row.carried) (packed_carried p.event) p.rows is.packed

-- and are taken by the landing of their event
pub taken_of : (p : PackageFields) → IsPackage p → (l : Landing) (groups : List Group) (i : Inst) (w : OrgId) (held : List Row) → IsLanding l i w p.event held →
    taken_by l groups p.rows ≡ rows_taken i held groups (map (handed w) p.rows)
taken_of p packs l groups i w held is =
    taken_are i w held groups l p.event is p.rows (all_implies (is_packed p.event) (λ row. same_event (event_of row.key) p.event) (packed_of p.event) p.rows packs.packed)
