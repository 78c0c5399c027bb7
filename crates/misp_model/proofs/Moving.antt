-- What passes of a history that was cut is what is kept of what passes, and so for what counts.
use Rattle.std.proofs.Common.{◌≡◌, List, Bool, true, refl, ap, ◌&&◌, ◌||◌}
use Rattle.misp_model.proofs.Prelude.{Group, Inst, IsClosed, Key, OrgId, Row, Version, and_parts, any_within, counted, counts, cut_rows, event_kept, event_key, event_of, filter_cut, has_event, is_least, is_statement, is_welcome}
use Rattle.misp_model.proofs.Prelude.{same_key, same_key-keeps}
use Rattle.misp_model.specs.Closed.{cut}
use Rattle.misp_model.proofs.Knowing.{by_key, has_copy_cut, has_home_cut, has_gone_cut}
use Rattle.misp_model.proofs.LookedRows.{is_least_looked, looked_rows}

module _ (keep : Key → Bool) (c : IsClosed keep) (rows : List Row) (groups : List Group) where
  pub is_least_cut : (i : Inst) (o : OrgId) (row : Row) → keep row.key ≡ true → is_least (cut_rows keep rows) groups i o row ≡ is_least rows groups i o row
  unfolding cut_rows looked_rows
  is_least_cut i o row h = is_least_looked o (λ w. keep) (by_key keep c o) rows groups i row (λ w. (h, c.above row.key h))

  pub is_welcome_cut : (v : Version) → keep v.key ≡ true → is_welcome (cut_rows keep rows) groups v ≡ is_welcome rows groups v
  unfolding is_welcome
  is_welcome_cut v h =
      rw (has_gone_cut keep v.owner (event_of v.key) rows (event_kept keep c v.key h), has_home_cut keep v.owner (event_of v.key) rows (event_kept keep c v.key h)) refl

  pub has_event_cut : (coming : List Version) (v : Version) → keep v.key ≡ true → has_event (cut_rows keep rows) groups (cut keep coming) v ≡ has_event rows groups coming v
  unfolding has_event cut
  has_event_cut coming v h =
      rw (
        has_copy_cut keep v.owner (event_of v.key) rows (event_kept keep c v.key h),
        any_within (λ u. same_key u.key (event_key (event_of v.key)) && is_welcome (cut_rows keep rows) groups u)
            (λ u. same_key u.key (event_key (event_of v.key)) && is_welcome rows groups u) (λ u. keep u.key)
            (λ u e. ap (λ b. same_key u.key (event_key (event_of v.key)) && b) (is_welcome_cut u e))
            (λ u e. same_key-keeps keep u.key _ (and_parts _ _ e).0 (event_kept keep c v.key h)) coming,
      ) refl

  -- what counts of the arrivals that are kept
  pub counted_cut : (coming : List Version) → counted (cut_rows keep rows) groups (cut keep coming) ≡ cut keep (counted rows groups coming)
  unfolding counted counts cut
  counted_cut coming =
      filter_cut (λ v. is_welcome (cut_rows keep rows) groups v && (is_statement v.key || has_event (cut_rows keep rows) groups (cut keep coming) v))
      (λ v. is_welcome rows groups v && (is_statement v.key || has_event rows groups coming v)) (λ v. keep v.key)
      (λ v e. rw (is_welcome_cut v e, has_event_cut coming v e) refl) coming
