-- The state of a copy is that of the newest version of its event.
use Rattle.std.proofs.Common.{◌≡◌, refl, List, Bool, ◌∙◌, map, ◌&&◌, ◌||◌, not}
use Rattle.misp_history.proofs.Prelude.{Content, EventId, Inst, OrgId, Row, Version, any_in_order, any_map, cond_both, content_now, event_key, has_come, has_copy, has_gone, has_home, has_path, is_event_of, is_gone, is_handed_in, is_row_of}
use Rattle.misp_history.proofs.Prelude.{is_tombstone, list_any, newest, row_of, stands_before, tables, without_local_tags}

pub gone_kept : (c : Content) → is_gone (without_local_tags c) ≡ is_gone c
unfolding is_gone without_local_tags
gone_kept Content.Gone = refl
gone_kept c = refl

tombstone_of : (log : List Version) (v : Version) → is_tombstone (row_of log v) ≡ is_gone v.content
unfolding row_of content_now is_tombstone
tombstone_of log v = cond_both (has_path v) (without_local_tags v.content) v.content (λ c. is_gone c ≡ is_gone v.content) (λ e. gone_kept v.content) (λ e. refl)

module _ (log : List Version) (i : Inst) (w : OrgId) (e : EventId) where
  -- what is said of the owner's row of the event is said of its newest version
  row_is : (test : Row → Bool) → list_any (λ row. is_row_of w (event_key e) row && test row) (tables log i) ≡ list_any (λ v. is_event_of w e v && test (row_of log v)) (newest log i)
  unfolding tables is_row_of is_event_of row_of
  row_is test =
      any_in_order stands_before (λ row. is_row_of w (event_key e) row && test row) (map (row_of log) (newest log i))
      ∙ any_map (row_of log) (λ row. is_row_of w (event_key e) row && test row) (newest log i)

  pub copy_is : has_copy (tables log i) w e ≡ list_any (λ v. is_event_of w e v && not (is_gone v.content)) (newest log i)
  unfolding has_copy
  copy_is = row_is (λ row. not (is_tombstone row)) ∙ (λ j. list_any (λ v. is_event_of w e v && not (tombstone_of log v j)) (newest log i))

  pub home_is : has_home (tables log i) w e ≡ list_any (λ v. is_event_of w e v && (not (is_gone v.content) && not (has_come v))) (newest log i)
  unfolding has_home row_of has_come
  home_is = row_is (λ row. not (is_tombstone row) && not row.carried) ∙ (λ j. list_any (λ v. is_event_of w e v && (not (tombstone_of log v j) && not (is_handed_in v.came || has_path v))) (newest log i))

  pub gone_is : has_gone (tables log i) w e ≡ list_any (λ v. is_event_of w e v && is_gone v.content) (newest log i)
  unfolding has_gone
  gone_is = row_is is_tombstone ∙ (λ j. list_any (λ v. is_event_of w e v && tombstone_of log v j) (newest log i))
