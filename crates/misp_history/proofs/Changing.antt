-- What a request writes is newer than what its caller has of the same keys.
use Rattle.std.proofs.Common.{◌≡◌, ◌+◌, Bool, true, false, refl, arith, leb, List, [], ◌∷◌, ap, sym, ◌∙◌, map, cond, ◌&&◌, max, not, Option, Some, None, option_to_list, find, eq-eqb, lt-ltb, Contains, subst}
use Rattle.misp_history.proofs.Prelude.{AllByRecursion, Content, ElemId, Element, EventId, IsDistinct, Key, Label, ProposalBody, ProposalName, Row, Scene, Verdict, Version, acceptance, accepted, and_from, and_parts, and_right, as_deleted}
use Rattle.misp_history.proofs.Prelude.{at_attribute, changed, changed_row, cond_both, event_of, find_passes, found_among, is_for_new, is_known, is_live, is_row_of, is_taken, judged_place, known, list_any, made, next_stamp, of_part}
use Rattle.misp_history.proofs.Prelude.{own_reference, own_row, row_of_name, same_cell, same_event-refl, same_inst, same_key, same_org, same_org-sound, tables, takes_uuid, uuid_at, written}
use Rattle.misp_model.specs.Changing.{is_reference_named}
use Rattle.misp_history.proofs.AsNew.{none_newer}
use Rattle.misp_history.proofs.Adding.{AreWritten}
use Rattle.misp_history.proofs.Submitted.{no_own_row, one_free}

module _ (s : Scene) (log : List Version) (sees : s.rows ≡ known (tables log s.at) s.groups s.at s.by) where
  -- versions that the request writes
  abbrev pub Writes : List Version → Type 0
  Writes vs = AreWritten s.act s.at log vs

  pub none_new : Writes []
  unfolding IsDistinct
  none_new = record { new = tt; apart = tt; newer = refl }

  -- ---- changed rows
  pub found_there : (p : Row → Bool) (row : Row) → find p s.rows ≡ Some row → Contains (tables log s.at) row
  unfolding known
  found_there p row h = (of_part (is_known (tables log s.at) s.groups s.at s.by) (tables log s.at) row (subst (λ rs. Contains rs row) sees (found_among p s.rows row h))).1

  pub change_newer : (row : Row) (l : Label) (c : Content) → row.owner ≡ s.by → Contains (tables log s.at) row →
      list_any (λ a. same_cell a (changed s row l c) && leb (changed s row l c).stamp a.stamp) log ≡ false
  unfolding changed written same_cell next_stamp
  change_newer row l c o h =
      (λ j. list_any (λ a. (same_inst a.at s.at && same_org a.owner (sym o j) && same_key a.key row.key) && leb (max s.now (row.stamp + 1)) a.stamp) log)
      ∙ none_newer log s.at row h (max s.now (row.stamp + 1)) (lt-ltb row.stamp (max s.now (row.stamp + 1)) (omega arith))

  change_new : (row : Row) (l : Label) (c : Content) → row.owner ≡ s.by → Contains (tables log s.at) row → Writes (changed s row l c ∷ [])
  unfolding changed written IsDistinct
  change_new row l c o h = record {
    new = (record { at = refl; path = refl; came = refl; act = refl }, tt);
    apart = (tt, tt);
    newer = and_from _ _ (ap not (change_newer row l c o h)) refl;
  }

  changes_new : (o : Option Row) (l : Row → Label) (f : Content → Content) → ((row : Row) → o ≡ Some row → (row.owner ≡ s.by) × Contains (tables log s.at) row) →
      Writes (map (λ row. changed s row (l row) (f row.content)) (option_to_list o))
  changes_new None l f h = none_new
  changes_new (Some row) l f h = change_new row (l row) (f row.content) (h row refl).0 (h row refl).1

  pub changed_row_new : (k : Key) (l : Row → Label) (f : Content → Content) → Writes (changed_row s k l f)
  unfolding changed_row own_row
  changed_row_new k l f = changes_new (find (is_row_of s.by k) s.rows) l f
      (λ row h. ((row_of_name s.by k row (find_passes (is_row_of s.by k) s.rows row h)).0, found_there (is_row_of s.by k) row h))

  pub choice_new : (b : Bool) (vs : List Version) → Writes vs → Writes (cond b vs [])
  choice_new true vs w = w
  choice_new false vs w = none_new

  pub reference_new : (e : EventId) (x u : ElemId) → Writes (map (λ row. changed s row row.label (as_deleted row.content)) (option_to_list (own_reference s e x u)))
  unfolding own_reference
  reference_new e x u = changes_new (find named s.rows) (λ row. row.label) as_deleted (λ row h. (same_org-sound row.owner s.by (and_parts _ _ (find_passes named s.rows row h)).0, found_there named row h))
    where
      named : Row → Bool
      named row = same_org row.owner s.by && (is_reference_named e x u row.key && is_live s.rows row)

  -- ---- new keys
  -- one version of a new key in front of others
  pub key_new : (k : Key) (l : Label) (c : Content) (vs : List Version) → list_any (is_row_of s.by k) s.rows ≡ false →
      AllByRecursion (λ u. same_cell (written s k s.now l c) u ≡ false) vs → Writes vs → Writes (written s k s.now l c ∷ vs)
  unfolding written IsDistinct
  key_new k l c vs h apart w = record {
    new = (record { at = refl; path = refl; came = refl; act = refl }, w.new);
    apart = (apart, w.apart);
    newer = and_from _ _ (ap not (one_free s log sees (written s k s.now l c) refl refl h)) w.newer;
  }

  -- ---- judging
  module _ (e : EventId) (n : ProposalName) where
    abbrev judged : Key
    judged = Element e (judged_place n)

    made_new : (p : ProposalBody) → is_taken s e (uuid_at e (judged_place n)) ≡ false → Writes (written s judged s.now Label.Inherit (Content.Attribute (made p)) ∷ [])
    unfolding event_of takes_uuid
    made_new p free =
        key_new judged Label.Inherit (Content.Attribute (made p)) []
        (no_own_row s e (uuid_at e (judged_place n)) judged (same_event-refl e) (eq-eqb _ _ refl) free) tt none_new

    pub acceptance_new : (p : ProposalBody) → (is_for_new n && is_taken s e (uuid_at e (judged_place n))) ≡ false → Writes (acceptance s e n p)
    unfolding acceptance
    acceptance_new p free = cond_both (is_for_new n) _ _ Writes
        (λ b. made_new p (sym (ap (λ t. t && is_taken s e (uuid_at e (judged_place n))) b) ∙ free)) (λ b. changed_row_new judged (λ row. row.label) (at_attribute (accepted p)))

    -- a verdict is of another key than what it changes or makes
    verdict_apart : (v : Version) → v.key ≡ Verdict e n s.at s.by → (u : Version) → u.key ≡ judged → same_cell v u ≡ false
    unfolding same_cell same_key
    verdict_apart v h u k = (λ i. same_inst v.at u.at && same_org v.owner u.owner && same_key (h i) (k i)) ∙ and_right (same_inst v.at u.at && same_org v.owner u.owner) false refl

    pub acceptance_apart : (p : ProposalBody) (v : Version) → v.key ≡ Verdict e n s.at s.by → AllByRecursion (λ u. same_cell v u ≡ false) (acceptance s e n p)
    unfolding acceptance changed_row changed written own_row
    acceptance_apart p v h = cond_both (is_for_new n) _ _ (AllByRecursion (λ u. same_cell v u ≡ false))
        (λ b. (verdict_apart v h (written s judged s.now Label.Inherit (Content.Attribute (made p))) refl, tt)) (λ b. of_row (find (is_row_of s.by judged) s.rows) refl)
      where
        of_row : (o : Option Row) → find (is_row_of s.by judged) s.rows ≡ o →
            AllByRecursion (λ u. same_cell v u ≡ false) (map (λ row. changed s row row.label (at_attribute (accepted p) row.content)) (option_to_list o))
        of_row None f = tt
        of_row (Some row) f = (verdict_apart v h (changed s row row.label (at_attribute (accepted p) row.content)) (row_of_name s.by judged row (find_passes (is_row_of s.by judged) s.rows row f)).1, tt)
