-- What a request that writes newer versions does to the tables: each is put in its place as a row.
use Rattle.std.proofs.Common.{◌≡◌, ℕ, [], List, ◌∷◌, true, Bool, false, ap, leb, ◌++◌, ◌∙◌, cond, refl, arith, map, suc, ltb, not, ◌&&◌, filter, le-leb}
use Rattle.misp_levels.specs.Levels.{lowering}
use Rattle.misp_levels.proofs.Steps.{down_none}
use Rattle.misp_history.proofs.Prelude.{AllByRecursion, Inst, IsDistinct, Version, Written, all_implies, and_from, any_agree, any_never, content_now, event_key, event_of}
use Rattle.misp_history.proofs.Prelude.{filter_all, fresh_row, has_path, is_handed_in, is_published, label_now, list_all, list_all-append, list_any, nat_tests, published_after, put, put_all, put_row}
use Rattle.misp_history.proofs.Prelude.{released, row_of, same_cell, same_inst, same_inst-refl, same_key, same_org, stands_before, tables}
use Rattle.misp_levels.specs.Levels.{down}
use Rattle.misp_model.proofs.Fresh.{not_handed_in}
use Rattle.misp_history.proofs.Putting.{is_new_to, or_none, put_many, tables_more}

-- ---- a version that was just written, as a row
no_later : (a b c : Bool) (m n : ℕ) → leb n m ≡ true → (a && (b && (c && ltb m n))) ≡ false
no_later a b c m n h = grind (arith, nat_tests)

-- of versions that are no later than v none publishes after it
never_after : (log : List Version) (v : Version) → list_all (λ u. leb u.act v.act) log ≡ true → published_after log v ≡ false
unfolding published_after
never_after log v h =
    any_agree (λ p. same_inst p.at v.at && same_org p.owner v.owner && same_key p.key (event_key (event_of v.key)) && (is_published p.came && (not (has_path p) && ltb v.act p.act))) (λ p. false) (λ u. leb u.act v.act)
    (λ p e. no_later (same_inst p.at v.at && same_org p.owner v.owner && same_key p.key (event_key (event_of v.key))) (is_published p.came) (not (has_path p)) v.act p.act e) log h ∙ any_never (λ p. false) (λ p. refl) log

pub row_of_fresh : (log : List Version) (v : Version) → v.path ≡ [] → is_handed_in v.came ≡ false → list_all (λ u. leb u.act v.act) log ≡ true → row_of log v ≡ fresh_row v
unfolding row_of fresh_row released label_now lowering content_now has_path down is_published published_after
row_of_fresh log v p written h = rw (p, written, never_after log v h, down_none v.label, or_none _ false refl) refl

-- ---- versions that are written

-- the version was written at the instance by the n-th act
pub record IsNew (n : ℕ) (i : Inst) (v : Version) : Type 0 where
  pub at : v.at ≡ i
  pub path : v.path ≡ []
  pub came : v.came ≡ Written
  pub act : v.act ≡ n

-- the log has no version as new as one of these in its cell
abbrev pub are_newer : List Version → List Version → Bool
are_newer log vs = list_all (λ v. not (list_any (λ a. same_cell a v && leb v.stamp a.stamp) log)) vs

-- acts below one number are below the next, and none is above it
pub below_next : (n : ℕ) (log : List Version) → list_all (λ u. ltb u.act n) log ≡ true → list_all (λ u. ltb u.act (suc n)) log ≡ true
below_next n log h = all_implies (λ u. ltb u.act n) (λ u. ltb u.act (suc n)) (λ u e. grind (arith, nat_tests)) log h

pub not_above : (n : ℕ) (log : List Version) → list_all (λ u. ltb u.act n) log ≡ true → list_all (λ u. leb u.act n) log ≡ true
not_above n log h = all_implies (λ u. ltb u.act n) (λ u. leb u.act n) (λ u e. grind (arith, nat_tests)) log h

-- versions that the n-th act wrote at the instance, no two of one cell, each newer than what the log has there
pub record AreWritten (n : ℕ) (i : Inst) (log vs : List Version) : Type 0 where
  pub new : AllByRecursion (IsNew n i) vs
  pub apart : IsDistinct same_cell vs
  pub newer : are_newer log vs ≡ true

one_written : (n : ℕ) (i : Inst) (log : List Version) (v : Version) → list_all (λ u. leb u.act n) log ≡ true → IsNew n i v →
    (tables (log ++ v ∷ []) i ≡ cond (is_new_to log v) (put_row (fresh_row v) (tables log i)) (tables log i)) × (list_all (λ u. leb u.act n) (log ++ v ∷ []) ≡ true)
unfolding put_row fresh_row is_published
one_written n i log v older new = (
  tables_more log v i (ap is_published new.came)
      ∙ (λ j. cond ((ap (λ a. same_inst a i) new.at ∙ same_inst-refl i) j && is_new_to log v) (put stands_before (row_is j) (filter (λ r. not (same_org r.owner v.owner && same_key r.key v.key)) (tables log i))) (tables log i)),
  list_all-append (λ (u : Version). leb u.act n) log (v ∷ []) ∙ and_from _ _ older (and_from _ _ (ap (λ a. leb a n) new.act ∙ le-leb n n (omega arith)) refl),
)
  where
    row_is : row_of log v ≡ fresh_row v
    row_is = row_of_fresh log v new.path (not_handed_in v new.came) (ap (λ a. list_all (λ (u : Version). leb u.act a) log) new.act ∙ older)

-- they are put in their places
pub tables_written : (n : ℕ) (i : Inst) (log vs : List Version) → AreWritten n i log vs → list_all (λ u. ltb u.act n) log ≡ true →
    tables (log ++ vs) i ≡ put_all (map fresh_row vs) (tables log i)
tables_written n i log vs w older =
    put_many i fresh_row (λ l. list_all (λ u. leb u.act n) l ≡ true) (IsNew n i) (one_written n i) vs log w.new w.apart (not_above n log older)
    ∙ ap (λ us. put_all (map fresh_row us) (tables log i)) (filter_all (is_new_to log) vs w.newer)
