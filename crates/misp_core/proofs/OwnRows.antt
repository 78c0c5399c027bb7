-- The own rows that are kept are those that are held.
use Rattle.std.proofs.Common.{◌≡◌, ◌++◌, ℕ, nat_eq, refl, sym, ap, subst, ◌∙◌, Bool, true, List, [], ◌∷◌, length, option_map, Option, Some, None, Ok, IfSome}
use Rattle.std.specs.List.{list_all, starts_with}
use Rattle.misp_ids.proofs.Same.{same_org-sound}
use Rattle.misp_outside.specs.Held.{is_named, raw_name, rows_named, with_batch}
use Rattle.misp_outside.specs.Reporting.{WhereReported}
use Rattle.misp_outside.specs.declared.row.RawRow.{RawRow}
use Rattle.misp_elem.specs.Prelude.{key}
use Rattle.misp_elem.specs.declared.key.KeyForm.{KeyForm as Key}
use Rattle.misp_manifest.specs.declared.manifest.KeyStamp.{KeyStamp}
use Rattle.misp_model.proofs.Prelude.{EventId, Inst, OrgId, Row, and_from, and_parts, event_of, name_bytes, put_all, same_event, same_org, uid}
use Rattle.misp_model.proofs.Spelled.{begins_with_itself}
use Rattle.misp_model.specs.declared.package.PackageFields.{PackageFields as Package}
use Rattle.misp_package.specs.Landing.{IsLanding}
use Rattle.misp_package.specs.declared.landing.Landing.{Landing}
use Rattle.misp_store.specs.Raw.{raw_row}
use Rattle.misp_store.specs.Sharing.{HoldsGroups, or_none}
use Rattle.misp_store.specs.declared.reach.Reach.{Reach}
use Rattle.misp_store.proofs.HeldRows.{rows_put}
use Rattle.misp_core.specs.KeptLanding.{GoesOn}
use Rattle.misp_core.specs.Prelude.{Group, Held, groups_of, seen_in}
use Rattle.misp_core.specs.Synced.{AreWanted, IsOwn, IsOwnLanding, IsSynced, StaysSynced}
use Rattle.misp_core.specs.Taking.{package_taken, with_rows}
use Rattle.misp_core.specs.Wanting.{IsSomeWanted, TakesOf, WantsOf}
use Rattle.misp_core.specs.declared.synced.Own.{Own}
use Rattle.misp_core.specs.declared.synced.OwnRows.{OwnRows}
use Rattle.misp_core.proofs.KeptLandings.{landing_alike}
use Rattle.misp_core.proofs.PutRead.{rows_read_alike}
use Rattle.misp_core.proofs.Reported.{own_unseen}

-- ---- what is kept

-- of another owner or event there is nothing
pub kept_own : (kept : OwnRows) (i : Inst) (held : Option Held) (w : OrgId) (e : EventId) → kept.owner ≡ w → kept.event ≡ e → IsSynced i held kept → IsOwn i held w e kept.own
kept_own kept i held w e owner event is = subst (λ (e : EventId). IsOwn i held w e kept.own) event (subst (λ (w : OrgId). IsOwn i held w kept.event kept.own) owner is)

-- ---- rows are put

module _ (w : OrgId) (e : EventId) where
  -- held under a name of the owner, in the event
  abbrev own_name : RawRow → Bool
  own_name raw = is_named e (uid w.0) (raw_name raw)

  named : (r : Row) → same_org r.owner w ≡ true → same_event (event_of r.key) e ≡ true → own_name (raw_row r) ≡ true
  unfolding raw_row name_bytes same_event
  named r of_w of_e =
      and_from _ _ of_e
      (ap (λ (o : OrgId). starts_with nat_eq (uid o.0 ++ key r.key) (uid w.0)) (same_org-sound r.owner w of_w) ∙ begins_with_itself (uid w.0) (key r.key))

  all_named : (rs : List Row) → list_all (λ row. same_org row.owner w) rs ≡ true → list_all (λ row. same_event (event_of row.key) e) rs ≡ true → list_all (λ row. own_name (raw_row row)) rs ≡ true
  all_named [] of_w of_e = refl
  all_named (r ∷ rs) of_w of_e =
      let one = and_parts _ _ of_w in
      let other = and_parts _ _ of_e in
      and_from _ _ (named r one.0 other.0) (all_named rs one.1 other.1)

module _ (i : Inst) (w : OrgId) (e : EventId) (rs : List Row) (old new : Landing) (on : GoesOn rs old new) (of_w : list_all (λ row. same_org row.owner w) rs ≡ true) (of_e : list_all (λ row. same_event (event_of row.key) e) rs ≡ true) where
  own_held : (h : Held) → IsOwnLanding i (Some h) w e old → IsOwnLanding i (Some (with_rows rs h)) w e new
  unfolding with_batch rows_named
  own_held h is =
      let read = rows_read_alike (own_name w e) rs on.are (all_named w e rs of_w of_e) h.rows is.rows is.rows is.own is.landed.are (λ q. refl) in
      record {
        rows = read.0;
        own = read.1;
        landed = record { are = read.2; is = landing_alike w e read.0 (put_all rs is.rows) read.3 new i (on.landing i w e is.rows is.landed.is) };
      }

  own_put : (held : Option Held) → IsOwnLanding i held w e old → IsOwnLanding i (option_map (with_rows rs) held) w e new
  own_put (Some h) is = own_held h is
  own_put None is = record {
    rows = put_all rs is.rows;
    own = tt;
    landed = record { are = rows_put rs is.rows on.are is.landed.are; is = on.landing i w e is.rows is.landed.is };
  }

-- the landing of its own owner and event
own_itself : (i : Inst) (held : Option Held) (w : OrgId) (e : EventId) (l : Landing) → IsOwnLanding i held w e l → IsOwnLanding i held l.owner l.event l
own_itself i held w e l is =
    subst (λ (e : EventId). IsOwnLanding i held l.owner e l) (sym is.landed.is.event) (subst (λ (w : OrgId). IsOwnLanding i held w e l) (sym is.landed.is.owner) is)

-- what is kept of a landing that goes on
pub stays_synced : (rs : List Row) (old new : Landing) → list_all (λ row. same_org row.owner old.owner) rs ≡ true → GoesOn rs old new
    → StaysSynced rs old (record { owner = new.owner; event = new.event; own = Own.Landed new })
stays_synced rs old new owned on i held w e is =
    own_itself i (option_map (with_rows rs) held) w e new
    (own_put i w e rs old new on (subst (λ (w : OrgId). list_all (λ row. same_org row.owner w) rs ≡ true) is.landed.is.owner owned)
    (subst (λ (e : EventId). list_all (λ row. same_event (event_of row.key) e) rs ≡ true) is.landed.is.event on.of_event) held is)

-- the same of what is held then
synced_one : (s : OwnRows) (rs : List Row) (l : Landing) (held new : Option Held) → WhereReported held new (λ held now. now ≡ with_rows rs held) → StaysSynced rs l s
    → (i : Inst) (w : OrgId) (e : EventId) → IsOwnLanding i held w e l → IsSynced i new s
synced_one s rs l None None put stays i w e is = stays i None w e is
synced_one s rs l None (Some now) put stays i w e is = absurd put
synced_one s rs l (Some h) None put stays i w e is = stays i None w e (own_unseen i h w e l is)
synced_one s rs l (Some h) (Some now) put stays i w e is = subst (λ (h : Held). IsSynced i (Some h) s) (sym put) (stays i (Some h) w e is)

pub synced_then : (after : Option OwnRows) (rs taken : List Row) (l : Landing) (held new : Option Held) → rs ≡ taken → WhereReported held new (λ held now. now ≡ with_rows taken held)
    → IfSome after (StaysSynced rs l) → (i : Inst) (w : OrgId) (e : EventId) → IsOwnLanding i held w e l → IfSome after (IsSynced i new)
synced_then None rs taken l held new same put stays i w e is = tt
synced_then (Some s) rs taken l held new same put stays i w e is =
    synced_one s taken l held new put (subst (λ (rows : List Row). StaysSynced rows l s) same stays) i w e is

-- ---- what is wanted

module _ (i : Inst) (w : OrgId) (e : EventId) (keys : List KeyStamp) (wanted : List Key) where
  pub wants : (held : Option Held) → AreWanted i held w e keys wanted → IfSome held (WantsOf i w e keys wanted)
  wants None are = tt
  wants (Some h) are = record { rows = are.rows; read = are.own; are = are.are }

  pub wants_some : (held : Option Held) → AreWanted i held w e keys wanted → IsSomeWanted i w e keys wanted
  wants_some held are = record { rows = are.rows; are = are.are }

-- ---- what is taken

-- by the landing of own rows so many rows are taken, and these are put
module _ (i : Inst) (w : OrgId) (p : Package) (l : Landing) (groups : List Group) (old new : Option Held)
    (put : (i : Inst) (w : OrgId) (rows : List Row) → IsLanding l i w p.event rows → WhereReported old new (λ held now. now ≡ with_rows (package_taken i rows groups w p) held))
    (count : ℕ) (counts : (i : Inst) (w : OrgId) (rows : List Row) → IsLanding l i w p.event rows → count ≡ length (package_taken i rows groups w p)) where
  takes_one : (h now : Held) → HoldsGroups (Some h) groups → (is : IsOwnLanding i (Some h) w p.event l) → now ≡ with_rows (package_taken i is.rows groups w p) h → TakesOf i w p count h now
  takes_one h now holds is are =
      let known : groups ≡ groups_of h = sym (ap or_none holds.are) in
      record {
        rows = is.rows;
        read = is.own;
        count_is = counts i w is.rows is.landed.is ∙ ap (λ (gs : List Group). length (package_taken i is.rows gs w p)) known;
        put = are ∙ ap (λ (gs : List Group). with_rows (package_taken i is.rows gs w p) h) known;
      }

  pub takes : (e : EventId) → e ≡ p.event → HoldsGroups old groups → IsOwnLanding i old w e l → WhereReported old new (TakesOf i w p count)
  takes e of holds is = there (subst (λ (e : EventId). IsOwnLanding i old w e l) of is)
    where
      one : (held after : Option Held) → HoldsGroups held groups → (is : IsOwnLanding i held w p.event l) → WhereReported held after (λ held now. now ≡ with_rows (package_taken i is.rows groups w p) held) → WhereReported held after (TakesOf i w p count)
      one None None holds is are = tt
      one None (Some now) holds is are = absurd are
      one (Some h) None holds is are = tt
      one (Some h) (Some now) holds is are = takes_one h now holds is are

      there : IsOwnLanding i old w p.event l → WhereReported old new (TakesOf i w p count)
      there is = one old new holds is (put i w is.rows is.landed.is)
