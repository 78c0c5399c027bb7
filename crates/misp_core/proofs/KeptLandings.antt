-- The landing that is kept is that of what is held.
use Rattle.std.proofs.Common.{◌≡◌, ℕ, inl, inr, List, true, ◌&&◌, not, leb, ◌==◌, refl, ap, sym, subst, ◌∙◌, Option, Some, None, Result, Ok, Err, IfOk, IfSome, IsSomeAnd}
use Rattle.misp_effects.specs.Prelude.{with_batch}
use Rattle.misp_outside.specs.Held.{rows_of}
use Rattle.misp_orgs.specs.Keys.{CallerFields as Caller}
use Rattle.misp_model.proofs.Prelude.{AreRows, event_key, has_copy, has_gone, has_home, is_row_of, is_tombstone, put_all, same_event}
use Rattle.misp_model.specs.Machine.{pulls}
use Rattle.misp_model.specs.declared.package.PackageFields.{PackageFields as Package}
use Rattle.misp_copies.specs.Copies.{copy_state, state_by}
use Rattle.misp_package.specs.Landing.{IsLanding}
use Rattle.misp_package.specs.declared.landing.Landing.{Landing}
use Rattle.misp_store.specs.Raw.{raw_row}
use Rattle.misp_store.specs.Sharing.{HoldsGroups}
use Rattle.misp_store.specs.declared.reach.Reach.{Reach}
use Rattle.misp_core.specs.Answers.{bare_scene}
use Rattle.misp_core.specs.KeptLanding.{GoesOn, IsLandedFor, IsLandedOf, IsLandingFor, IsWholeLanding, LandsBeside, PlansBy, StaysOrLands}
use Rattle.misp_core.specs.Planning.{batch_of}
use Rattle.misp_core.specs.Reading.{rows_read}
use Rattle.misp_core.specs.Prelude.{Admin, Ask, EventId, Group, Held, Host, Inst, IsPlanned, OrgId, Plan, Row, Scene, is_permitted, requested, seen_in, spelled}
use Rattle.misp_core.specs.declared.planning.Batch.{Batch as Put}
use Rattle.misp_core.specs.declared.planning.NoPlan.{NoPlan}
use Rattle.misp_core.proofs.Answered.{planned_over}
use Rattle.misp_core.proofs.Carried.{IsPutThere}
use Rattle.misp_core.proofs.PutRead.{Alike, rows_read_alike}

-- ---- landings

-- where tests find the same it is the landing of both
module _ (w : OrgId) (e : EventId) (xs ys : List Row) (alike : Alike xs ys) where
  state_alike : copy_state xs w e ≡ copy_state ys w e
  unfolding copy_state has_gone has_home has_copy
  state_alike = λ j.
      state_by (alike (λ r. is_row_of w (event_key e) r && is_tombstone r) j) (alike (λ r. is_row_of w (event_key e) r && (not (is_tombstone r) && not r.carried)) j)
      (alike (λ r. is_row_of w (event_key e) r && not (is_tombstone r)) j)

  pub landing_alike : (l : Landing) (i : Inst) → IsLanding l i w e ys → IsLanding l i w e xs
  landing_alike l i is = record {
    here = is.here;
    owner = is.owner;
    event = is.event;
    state = is.state ∙ sym state_alike;
    newest = λ k s. is.newest k s ∙ sym (alike (λ r. is_row_of w k r && leb s r.stamp));
  }

-- it is that of its own owner and event
landing_own : (l : Landing) (i : Inst) (w : OrgId) (e : EventId) (rows : List Row) → IsLanding l i w e rows → IsLanding l i l.owner l.event rows
landing_own l i w e rows is = subst (λ (o : OrgId). IsLanding l i o l.event rows) (sym is.owner) (subst (λ (f : EventId). IsLanding l i w f rows) (sym is.event) is)

-- ---- it is made

pub landed_made : {E : Type 0} (made : Result Landing E) (i : Inst) (w : OrgId) (e : EventId) (rows : List Row) → AreRows rows → IfOk made (λ l. IsLanding l i w e rows) → IfOk made (IsLandedOf i w e rows)
landed_made (Ok l) i w e rows are is = record { are = are; is = is }
landed_made (Err none) i w e rows are is = tt

pub landed_same : (l : Landing) (i : Inst) (w v : OrgId) (p q : Package) (xs ys : List Row) → w ≡ v → p ≡ q → xs ≡ ys → IsLandedOf i w p.event xs l → IsLandedOf i v q.event ys l
landed_same l i w v p q xs ys same_owner same_package same_rows is =
    subst (λ (rows : List Row). IsLandedOf i v q.event rows l) same_rows
    (subst (λ (r : Package). IsLandedOf i v r.event xs l) same_package (subst (λ (o : OrgId). IsLandedOf i o p.event xs l) same_owner is))

-- where the keeper tells what it holds it is that of what is held
module _ (here : Inst) (by : Caller) (rows : List Row) (s : Scene) where
  landed_whole : (h : Held) (p : Package) (l : Landing) → (seen_in h).rows (Reach.Event p.event) ≡ Ok rows → IsLandedOf here by.org p.event rows l → IsWholeLanding here h l
  landed_whole h p l found made = record {
    rows = rows;
    read = ap (λ (e : EventId). (seen_in h).rows (Reach.Event e)) made.is.event ∙ found;
    are = made.are;
    is = landing_own l here by.org p.event rows made.is;
  }

  made_beside : (held : Option Held) (ask : Ask) (l : Landing) → IfSome held (λ h. rows_read s ask (seen_in h).rows ≡ Ok rows) → IsLandedFor here by.org rows ask l → LandsBeside here held l
  made_beside None ask l found made = tt
  made_beside (Some h) (Ask.TakePart p) l found made = landed_whole h p l found made
  made_beside (Some h) ask l found made = absurd made

  all_made : (held : Option Held) (ask : Ask) (new : Option Landing) → IfSome held (λ h. rows_read s ask (seen_in h).rows ≡ Ok rows) → IfSome new (IsLandedFor here by.org rows ask) → IfSome new (LandsBeside here held)
  all_made held ask None found made = tt
  all_made held ask (Some l) found made = made_beside held ask l found made

  -- what is kept once an ask is planned is so still
  pub still_lands : (held : Option Held) (ask : Ask) (old new : Option Landing) → IfSome held (λ h. rows_read s ask (seen_in h).rows ≡ Ok rows) → IfSome old (LandsBeside here held)
      → StaysOrLands here by.org rows ask old new → IfSome new (LandsBeside here held)
  still_lands held ask old new found lands (inl same) = subst (λ (o : Option Landing). IfSome o (LandsBeside here held)) (sym same) lands
  still_lands held ask old new found lands (inr made) = all_made held ask new found made

-- ---- rows are put

whole_put : (here : Inst) (h : Held) (b : Put) (old new : Landing) → IsWholeLanding here h old → GoesOn b.rows old new → IsWholeLanding here (with_batch (spelled (batch_of b)) h) new
unfolding with_batch rows_of raw_row same_event
whole_put here h b old new whole on =
    let read = rows_read_alike (λ raw. raw.event.0.0 == old.event.0.0) b.rows on.are on.of_event h.rows whole.rows whole.rows whole.read whole.are (λ q. refl) in
    let put : IsLanding new here old.owner old.event (put_all b.rows whole.rows) = on.landing here old.owner old.event whole.rows whole.is in
    let there : IsLanding new here old.owner old.event read.0 = landing_alike old.owner old.event read.0 (put_all b.rows whole.rows) read.3 new here put in
    record {
      rows = read.0;
      read = ap (λ (e : EventId). (seen_in (with_batch (spelled (batch_of b)) h)).rows (Reach.Event e)) put.event ∙ read.1;
      are = read.2;
      is = landing_own new here old.owner old.event read.0 there;
    }

put_beside : (here : Inst) (held after : Option Held) (b : Put) (old new : Landing) → IsPutThere b held after → LandsBeside here held old → GoesOn b.rows old new → LandsBeside here after new
put_beside here None None b old new is lands on = tt
put_beside here None (Some now) b old new is lands on = absurd is
put_beside here (Some h) None b old new is lands on = tt
put_beside here (Some h) (Some now) b old new is lands on = subst (λ (h : Held). IsWholeLanding here h new) (sym is) (whole_put here h b old new lands on)

-- what it goes on with is the landing of what is held then
lands_on : (here : Inst) (held after : Option Held) (b : Put) (rows : List Row) (old new : Option Landing) → rows ≡ b.rows → IsPutThere b held after
    → IfSome old (LandsBeside here held) → IfSome new (λ n. IsSomeAnd old (λ o. GoesOn rows o n)) → IfSome new (LandsBeside here after)
lands_on here held after b rows old None same is lands on = tt
lands_on here held after b rows None (Some n) same is lands on = absurd on
lands_on here held after b rows (Some o) (Some n) same is lands on = put_beside here held after b o n is lands (subst (λ (rs : List Row). GoesOn rs o n) same on)

-- where it is taken from what was kept
pub lands_taken : (here : Inst) (held after : Option Held) (b : Put) (rows : List Row) (was old new : Option Landing) → old ≡ was → rows ≡ b.rows → IsPutThere b held after
    → IfSome was (LandsBeside here held) → IfSome new (λ n. IsSomeAnd old (λ o. GoesOn rows o n)) → IfSome new (LandsBeside here after)
lands_taken here held after b rows was old new taken same is lands on =
    lands_on here held after b rows old new same is (subst (λ (o : Option Landing). IfSome o (LandsBeside here held)) (sym taken) lands) on

-- where none is kept
pub none_lands : (here : Inst) (held : Option Held) (new : Option Landing) → new ≡ None → IfSome new (LandsBeside here held)
none_lands here held new is = subst (λ (o : Option Landing). IfSome o (LandsBeside here held)) (sym is) tt

-- ---- what is planned

-- what is planned so is planned for the request
module _ (host : Host) (now : ℕ) (by : Caller) (groups : List Group) (planned : Result Plan NoPlan) where
  one_planned : (h : Held) (ask : Ask) (l : Landing) → is_permitted by ask ≡ true → HoldsGroups (Some h) groups → IsWholeLanding host.name h l → PlansBy host.admin (bare_scene host now by groups) ask planned l
      → IsPlanned planned (requested host now (by, ask) (seen_in h))
  unfolding pulls
  one_planned h (Ask.TakePart p) l may holds whole plans =
      planned_over host now (by, Ask.TakePart p) groups whole.rows planned h may holds
      (ap (λ (e : EventId). (seen_in h).rows (Reach.Event e)) (sym plans.is_for.event) ∙ whole.read) (plans.plans whole.rows whole.is)
  one_planned h ask l may holds whole plans = absurd plans.is_for

  pub landed_planned : (held : Option Held) (ask : Ask) (kept : Option Landing) → is_permitted by ask ≡ true → HoldsGroups held groups → IfSome kept (LandsBeside host.name held)
      → IsSomeAnd kept (PlansBy host.admin (bare_scene host now by groups) ask planned) → IfSome held (λ h. IsPlanned planned (requested host now (by, ask) (seen_in h)))
  landed_planned None ask kept may holds lands plans = tt
  landed_planned (Some h) ask None may holds lands plans = absurd plans
  landed_planned (Some h) ask (Some l) may holds lands plans = one_planned h ask l may holds lands plans
