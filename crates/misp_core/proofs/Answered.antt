-- What is planned for a request over a keeper that may not tell what it holds.
use Rattle.std.proofs.Common.{◌≡◌, ℕ, List, Bool, true, false, cond, if◌then◌else◌, refl, ap, sym, subst, inl, inr, ◌∙◌, Option, Some, None, Result, Ok, Err, IfSome}
use Rattle.misp_model.proofs.Prelude.{IsTable}
use Rattle.misp_store.specs.Loading.{NamesFault}
use Rattle.misp_store.specs.Sharing.{HoldsGroups, or_none}
use Rattle.misp_store.specs.declared.fault.LoadFault.{LoadFault}
use Rattle.misp_core.specs.Prelude.{Ask, Asked, Effect, Group, Held, Host, IsPlanned, Plan, Plans, Refusal, Reply, Row, Seen, Standing, asked_over, asked_where, forbidden, is_permitted, read_where, refused, requested, scene_at, seeing}
use Rattle.misp_core.specs.Prelude.{Scene, seen_in}
use Rattle.misp_core.specs.Answers.{bad_row, bare_scene}
use Rattle.misp_core.specs.Effects.{asked, by_keeper}
use Rattle.misp_core.specs.Partners.{partner_of}
use Rattle.misp_core.specs.Planning.{IsBarred, stop_planned}
use Rattle.misp_core.specs.Handing.{IsUnread, TellsFault}
use Rattle.misp_core.specs.Reading.{rows_read}
use Rattle.misp_core.specs.declared.planning.NoPlan.{NoPlan}
use Rattle.misp_core.proofs.Alike.{partner_asked}
use Rattle.misp_model.specs.Machine.{pulls}
use Rattle.misp_core.proofs.Carried.{asks_none, is_planned}

module _ (host : Host) (now : ℕ) (it : Asked) where
  -- what is permitted comes to what is asked, and what is not to its refusal
  pub by_role : (seen : Seen) (may : Bool) → is_permitted it.0 it.1 ≡ may → requested host now it seen ≡ (if may then asked_where host now it seen else refused (forbidden it.1))
  by_role seen may is = ap (λ b. if b then asked_where host now it seen else refused (forbidden it.1)) is

  is_unread : (seen : Seen) (fault : LoadFault) → is_permitted it.0 it.1 ≡ true → NamesFault (read_where host now it seen) fault → IsUnread fault (requested host now it seen)
  is_unread seen (LoadFault.BadRow name) may names = by_role seen true may ∙ ap (asked_over host now it seen.groups) names
  is_unread seen LoadFault.KeeperFault may names = tt
  is_unread seen LoadFault.NoMemory may names = tt

  -- what is not permitted is planned to be refused
  pub barred_planned : (old : Option Held) (why : NoPlan) → is_permitted it.0 it.1 ≡ false → Plans (Err why) (refused (forbidden it.1)) → IfSome old (λ held. IsPlanned (Err why) (requested host now it (seen_in held)))
  barred_planned None why may plans = tt
  barred_planned (Some held) why may plans =
      is_planned (Err why) (requested host now it (seen_in held)) (subst (λ (e : Effect Reply). Plans (Err why) e) (sym (by_role (seen_in held) false may)) plans)

  -- so is what is permitted, where the rows are not read
  pub unread_planned : (groups : List Group) (old : Option Held) (fault : LoadFault) (why : NoPlan) → is_permitted it.0 it.1 ≡ true → HoldsGroups old groups
      → IfSome old (λ held. NamesFault (rows_read (bare_scene host now it.0 groups) it.1 (seen_in held).rows) fault)
      → ((e : Effect Reply) → IsUnread fault e → IsPlanned (Err why) e) → IfSome old (λ held. IsPlanned (Err why) (requested host now it (seen_in held)))
  unread_planned groups None fault why may holds names plans = tt
  unread_planned groups (Some held) fault why may holds names plans =
      plans (requested host now it (seen_in held))
      (is_unread (seen_in held) fault may
      (subst (λ (gs : List Group). NamesFault (rows_read (bare_scene host now it.0 gs) it.1 (seen_in held).rows) fault) (sym (ap or_none holds.are)) names))

  -- the scene for an ask, with the partner of the caller's key where it is one of a pull
  abbrev scene_where : List Group → Bool → Scene
  scene_where groups pull = cond pull (scene_at host now it.0 groups) (bare_scene host now it.0 groups)

  -- what is planned there is planned with that partner
  with_partner : (groups : List Group) (rows : List Row) (planned : Result Plan NoPlan) (pull : Bool) → pulls it.1 ≡ pull → Plans planned (asked host.admin (seeing (scene_where groups pull) rows) it.1)
      → Plans planned (asked host.admin (seeing (scene_at host now it.0 groups) rows) it.1)
  with_partner groups rows planned true is plans = plans
  with_partner groups rows planned false is plans =
      subst (λ (e : Effect Reply). Plans planned e) (sym (partner_asked (partner_of it.0) (seeing (bare_scene host now it.0 groups) rows) host.admin it.1 is)) plans

  -- what is read with the groups that are held
  pub over_found : (held : Held) (groups : List Group) (rows : List Row) → HoldsGroups (Some held) groups → rows_read (bare_scene host now it.0 groups) it.1 (seen_in held).rows ≡ Ok rows
      → asked_where host now it (seen_in held) ≡ asked_over host now it groups (Ok rows)
  over_found held groups rows holds found =
      (λ i. asked_over host now it (ap or_none holds.are i) (rows_read (bare_scene host now it.0 (ap or_none holds.are i)) it.1 (seen_in held).rows))
      ∙ ap (asked_over host now it groups) found

  -- what is permitted is planned over the rows that it reads, with the groups that are held
  pub planned_over : (groups : List Group) (rows : List Row) (planned : Result Plan NoPlan) (held : Held) → is_permitted it.0 it.1 ≡ true → HoldsGroups (Some held) groups
      → rows_read (bare_scene host now it.0 groups) it.1 (seen_in held).rows ≡ Ok rows → Plans planned (asked host.admin (seeing (scene_where groups (pulls it.1)) rows) it.1)
      → IsPlanned planned (requested host now it (seen_in held))
  planned_over groups rows planned held may holds found is =
      is_planned planned (requested host now it (seen_in held))
      (subst (λ (e : Effect Reply). Plans planned e) (sym (by_role (seen_in held) true may ∙ over_found held groups rows holds found)) (with_partner groups rows planned (pulls it.1) refl is))

  -- the same where the keeper may not tell what it holds
  pub asked_planned : (groups : List Group) (rows : List Row) (planned : Result Plan NoPlan) (old : Option Held) → is_permitted it.0 it.1 ≡ true → HoldsGroups old groups
      → IfSome old (λ held. rows_read (bare_scene host now it.0 groups) it.1 (seen_in held).rows ≡ Ok rows) → IfSome old (λ held. IsTable rows)
      → (IsTable rows → Plans planned (asked host.admin (seeing (scene_where groups (pulls it.1)) rows) it.1))
      → IfSome old (λ held. IsPlanned planned (requested host now it (seen_in held)))
  asked_planned groups rows planned None may holds found table is = tt
  asked_planned groups rows planned (Some held) may holds found table is = planned_over groups rows planned held may holds found (is table)

-- nothing is both permitted and not
pub not_both : {P : Type 0} (may : Bool) → may ≡ true → may ≡ false → P
not_both true yes_ no_ = absurd cc
not_both false yes_ no_ = absurd cc

-- just so, and the keeper is as it was
pub just_barred : (i : Standing) (ask : Ask) (no : NoPlan) → Plans (Err no) (refused (forbidden ask)) → IsBarred {A = Plan} (forbidden ask) i i (Err no)
just_barred i ask (NoPlan.Refused refusal) plans =
    let just : Reply.Refused refusal ≡ Reply.Refused (forbidden ask) = sym (ap (λ (e : Effect Reply). e.reply) plans.is) in
    let same : refusal ≡ forbidden ask = cc in
    record { just = inl (ap (λ (r : Refusal). Err (NoPlan.Refused r)) same); still = refl }
just_barred i ask NoPlan.KeeperFault plans = absurd plans
just_barred i ask NoPlan.NoMemory plans = record { just = inr refl; still = refl }

-- ---- faults of reading

-- a keeper's fault is told of a keeper's fault alone
pub told_of_keeper : (fault : LoadFault) (why : NoPlan) → TellsFault fault why → stop_planned {A = Plan} (Err why) ≡ by_keeper → fault ≡ LoadFault.KeeperFault
told_of_keeper LoadFault.KeeperFault why told is = refl
told_of_keeper (LoadFault.BadRow name) why told is = absurd (asks_none (Err why) (refused (bad_row name)) told is)
told_of_keeper LoadFault.NoMemory why told is =
    let none : stop_planned {A = Plan} (Err NoPlan.NoMemory) ≡ by_keeper = subst (λ (w : NoPlan). stop_planned {A = Plan} (Err w) ≡ by_keeper) told is in
    absurd cc

-- and it is told of each
pub keeper_told : (fault : LoadFault) (why : NoPlan) → TellsFault fault why → fault ≡ LoadFault.KeeperFault → stop_planned {A = Plan} (Err why) ≡ by_keeper
keeper_told fault why told is = ap (λ (w : NoPlan). stop_planned {A = Plan} (Err w)) (subst (λ (f : LoadFault). TellsFault f why) is told)
