-- The packages that are kept for a caller are what it is answered.
use Rattle.std.proofs.Common.{◌≡◌, inl, inr, ℕ, List, Bool, true, false, cond, ap, sym, subst, ◌∙◌, map, option_map, unwrap_or, get_or, Option, Some, None, Result, Ok, Err, IfOk, IfSome, IsSomeAnd, refl}
use Rattle.std.specs.List.{slice_get}
use Rattle.std.proofs.lemmas.Option.{slice_get-map, unwrap_or-slice_get}
use Rattle.misp_orgs.specs.Keys.{CallerFields as Caller}
use Rattle.misp_model.proofs.Prelude.{IfSome_then, IsTable}
use Rattle.misp_manifest.specs.declared.wanted.WantedFields.{WantedFields as Wanted}
use Rattle.misp_model.specs.Manifests.{only_of}
use Rattle.misp_model.specs.Pulling.{pulled_part, pulled_rows}
use Rattle.misp_model.specs.declared.package.PackageFields.{PackageFields as Package}
use Rattle.misp_store.specs.Sharing.{HoldsGroups, or_none}
use Rattle.misp_store.specs.declared.reach.Reach.{Reach}
use Rattle.misp_core.specs.Ahead.{AnswersAhead, IsKept, IsKeptFor, IsLeftOf, IsPackedFor, StaysOrIsPacked, kept_part, part_told}
use Rattle.misp_core.specs.Prelude.{Answer, Ask, Effect, EventId, Group, Held, Host, IsPlanned, Reply, Row, Scene, Seen, asked_over, asked_where, forbidden, groups_in, is_permitted, refused, requested, scene_at, seeing, seen_in}
use Rattle.misp_core.specs.declared.ahead.Ahead.{Ahead}
use Rattle.misp_core.specs.Answers.{bad_row, bare_scene}
use Rattle.misp_core.specs.Reading.{rows_read}
use Rattle.misp_core.proofs.Answered.{by_role}
use Rattle.misp_core.proofs.Decisions.{part_shown, rows_of_shown}
use Rattle.misp_core.proofs.Reported.{ahead_unseen}

-- in slots the package of a number is the one of that number in the list
pub in_slots : (ps : List Package) (n : ℕ) → get_or (map Some ps) n None ≡ slice_get ps n
in_slots ps n = sym (unwrap_or-slice_get (map Some ps) n None) ∙ ap (λ o. unwrap_or o None) (slice_get-map Some ps n) ∙ one (slice_get ps n)
  where
    one : (o : Option Package) → unwrap_or (option_map Some o) None ≡ o
    one None = refl
    one (Some p) = refl

-- so what is said of the list is said of the slots
pub slots_hold : {E : Type 0} (made : Result Ahead E) (ps : List Package) (wanted : ℕ → Option Package) → IfOk made (λ a. a.parts.items ≡ map Some ps) → ((n : ℕ) → wanted n ≡ slice_get ps n)
    → IfOk made (λ a. (n : ℕ) → wanted n ≡ kept_part a n)
slots_hold (Ok a) ps wanted are is = λ n. is n ∙ sym (in_slots ps n) ∙ ap (λ (l : List (Option Package)). get_or l n None) (sym are)
slots_hold (Err e) ps wanted are is = tt

-- of a package that is kept the wanted rows are
pub rows_kept : (old : Option Ahead) (by : Caller) (w : Wanted) (whole p : Package) → p ≡ only_of w.keys whole → IsSomeAnd old (λ a. IsKept a by w.event w.part whole)
    → IsSomeAnd old (λ a. IsKeptFor a by (Ask.SyncRows w) p)
rows_kept None by w whole p is kept = absurd kept
rows_kept (Some a) by w whole p is kept = (whole, (kept, is))

module _ (host : Host) where
  -- where a package is told, so are the wanted rows of it
  rows_told : (now : ℕ) (by : Caller) (w : Wanted) (seen : Seen) (p : Package) → requested host now (by, Ask.SyncPart w.event w.part) seen ≡ part_told p → requested host now (by, Ask.SyncRows w) seen ≡ part_told (only_of w.keys p)
  rows_told now by w seen p = one (is_permitted by (Ask.SyncPart w.event w.part))
    where
      over : (read : Result (List Row) (List ℕ)) → asked_over host now (by, Ask.SyncPart w.event w.part) seen.groups read ≡ part_told p → asked_over host now (by, Ask.SyncRows w) seen.groups read ≡ part_told (only_of w.keys p)
      over (Ok rows) told = rows_of_shown host.admin (seeing (scene_at host now by seen.groups) rows) w p told
      over (Err name) told = let same : Reply.Refused (bad_row name) ≡ Reply.Ok (Answer.Part p) = ap (λ (e : Effect Reply). e.reply) told in absurd cc

      one : (may : Bool) → cond may (asked_where host now (by, Ask.SyncPart w.event w.part) seen) (refused (forbidden (Ask.SyncPart w.event w.part))) ≡ part_told p
          → cond may (asked_where host now (by, Ask.SyncRows w) seen) (refused (forbidden (Ask.SyncRows w))) ≡ part_told (only_of w.keys p)
      one true told = over (seen.rows (Reach.Event w.event)) told
      one false told = let same : Reply.Refused (forbidden (Ask.SyncPart w.event w.part)) ≡ Reply.Ok (Answer.Part p) = ap (λ (e : Effect Reply). e.reply) told in absurd cc

  -- the package that is kept for an ask is planned for it
  pub kept_planned : (held : Option Held) (now : ℕ) (by : Caller) (ask : Ask) (kept : Option Ahead) (p : Package) → IfSome kept (AnswersAhead host held) → IsSomeAnd kept (λ a. IsKeptFor a by ask p)
      → IfSome held (λ h. IsPlanned (Ok (record { answer = Answer.Part p; batch = None })) (requested host now (by, ask) (seen_in h)))
  kept_planned held now by ask None p answers is = absurd is
  kept_planned held now by (Ask.SyncPart e n) (Some a) p answers is =
      IfSome_then held (answers n p is.part)
      (λ h told. record { is = (λ i. requested host now (sym is.caller i, Ask.SyncPart (sym is.event i) n) (seen_in h)) ∙ told now; are_rows = tt })
  kept_planned held now by (Ask.SyncRows w) (Some a) p answers is =
      IfSome_then held (answers w.part is.0 is.1.0.part)
      (λ h told. record {
        is = rows_told now by w (seen_in h) is.0 ((λ i. requested host now (sym is.1.0.caller i, Ask.SyncPart (sym is.1.0.event i) w.part) (seen_in h)) ∙ told now) ∙ ap part_told (sym is.1.1);
        are_rows = tt;
      })
  kept_planned held now by ask (Some a) p answers is = absurd is

  -- what is left are answers still
  pub left_answers : (held : Option Held) (old new : Option Ahead) → IfSome old (AnswersAhead host held) → IfSome new (λ b. IsSomeAnd old (λ a. IsLeftOf a b)) → IfSome new (AnswersAhead host held)
  left_answers held old None answers left = tt
  left_answers held None (Some b) answers left = absurd left
  left_answers held (Some a) (Some b) answers left = λ n p k.
      IfSome_then held (answers n p (left.parts n p k))
      (λ h told. λ now. (λ i. requested host now (left.caller i, Ask.SyncPart (left.event i) n) (seen_in h)) ∙ told now)

  module _ (h : Held) (groups : List Group) (rows : List Row) (moment : ℕ) (by : Caller) (holds : groups_in h.admin ≡ Ok groups) where
    abbrev scene_then : Scene
    scene_then = seeing (scene_at host moment by groups) rows

    -- what is packed at one moment is answered at any
    part_answered : (e : EventId) (n : ℕ) (p : Package) → is_permitted by (Ask.SyncPart e n) ≡ true → (seen_in h).rows (Reach.Event e) ≡ Ok rows → pulled_part scene_then e n ≡ Some p
        → (now : ℕ) → requested host now (by, Ask.SyncPart e n) (seen_in h) ≡ part_told p
    unfolding pulled_part pulled_rows
    part_answered e n p may found packed now =
        by_role host now (by, Ask.SyncPart e n) (seen_in h) true may
        ∙ (λ i. asked_over host now (by, Ask.SyncPart e n) (ap or_none holds i) (found i))
        ∙ (part_shown host.admin (seeing (scene_at host now by groups) rows) e n p packed).is

    packed_answers : (ask : Ask) (new : Option Ahead) → is_permitted by ask ≡ true → rows_read (bare_scene host moment by groups) ask (seen_in h).rows ≡ Ok rows → IfSome new (IsPackedFor scene_then by ask) → IfSome new (AnswersAhead host (Some h))
    packed_answers ask None may found packed = tt
    packed_answers (Ask.SyncPart e m) (Some a) may found packed = λ n p k. λ now.
        (λ i. requested host now (packed.caller i, Ask.SyncPart (packed.event i) n) (seen_in h)) ∙ part_answered e n p may found (packed.parts n p k) now
    packed_answers (Ask.SyncRows w) (Some a) may found packed = λ n p k. λ now.
        (λ i. requested host now (packed.caller i, Ask.SyncPart (packed.event i) n) (seen_in h)) ∙ part_answered w.event n p may found (packed.parts n p k) now
    packed_answers ask (Some a) may found packed = absurd packed

  -- what is kept once an ask is planned are answers
  pub still_answers : (held : Option Held) (groups : List Group) (rows : List Row) (moment : ℕ) (by : Caller) (ask : Ask) (old new : Option Ahead) → is_permitted by ask ≡ true → HoldsGroups held groups
      → IfSome held (λ h. rows_read (bare_scene host moment by groups) ask (seen_in h).rows ≡ Ok rows) → IfSome held (λ h. IsTable rows) → IfSome old (AnswersAhead host held)
      → (IsTable rows → StaysOrIsPacked (seeing (scene_at host moment by groups) rows) by ask old new) → IfSome new (AnswersAhead host held)
  still_answers None groups rows moment by ask old new may holds found table answers stays = ahead_unseen host new
  still_answers (Some h) groups rows moment by ask old new may holds found table answers stays = one (stays table)
    where
      one : StaysOrIsPacked (seeing (scene_at host moment by groups) rows) by ask old new → IfSome new (AnswersAhead host (Some h))
      one (inl same) = subst (λ o. IfSome o (AnswersAhead host (Some h))) (sym same) answers
      one (inr packed) = packed_answers h groups rows moment by holds.are ask new may found packed
