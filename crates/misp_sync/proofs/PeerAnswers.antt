-- What a peer answers to what a pull asks of it.
use Rattle.std.proofs.Common.{◌≡◌, ◌==◌, ◌∙◌, ℕ, Bool, true, false, cond, List, [], ◌∷◌, map, length, Option, None, Some, option_map, Result, Ok, Err, refl, sym, ap, subst, arith, if◌then◌else◌}
use Rattle.std.specs.List.{slice_get}
use Rattle.misp_lists.proofs.Lists.{all_of_kept}
use Rattle.misp_effects.specs.Effect.{Effect, left}
use Rattle.misp_effects.specs.Batches.{put_batches}
use Rattle.misp_ids.specs.declared.refusal.RuleName.{RuleName}
use Rattle.misp_orgs.specs.Admin.{who_of}
use Rattle.misp_manifest.specs.Wanted.{IsWanted}
use Rattle.misp_manifest.specs.declared.wanted.WantedFields.{WantedFields as Wanted}
use Rattle.misp_outside.specs.Held.{rows_of}
use Rattle.misp_outside.specs.declared.row.RawRow.{RawRow}
use Rattle.misp_model.proofs.Prelude.{EventId, Row, and_from, event_of, event_rows, nat_tests, same_event, same_event-refl}
use Rattle.misp_model.specs.Answers.{answer, ask_rules, ok_answer, part_rules}
use Rattle.misp_model.specs.Manifests.{is_asked_for, only_of, pulled_manifest, pulled_only}
use Rattle.misp_model.specs.Packing.{packages}
use Rattle.misp_model.specs.Pulling.{pulled_groups, pulled_packages, pulled_part, pulled_rows}
use Rattle.misp_model.specs.Scene.{NotGranted, first_rule}
use Rattle.misp_model.specs.declared.package.PackageFields.{PackageFields as Package}
use Rattle.misp_store.specs.Raw.{onto, row_in, rows_in}
use Rattle.misp_store.specs.declared.reach.Reach.{Reach}
use Rattle.misp_store.proofs.OwnNames.{event_under}
use Rattle.misp_store.proofs.TableRows.{onto_parts}
use Rattle.misp_core.specs.Answers.{bad_row, reply_in, reply_of as reply_by}
use Rattle.misp_core.specs.Effects.{asked}
use Rattle.misp_core.specs.Prelude.{Ask, Caller, Held, Host, Scene, asked_over, asked_where, bare, forbidden, groups_of, is_permitted, refused, requested, scene_at, seeing, seen_in, spelled}
use Rattle.misp_core.specs.declared.reply.Reply.{Reply}
use Rattle.misp_core.proofs.Pulled.{pulled_here}
use Rattle.misp_client.specs.Answers.{kind_of, or_garbled}
use Rattle.misp_client.specs.Bodies.{is_for}
use Rattle.misp_client.specs.Calling.{TakesNothing, called, called_as, too_large}
use Rattle.misp_client.specs.Telling.{refused_as, told}
use Rattle.misp_client.specs.declared.call.Call.{Call}
use Rattle.misp_client.proofs.Moments.{called_puts_nothing}
use Rattle.misp_protocol.specs.Parts.{parts_listed}
use Rattle.misp_protocol.specs.declared.cause.Cause.{Cause}
use Rattle.misp_protocol.specs.declared.request.Answer.{Answer}
use Rattle.misp_protocol.specs.declared.request.Request.{Request}
use Rattle.misp_sync.specs.Pulled.{groups_sent}
use Rattle.misp_sync.specs.WireAnswers.{call_answer, wire_answer, with_held}
use Rattle.misp_core.proofs.OtherEvents.{kept_out}
use Rattle.misp_client.proofs.ShortBodies.{wanted_short}
use Rattle.misp_core.specs.declared.reply.Answer.{Answer as Replied}
use Rattle.misp_model.specs.Answers as model

-- ---- rows of one event among all

module _ (e : EventId) where
  one_more : (b c : Bool) (raw : RawRow) (raws : List RawRow) (r : Row) (rows : List Row) → b ≡ c → row_in raw ≡ Some r → rows_in raws ≡ Ok rows
      → rows_in (cond b (raw ∷ raws) raws) ≡ Ok (cond c (r ∷ rows) rows)
  unfolding rows_in
  one_more true true raw raws r rows same is are = ap (λ found. onto raw.name found (rows_in raws)) is ∙ ap (onto raw.name (Some r)) are
  one_more false false raw raws r rows same is are = are
  one_more true false raw raws r rows same is are = absurd cc
  one_more false true raw raws r rows same is are = absurd cc

  same_number : (a b : EventId) → b ≡ a → (a.0.0 == e.0.0) ≡ same_event b e
  unfolding same_event
  same_number a b is = ap (λ (x : EventId). x.0.0 == e.0.0) (sym is)

  -- of rows that are all read, those of an event are read too
  pub read_so : (raws : List RawRow) (rows : List Row) → rows_in raws ≡ Ok rows → rows_in (rows_of e raws) ≡ Ok (event_rows e rows)
  unfolding rows_in rows_of
  read_so [] [] h = refl
  read_so [] (r ∷ rows) h = absurd cc
  read_so (raw ∷ raws) rows h =
      let p = onto_parts raw.name (row_in raw) (rows_in raws) rows h in
      subst (λ rs. rows_in (rows_of e (raw ∷ raws)) ≡ Ok (event_rows e rs)) p.3
      (one_more (raw.event.0.0 == e.0.0) (same_event (event_of p.0.0.key) e) raw (rows_of e raws) p.0.0 (event_rows e p.0.1)
      (same_number raw.event (event_of p.0.0.key) (event_under raw p.0.0 p.1)) p.1 (read_so raws p.0.1 p.2))

-- an event is asked from its own rows: their packages are those of the event
own_packages : (s : Scene) (e : EventId) (rows : List Row) → pulled_packages (seeing s (event_rows e rows)) e ≡ pulled_packages (seeing s rows) e
own_packages s e rows =
    ap (λ l. packages (event_rows e l)) (pulled_here s e rows)
    ∙ ap packages (kept_out (λ row. same_event (event_of row.key) e) (λ row. same_event (event_of row.key) e) (λ y h. h) (pulled_rows (seeing s rows)))

-- ---- packages that were asked for

eq_itself : (n : ℕ) → (n == n) ≡ true
eq_itself n = grind (arith, nat_tests)

module _ (w : Wanted) (p : Package) where
  for_wanted : p.event ≡ w.event → p.part ≡ w.part → is_for w (only_of w.keys p) ≡ true
  unfolding is_for only_of
  for_wanted event part =
      and_from _ _ (ap (λ e. same_event e w.event) event ∙ same_event-refl w.event)
      (and_from _ _ (ap (λ n. n == w.part) part ∙ eq_itself w.part)
      (all_of_kept (is_asked_for w.event w.keys) (is_asked_for p.event w.keys) (λ row h. ap (λ e. is_asked_for e w.keys row) (sym event) ∙ h) p.rows))

  part_told : p.event ≡ w.event → p.part ≡ w.part → told (Call.Rows w) (Reply.Ok (Replied.Part (only_of w.keys p))) ≡ Ok (Answer.Part (only_of w.keys p))
  part_told event part =
      ap (λ b. or_garbled (kind_of (Call.Rows w)) (option_map Answer.Part (if b then Some (only_of w.keys p) else None))) (for_wanted event part)

-- ---- calls that take nothing

module _ (peer : Host) (key : List ℕ) (held : Held) where
  abbrev replies : Call → Reply
  replies call = (called peer 0 key call (seen_in held)).reply

  nothing_left : (call : Call) → TakesNothing call → left spelled (called peer 0 key call (seen_in held)) held ≡ held
  nothing_left call none = ap (λ bs. put_batches (map spelled bs) held) (called_puts_nothing peer 0 (seen_in held) key call none)

  answer_is : (call : Call) → TakesNothing call → call_answer peer key held (Some call) ≡ with_held (told call (replies call)) held
  answer_is call none = ap (with_held (told call (replies call))) (nothing_left call none)

  -- a call that has no body, or a short one
  answer_as : (call : Call) → TakesNothing call → (e : Effect Reply) → called peer 0 key call (seen_in held) ≡ e
      → call_answer peer key held (Some call) ≡ with_held (told call e.reply) held
  answer_as call none e is = answer_is call none ∙ ap (λ (x : Effect Reply). with_held (told call x.reply) held) is

  -- ---- who may not

  pub nobody_answered : who_of peer.admin key ≡ None → wire_answer (Some peer) key held Request.Groups ≡ Err (refused_as (bare RuleName.NoKey))
  nobody_answered who = answer_as Call.Groups tt _ (ap (λ found. called_as peer 0 found Call.Groups (seen_in held)) who)

  module _ (caller : Caller) (who : who_of peer.admin key ≡ Some caller) where
    called_is : (call : Call) (ask : Ask) → called_as peer 0 (Some caller) call (seen_in held) ≡ requested peer 0 (caller, ask) (seen_in held)
        → called_as peer 0 (who_of peer.admin key) call (seen_in held) ≡ requested peer 0 (caller, ask) (seen_in held)
    called_is call ask is = ap (λ found. called_as peer 0 found call (seen_in held)) who ∙ is

    may_be : (ask : Ask) → (b : Bool) → is_permitted caller ask ≡ b
        → requested peer 0 (caller, ask) (seen_in held) ≡ (if b then asked_where peer 0 (caller, ask) (seen_in held) else refused (forbidden ask))
    may_be ask b may = ap (λ (b : Bool). if b then asked_where peer 0 (caller, ask) (seen_in held) else refused (forbidden ask)) may

    pub barred_answered : is_permitted caller Ask.SyncGroups ≡ false → wire_answer (Some peer) key held Request.Groups ≡ Err (refused_as (forbidden Ask.SyncGroups))
    barred_answered may = answer_as Call.Groups tt _ (called_is Call.Groups Ask.SyncGroups refl ∙ may_be Ask.SyncGroups false may)

    module _ (may : is_permitted caller Ask.SyncGroups ≡ true) where
      -- ---- groups

      groups_told : told Call.Groups (asked_where peer 0 (caller, Ask.SyncGroups) (seen_in held)).reply ≡ Ok (Answer.Groups (groups_sent peer caller (groups_of held)))
      unfolding reply_in answer ask_rules ok_answer first_rule pulled_groups rows_in
      groups_told = refl

      pub groups_answered : wire_answer (Some peer) key held Request.Groups ≡ Ok (Answer.Groups (groups_sent peer caller (groups_of held)), held)
      groups_answered =
          answer_as Call.Groups tt _ (called_is Call.Groups Ask.SyncGroups refl ∙ may_be Ask.SyncGroups true may)
          ∙ ap (λ r. with_held r held) groups_told

      -- ---- a manifest

      abbrev manifest_of : Result (List Row) (List ℕ) → Result Answer Cause
      manifest_of (Ok rows) = Ok (Answer.Manifest (parts_listed (pulled_manifest (seeing (scene_at peer 0 caller (groups_of held)) rows))))
      manifest_of (Err name) = Err (refused_as (bad_row name))

      manifest_told : (read : Result (List Row) (List ℕ)) → told Call.Manifest (asked_over peer 0 (caller, Ask.SyncManifest) (groups_of held) read).reply ≡ manifest_of read
      unfolding reply_in answer ask_rules ok_answer first_rule
      manifest_told (Ok rows) = refl
      manifest_told (Err name) = refl

      pub manifest_answered : (read : Result (List Row) (List ℕ)) → (seen_in held).rows Reach.All ≡ read
          → wire_answer (Some peer) key held Request.Manifest ≡ with_held (manifest_of read) held
      manifest_answered read is =
          answer_as Call.Manifest tt _ (called_is Call.Manifest Ask.SyncManifest refl ∙ may_be Ask.SyncManifest true may)
          ∙ ap (λ r. with_held r held) (manifest_told ((seen_in held).rows Reach.All) ∙ ap manifest_of is)

      -- ---- rows of a package

      module _ (rows : List Row) (read : (seen_in held).rows Reach.All ≡ Ok rows) (w : Wanted) (is : IsWanted w) where
        abbrev scene : Scene
        scene = scene_at peer 0 caller (groups_of held)

        abbrev its_rows : List Row
        its_rows = event_rows w.event rows

        abbrev part : List Row → Package
        part p = record { event = w.event; part = w.part; parts = length (pulled_packages (seeing scene rows) w.event); rows = p }

        part_there : (p : List Row) → slice_get (pulled_packages (seeing scene rows) w.event) w.part ≡ Some p
            → pulled_part (seeing scene its_rows) w.event w.part ≡ Some (part p)
        unfolding pulled_part
        part_there p at =
            ap (λ ps. option_map (λ rows. record { event = w.event; part = w.part; parts = length ps; rows = rows }) (slice_get ps w.part)) (own_packages scene w.event rows)
            ∙ ap (option_map part) at

        abbrev reply_for : Option Package → model.Reply
        reply_for o =
            elim (first_rule ((elim o [ None ↦ true | Some p ↦ false ], NotGranted) ∷ [])) [
              | None ↦ elim (option_map (only_of w.keys) o) [ None ↦ model.Other | Some p ↦ model.Packed p ]
              | Some r ↦ model.Refused r
            ]

        rows_replied : (p : Package) → pulled_part (seeing scene its_rows) w.event w.part ≡ Some p
            → reply_in peer.admin (seeing scene its_rows) (Ask.SyncRows w) ≡ Reply.Ok (Replied.Part (only_of w.keys p))
        unfolding reply_in answer ask_rules ok_answer first_rule pulled_only
        rows_replied p is = ap (λ o. reply_by peer.admin (seeing scene its_rows) (Ask.SyncRows w) (reply_for o)) is

        rows_called : called peer 0 key (Call.Rows w) (seen_in held) ≡ asked peer.admin (seeing scene its_rows) (Ask.SyncRows w)
        rows_called =
            ap (λ (b : Bool). if b then called_as peer 0 (who_of peer.admin key) (Call.Rows w) (seen_in held) else refused too_large) (wanted_short w is)
            ∙ called_is (Call.Rows w) (Ask.SyncRows w) refl
            ∙ may_be (Ask.SyncRows w) true may
            ∙ ap (asked_over peer 0 (caller, Ask.SyncRows w) (groups_of held)) (read_so w.event held.rows rows read)

        pub rows_answered : (p : List Row) → slice_get (pulled_packages (seeing scene rows) w.event) w.part ≡ Some p
            → wire_answer (Some peer) key held (Request.Rows w) ≡ Ok (Answer.Part (only_of w.keys (part p)), held)
        rows_answered p at =
            answer_as (Call.Rows w) tt _ rows_called
            ∙ ap (λ r. with_held (told (Call.Rows w) r) held) (rows_replied (part p) (part_there p at))
            ∙ ap (λ r. with_held r held) (part_told w (part p) refl refl)
