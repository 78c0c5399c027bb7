-- What a peer answers where groups, or a package, are handed in.
use Rattle.std.proofs.Common.{◌≡◌, ◌≤◌, ◌∙◌, ℕ, Bool, true, false, List, length, map, Option, None, Some, Result, Ok, Err, ap, arith, if◌then◌else◌}
use Rattle.misp_effects.specs.Batches.{Batch, put_batches}
use Rattle.misp_format.specs.WholeGroup.{groups_text, uncarried}
use Rattle.misp_model.proofs.Prelude.{length-map}
use Rattle.misp_model.specs.Package.{IsPackage}
use Rattle.misp_model.specs.Permission.{no_permission}
use Rattle.misp_model.specs.declared.package.PackageFields.{PackageFields as Package}
use Rattle.misp_orgs.specs.Admin.{who_of}
use Rattle.misp_orgs.specs.Roles.{permits}
use Rattle.misp_orgs.specs.declared.role.Perm.{Perm}
use Rattle.misp_package.specs.Spelling.{spell_package}
use Rattle.misp_store.specs.declared.reach.Reach.{Reach}
use Rattle.misp_core.specs.Answers.{bad_row}
use Rattle.misp_core.specs.Effects.{row_batches}
use Rattle.misp_core.specs.HandedGroups.{group_batches, groups_put}
use Rattle.misp_core.specs.Prelude.{Ask, Caller, Group, Held, Host, Row, RuleName, asked_over, asked_where, bare, forbidden, groups_of, refused, scene_at, seen_in, spelled}
use Rattle.misp_core.specs.Taking.{groups_taken, package_taken}
use Rattle.misp_core.proofs.HandedAsks.{asked_known}
use Rattle.misp_client.specs.Calling.{called_as, called_by, is_short, too_large}
use Rattle.misp_client.specs.Calls.{body_of}
use Rattle.misp_client.specs.Telling.{refused_as}
use Rattle.misp_client.specs.declared.call.Call.{Call}
use Rattle.misp_client.proofs.RefusedCalls.{told_at_most}
use Rattle.misp_client.proofs.Suiting.{few_groups, few_rows}
use Rattle.misp_protocol.specs.declared.cause.Cause.{Cause}
use Rattle.misp_protocol.specs.declared.request.Answer.{Answer}
use Rattle.misp_sync.specs.WireAnswers.{call_answer, told_with, with_held}

module _ (peer : Host) (key : List ℕ) (held : Held) where
  abbrev answer_to : Call → Result (Answer × Held) Cause
  answer_to call = call_answer peer key held (Some call)

  -- what is held with these put
  abbrev with_batches : List Batch → Held
  with_batches bs = put_batches (map spelled bs) held

  -- ---- any call

  module _ (call : Call) where
    abbrev by : Bool → Option Caller → Result (Answer × Held) Cause
    by short found = told_with held call (if short then called_as peer 0 found call (seen_in held) else refused too_large)

    pub long_refused : is_short (body_of call) ≡ false → answer_to call ≡ Err (refused_as too_large)
    long_refused short = ap (λ b. by b (who_of peer.admin key)) short

    pub unknown_refused : is_short (body_of call) ≡ true → who_of peer.admin key ≡ None → answer_to call ≡ Err (refused_as (bare RuleName.NoKey))
    unknown_refused short who = λ i. by (short i) (who i)

    pub answer_by : (caller : Caller) → is_short (body_of call) ≡ true → who_of peer.admin key ≡ Some caller
        → answer_to call ≡ told_with held call (called_by peer 0 caller call (seen_in held))
    answer_by caller short who = λ i. by (short i) (who i)

  module _ (caller : Caller) (who : who_of peer.admin key ≡ Some caller) where
    -- ---- groups

    module _ (gs : List Group) (short : is_short (groups_text gs) ≡ true) where
      -- those that are taken
      abbrev new_groups : List Group
      new_groups = groups_taken (groups_of held) (map uncarried gs)

      abbrev groups_if : Bool → Result (Answer × Held) Cause
      groups_if may = told_with held (Call.TakeGroups gs) (if may then groups_put new_groups else refused (no_permission Perm.Sync))

      pub groups_barred : permits caller.role Perm.Sync ≡ false → answer_to (Call.TakeGroups gs) ≡ Err (refused_as (no_permission Perm.Sync))
      groups_barred may = answer_by (Call.TakeGroups gs) caller short who ∙ ap groups_if may

      pub few_new : length new_groups ≤ length gs
      few_new =
          let few = few_groups (groups_of held) (map uncarried gs) in
          let same = length-map gs uncarried in
          omega (arith, few, same)

      pub groups_answered : permits caller.role Perm.Sync ≡ true → answer_to (Call.TakeGroups gs) ≡ Ok (Answer.Taken (length new_groups), with_batches (group_batches new_groups))
      groups_answered may =
          answer_by (Call.TakeGroups gs) caller short who
          ∙ ap groups_if may
          ∙ ap (λ told. with_held told (with_batches (group_batches new_groups))) (told_at_most (length gs) (length new_groups) few_new)

    -- ---- a package

    module _ (p : Package) (short : is_short (spell_package p) ≡ true) (may : permits caller.role Perm.Sync ≡ true) where
      abbrev part_if : Bool → Result (Answer × Held) Cause
      part_if may = told_with held (Call.TakePart p) (if may then asked_where peer 0 (caller, Ask.TakePart p) (seen_in held) else refused (forbidden (Ask.TakePart p)))

      part_over : (read : Result (List Row) (List ℕ)) → (seen_in held).rows (Reach.Event p.event) ≡ read
          → answer_to (Call.TakePart p) ≡ told_with held (Call.TakePart p) (asked_over peer 0 (caller, Ask.TakePart p) (groups_of held) read)
      part_over read is =
          answer_by (Call.TakePart p) caller short who
          ∙ ap part_if may
          ∙ ap (λ read. told_with held (Call.TakePart p) (asked_over peer 0 (caller, Ask.TakePart p) (groups_of held) read)) is

      pub part_unread : (name : List ℕ) → (seen_in held).rows (Reach.Event p.event) ≡ Err name → answer_to (Call.TakePart p) ≡ Err (refused_as (bad_row name))
      part_unread name is = part_over (Err name) is

      pub part_answered : IsPackage p → (rows : List Row) → (seen_in held).rows (Reach.Event p.event) ≡ Ok rows
          → answer_to (Call.TakePart p)
          ≡ Ok (Answer.Taken (length (package_taken peer.name rows (groups_of held) caller.org p)), with_batches (row_batches (package_taken peer.name rows (groups_of held) caller.org p)))
      part_answered packs rows is =
          let taken : List Row = package_taken peer.name rows (groups_of held) caller.org p in
          part_over (Ok rows) is
          ∙ ap (told_with held (Call.TakePart p)) (asked_known peer.admin (scene_at peer 0 caller (groups_of held)) rows p packs)
          ∙ ap (λ told. with_held told (with_batches (row_batches taken))) (told_at_most (length p.rows) (length taken) (few_rows peer.name rows (groups_of held) p caller.org))
