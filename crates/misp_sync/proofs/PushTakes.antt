-- What a push takes, where this is held here and at the peer.
use Rattle.std.proofs.Common.{◌≡◌, ◌∙◌, ℕ, Bool, true, false, List, [], ◌∷◌, length, map, Option, None, Some, Result, Ok, Err, refl, ap, subst, inl, inr, if◌then◌else◌}
use Rattle.std.specs.List.{AllByRecursion}
use Rattle.misp_ids.specs.Uid.{IsUid}
use Rattle.misp_ids.specs.declared.label.Direction.{Direction}
use Rattle.misp_effects.specs.Batches.{batch}
use Rattle.misp_format.specs.WholeGroup.{groups_text, uncarried}
use Rattle.misp_groups.specs.Changes.{take_groups}
use Rattle.misp_history.specs.Merging.{merged}
use Rattle.misp_model.specs.Package.{IsPackage}
use Rattle.misp_model.specs.Permission.{no_permission}
use Rattle.misp_model.specs.declared.package.PackageFields.{PackageFields as Package}
use Rattle.misp_orgs.specs.Admin.{who_of}
use Rattle.misp_orgs.specs.Roles.{permits}
use Rattle.misp_orgs.specs.declared.link.Link.{Link}
use Rattle.misp_orgs.specs.declared.role.Perm.{Perm}
use Rattle.misp_package.specs.Spelling.{spell_package}
use Rattle.misp_store.specs.declared.reach.Reach.{Reach}
use Rattle.misp_core.specs.Answers.{bad_row}
use Rattle.misp_core.specs.Effects.{row_batches}
use Rattle.misp_core.specs.Prelude.{Caller, Effect, Group, Held, Host, OrgId, Row, RuleName, bare, groups_of, seen_in}
use Rattle.misp_core.specs.Sending.{packages_pushed}
use Rattle.misp_core.specs.Taking.{groups_taken, handed_rows, package_taken, with_groups}
use Rattle.misp_client.specs.Calling.{is_short, too_large}
use Rattle.misp_client.specs.Telling.{refused_as}
use Rattle.misp_client.specs.declared.call.Call.{Call}
use Rattle.misp_client.proofs.Suiting.{few_rows}
use Rattle.misp_dialogue.specs.Parties.{Conduct}
use Rattle.misp_dialogue.specs.Taking.{Takes}
use Rattle.misp_protocol.specs.Counts.{no_tally}
use Rattle.misp_protocol.specs.Text.{synchronising}
use Rattle.misp_protocol.specs.TextTakes.{AllTaken, PackagesCome}
use Rattle.misp_protocol.specs.Values.{IsAskable}
use Rattle.misp_protocol.specs.declared.cause.Cause.{Cause}
use Rattle.misp_protocol.specs.declared.request.Answer.{Answer}
use Rattle.misp_protocol.specs.declared.request.Request.{Request}
use Rattle.misp_protocol.proofs.PushText.{groups_refused}
use Rattle.misp_sync.specs.OwnAnswers.{batching, own_conduct}
use Rattle.misp_sync.specs.Pulled.{behind_all, ends}
use Rattle.misp_sync.specs.Pushed.{RowsOf, all_pushed, groups_carried, over_rows, packages_of, packages_sent, parts_pushed, parts_taken, pushed_by, pushed_through, rows_seen, with_event}
use Rattle.misp_sync.specs.Ways.{push_way}
use Rattle.misp_sync.specs.WireAnswers.{IsPeerHeld, wire_conduct}
use Rattle.misp_sync.proofs.PeerTakes.{few_new, groups_answered, groups_barred, long_refused, part_answered, part_unread, unknown_refused}
use Rattle.misp_sync.proofs.SameRows.{AreSame, SameRows, groups_kept, same_put, same_seen}
use Rattle.misp_sync.proofs.TakenGroups.{groups_put_so, groups_then, rows_stay, taken_are, uncarried_are}
use Rattle.misp_sync.proofs.TakenRows.{rows_are_taken, taken_ours, taken_same, with_put}
use Rattle.misp_protocol.proofs.PushText as text
use Rattle.misp_sync.specs.OwnAnswers as answers

-- ---- packages, one after another

module _ (peer : Host) (key : List ℕ) (caller : Caller) (who : who_of peer.admin key ≡ Some caller) (may : permits caller.role Perm.Sync ≡ true) (owner : IsUid caller.org.0)
    (groups : List Group) where
  abbrev kb : Conduct Held Request Answer Cause
  kb = wire_conduct (Some peer) key

  abbrev w : OrgId
  w = caller.org

  -- the packages are taken so that it comes to this
  abbrev Comes : Held → List Package → Effect (Option Cause) → Type 0
  Comes held ps e = AllTaken kb batching held ps e.batches e.reply

  module _ (p : Package) (packs : IsPackage p) (ps : List Package) (held : Held) (of : RowsOf) (known : groups_of held ≡ groups) (same : AreSame w held of)
      (rest : (next : Held) (of : RowsOf) → groups_of next ≡ groups → AreSame w next of → Comes next ps (parts_taken peer.name w groups of ps)) where
    abbrev over : List Row → Effect (Option Cause)
    over rows =
        behind_all (row_batches (package_taken peer.name rows groups w p))
        (parts_taken peer.name w groups (with_event p.event (merged peer.name rows groups (handed_rows w p)) of) ps)

    refused_so : (cause : Cause) → kb.answer held (Request.TakePart p) ≡ Err cause → Comes held (p ∷ ps) (ends (Some cause))
    refused_so cause is = inl (cause, is, refl, refl)

    taken_so : is_short (spell_package p) ≡ true → (xs ys : List Row) → rows_seen (seen_in held) p.event ≡ Ok xs → SameRows w (Ok xs) (Ok ys) → Comes held (p ∷ ps) (over ys)
    unfolding merged
    taken_so short xs ys read alike =
        let taken : List Row = package_taken peer.name ys groups w p in
        let ours = taken_ours w owner p packs peer.name groups ys in
        let as_many : package_taken peer.name xs (groups_of held) w p ≡ taken =
        ap (λ gs. package_taken peer.name xs gs w p) known ∙ taken_same w owner p packs peer.name groups xs ys alike in
        let answers : kb.answer held (Request.TakePart p) ≡ Ok (Answer.Taken (length taken), with_put taken held) =
        part_answered peer key held caller who p short may packs xs read ∙ ap (λ rows. Ok (Answer.Taken (length rows), with_put rows held)) as_many in
        inr (
          length taken,
          row_batches taken,
          (parts_taken peer.name w groups (with_event p.event (merged peer.name ys groups (handed_rows w p)) of) ps).batches,
          with_put taken held,
          rows_are_taken kb held p w taken answers (few_rows peer.name ys groups p w) (λ ask. ours),
          refl,
          λ ask. rest (with_put taken held) _ (groups_kept taken held ∙ known)
              (same_put w p.event held of same xs ys read alike taken ours),
        )

    by_rows : is_short (spell_package p) ≡ true → (read told : Result (List Row) (List ℕ)) → rows_seen (seen_in held) p.event ≡ read → SameRows w read told
        → Comes held (p ∷ ps) (over_rows told over)
    by_rows short (Ok xs) (Ok ys) read alike = taken_so short xs ys read alike
    by_rows short (Ok xs) (Err name) read alike = absurd alike
    by_rows short (Err name) (Ok ys) read alike = absurd alike
    by_rows short (Err name) (Err other) read alike =
        subst (λ name. Comes held (p ∷ ps) (ends (Some (refused_as (bad_row name))))) alike (refused_so (refused_as (bad_row name)) (part_unread peer key held caller who p short may name read))

    by_short : (b : Bool) → is_short (spell_package p) ≡ b → Comes held (p ∷ ps) (if b then over_rows (of p.event) over else ends (Some (refused_as too_large)))
    by_short true short = by_rows short (rows_seen (seen_in held) p.event) (of p.event) refl (same p.event)
    by_short false long = refused_so (refused_as too_large) (long_refused peer key held (Call.TakePart p) long)

    part_comes : Comes held (p ∷ ps) (parts_taken peer.name w groups of (p ∷ ps))
    unfolding parts_taken
    part_comes = by_short (is_short (spell_package p)) refl

  pub parts_come : (ps : List Package) → AllByRecursion IsPackage ps → (held : Held) (of : RowsOf) → groups_of held ≡ groups → AreSame w held of
      → Comes held ps (parts_taken peer.name w groups of ps)
  unfolding parts_taken
  parts_come [] packs held of known same = (refl, refl)
  parts_come (p ∷ ps) packs held of known same = part_comes p packs.0 ps held of known same (parts_come ps packs.1)

-- ---- the push

module _ (here peer : Host) (link : Link) (own there : Held) where
  abbrev ka : Conduct Held Request Answer Cause
  ka = own_conduct (here, link)

  abbrev theirs : Conduct Held Request Answer Cause
  theirs = wire_conduct (Some peer) link.key

  abbrev gs : List Group
  gs = groups_carried link (seen_in own)

  abbrev sent : Result (List Package) Cause
  sent = packages_sent here.name link (seen_in own)

  -- the push takes what this comes to
  abbrev Pushes : Effect (Option Cause) → Type 0
  Pushes e = Takes ka theirs batching (synchronising Direction.Push no_tally) own there no_tally e.batches e.reply

  groups_fail : (cause : Cause) → theirs.answer there (Request.TakeGroups gs) ≡ Err cause → Pushes (ends (Some cause))
  groups_fail cause bad = groups_refused ka theirs batching Direction.Push no_tally own there gs cause refl bad

  module _ (caller : Caller) (who : who_of peer.admin link.key ≡ Some caller) (may : permits caller.role Perm.Sync ≡ true) where
    abbrev new : List Group
    new = groups_taken (groups_of there) (map uncarried gs)

    abbrev known : List Group
    known = take_groups (groups_of there) (map uncarried gs)

    abbrev Lists : Effect (Option Cause) → Type 0
    Lists e = PackagesCome ka theirs batching own (with_groups new there) e.batches e.reply

    abbrev parts : List Row → List Package
    parts rows = packages_pushed (push_way link.internal) here.name (groups_of own) link.push_org link.peer rows

    answered : (read : Result (List Row) (List ℕ)) → (seen_in own).rows Reach.All ≡ read
        → ka.answer own Request.Packages ≡ answers.over_rows read (λ rows. (Answer.Packages (parts rows), own))
    answered read is = ap (λ read. answers.over_rows read (λ rows. (Answer.Packages (parts rows), own))) is

    lists : IsPeerHeld (Some peer) there → IsAskable (Request.TakeGroups gs) → (read : Result (List Row) (List ℕ)) → (seen_in own).rows Reach.All ≡ read
        → Lists (parts_pushed peer.name caller.org known (rows_seen (seen_in there)) (packages_of here.name link (groups_of own) read))
    lists holds are (Err name) is = inl (Cause.BadRow name, answered (Err name) is, refl, refl)
    lists holds are (Ok rows) is = inr (
      parts rows,
      answered (Ok rows) is,
      λ packs. parts_come peer link.key caller who may (holds.owners link.key caller who) known (parts rows) packs (with_groups new there) (rows_seen (seen_in there))
          (groups_then there (map uncarried gs) holds.groups (taken_are (groups_of there) (map uncarried gs) (uncarried_are gs are)))
          (same_seen caller.org (with_groups new there) there (rows_stay new there)),
    )

    all_go : is_short (groups_text gs) ≡ true → Pushes (all_pushed peer.name caller.org (seen_in there) (map uncarried gs) sent)
    all_go short =
        let e = parts_pushed peer.name caller.org known (rows_seen (seen_in there)) sent in
        text.push_takes ka theirs batching no_tally own there (batch [] new) e.batches e.reply (record {
          gs = gs;
          first = record {
            count = length new;
            passes = refl;
            taken = groups_answered peer link.key there caller who gs short may ∙ ap (λ held. Ok (Answer.Taken (length new), held)) (groups_put_so new there);
            few = few_new peer link.key there caller who gs short;
            fits = λ are. record { rows = tt; groups = taken_are (groups_of there) (map uncarried gs) (uncarried_are gs are); items = tt };
            counts = refl;
          };
          come = λ holds are. lists holds are ((seen_in own).rows Reach.All) refl;
        })

  by_role : (caller : Caller) → who_of peer.admin link.key ≡ Some caller → is_short (groups_text gs) ≡ true → (may : Bool) → permits caller.role Perm.Sync ≡ may
      → Pushes (if may then all_pushed peer.name caller.org (seen_in there) (map uncarried gs) sent else ends (Some (refused_as (no_permission Perm.Sync))))
  by_role caller who short true may = all_go caller who may short
  by_role caller who short false may = groups_fail (refused_as (no_permission Perm.Sync)) (groups_barred peer link.key there caller who gs short may)

  by_key : is_short (groups_text gs) ≡ true → (found : Option Caller) → who_of peer.admin link.key ≡ found → Pushes (pushed_by peer found (seen_in there) gs sent)
  by_key short None who = groups_fail (refused_as (bare RuleName.NoKey)) (unknown_refused peer link.key there (Call.TakeGroups gs) short who)
  by_key short (Some caller) who = by_role caller who short (permits caller.role Perm.Sync) refl

  by_length : (short : Bool) → is_short (groups_text gs) ≡ short
      → Pushes (if short then pushed_by peer (who_of peer.admin link.key) (seen_in there) gs sent else ends (Some (refused_as too_large)))
  by_length true short = by_key short (who_of peer.admin link.key) refl
  by_length false long = groups_fail (refused_as too_large) (long_refused peer link.key there (Call.TakeGroups gs) long)

  pub push_takes : Pushes (pushed_through here.name link peer (seen_in own) (seen_in there))
  push_takes = by_length (is_short (groups_text gs)) refl
