-- Two scenes in which an ask comes to the same: over the rows within its reach and over all, and whatever the number of its act and the partner of its caller's key.
use Rattle.std.proofs.Common.{◌≡◌, ℕ, List, [], ◌∷◌, Bool, true, false, Option, refl, ap, sym, subst, ◌∙◌, map, filter, cond, arith, Some, None, option_map, Result, Ok}
use Rattle.misp_outside.specs.Held.{rows_named}
use Rattle.misp_effects.specs.Effect.{effect}
use Rattle.misp_model.proofs.Prelude.{event_rows, length-map, map-map, ok_answer, uid}
use Rattle.misp_model.specs.Answers.{concerning}
use Rattle.misp_model.specs.Pulling.{pulled_groups}
use Rattle.misp_model.specs.Scene.{Partner}
use Rattle.misp_model.specs.Machine.{event_asked, event_changed, hands_in, pulls}
use Rattle.misp_model.specs.Numbers.{scene_as, version_as, versions_as, reply_as}
use Rattle.misp_model.specs.declared.looks.Looks.{Looks}
use Rattle.misp_model.specs.Looking.{at_event, at_shown, beside, change_looks, last_looks, looks_at, looks_of, more_for_change, more_looks, over, rows_seen_by}
use Rattle.misp_model.proofs.Looked.{first_within_last, more_same}
use Rattle.misp_model.specs.Scene.{holds_copy}
use Rattle.misp_model.specs.Shown.{event_row}
use Rattle.misp_model.specs.declared.change.Change.{Change}
use Rattle.misp_orgs.specs.Keys.{CallerFields as Caller}
use Rattle.misp_lists.proofs.Lists.{some_same}
use Rattle.misp_history.proofs.Prelude.{IsTable, part_is_table}
use Rattle.misp_model.proofs.Prelude.{IsRow}
use Rattle.misp_core.specs.Reading.{ReadRows, after_first, rows_read, rows_then}
use Rattle.misp_core.specs.Answers.{bare_scene}
use Rattle.misp_core.specs.Partners.{partner_of}
use Rattle.misp_model.proofs.OneEventChanges.{ask_of_event}
use Rattle.misp_model.proofs.Numbers.{accepted_alike, accepted_as}
use Rattle.misp_history.proofs.Prelude.{AddEvent, AreRows, Ask, EventId, OrgId, Row, Scene, Version, View, answer, ask_rules, brings, fresh_row, is_accepted, same_event}
use Rattle.misp_history.proofs.NumberedWrites.{answer_alike, answer_as, fresh_alike, fresh_as}
use Rattle.misp_edit.proofs.RuleLemmas.{refusal_alike, refusal_as}
use Rattle.misp_edit.proofs.OwnCopy.{named_rows, IsAlike, add_named}
use Rattle.misp_edit.proofs.Looked.{looked_alike}
use Rattle.misp_edit.proofs.OneEventRefusals.{change_of_event}
use Rattle.misp_store.specs.Raw.{raw_row}
use Rattle.misp_store.specs.Reach.{wide_change_reach, wide_reach, within}
use Rattle.misp_store.specs.declared.reach.Reach.{Reach}
use Rattle.misp_store.proofs.HeldRows.{rows_filtered}
use Rattle.misp_core.specs.Prelude.{Admin, Answer, Effect, Group, Host, Inst, IsBuilt, Reply, asked_over, reply_in, scene_at, seeing, writes_in}
use Rattle.misp_core.specs.Answers.{reply_of, rows_brought, event_saved, greatest, saved}
use Rattle.misp_core.specs.Effects.{asked, row_batches}
use Rattle.misp_core.proofs.HandedAsks.{handed_alike, handed_of_event}
use Rattle.misp_store.proofs.NamedLooked.{IsFit, beside_fits, looked_named, looks_fit, named_looked, named_so, seen_named, shown_fits}
use Rattle.misp_model.specs.Answers as model

-- ---- rows of a name

-- what is held of an event under the bytes of an organisation, whatever its number
pub rows_of_name : (o : OrgId) (e : EventId) (rows : List Row) → rows_named e (uid o.0) (map raw_row rows) ≡ map raw_row (named_rows o e rows)
unfolding rows_named raw_row same_event
rows_of_name o e [] = refl
rows_of_name o e (r ∷ rs) = grind (arith, rows_of_name o e rs)

pub named_rows_kept : (o : OrgId) (e : EventId) (rows : List Row) → AreRows rows → AreRows (named_rows o e rows)
named_rows_kept o e rows are = rows_filtered _ rows are

-- ---- the rows within a reach

-- of a table the rows within a reach
abbrev pub table_within : Reach → List Row → List Row
table_within Reach.Nothing rows = []
table_within (Reach.Own o e) rows = named_rows o e rows
table_within (Reach.Looked l) rows = named_looked l rows
table_within (Reach.Event e) rows = event_rows e rows
table_within Reach.All rows = rows

-- what is not handed in is brought as it was written
pub fresh_brought : (s : Scene) (ask : Ask) → hands_in ask ≡ false → rows_brought s ask ≡ map fresh_row (brings s ask)
unfolding hands_in
fresh_brought s (Ask.TakePart part) alone = absurd cc
fresh_brought s ask alone = refl

module _ (admin : Admin) (s : Scene) (rows others : List Row) (ask : Ask) (alone : hands_in ask ≡ false) (alike : IsAlike (seeing s rows) (seeing s others) ask) where
  reply_alike : (r : model.Reply) → reply_of admin (seeing s rows) ask r ≡ reply_of admin (seeing s others) ask r
  reply_alike (model.Refused rule) = ap Reply.Refused (alike.refusals rule)
  reply_alike r = refl

  brought_alike : rows_brought (seeing s rows) ask ≡ rows_brought (seeing s others) ask
  brought_alike = fresh_brought (seeing s rows) ask alone ∙ ap (map fresh_row) alike.same.brought ∙ sym (fresh_brought (seeing s others) ask alone)

  asked_alike : asked admin (seeing s rows) ask ≡ asked admin (seeing s others) ask
  unfolding reply_in writes_in
  asked_alike = λ i.
      effect ((reply_alike (answer (seeing s rows) ask) ∙ ap (reply_of admin (seeing s others) ask) alike.same.answers) i)
      (row_batches (cond (alike.same.accepted i) (brought_alike i) []))

-- the groups are told whatever the rows are
groups_alike : (admin : Admin) (s : Scene) (rows others : List Row) → asked admin (seeing s rows) Ask.Groups ≡ asked admin (seeing s others) Ask.Groups
unfolding reply_in writes_in ask_rules is_accepted answer ok_answer brings concerning
groups_alike admin s rows others = refl

pulled_groups_alike : (admin : Admin) (s : Scene) (rows others : List Row) → asked admin (seeing s rows) Ask.SyncGroups ≡ asked admin (seeing s others) Ask.SyncGroups
unfolding reply_in writes_in ask_rules is_accepted answer ok_answer brings pulled_groups
pulled_groups_alike admin s rows others = refl

-- what is asked comes to the same over the rows of its place as over all
wide_alike : (admin : Admin) (rows : List Row) (s : Scene) (ask : Ask) → IsBuilt ask → asked admin (seeing s (table_within (wide_reach s.by ask) rows)) ask ≡ asked admin (seeing s rows) ask
unfolding event_asked hands_in
wide_alike admin rows s (View e owner) built = asked_alike admin s (event_rows e rows) rows (View e owner) refl (record { same = ask_of_event e rows s (View e owner) refl; refusals = λ rule. refl })
wide_alike admin rows s (Ask.Change (AddEvent b)) built = asked_alike admin s (named_rows s.by b.event rows) rows (Ask.Change (AddEvent b)) refl (add_named b rows s)
wide_alike admin rows s (Ask.Change c) built = asked_alike admin s (event_rows (event_changed c) rows) rows (Ask.Change c) refl (change_of_event rows s c)
wide_alike admin rows s (Ask.Propose d) built = asked_alike admin s (event_rows d.event rows) rows (Ask.Propose d) refl (record { same = ask_of_event d.event rows s (Ask.Propose d) refl; refusals = λ rule. refl })
wide_alike admin rows s (Ask.Judge e n accept) built = asked_alike admin s (event_rows e rows) rows (Ask.Judge e n accept) refl (record { same = ask_of_event e rows s (Ask.Judge e n accept) refl; refusals = λ rule. refl })
wide_alike admin rows s (Ask.Sight e t d) built = asked_alike admin s (event_rows e rows) rows (Ask.Sight e t d) refl (record { same = ask_of_event e rows s (Ask.Sight e t d) refl; refusals = λ rule. refl })
wide_alike admin rows s Ask.Groups built = groups_alike admin s [] rows
wide_alike admin rows s Ask.SyncGroups built = pulled_groups_alike admin s [] rows
wide_alike admin rows s Ask.SyncEvents built = refl
wide_alike admin rows s (Ask.SyncPart e n) built = asked_alike admin s (event_rows e rows) rows (Ask.SyncPart e n) refl (record { same = ask_of_event e rows s (Ask.SyncPart e n) refl; refusals = λ rule. refl })
wide_alike admin rows s Ask.SyncManifest built = refl
wide_alike admin rows s (Ask.SyncRows w) built = asked_alike admin s (event_rows w.event rows) rows (Ask.SyncRows w) refl (record { same = ask_of_event w.event rows s (Ask.SyncRows w) refl; refusals = λ rule. refl })
wide_alike admin rows s (Ask.TakePart p) built = handed_of_event admin s rows p built
wide_alike admin rows s (Ask.Index page) built = refl
wide_alike admin rows s (Ask.Search filter whole) built = refl

-- what says what it looks at hands in no package
looks_alone : (i : Inst) (o : OrgId) (ask : Ask) (l : Looks) → looks_of i o ask ≡ Some l → hands_in ask ≡ false
unfolding hands_in
looks_alone i o (Ask.TakePart p) l is = absurd cc
looks_alone i o ask l is = refl

-- ---- in two steps

-- its looks, first and last, are of its event
change_last_fits : (s : Scene) (l : Looks) (o : Option Looks) → o ≡ Some l → IsFit l → IsFit (last_looks l (more_for_change s o))
change_last_fits s l None is fits = fits
change_last_fits s l (Some m) is fits = by_copy (holds_copy s m.event)
  where
    same : m ≡ l
    same = some_same m l is

    by_copy : (b : Bool) → IsFit (last_looks l (cond b None (Some (beside m))))
    by_copy true = fits
    by_copy false = beside_fits m (subst IsFit (sym same) fits)

view_last_fits : (e : EventId) (l : Looks) (o : Option Row) → IsFit l → IsFit (last_looks l (option_map (λ row. at_shown row.owner e) o))
view_last_fits e l None fits = fits
view_last_fits e l (Some row) fits = shown_fits row.owner e

last_fits : (s : Scene) (ask : Ask) (l : Looks) → looks_of s.at s.by ask ≡ Some l → IsFit (last_looks l (more_looks s ask))
last_fits s (Ask.Change c) l is = change_last_fits s l (change_looks s.by c) is (looks_fit s.at s.by (Ask.Change c) l is)
last_fits s (View e owner) l is = view_last_fits e l (event_row s e owner) (looks_fit s.at s.by (View e owner) l is)
last_fits s ask l is = looks_fit s.at s.by ask l is

-- of rows those that pass a test, where these pass another one too
rows_within : (p q : Row → Bool) → ((row : Row) → IsRow row → p row ≡ true → q row ≡ true) → (rows : List Row) → AreRows rows → filter p (filter q rows) ≡ filter p rows
rows_within p q h [] are = refl
rows_within p q h (r ∷ rs) are = grind (arith, rows_within p q h rs are.1, h r are.0)

module _ (admin : Admin) (rows : List Row) (are : AreRows rows) (table : IsTable rows) (s : Scene) (ask : Ask) (l : Looks) (is : looks_of s.at s.by ask ≡ Some l) where
  -- what it looks at then is the same by what is found first as by all rows
  pub more_first : more_looks (over s (named_looked l rows)) ask ≡ more_looks (over s rows) ask
  more_first =
      sym (more_same l (named_looked l rows) s ask is)
      ∙ ap (λ (seen : List Row). more_looks (over s seen) ask) (seen_named l (looks_fit s.at s.by ask l is) rows are)
      ∙ more_same l rows s ask is

  abbrev last : Looks
  last = last_looks l (more_looks (over s rows) ask)

  abbrev found : List Row
  found = named_looked (last_looks l (more_looks (over s rows) ask)) rows

  fits : IsFit (last_looks l (more_looks (over s rows) ask))
  fits = last_fits (over s rows) ask l is

  -- what is looked at first is among what is found at last
  first_found : rows_seen_by l (named_looked (last_looks l (more_looks (over s rows) ask)) rows) ≡ rows_seen_by l rows
  unfolding rows_seen_by
  first_found =
      rows_within (λ row. looks_at l row.owner row.key) (named_so (last_looks l (more_looks (over s rows) ask)))
      (λ row row_is h. looked_named (last_looks l (more_looks (over s rows) ask)) fits row row_is (first_within_last l (over s rows) ask is row.owner row.key h)) rows are

  more_last : more_looks (over s (named_looked (last_looks l (more_looks (over s rows) ask)) rows)) ask ≡ more_looks (over s rows) ask
  more_last =
      sym (more_same l found s ask is)
      ∙ ap (λ (seen : List Row). more_looks (over s seen) ask) first_found
      ∙ more_same l rows s ask is

  -- what is asked comes to the same over what it looks at last
  pub looked_over : asked admin (seeing s (named_looked (last_looks l (more_looks (over s rows) ask)) rows)) ask ≡ asked admin (seeing s rows) ask
  looked_over =
      let alone = looks_alone s.at s.by ask l is in
      sym (asked_alike admin s (rows_seen_by last found) found ask alone
      (subst (λ (o : Option Looks). IsAlike (seeing s (rows_seen_by (last_looks l o) found)) (seeing s found) ask) more_last
      (looked_alike l found s ask (part_is_table (named_so last) rows table) is)))
      ∙ ap (λ (seen : List Row). asked admin (seeing s seen) ask) (seen_named last fits rows are)
      ∙ asked_alike admin s (rows_seen_by last rows) rows ask alone (looked_alike l rows s ask table is)

-- ---- what is read

-- what is read of a table
abbrev pub of_table : List Row → ReadRows
of_table rows reach = Ok (table_within reach rows)

-- what is looked at then does not hang on the partner of the caller's key
change_by : (p : Option Partner) (s : Scene) (rows : List Row) (o : Option Looks) → more_for_change (over s rows) o ≡ more_for_change (over (record s { partner = p }) rows) o
unfolding holds_copy
change_by p s rows None = refl
change_by p s rows (Some l) = refl

view_by : (p : Option Partner) (s : Scene) (rows : List Row) (e : EventId) (owner : Option OrgId) → event_row (over s rows) e owner ≡ event_row (over (record s { partner = p }) rows) e owner
unfolding event_row
view_by p s rows e None = refl
view_by p s rows e (Some w) = refl

more_by : (p : Option Partner) (s : Scene) (rows : List Row) (ask : Ask) → more_looks (over s rows) ask ≡ more_looks (over (record s { partner = p }) rows) ask
more_by p s rows (Ask.Change c) = change_by p s rows (change_looks s.by c)
more_by p s rows (View e owner) = ap (option_map (λ (row : Row). at_shown row.owner e)) (view_by p s rows e owner)
more_by p s rows ask = refl

module _ (host : Host) (now : ℕ) (by : Caller) (groups : List Group) (rows : List Row) (are : AreRows rows) (table : IsTable rows) where
  abbrev bare : Scene
  bare = bare_scene host now by groups

  abbrev there : Scene
  there = scene_at host now by groups

  then_read : (l : Looks) (o : Option Looks) → rows_then (of_table rows) (named_looked l rows) o ≡ Ok (named_looked (last_looks l o) rows)
  then_read l None = refl
  then_read l (Some m) = refl

  module _ (ask : Ask) where
    abbrev asked_of : Result (List Row) (List ℕ) → Effect Reply
    asked_of read = asked_over host now (by, ask) groups read

    -- what it looks at first is read, and then what it looks at last
    in_steps : (l : Looks) → looks_of there.at there.by ask ≡ Some l → asked_of (after_first bare ask (of_table rows) (Ok (named_looked l rows))) ≡ asked_of (Ok rows)
    in_steps l is =
        ap (λ (o : Option Looks). asked_of (rows_then (of_table rows) (named_looked l rows) o))
        (more_by (partner_of by) bare (named_looked l rows) ask ∙ more_first host.admin rows are table there ask l is)
        ∙ ap asked_of (then_read l (more_looks (over there rows) ask))
        ∙ looked_over host.admin rows are table there ask l is

    -- at once, where it looks at no more then
    at_once : (l : Looks) → looks_of there.at there.by ask ≡ Some l → more_looks (over there rows) ask ≡ None → asked_of (Ok (named_looked l rows)) ≡ asked_of (Ok rows)
    at_once l is none =
        sym (ap (λ (o : Option Looks). asked_of (Ok (named_looked (last_looks l o) rows))) none) ∙ looked_over host.admin rows are table there ask l is

  change_read : (c : Change) → IsBuilt (Ask.Change c) → (o : Option Looks) → change_looks by.org c ≡ o
      → asked_of (Ask.Change c) (after_first bare (Ask.Change c) (of_table rows) (Ok (table_within (within o (wide_change_reach by.org c)) rows))) ≡ asked_of (Ask.Change c) (Ok rows)
  change_read c built None is =
      ap (λ (o : Option Looks). asked_of (Ask.Change c) (rows_then (of_table rows) (table_within (wide_change_reach by.org c) rows) (more_for_change (over bare (table_within (wide_change_reach by.org c) rows)) o))) is
      ∙ wide_alike host.admin rows there (Ask.Change c) built
  change_read c built (Some l) is = in_steps (Ask.Change c) l is

  -- what is read for an ask comes to what all rows do
  pub read_alike : (ask : Ask) → IsBuilt ask → asked_over host now (by, ask) groups (rows_read (bare_scene host now by groups) ask (of_table rows)) ≡ asked_over host now (by, ask) groups (Ok rows)
  read_alike (View e owner) built = in_steps (View e owner) (at_event by.org e) refl
  read_alike (Ask.Change c) built = change_read c built (change_looks by.org c) refl
  read_alike (Ask.Propose d) built = at_once (Ask.Propose d) _ refl refl
  read_alike (Ask.Judge e n accept) built = at_once (Ask.Judge e n accept) _ refl refl
  read_alike (Ask.Sight e t d) built = at_once (Ask.Sight e t d) _ refl refl
  read_alike Ask.Groups built = wide_alike host.admin rows there Ask.Groups built
  read_alike Ask.SyncGroups built = wide_alike host.admin rows there Ask.SyncGroups built
  read_alike Ask.SyncEvents built = wide_alike host.admin rows there Ask.SyncEvents built
  read_alike (Ask.SyncPart e n) built = wide_alike host.admin rows there (Ask.SyncPart e n) built
  read_alike Ask.SyncManifest built = wide_alike host.admin rows there Ask.SyncManifest built
  read_alike (Ask.SyncRows w) built = wide_alike host.admin rows there (Ask.SyncRows w) built
  read_alike (Ask.TakePart p) built = wide_alike host.admin rows there (Ask.TakePart p) built
  read_alike (Ask.Index page) built = wide_alike host.admin rows there (Ask.Index page) built
  read_alike (Ask.Search filter whole) built = wide_alike host.admin rows there (Ask.Search filter whole) built

-- ---- the number of an act

module _ (n : ℕ) where
  -- as many versions, of the same stamps
  event_saved_as : (event : EventId) (vs : List Version) → event_saved event (versions_as n vs) ≡ event_saved event vs
  event_saved_as event vs = λ i.
      Reply.Ok (Answer.Saved (length-map vs (version_as n) i) event (greatest (map-map (λ (v : Version). v.stamp) (version_as n) vs i)))

  saved_as : (reach : Reach) (vs : List Version) → saved reach (versions_as n vs) ≡ saved reach vs
  saved_as (Reach.Event event) vs = event_saved_as event vs
  saved_as (Reach.Own org event) vs = event_saved_as event vs
  saved_as reach vs = refl

module _ (n : ℕ) (s : Scene) (admin : Admin) (ask : Ask) where
  reply_same : (r : model.Reply) → reply_of admin (scene_as n s) ask (reply_as n r) ≡ reply_of admin s ask r
  unfolding reply_as
  reply_same (model.Refused rule) = ap Reply.Refused (refusal_as n s ask rule)
  reply_same (model.Saved vs) = saved_as n (wide_reach s.by ask) vs
  reply_same r = refl

  plain_as : hands_in ask ≡ false → asked admin (scene_as n s) ask ≡ asked admin s ask
  unfolding reply_in writes_in
  plain_as alone = λ i.
      effect ((ap (reply_of admin (scene_as n s) ask) (answer_as n s ask) ∙ reply_same (answer s ask)) i)
      (row_batches (cond (accepted_as n s ask i) ((fresh_brought (scene_as n s) ask alone ∙ fresh_as n s ask ∙ sym (fresh_brought s ask alone)) i) []))

-- what is asked comes to the same
pub asked_as : (n : ℕ) (s : Scene) (admin : Admin) (ask : Ask) → asked admin (scene_as n s) ask ≡ asked admin s ask
unfolding hands_in
asked_as n s admin (Ask.TakePart p) = handed_alike admin (scene_as n s) s p refl refl refl refl
asked_as n s admin ask = plain_as n s admin ask refl

-- ---- the partner of the caller's key

module _ (n : ℕ) (partner : Option Partner) (s : Scene) (admin : Admin) (ask : Ask) (plain : pulls ask ≡ false) where
  abbrev partnered : Scene
  partnered = record s { act = n; partner = partner }

  reply_by : (r : model.Reply) → reply_of admin partnered ask (reply_as n r) ≡ reply_of admin s ask r
  unfolding reply_as
  reply_by (model.Refused rule) = ap Reply.Refused (refusal_alike n partner s ask rule)
  reply_by (model.Saved vs) = saved_as n (wide_reach s.by ask) vs
  reply_by r = refl

  plain_by : hands_in ask ≡ false → asked admin partnered ask ≡ asked admin s ask
  unfolding reply_in writes_in
  plain_by alone = λ i.
      effect ((ap (reply_of admin partnered ask) (answer_alike n partner s ask plain) ∙ reply_by (answer s ask)) i)
      (row_batches (cond (accepted_alike n partner s ask plain i) ((fresh_brought partnered ask alone ∙ fresh_alike n partner s ask ∙ sym (fresh_brought s ask alone)) i) []))

-- what is asked comes to the same with another partner
pub partner_asked : (partner : Option Partner) (s : Scene) (admin : Admin) (ask : Ask) → pulls ask ≡ false → asked admin (record s { partner = partner }) ask ≡ asked admin s ask
unfolding hands_in
partner_asked partner s admin (Ask.TakePart p) plain = handed_alike admin (record s { partner = partner }) s p refl refl refl refl
partner_asked partner s admin ask plain = plain_by s.act partner s admin ask plain refl
