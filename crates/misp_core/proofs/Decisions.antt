-- What an ask comes to: the refusal by the first rule that refuses it, or else its answer and what it writes.
use Rattle.std.proofs.Common.{◌≡◌, ℕ, List, [], ◌∷◌, Bool, true, false, refl, ap, sym, subst, ◌∙◌, map, cond, length, Option, Some, None, option_map, IfSome, Result, Ok, Err, filter}
use Rattle.misp_ids.specs.Uid.{text_of}
use Rattle.misp_ids.specs.declared.uid.ElemId.{ElemId}
use Rattle.misp_effects.specs.Effect.{effect}
use Rattle.misp_model.proofs.Prelude.{AreRows, Label, NotGranted, Other, Rule, Seen, Version, VisibleEvent, brings, change_writes, first_rule, is_accepted, length-map, map-map, ok_answer, shown}
use Rattle.misp_model.specs.Prelude.{judge_writes, propose_writes, sight_writes}
use Rattle.misp_model.specs.declared.change.Change.TheVariants.{AddEvent}
use Rattle.misp_model.specs.Answers.{Packed, concerns, concerning}
use Rattle.misp_model.specs.Manifests.{only_of, pulled_manifest, pulled_only}
use Rattle.misp_model.specs.Pulling.{pulled_events, pulled_groups, pulled_part}
use Rattle.misp_model.specs.Shown.{index}
use Rattle.misp_model.specs.Prelude.{GroupId, VisibleAttribute}
use Rattle.misp_manifest.specs.declared.manifest.ManifestFields.{ManifestFields}
use Rattle.misp_manifest.specs.declared.wanted.WantedFields.{WantedFields as Wanted}
use Rattle.misp_model.specs.declared.package.PackageFields.{PackageFields as Package}
use Rattle.misp_model.proofs.Steps.{accepted_where, refused_where, answer_where, refusal_where}
use Rattle.misp_model.specs.declared.change.Change.{Change}
use Rattle.misp_model.specs.Machine.{event_changed}
use Rattle.misp_model.specs.Scene.{NotOwner, LockedCopy, EventGone, ElementExists, GroupNotUsable, OlderTime, TimeLimit, ProposalExists, ProposalClosed, ElementFull}
use Rattle.misp_copies.specs.Barring.{rule_of}
use Rattle.misp_copies.specs.declared.change_fault.ChangeFault.{ChangeFault}
use Rattle.misp_edit.specs.Refusals.{named, place_of, refusal_of, label_place, uuid_place, rule_named}
use Rattle.misp_edit.specs.declared.fault.AddFault.{AddFault}
use Rattle.misp_search.specs.Fitting.{hits, whole_events}
use Rattle.misp_search.specs.Page.{PageNumbers, page_of}
use Rattle.misp_search.specs.declared.fitting.Filter.{Filter}
use Rattle.misp_view.specs.Naming.{hit_names}
use Rattle.misp_store.specs.Reach.{wide_reach}
use Rattle.misp_core.specs.Prelude.{Admin, Answer, Ask, Asked, Effect, EventId, Group, Host, IsBuilt, IsRefused, OrgId, Plan, Refusal, Reply, Row, RuleName, Scene, View, ask_rules, asked_over, asked_where, bare, fresh_row, read_where}
use Rattle.misp_core.specs.Prelude.{refused, reply_in, scene_at, seeing, writes_in}
use Rattle.misp_core.specs.Answers.{reply_of, rows_brought, greatest, event_parts, event_saved, hits_named, named_event, saved}
use Rattle.misp_core.specs.declared.reply.EventParts.{EventParts}
use Rattle.misp_core.specs.Changing.{NamesGroupOf}
use Rattle.misp_core.specs.Saving.{IsOfEvent, NamesPlace, place_named}
use Rattle.misp_statements.specs.Saving.{Saves}
use Rattle.misp_core.specs.Effects.{stop_by, row_batches, asked}
use Rattle.misp_core.specs.Planning.{batches_of, rows_put, IsPlan, Refuses}
use Rattle.misp_core.proofs.HandedAsks.{never_refused}
use Rattle.misp_copies.specs.Barring as barring
use Rattle.misp_edit.specs.Refusals as edit
use Rattle.misp_store.specs.Seen as store

-- no rule of the definitions tells a stop
rule_tells_none : (rule : Rule) → stop_by (named rule) ≡ None
rule_tells_none NotGranted = refl
rule_tells_none rule = refl

-- ---- any ask

module _ (admin : Admin) (s : Scene) (ask : Ask) where
  -- what no rule refuses comes to its answer and to what it brings
  answered : first_rule (ask_rules s ask) ≡ None → asked admin s ask ≡ effect (reply_of admin s ask (ok_answer s ask)) (row_batches (rows_brought s ask))
  unfolding reply_in writes_in
  answered free = λ i. effect (reply_of admin s ask (answer_where s ask free i)) (row_batches (cond (accepted_where s ask free i) (rows_brought s ask) []))

  -- what a rule refuses comes to its refusal
  refused_so : (rule : Rule) → first_rule (ask_rules s ask) ≡ Some rule → asked admin s ask ≡ refused (refusal_of s ask rule)
  unfolding reply_in writes_in
  refused_so rule is = λ i. effect (reply_of admin s ask (refusal_where s ask rule is i)) (row_batches (cond (refused_where s ask rule is i) (rows_brought s ask) []))

  -- so the one is planned
  planned : (p : Plan) → first_rule (ask_rules s ask) ≡ None → reply_of admin s ask (ok_answer s ask) ≡ Reply.Ok p.answer → row_batches (rows_brought s ask) ≡ batches_of p.batch
      → AreRows (rows_put p.batch) → IsPlan p (asked admin s ask)
  planned p free answer batches are = record { is = answered free ∙ (λ i. effect (answer i) (batches i)); are_rows = are }

  -- and the other refused
  not_planned : (refusal : Refusal) → option_map (refusal_of s ask) (first_rule (ask_rules s ask)) ≡ Some refusal → Refuses refusal (asked admin s ask)
  not_planned refusal why = one (first_rule (ask_rules s ask)) refl why
    where
      one : (rule : Option Rule) → first_rule (ask_rules s ask) ≡ rule → option_map (refusal_of s ask) rule ≡ Some refusal → Refuses refusal (asked admin s ask)
      one None by is = absurd cc
      one (Some rule) by is =
          let same : refusal_of s ask rule ≡ refusal = cc in
          record { is = refused_so rule by ∙ ap refused same; no_stop = ap (λ (r : Refusal). stop_by r.name) (sym same) ∙ rule_tells_none rule }

  -- what brings no rows writes none
  writes_none : rows_brought s ask ≡ [] → writes_in s ask ≡ []
  unfolding writes_in
  writes_none none = ap (λ rows. cond (is_accepted s ask) rows []) none ∙ one (is_accepted s ask)
    where
      one : (b : Bool) → ◌≡◌ {A = List Row} (cond b [] []) []
      one true = refl
      one false = refl

-- ---- each kind of ask that is built

module _ (admin : Admin) (s : Scene) (event : EventId) (owner : Option OrgId) where
  -- the event is shown
  pub sighted : (v : VisibleEvent) → shown s event owner ≡ Some v → IsPlan (record { answer = Answer.Event (named_event admin s.groups v); batch = None }) (asked admin s (View event owner))
  unfolding ask_rules first_rule ok_answer brings
  sighted v seen =
      planned admin s (View event owner) (record { answer = Answer.Event (named_event admin s.groups v); batch = None })
      (ap (λ (found : Option VisibleEvent). first_rule ((elim found [ None ↦ true | Some x ↦ false ], NotGranted) ∷ [])) seen)
      (ap (λ (found : Option VisibleEvent). reply_of admin s (View event owner) (elim found [ None ↦ Other | Some x ↦ Seen x ])) seen)
      refl tt

  -- it is not
  pub unseen : shown s event owner ≡ None → Refuses (bare RuleName.NotGranted) (asked admin s (View event owner))
  unfolding ask_rules first_rule
  unseen none =
      not_planned admin s (View event owner) (bare RuleName.NotGranted)
      (ap (λ (found : Option VisibleEvent). option_map (refusal_of s (View event owner)) (first_rule ((elim found [ None ↦ true | Some x ↦ false ], NotGranted) ∷ []))) none)

-- the groups are told
pub listed : (admin : Admin) (s : Scene) (groups : List Group) → groups ≡ filter (concerns s.by s.at) s.groups → IsPlan (record { answer = Answer.Groups groups; batch = None }) (asked admin s Ask.Groups)
unfolding ask_rules first_rule ok_answer brings concerning
listed admin s groups is =
    planned admin s Ask.Groups (record { answer = Answer.Groups groups; batch = None }) refl (ap (λ (gs : List Group). Reply.Ok (Answer.Groups gs)) (sym is)) refl tt

-- ---- lists of events and searches

-- the page of events is listed
pub events_indexed : (admin : Admin) (s : Scene) (page : PageNumbers) (events : List VisibleEvent) → events ≡ page_of page (index s) → IsPlan (record { answer = Answer.Index events; batch = None }) (asked admin s (Ask.Index page))
unfolding ask_rules first_rule ok_answer brings
events_indexed admin s page events is =
    planned admin s (Ask.Index page) (record { answer = Answer.Index events; batch = None }) refl (ap (λ (es : List VisibleEvent). Reply.Ok (Answer.Index es)) (sym is)) refl tt

module _ (admin : Admin) (s : Scene) (f : Filter) where
  -- attributes are found
  pub attributes_found : (found : List VisibleAttribute) (names : List (GroupId × List ℕ)) → found ≡ page_of f.page (hits f (index s)) → names ≡ hit_names s.groups found
      → IsPlan (record { answer = Answer.Hits (hits_named names found); batch = None }) (asked admin s (Ask.Search f false))
  unfolding ask_rules first_rule ok_answer brings
  attributes_found found names is named_so =
      planned admin s (Ask.Search f false) (record { answer = Answer.Hits (hits_named names found); batch = None }) refl
      (ap (λ (hits : List VisibleAttribute). Reply.Ok (Answer.Hits (hits_named (hit_names s.groups hits) hits))) (sym is)
      ∙ ap (λ (all : List (GroupId × List ℕ)). Reply.Ok (Answer.Hits (hits_named all found))) (sym named_so))
      refl tt

  -- whole events are found
  pub events_found : (found events : List VisibleEvent) → found ≡ page_of f.page (whole_events f (index s)) → events ≡ map (named_event admin s.groups) found
      → IsPlan (record { answer = Answer.Events events; batch = None }) (asked admin s (Ask.Search f true))
  unfolding ask_rules first_rule ok_answer brings
  events_found found events is named_so =
      planned admin s (Ask.Search f true) (record { answer = Answer.Events events; batch = None }) refl
      (ap (λ (es : List VisibleEvent). Reply.Ok (Answer.Events (map (named_event admin s.groups) es))) (sym is) ∙ ap (λ (es : List VisibleEvent). Reply.Ok (Answer.Events es)) (sym named_so))
      refl tt

-- ---- what a pull asks

-- the groups are told
pub groups_pulled : (admin : Admin) (s : Scene) (groups : List Group) → groups ≡ pulled_groups s → IsPlan (record { answer = Answer.Groups groups; batch = None }) (asked admin s Ask.SyncGroups)
unfolding ask_rules first_rule ok_answer brings
groups_pulled admin s groups is =
    planned admin s Ask.SyncGroups (record { answer = Answer.Groups groups; batch = None }) refl (ap (λ (gs : List Group). Reply.Ok (Answer.Groups gs)) (sym is)) refl tt

-- the events are listed
pub events_listed : (admin : Admin) (s : Scene) (events : List EventParts) → events ≡ map event_parts (pulled_events s) → IsPlan (record { answer = Answer.Parts events; batch = None }) (asked admin s Ask.SyncEvents)
unfolding ask_rules first_rule ok_answer brings
events_listed admin s events is =
    planned admin s Ask.SyncEvents (record { answer = Answer.Parts events; batch = None }) refl (ap (λ (es : List EventParts). Reply.Ok (Answer.Parts es)) (sym is)) refl tt

-- the manifest is told
pub manifest_told : (admin : Admin) (s : Scene) (events : List ManifestFields) → events ≡ pulled_manifest s → IsPlan (record { answer = Answer.Manifest events; batch = None }) (asked admin s Ask.SyncManifest)
unfolding ask_rules first_rule ok_answer brings
manifest_told admin s events is =
    planned admin s Ask.SyncManifest (record { answer = Answer.Manifest events; batch = None }) refl (ap (λ (es : List ManifestFields). Reply.Ok (Answer.Manifest es)) (sym is)) refl tt

module _ (admin : Admin) (s : Scene) (event : EventId) (n : ℕ) where
  -- the package is shown
  pub part_shown : (p : Package) → pulled_part s event n ≡ Some p → IsPlan (record { answer = Answer.Part p; batch = None }) (asked admin s (Ask.SyncPart event n))
  unfolding ask_rules first_rule ok_answer brings
  part_shown p found =
      planned admin s (Ask.SyncPart event n) (record { answer = Answer.Part p; batch = None })
      (ap (λ (o : Option Package). first_rule ((elim o [ None ↦ true | Some x ↦ false ], NotGranted) ∷ [])) found)
      (ap (λ (o : Option Package). reply_of admin s (Ask.SyncPart event n) (elim o [ None ↦ Other | Some x ↦ Packed x ])) found)
      refl tt

  -- there is none
  pub part_refused : pulled_part s event n ≡ None → Refuses (bare RuleName.NotGranted) (asked admin s (Ask.SyncPart event n))
  unfolding ask_rules first_rule
  part_refused none =
      not_planned admin s (Ask.SyncPart event n) (bare RuleName.NotGranted)
      (ap (λ (o : Option Package). option_map (refusal_of s (Ask.SyncPart event n)) (first_rule ((elim o [ None ↦ true | Some x ↦ false ], NotGranted) ∷ []))) none)

module _ (admin : Admin) (s : Scene) (w : Wanted) where
  -- the wanted rows of the package are shown
  pub rows_shown : (p : Package) → pulled_part s w.event w.part ≡ Some p → IsPlan (record { answer = Answer.Part (only_of w.keys p); batch = None }) (asked admin s (Ask.SyncRows w))
  unfolding ask_rules first_rule ok_answer brings pulled_only
  rows_shown p found =
      planned admin s (Ask.SyncRows w) (record { answer = Answer.Part (only_of w.keys p); batch = None })
      (ap (λ (o : Option Package). first_rule ((elim o [ None ↦ true | Some x ↦ false ], NotGranted) ∷ [])) found)
      (ap (λ (o : Option Package). reply_of admin s (Ask.SyncRows w) (elim (option_map (only_of w.keys) o) [ None ↦ Other | Some x ↦ Packed x ])) found)
      refl tt

  -- there is no such package
  pub rows_refused : pulled_part s w.event w.part ≡ None → Refuses (bare RuleName.NotGranted) (asked admin s (Ask.SyncRows w))
  unfolding ask_rules first_rule
  rows_refused none =
      not_planned admin s (Ask.SyncRows w) (bare RuleName.NotGranted)
      (ap (λ (o : Option Package). option_map (refusal_of s (Ask.SyncRows w)) (first_rule ((elim o [ None ↦ true | Some x ↦ false ], NotGranted) ∷ []))) none)

  -- where the package is shown, so are the wanted rows of it
  pub rows_of_shown : (p : Package) → asked admin s (Ask.SyncPart w.event w.part) ≡ effect (Reply.Ok (Answer.Part p)) [] → asked admin s (Ask.SyncRows w) ≡ effect (Reply.Ok (Answer.Part (only_of w.keys p))) []
  rows_of_shown p told = one (pulled_part s w.event w.part) refl
    where
      one : (o : Option Package) → pulled_part s w.event w.part ≡ o → asked admin s (Ask.SyncRows w) ≡ effect (Reply.Ok (Answer.Part (only_of w.keys p))) []
      one None none =
          let same : Reply.Refused (bare RuleName.NotGranted) ≡ Reply.Ok (Answer.Part p) = ap (λ (e : Effect Reply). e.reply) (sym (part_refused admin s w.event w.part none).is ∙ told) in
          absurd cc
      one (Some q) found =
          let same : Reply.Ok (Answer.Part q) ≡ Reply.Ok (Answer.Part p) = ap (λ (e : Effect Reply). e.reply) (sym (part_shown admin s w.event w.part q found).is ∙ told) in
          let is : q ≡ p = cc in
          (rows_shown q found).is ∙ ap (λ (x : Package). effect (Reply.Ok (Answer.Part (only_of w.keys x))) []) is

-- ---- what writes rows of an event

-- as many rows as versions, of the same stamps
rows_saved : (event : EventId) (vs : List Version) → Reply.Ok (Answer.Saved (length (map fresh_row vs)) event (greatest (map (λ (row : Row). row.stamp) (map fresh_row vs)))) ≡ event_saved event vs
unfolding fresh_row
rows_saved event vs = λ i. Reply.Ok (Answer.Saved (length-map vs fresh_row i) event (greatest (map-map (λ (row : Row). row.stamp) fresh_row vs i)))

-- what is saved of a change is of its event
saved_of : (by : OrgId) (c : Change) (vs : List Version) → saved (wide_reach by (Ask.Change c)) vs ≡ event_saved (event_changed c) vs
unfolding event_changed
saved_of by (AddEvent b) vs = refl
saved_of by c vs = refl

-- what an ask of an event is answered, where nothing refuses it
pub of_event : (admin : Admin) (s : Scene) (ask : Ask) (event : EventId) → IsOfEvent ask event → reply_of admin s ask (ok_answer s ask) ≡ event_saved event (brings s ask)
unfolding ok_answer brings
of_event admin s (Ask.Change c) event h = saved_of s.by c (change_writes s c) ∙ ap (λ x. event_saved x (change_writes s c)) h
of_event admin s (Ask.Propose d) event h = ap (λ x. event_saved x (propose_writes s d)) h
of_event admin s (Ask.Judge e n accept) event h = ap (λ x. event_saved x (judge_writes s e n accept)) h
of_event admin s (Ask.Sight e t d) event h = ap (λ x. event_saved x (sight_writes s e t d)) h
of_event admin s ask event h = absurd h

-- and the rows that it writes are as they were written
fresh_brought : (s : Scene) (ask : Ask) (event : EventId) → IsOfEvent ask event → rows_brought s ask ≡ map fresh_row (brings s ask)
fresh_brought s (Ask.TakePart part) event of = absurd of
fresh_brought s ask event of = refl

-- the fault of the first rule
first_is : (rules : List (Bool × Rule)) (fault : ChangeFault) (name : RuleName) → barring.Refuses rules fault → Some name ≡ rule_named fault → first_rule rules ≡ rule_of fault
unfolding rule_of
first_is rules ChangeFault.NoMemory name why is = absurd cc
first_is rules _ name why is = why

module _ (admin : Admin) (s : Scene) (ask : Ask) where
  -- its rows are put
  pub rows_planned : (event : EventId) (p : Plan) (rows : List Row) → IsOfEvent ask event → Saves s ask rows → AreRows rows
      → p.answer ≡ Answer.Saved (length rows) event (greatest (map (λ (row : Row). row.stamp) rows)) → batches_of p.batch ≡ row_batches rows → rows_put p.batch ≡ rows → IsPlan p (asked admin s ask)
  rows_planned event p rows of saves are answer batches put =
      planned admin s ask p saves.0
      (of_event admin s ask event of
      ∙ sym (
      ap Reply.Ok answer
      ∙ ap (λ (rs : List Row). Reply.Ok (Answer.Saved (length rs) event (greatest (map (λ (row : Row). row.stamp) rs)))) saves.1
      ∙ rows_saved event (brings s ask)
      ))
      (ap row_batches (fresh_brought s ask event of ∙ sym saves.1) ∙ sym batches) (subst AreRows (sym put) are)

  -- the refusal of a fault
  pub by_fault : (fault : ChangeFault) (name : RuleName) (place : List ℕ) → barring.Refuses (ask_rules s ask) fault → NamesPlace s ask fault → Some name ≡ rule_named fault → place ≡ place_named fault
      → Refuses (record { name = name; place = place }) (asked admin s ask)
  by_fault fault name place why places is at = one (rule_of fault) (first_is (ask_rules s ask) fault name why is) places is
    where
      one : (r : Option Rule) → first_rule (ask_rules s ask) ≡ r → IfSome r (λ rule. place_of s ask rule ≡ place_named fault) → Some name ≡ option_map named r
          → Refuses (record { name = name; place = place }) (asked admin s ask)
      one None first places is = absurd cc
      one (Some rule) first places is =
          let same : named rule ≡ name = cc in
          not_planned admin s ask (record { name = name; place = place }) (ap (option_map (refusal_of s ask)) first ∙ (λ i. Some (record { name = same i; place = (places ∙ sym at) i })))

  -- what refuses it writes nothing
  refused_of_event : (event : EventId) → IsOfEvent ask event → (rule : Option Rule) → first_rule (ask_rules s ask) ≡ rule → IsRefused (asked admin s ask).reply → (asked admin s ask).batches ≡ []
  refused_of_event event of None free is = absurd (subst (λ (e : Effect Reply). IsRefused e.reply) (answered admin s ask free ∙ ap (λ r. effect r (row_batches (rows_brought s ask))) (of_event admin s ask event of)) is)
  refused_of_event event of (Some rule) by is = ap (λ (e : Effect Reply). e.batches) (refused_so admin s ask rule by)

-- ---- changes

-- a refusal without a label names no group
pub none_named : (rule : Rule) → [] ≡ label_place None rule
none_named GroupNotUsable = refl
none_named rule = refl

module _ (s : Scene) (c : Change) (given : Option Label) (names : NamesGroupOf s c given) where
  -- the group that a fault of a change names is that of its refusal
  pub group_placed : (fault : ChangeFault) → barring.Names given fault → NamesPlace s (Ask.Change c) fault
  unfolding rule_of
  group_placed (ChangeFault.GroupNotUsable g) group = names GroupNotUsable ∙ ap (λ l. label_place l GroupNotUsable) group
  group_placed (ChangeFault.ElementExists u) group = absurd group
  group_placed ChangeFault.NotGranted group = names NotGranted
  group_placed ChangeFault.NotOwner group = names NotOwner
  group_placed ChangeFault.LockedCopy group = names LockedCopy
  group_placed ChangeFault.EventGone group = names EventGone
  group_placed ChangeFault.OlderTime group = names OlderTime
  group_placed ChangeFault.TimeLimit group = names TimeLimit
  group_placed ChangeFault.ProposalExists group = names ProposalExists
  group_placed ChangeFault.ProposalClosed group = names ProposalClosed
  group_placed ChangeFault.ElementFull group = names ElementFull
  group_placed ChangeFault.NoMemory group = tt

-- a rule refuses it
pub not_changed : (admin : Admin) (s : Scene) (c : Change) (refusal : Refusal) → edit.Refuses s c (AddFault.Refused refusal) → Refuses refusal (asked admin s (Ask.Change c))
unfolding ask_rules
not_changed admin s c refusal why = not_planned admin s (Ask.Change c) refusal why

-- ---- statements

-- the uuid that a fault of a statement names is that of its refusal
pub uuid_placed : (s : Scene) (ask : Ask) (uuid : ElemId) → ((rule : Rule) → place_of s ask rule ≡ uuid_place uuid rule) → (fault : ChangeFault) → barring.NamesUuid uuid fault → NamesPlace s ask fault
unfolding rule_of
uuid_placed s ask uuid names (ChangeFault.ElementExists u) is = names ElementExists ∙ ap (λ (x : ElemId). text_of x.0) is
uuid_placed s ask uuid names (ChangeFault.GroupNotUsable g) is = absurd is
uuid_placed s ask uuid names ChangeFault.NotGranted is = names NotGranted
uuid_placed s ask uuid names ChangeFault.NotOwner is = names NotOwner
uuid_placed s ask uuid names ChangeFault.LockedCopy is = names LockedCopy
uuid_placed s ask uuid names ChangeFault.EventGone is = names EventGone
uuid_placed s ask uuid names ChangeFault.OlderTime is = names OlderTime
uuid_placed s ask uuid names ChangeFault.TimeLimit is = names TimeLimit
uuid_placed s ask uuid names ChangeFault.ProposalExists is = names ProposalExists
uuid_placed s ask uuid names ChangeFault.ProposalClosed is = names ProposalClosed
uuid_placed s ask uuid names ChangeFault.ElementFull is = names ElementFull
uuid_placed s ask uuid names ChangeFault.NoMemory is = tt

-- ---- what is refused has no batch

refused_alone : (admin : Admin) (s : Scene) (ask : Ask) → IsBuilt ask → IsRefused (asked admin s ask).reply → (asked admin s ask).batches ≡ []
unfolding brings
refused_alone admin s (View event owner) built is = ap row_batches (writes_none admin s (View event owner) refl)
refused_alone admin s (Ask.Change c) built is = refused_of_event admin s (Ask.Change c) (event_changed c) refl (first_rule (ask_rules s (Ask.Change c))) refl is
refused_alone admin s (Ask.Propose d) built is = refused_of_event admin s (Ask.Propose d) d.event refl (first_rule (ask_rules s (Ask.Propose d))) refl is
refused_alone admin s (Ask.Judge e n accept) built is = refused_of_event admin s (Ask.Judge e n accept) e refl (first_rule (ask_rules s (Ask.Judge e n accept))) refl is
refused_alone admin s (Ask.Sight e t d) built is = refused_of_event admin s (Ask.Sight e t d) e refl (first_rule (ask_rules s (Ask.Sight e t d))) refl is
refused_alone admin s (Ask.Index page) built is = ap row_batches (writes_none admin s (Ask.Index page) refl)
refused_alone admin s (Ask.Search filter whole) built is = ap row_batches (writes_none admin s (Ask.Search filter whole) refl)
refused_alone admin s Ask.Groups built is = ap row_batches (writes_none admin s Ask.Groups refl)
refused_alone admin s Ask.SyncGroups built is = ap row_batches (writes_none admin s Ask.SyncGroups refl)
refused_alone admin s Ask.SyncEvents built is = ap row_batches (writes_none admin s Ask.SyncEvents refl)
refused_alone admin s (Ask.SyncPart event n) built is = ap row_batches (writes_none admin s (Ask.SyncPart event n) refl)
refused_alone admin s Ask.SyncManifest built is = ap row_batches (writes_none admin s Ask.SyncManifest refl)
refused_alone admin s (Ask.SyncRows w) built is = ap row_batches (writes_none admin s (Ask.SyncRows w) refl)
refused_alone admin s (Ask.TakePart part) built is = absurd (never_refused admin s part is)

-- the same over what is read
refused_over : (host : Host) (now : ℕ) (it : Asked) (groups : List Group) (read : Result (List Row) (List ℕ)) → IsBuilt it.1
    → IsRefused (asked_over host now it groups read).reply → (asked_over host now it groups read).batches ≡ []
refused_over host now it groups (Ok rows) built is = refused_alone host.admin (seeing (scene_at host now it.0 groups) rows) it.1 built is
refused_over host now it groups (Err name) built is = refl

pub refused_puts_none : (host : Host) (now : ℕ) (it : Asked) (seen : store.Seen) → IsBuilt it.1 → IsRefused (asked_where host now it seen).reply → (asked_where host now it seen).batches ≡ []
refused_puts_none host now it seen = refused_over host now it seen.groups (read_where host now it seen)
