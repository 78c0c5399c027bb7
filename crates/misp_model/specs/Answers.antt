-- What a request is answered: the first rule that refuses it, or what was asked for.
use Rattle.std.specs.Prelude.{Bool, true, false, List, [], ◌∷◌, Some, None, map, ℕ, not, leb, ◌&&◌, filter, ◌||◌, length}
use Rattle.misp_groups.specs.declared.group.GroupFields.{GroupFields as Group}
use Rattle.misp_groups.specs.Audience.{allows}
use Rattle.misp_elem.specs.declared.row.RowFields.{RowFields as Row}
use Rattle.misp_elem.specs.declared.visible.VisibleAttribute.{VisibleAttribute}
use Rattle.misp_elem.specs.declared.visible.VisibleEvent.{VisibleEvent}
use Rattle.misp_elem.specs.Prelude.{EventId, Inst, OrgId, list_any, same_org}
use Rattle.misp_manifest.specs.declared.manifest.ManifestFields.{ManifestFields}
use Rattle.misp_search.specs.Fitting.{hits, whole_events}
use Rattle.misp_search.specs.Page.{page_of}
use Rattle.misp_model.specs.declared.package.PackageFields.{PackageFields}
use Rattle.misp_model.specs.declared.ask.Ask.{Ask}
use Rattle.misp_model.specs.declared.ask.Ask.TheVariants.{View, Propose, Judge, Sight, Index, Search, Groups, SyncGroups, SyncEvents, SyncPart, SyncManifest, SyncRows, TakePart}
use Rattle.misp_model.specs.Scene.{Scene, Rule, NotGranted, first_rule}
use Rattle.misp_model.specs.Changing.{change_rules, change_writes}
use Rattle.misp_model.specs.Statements.{propose_rules, judge_rules, sight_rules, propose_writes, judge_writes, sight_writes}
use Rattle.misp_model.specs.Shown.{shown, index}
use Rattle.misp_model.specs.Version.{Version}
use Rattle.misp_model.specs.Arrival.{counted, handed_in}
use Rattle.misp_model.specs.Manifests.{pulled_manifest, pulled_only}
use Rattle.misp_model.specs.Pulling.{pulled_events, pulled_groups, pulled_part}
use Rattle.misp_model.specs.View.{is_row_of}

-- no package of the event has that number
abbrev pub part_rules : Scene → EventId → ℕ → List (Bool × Rule)
part_rules s e n = (elim (pulled_part s e n) [ None ↦ true | Some p ↦ false ], NotGranted) ∷ []

-- the rules that refuse a request
unfoldable pub ask_rules : Scene → Ask → List (Bool × Rule)
ask_rules s (View e owner) =
    (elim (shown s e owner) [ None ↦ true | Some v ↦ false ], NotGranted) ∷ []
ask_rules s (Ask.Change c) = change_rules s c
ask_rules s (Propose d) = propose_rules s d
ask_rules s (Judge e n accept) = judge_rules s e n accept
ask_rules s (Sight e t d) = sight_rules s e t d
ask_rules s (Index page) = []
ask_rules s (Search filter whole) = []
ask_rules s Groups = []
ask_rules s SyncGroups = []
ask_rules s SyncEvents = []
ask_rules s (SyncPart e n) = part_rules s e n
ask_rules s SyncManifest = []
ask_rules s (SyncRows w) = part_rules s w.event w.part
ask_rules s (TakePart p) = []

-- the versions that a package's rows come as, where they count
unfoldable pub taken_rows : Scene → List Row → List Version
taken_rows s rows = counted s.rows s.groups (map (handed_in s.act s.at s.by) rows)

-- the versions that an accepted request brings
unfoldable pub brings : Scene → Ask → List Version
brings s (View e owner) = []
brings s (Ask.Change c) = change_writes s c
brings s (Propose d) = propose_writes s d
brings s (Judge e n accept) = judge_writes s e n accept
brings s (Sight e t d) = sight_writes s e t d
brings s (Index page) = []
brings s (Search filter whole) = []
brings s Groups = []
brings s SyncGroups = []
brings s SyncEvents = []
brings s (SyncPart e n) = []
brings s SyncManifest = []
brings s (SyncRows w) = []
brings s (TakePart p) = taken_rows s p.rows

-- no rule refuses the request
unfoldable pub is_accepted : Scene → Ask → Bool
is_accepted s a = elim (first_rule (ask_rules s a)) [ None ↦ true | Some r ↦ false ]

pub data Reply : Type 0 where
  Refused : Rule → Reply
  Seen : VisibleEvent → Reply
  Listed : List VisibleEvent → Reply
  Hits : List VisibleAttribute → Reply
  Events : List VisibleEvent → Reply
  Shares : List Group → Reply
  Parts : List (EventId × ℕ) → Reply
  Packed : PackageFields → Reply
  Manifested : List ManifestFields → Reply
  Saved : List Version → Reply
  Taken : ℕ → Reply
  Other : Reply

-- the arrivals among these that are newer than what is held
unfoldable pub newer : Scene → List Version → List Version
newer s vs =
    filter
    (λ v. not (list_any (λ row. is_row_of s.by v.key row && leb v.stamp row.stamp) s.rows)) vs

-- a group concerns the organisation that created it, and those that it allows here
abbrev pub concerns : OrgId → Inst → Group → Bool
concerns o i g = same_org g.id.creator o || allows g o i

-- the groups that concern the organisation
unfoldable pub concerning : Scene → List Group
concerning s = filter (concerns s.by s.at) s.groups

-- the answer where no rule refuses
unfoldable pub ok_answer : Scene → Ask → Reply
ok_answer s (View e owner) = elim (shown s e owner) [ None ↦ Other | Some v ↦ Seen v ]
ok_answer s (Ask.Change c) = Saved (change_writes s c)
ok_answer s (Propose d) = Saved (propose_writes s d)
ok_answer s (Judge e n accept) = Saved (judge_writes s e n accept)
ok_answer s (Sight e t d) = Saved (sight_writes s e t d)
ok_answer s (Index page) = Listed (page_of page (index s))
ok_answer s (Search filter true) = Events (page_of filter.page (whole_events filter (index s)))
ok_answer s (Search filter false) = Hits (page_of filter.page (hits filter (index s)))
ok_answer s Groups = Shares (concerning s)
ok_answer s SyncGroups = Shares (pulled_groups s)
ok_answer s SyncEvents = Parts (pulled_events s)
ok_answer s (SyncPart e n) = elim (pulled_part s e n) [ None ↦ Other | Some p ↦ Packed p ]
ok_answer s SyncManifest = Manifested (pulled_manifest s)
ok_answer s (SyncRows w) = elim (pulled_only s w) [ None ↦ Other | Some p ↦ Packed p ]
ok_answer s (TakePart p) = Taken (length (newer s (taken_rows s p.rows)))

-- what a request is answered
unfoldable pub answer : Scene → Ask → Reply
answer s a = elim (first_rule (ask_rules s a)) [ None ↦ ok_answer s a | Some r ↦ Refused r ]
