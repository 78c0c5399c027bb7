-- What a request writes and is answered bears the number of its act in the versions that it writes, and nowhere else; the partner of the caller's key counts for pulls alone.
use Rattle.std.proofs.Common.{◌≡◌, List, Bool, true, false, refl, map, cond, [], ◌∷◌, ap, ◌++◌, ◌∙◌, sym, ℕ, length, Option, Some, None, option_map, ◌&&◌, ◌||◌, not, leb, option_to_list, filter_map, filter}
use Rattle.misp_model.specs.Scene.{Partner}
use Rattle.misp_history.proofs.Prelude.{Act, AddEvent, AddParts, Ask, Caller, Change, Content, Draft, Element, EventId, Group, Index, Judge, Key, Label, Listed, Other, ProposalBody, ProposalName, Publish, ReferenceDraft}
use Rattle.misp_history.proofs.Prelude.{Refused, Reply, Row, Rule, Saved, Scene, Seen, Submission, TakePart, Taken, Verdict, Version, View, VisibleEvent, World, acceptance, accepted, answer, any_map, as_deleted, as_published, ask_rules}
use Rattle.misp_history.proofs.Prelude.{at_attribute, at_publishing, at_tags, body_seen, brings, change_writes, changed, changed_row, concerning, cons_option, counted, counts, event_key, event_of, event_written, filter-map, first_rule}
use Rattle.misp_history.proofs.Prelude.{fresh_row, handed_in, has_copy, has_event, has_tag, is_for_new, is_held_in, is_row_of, is_statement, is_welcome, judge_writes, judged_place, label_now, length-map, let_out, let_out_row, list_any}
use Rattle.misp_history.proofs.Prelude.{made, map-append, map-map, new_event, newer, ok_answer, own_reference, own_row, own_row_is, part_version, parts_written, proposal_key, propose_writes, reference_key, reference_version, same_key}
use Rattle.misp_history.proofs.Prelude.{scene, scene_as, shown, sight_writes, sighting_key, taken_rows, target_in_copy, target_of, untagged, written}
use Rattle.misp_model.specs.Numbers.{version_as, versions_as, reply_as}
use Rattle.misp_model.specs.declared.change.Change.TheVariants.{DeleteReference}
use Rattle.misp_model.specs.Statements.{proposal_row}
use Rattle.misp_model.proofs.Numbers.{index_alike, rules_alike, rules_as, shown_alike}
use Rattle.misp_search.specs.Fitting.{hits, whole_events}
use Rattle.misp_search.specs.Page.{page_of}
use Rattle.misp_model.specs.Answers.{Events, Hits, Packed}
use Rattle.misp_model.specs.Machine.{pulls}
use Rattle.misp_model.specs.Manifests.{pulled_manifest, pulled_only}
use Rattle.misp_model.specs.Pulling.{pulled_events, pulled_groups, pulled_part, pulled_rows}
use Rattle.misp_model.specs.declared.package.PackageFields.{PackageFields as Package}
use Rattle.misp_history.proofs.Prelude.{Groups, Propose, Search, Sight, SyncEvents, SyncGroups, SyncManifest, SyncPart, SyncRows, false≢true}

-- ---- lists
map_cond : {X Y : Type 0} (f : X → Y) (b : Bool) (xs ys : List X) → cond b (map f xs) (map f ys) ≡ map f (cond b xs ys)
map_cond f true xs ys = refl
map_cond f false xs ys = refl

map_option : {X Y : Type 0} (f : X → Y) (o : Option X) (xs : List X) → cons_option (option_map f o) (map f xs) ≡ map f (cons_option o xs)
map_option f None xs = refl
map_option f (Some x) xs = refl

map_given : {X Y Z : Type 0} (f : Y → Z) (g : X → Option Y) (xs : List X) → filter_map (λ x. option_map f (g x)) xs ≡ map f (filter_map g xs)
map_given f g [] = refl
map_given f g (x ∷ xs) = ap (cons_option (option_map f (g x))) (map_given f g xs) ∙ map_option f (g x) (filter_map g xs)

both_map : {X Y : Type 0} (f : X → Y) (xs ys : List X) (us vs : List Y) → us ≡ map f xs → vs ≡ map f ys → us ++ vs ≡ map f (xs ++ ys)
both_map f xs ys us vs h k = (λ i. h i ++ k i) ∙ sym (map-append f xs ys)

-- the scene of an act has its number alone from it
pub scene_is : (m n : ℕ) (w : World) (act : Act) (c : Caller) → scene n w act c ≡ scene_as n (scene m w act c)
unfolding scene
scene_is m n w act c = refl

module _ (n : ℕ) (partner : Option Partner) (s : Scene) where
  abbrev other : Scene
  other = record s { act = n; partner = partner }

  -- ---- a body
  reference_as : (e : EventId) (parts : List Draft) (r : ReferenceDraft) → reference_version other e parts r ≡ option_map (version_as n) (reference_version s e parts r)
  unfolding reference_version reference_key target_of target_in_copy written
  reference_as e parts r = one (reference_key s e parts r)
    where
      one : (o : Option Key) → option_map (λ k. written other k s.now Label.Inherit (Content.Reference r.body)) o
          ≡ option_map (version_as n) (option_map (λ k. written s k s.now Label.Inherit (Content.Reference r.body)) o)
      one None = refl
      one (Some k) = refl

  parts_as : (b : Submission) → parts_written other b ≡ versions_as n (parts_written s b)
  unfolding parts_written part_version written
  parts_as b =
      both_map (version_as n) (map (part_version s b.event) b.parts) (filter_map (reference_version s b.event b.parts) b.references) _ _
      (sym (map-map (version_as n) (part_version s b.event) b.parts))
      ((λ i. filter_map (λ r. reference_as b.event b.parts r i) b.references) ∙ map_given (version_as n) (reference_version s b.event b.parts) b.references)

  add_as : (b : Submission) → event_written other b ≡ versions_as n (event_written s b)
  unfolding event_written new_event written
  add_as b =
      both_map (version_as n) _ (parts_written s b) _ _
      (sym (map-map (version_as n) (λ d. written s (event_key b.event) s.now b.label (Content.Event (new_event s d))) (option_to_list b.body)))
      (parts_as b)

  -- ---- rows that are changed
  row_as : (k : Key) (l : Row → Label) (f : Content → Content) → changed_row other k l f ≡ versions_as n (changed_row s k l f)
  unfolding changed_row changed written own_row
  row_as k l f = sym (map-map (version_as n) (λ row. changed s row (l row) (f row.content)) (option_to_list (own_row s k)))

  published_as : (vs : List Version) → map as_published (versions_as n vs) ≡ versions_as n (map as_published vs)
  unfolding as_published
  published_as vs = map-map as_published (version_as n) vs ∙ sym (map-map (version_as n) as_published vs)

  change_as : (c : Change) → change_writes other c ≡ versions_as n (change_writes s c)
  unfolding change_writes own_reference changed written own_row_is own_row let_out let_out_row is_held_in
  change_as (AddEvent b) = add_as b
  change_as (AddParts e b) = parts_as b
  change_as (DeleteReference e x u) = sym (map-map (version_as n) (λ row. changed s row row.label (as_deleted row.content)) (option_to_list (own_reference s e x u)))
  change_as (Change.Untag e p name) =
      ap (λ vs. cond (own_row_is s (Element e p) (has_tag name)) vs []) (row_as (Element e p) (λ row. row.label) (at_tags (untagged name)))
      ∙ map_cond (version_as n) (own_row_is s (Element e p) (has_tag name)) (changed_row s (Element e p) (λ row. row.label) (at_tags (untagged name))) []
  change_as (Publish e) =
      let event : List Version = changed_row s (event_key e) (λ row. row.label) (at_publishing s.now) in
      both_map (version_as n) (map as_published event) (let_out s e) _ _
      (ap (map as_published) (row_as (event_key e) (λ row. row.label) (at_publishing s.now)) ∙ published_as event) (sym (map-map (version_as n) (let_out_row s) (filter (is_held_in s e) s.rows)))
  change_as _ = row_as _ _ _

  -- ---- statements
  acceptance_as : (e : EventId) (m : ProposalName) (p : ProposalBody) → acceptance other e m p ≡ versions_as n (acceptance s e m p)
  unfolding acceptance written
  acceptance_as e m p =
      let made_new : List Version = written s (Element e (judged_place m)) s.now Label.Inherit (Content.Attribute (made p)) ∷ [] in
      ap (cond (is_for_new m) (versions_as n made_new)) (row_as (Element e (judged_place m)) (λ row. row.label) (at_attribute (accepted p)))
      ∙ map_cond (version_as n) (is_for_new m) made_new (changed_row s (Element e (judged_place m)) (λ row. row.label) (at_attribute (accepted p)))

  -- what an acceptance of this body writes
  abbrev accepting : Scene → EventId → ProposalName → Option ProposalBody → List Version
  accepting t e m o = elim o as (λ x. List Version) [ None ↦ [] | Some p ↦ acceptance t e m p ]

  accepting_as : (e : EventId) (m : ProposalName) (o : Option ProposalBody) → accepting other e m o ≡ versions_as n (accepting s e m o)
  accepting_as e m None = refl
  accepting_as e m (Some p) = acceptance_as e m p

  judge_as : (e : EventId) (m : ProposalName) (accept : Bool) → judge_writes other e m accept ≡ versions_as n (judge_writes s e m accept)
  unfolding judge_writes body_seen proposal_row written
  judge_as e m accept =
      ap (λ vs. version_as n (written s (Verdict e m s.at s.by) s.now Label.Inherit (Content.Verdict accept)) ∷ vs)
      (ap (λ vs. cond accept vs []) (accepting_as e m (body_seen s e m)) ∙ map_cond (version_as n) accept (accepting s e m (body_seen s e m)) [])

  -- ---- packages
  counts_as : (rows : List Row) (groups : List Group) (coming : List Version) (v : Version) →
      counts rows groups (versions_as n coming) (version_as n v) ≡ counts rows groups coming v
  unfolding counts has_event is_welcome label_now
  counts_as rows groups coming v =
      ap (λ b. is_welcome rows groups v && (is_statement v.key || (has_copy rows v.owner (event_of v.key) || b)))
      (any_map (version_as n) (λ u. same_key u.key (event_key (event_of v.key)) && is_welcome rows groups u) coming)

  counted_as : (rows : List Row) (groups : List Group) (coming : List Version) → counted rows groups (versions_as n coming) ≡ versions_as n (counted rows groups coming)
  unfolding counted
  counted_as rows groups coming =
      filter-map (version_as n) (counts rows groups (versions_as n coming)) coming
      ∙ (λ i. versions_as n (filter (λ v. counts_as rows groups coming v i) coming))

  taken_as : (rows : List Row) → taken_rows other rows ≡ versions_as n (taken_rows s rows)
  unfolding taken_rows handed_in
  taken_as rows =
      ap (counted s.rows s.groups) (sym (map-map (version_as n) (handed_in s.act s.at s.by) rows))
      ∙ counted_as s.rows s.groups (map (handed_in s.act s.at s.by) rows)

  newer_as : (vs : List Version) → newer other (versions_as n vs) ≡ versions_as n (newer s vs)
  unfolding newer
  newer_as vs = filter-map (version_as n) (λ v. not (list_any (λ row. is_row_of s.by v.key row && leb v.stamp row.stamp) s.rows)) vs

  -- ---- any request
  -- the versions are the same but for their number
  pub brings_alike : (a : Ask) → brings other a ≡ versions_as n (brings s a)
  unfolding brings propose_writes proposal_key sight_writes sighting_key written
  brings_alike (Ask.Change c) = change_as c
  brings_alike (Judge e m accept) = judge_as e m accept
  brings_alike (TakePart p) = taken_as p.rows
  brings_alike _ = refl

  -- and so the rows are the same
  pub fresh_alike : (a : Ask) → map fresh_row (brings other a) ≡ map fresh_row (brings s a)
  unfolding fresh_row
  fresh_alike a = ap (map fresh_row) (brings_alike a) ∙ map-map fresh_row (version_as n) (brings s a)

  view_as : (o : Option VisibleEvent) → elim o as (λ x. Reply) [ None ↦ Other | Some v ↦ Seen v ] ≡ reply_as n (elim o as (λ x. Reply) [ None ↦ Other | Some v ↦ Seen v ])
  unfolding reply_as
  view_as None = refl
  view_as (Some v) = refl

  -- where it is no pull, what was asked for is the same
  ok_alike : (a : Ask) → pulls a ≡ false → ok_answer other a ≡ reply_as n (ok_answer s a)
  unfolding ok_answer reply_as concerning propose_writes proposal_key sight_writes sighting_key written pulls
  ok_alike (View e owner) h = (λ i. elim (shown_alike n partner s e owner i) as (λ x. Reply) [ None ↦ Other | Some v ↦ Seen v ]) ∙ view_as (shown s e owner)
  ok_alike (Ask.Change c) h = ap Saved (change_as c)
  ok_alike (Judge e m accept) h = ap Saved (judge_as e m accept)
  ok_alike (Propose d) h = refl
  ok_alike (Sight e p d) h = refl
  ok_alike (Index page) h = ap (λ events. Listed (page_of page events)) (index_alike n partner s)
  ok_alike (Search filter true) h = ap (λ events. Events (page_of filter.page (whole_events filter events))) (index_alike n partner s)
  ok_alike (Search filter false) h = ap (λ events. Hits (page_of filter.page (hits filter events))) (index_alike n partner s)
  ok_alike Groups h = refl
  ok_alike (TakePart p) h = ap Taken (ap (λ vs. length (newer other vs)) (taken_as p.rows) ∙ ap length (newer_as (taken_rows s p.rows)) ∙ length-map (newer s (taken_rows s p.rows)) (version_as n))
  ok_alike _ h = absurd (false≢true (sym h))

  decided_as : (o : Option Rule) (r : Reply) → elim o as (λ x. Reply) [ None ↦ reply_as n r | Some rule ↦ Refused rule ] ≡ reply_as n (elim o as (λ x. Reply) [ None ↦ r | Some rule ↦ Refused rule ])
  unfolding reply_as
  decided_as None r = refl
  decided_as (Some rule) r = refl

  -- the reply is the same but for the number of the versions that were saved
  pub answer_alike : (a : Ask) → pulls a ≡ false → answer other a ≡ reply_as n (answer s a)
  unfolding answer
  answer_alike a h =
      (λ i. elim (first_rule (rules_alike n partner s a h i)) as (λ x. Reply) [ None ↦ ok_alike a h i | Some rule ↦ Refused rule ])
      ∙ decided_as (first_rule (ask_rules s a)) (ok_answer s a)

-- ---- with another number alone
module _ (n : ℕ) (s : Scene) where
  pub brings_as : (a : Ask) → brings (scene_as n s) a ≡ versions_as n (brings s a)
  brings_as = brings_alike n s.partner s

  pub fresh_as : (a : Ask) → map fresh_row (brings (scene_as n s) a) ≡ map fresh_row (brings s a)
  fresh_as = fresh_alike n s.partner s

  part_as : (o : Option Package) → elim o as (λ x. Reply) [ None ↦ Other | Some p ↦ Packed p ] ≡ reply_as n (elim o as (λ x. Reply) [ None ↦ Other | Some p ↦ Packed p ])
  unfolding reply_as
  part_as None = refl
  part_as (Some p) = refl

  ok_as : (a : Ask) → ok_answer (scene_as n s) a ≡ reply_as n (ok_answer s a)
  unfolding ok_answer reply_as pulled_groups pulled_events pulled_manifest pulled_only pulled_rows pulled_part pulls
  ok_as SyncGroups = refl
  ok_as SyncEvents = refl
  ok_as (SyncPart e m) = part_as (pulled_part s e m)
  ok_as SyncManifest = refl
  ok_as (SyncRows w) = part_as (pulled_only s w)
  ok_as a = ok_alike n s.partner s a refl

  pub answer_as : (a : Ask) → answer (scene_as n s) a ≡ reply_as n (answer s a)
  unfolding answer
  answer_as a =
      (λ i. elim (first_rule (rules_as n s a i)) as (λ x. Reply) [ None ↦ ok_as a i | Some rule ↦ Refused rule ])
      ∙ decided_as n s.partner s (first_rule (ask_rules s a)) (ok_answer s a)
