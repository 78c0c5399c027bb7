-- Worked examples, computed. Of the organisations Alpha is the first, Beta the second and Gamma the third.
use Rattle.std.proofs.Common.{ℕ, [], ◌∷◌, false, Some, None, List, flat_map, length, map, true, ◌≡◌, refl, Option, cond, ◌*◌, ◌+◌, Bool}
use Rattle.misp_history.proofs.Prelude.{Act, AddEvent, Administers, Ask, Asks, Command, Content, DeleteEvent, Draft, EditAttribute, EditEvent, ElemId, Element, EventId, Group, Inst, Key, Label, Listed, Net, Nothing, OrgId, Other, Place, Proposal, Publish, Refused}
use Rattle.misp_history.proofs.Prelude.{Reply, Route, Rule, Saved, Seen, Submission, Syncs, Taken, is_less, label_kind, same_inst, tables}
use Rattle.misp_ids.specs.declared.label.Way.{Way}
use Rattle.misp_ids.specs.declared.label.Direction.{Direction}
use Rattle.misp_ids.specs.declared.label.Direction.TheVariants.{Pull, Push}
use Rattle.misp_model.specs.Prelude.{ElementExists, ElementFull, EventExists, EventGone, GroupNotUsable, NotGranted, NotOwner, ProposalExists, TimeLimit, VisibleAttribute, VisibleObject, Way}
use Rattle.misp_manifest.specs.declared.manifest.ManifestFields.{ManifestFields}
use Rattle.misp_model.specs.Answers.{Events, Hits, Manifested, Packed, Parts, Shares}
use Rattle.misp_model.specs.Scene.{LockedCopy, OlderTime, ProposalClosed}
use Rattle.misp_model.specs.Shown.{order_of}
use Rattle.misp_history.specs.Outcomes.{Stopped, Whole, run_partly}
use Rattle.misp_erasure.specs.Kept.{replies, erased, start}
use Rattle.misp_elem.specs.KeyFacts
use Rattle.misp_elem.specs.Parents
use Rattle.misp_elem.specs.RowFacts
use Rattle.misp_elem.specs.SameKey
use Rattle.misp_erasure.specs.Erasure
use Rattle.misp_erasure.specs.Kept
use Rattle.misp_groups.specs.Audience
use Rattle.misp_groups.specs.Changes
use Rattle.misp_history.specs.Acts
use Rattle.misp_history.specs.History
use Rattle.misp_history.specs.Merging
use Rattle.misp_history.specs.Outcomes
use Rattle.misp_history.specs.Passing
use Rattle.misp_ids.specs.Moments
use Rattle.misp_ids.specs.Same
use Rattle.misp_levels.specs.Levels
use Rattle.misp_lists.specs.Order
use Rattle.misp_model.specs.Adding
use Rattle.misp_model.specs.Answers
use Rattle.misp_model.specs.Arrival
use Rattle.misp_model.specs.Changing
use Rattle.misp_model.specs.Closed
use Rattle.misp_model.specs.Edits
use Rattle.misp_model.specs.Manifests
use Rattle.misp_model.specs.Pulling
use Rattle.misp_model.specs.RowOrder
use Rattle.misp_model.specs.Scene
use Rattle.misp_model.specs.Shown
use Rattle.misp_model.specs.Statements
use Rattle.misp_model.specs.Version
use Rattle.misp_model.specs.View
use Rattle.misp_search.specs.Fitting
use Rattle.misp_search.specs.Page
use Rattle.misp_search.specs.Page.{page_at}
use Rattle.misp_search.specs.Wishes
use Rattle.misp_search.specs.declared.fitting.Filter.{Filter}

org : ℕ → OrgId
org n = record { 0 = record { 0 = n } }

event : ℕ → EventId
event n = record { 0 = record { 0 = n } }

elem_id : ℕ → ElemId
elem_id n = record { 0 = record { 0 = n } }

attribute : ℕ → ℕ → Label → Draft
attribute number n l =
    record {
      number = number;
      place = Place.Attribute (elem_id n);
      label = l;
      content = Content.Attribute (record { kind = 116 ∷ []; category = 15; to_ids = false; comment = []; deleted = false; value = n ∷ []; tags = []; object_relation = []; first_seen = None; last_seen = None });
    }

event_with : ℕ → Label → List Draft → Submission
event_with n l parts =
    record {
      event = event n;
      body = Some (record { info = 105 ∷ []; date = None; threat_level_id = 4; analysis = 0; extends_uuid = None; tags = [] });
      label = l;
      parts = parts;
      references = [];
    }

event_of_two : ℕ → Label → Submission
event_of_two n l = event_with n l (attribute 1 21 Label.Inherit ∷ attribute 2 22 Label.Own ∷ [])

no_links : Net
no_links direction i link groups made = None

asks : ℕ → ℕ → Ask → Act
asks o time a = record { at = 97 ∷ []; now = time; command = Asks (record { org = org o; name = []; partner = None }) a }

script : List Act
script =
    asks 1 100 (Ask.Change (AddEvent (event_of_two 11 Label.Community)))
    ∷ asks 1 100 (Ask.Change (AddEvent (event_of_two 12 Label.Own)))
    ∷ asks 2 100 (Ask.View (event 11) None)
    ∷ asks 3 100 (Ask.View (event 11) None)
    ∷ asks 1 100 (Ask.View (event 12) None)
    ∷ []

-- how many attributes a reply shows; 100 for a refusal, 200 for any other
count : Option Reply → ℕ
count None = 300
count (Some (Seen v)) = length v.attributes
count (Some (Refused r)) = 100
count (Some (Saved vs)) = length vs
count (Some _) = 200

-- the instances a, b and c, and the links between them
a : Inst
a = 97 ∷ []

b : Inst
b = 98 ∷ []

c : Inst
c = 99 ∷ []

-- a link: where it is, to which peer, and whose key it has
route : Direction → Inst → Inst → OrgId → Route
route Pull at peer o = record { way = Way.Pull; from = peer; «for» = o; dest = at; into = at; holder = o }
route Push at peer o = record { way = Way.Push; from = at; «for» = o; dest = peer; into = peer; holder = o }

links : Net
links direction i link groups made =
    cond (same_inst link (98 ∷ 97 ∷ [])) (Some (route direction b a (org 2)))
    (cond (same_inst link (99 ∷ 98 ∷ [])) (Some (route direction c b (org 3)))
    (cond (same_inst link (97 ∷ 98 ∷ [])) (Some (route direction a b (org 1)))
    (cond (same_inst link (97 ∷ 118 ∷ [])) (Some (route direction a b (org 3)))
    (cond (same_inst link (98 ∷ 99 ∷ [])) (Some (route direction b c (org 3))) None))))

syncs : Direction → Inst → Inst → Act
syncs direction i link = record { at = i; now = 0; command = Syncs direction link }

asks_at : Inst → ℕ → ℕ → Ask → Act
asks_at i o time x = record { at = i; now = time; command = Asks (record { org = org o; name = []; partner = None }) x }

-- with a key for a partner
asks_for : Inst → Inst → ℕ → ℕ → Ask → Act
asks_for partner i o time x = record { at = i; now = time; command = Asks (record { org = org o; name = []; partner = Some (record { inst = partner; way = Way.Pull }) }) x }

-- the number of a rule
rule_number : Rule → ℕ
rule_number NotGranted = 9
rule_number NotOwner = 10
rule_number LockedCopy = 11
rule_number EventExists = 12
rule_number EventGone = 13
rule_number ElementExists = 14
rule_number GroupNotUsable = 15
rule_number OlderTime = 16
rule_number TimeLimit = 17
rule_number ProposalExists = 19
rule_number ProposalClosed = 20
rule_number ElementFull = 39

-- how many keys a manifest has
count_keys : List ManifestFields → ℕ
count_keys events = length (flat_map (λ said. flat_map (λ keys. keys) said.parts) events)

-- 1000 and the rule; 2000 and the rows written; 3000, and 100 for each attribute, and the event's level; 4000 and what is listed; 7000, and 100 for each package of the event, and the rows of
-- this one; 8000, and 100 for each event of a manifest, and its keys
tell : Option Reply → ℕ
tell None = 0
tell (Some (Refused r)) = 1000 + rule_number r
tell (Some (Saved vs)) = 2000 + length vs
tell (Some (Seen v)) = 3000 + 100 * length v.attributes + label_kind v.row.label
tell (Some (Listed vs)) = 4000 + length vs
tell (Some (Hits found)) = 4000 + length found
tell (Some (Events found)) = 4000 + length found
tell (Some (Shares gs)) = 4000 + length gs
tell (Some (Parts es)) = 4000 + length es
tell (Some (Packed p)) = 7000 + 100 * p.parts + length p.rows
tell (Some (Manifested es)) = 8000 + 100 * length es + count_keys es
tell (Some (Taken n)) = 5000 + n
tell (Some Other) = 6000

add_one : ℕ → Label → Ask
add_one n l = Ask.Change (AddEvent (event_with n l (attribute 1 21 Label.Inherit ∷ [])))

view : ℕ → Ask
view n = Ask.View (event n) None

publish : ℕ → Ask
publish n = Ask.Change (Publish (event n))

-- the stamps of the attributes that are shown, and the owner of the copy
stamps : Option Reply → List ℕ
stamps (Some (Seen v)) = v.row.owner.0.0 ∷ map (λ x. x.row.stamp) v.attributes
stamps _ = []

-- an edit of the comment of an attribute
comment : ℕ → ℕ → Ask
comment n x =
    Ask.Change (EditAttribute (event n) (Place.Attribute (elem_id x))
    (record { stamp = None; label = None; category = None; to_ids = None; comment = Some (99 ∷ []); kind_value = None; seen = None }))

relabel : ℕ → Label → Ask
relabel n l =
    Ask.Change (EditEvent (event n)
    (record { stamp = None; label = Some l; info = None; date = None; threat_level_id = None; analysis = None; extends_uuid = None }))

propose : ℕ → ℕ → ℕ → Ask
propose n x u =
    Ask.Propose (record {
      event = event n;
      target = Place.Attribute (elem_id x);
      uuid = elem_id u;
      body = record { remove = false; by_name = []; kind = 116 ∷ []; category = 15; to_ids = true; comment = []; value = 33 ∷ [] };
    })

accept : ℕ → ℕ → Inst → ℕ → ℕ → Ask
accept n x i o u = Ask.Judge (event n) (record { target = Place.Attribute (elem_id x); at = i; by = org o; uuid = elem_id u }) true

-- how many references the first object shows, and how many sightings the first attribute
first_references : List VisibleObject → ℕ
first_references [] = 900
first_references (x ∷ xs) = length x.references

first_sightings : List VisibleAttribute → ℕ
first_sightings [] = 900
first_sightings (x ∷ xs) = length x.sightings

inside : Option Reply → ℕ
inside None = 0
inside (Some (Seen v)) = 1000 + 10 * first_references v.objects + first_sightings v.attributes
inside (Some (Refused r)) = 1
inside (Some (Saved vs)) = 2
inside (Some (Listed vs)) = 3
inside (Some (Hits found)) = 3
inside (Some (Events found)) = 3
inside (Some (Shares gs)) = 3
inside (Some (Parts es)) = 3
inside (Some (Packed p)) = 3
inside (Some (Manifested es)) = 3
inside (Some (Taken n)) = 4
inside (Some Other) = 5

-- a group of the creator, with organisations, roaming or not
group : ℕ → List ℕ → Bool → Group
group o members roams =
    record {
      id = record { creator = org o; uuid = record { 0 = 77 } };
      name = 103 ∷ [];
      description = [];
      releasability = [];
      active = true;
      roaming = roams;
      orgs = map (λ m. record { org = org m; name = []; extend = false }) members;
      servers = [];
      modified = 0;
      carried = false;
    }

administers : Inst → ℕ → ℕ → Bool → Group → Act
administers i time o add g = record { at = i; now = time; command = Administers (org o) add g }

-- the wanted rows of a package of event 11
wants : ℕ → List Place → Ask
wants n places = Ask.SyncRows (record { event = event 11; part = n; keys = map (λ p. Element (event 11) p) places })

-- a filter that wants nothing, and one that wants a value; the page is the first of three items
any : Filter
any =
    record {
      kind = None;
      category = None;
      value = None;
      to_ids = None;
      tags = None;
      org = None;
      published = None;
      from = None;
      to = None;
      stamp = None;
      page = page_at 1 3;
    }

of_value : ℕ → Filter
of_value n = record any { value = Some (n ∷ []) }

second_page : Filter
second_page = record any { page = page_at 2 3 }

is_nothing : Command → Bool
is_nothing Nothing = true
is_nothing _ = false

in_group : Label
in_group = Label.Group (record { creator = org 1; uuid = record { 0 = 77 } })

add_levels : ℕ → Label → List Draft → Ask
add_levels n l drafts = Ask.Change (AddEvent (event_with n l drafts))

-- all that a run computes with
everything : Unit {0}
unfolding Outcomes.coming Outcomes.arriving Outcomes.takes Outcomes.first_brought Merging.count_bringing Merging.bringing Merging.arrived Merging.passing_rows Merging.arriving_rows
    Merging.is_welcome_row Merging.has_event_row Merging.counts_row Merging.is_newer_row Merging.is_taken Merging.brought Merging.is_own Merging.cut Merging.others_with Merging.packages
    Outcomes.synced_partly Outcomes.step_partly Outcomes.run_partly Adding.brings_object Adding.reference_fits Acts.known_at Acts.scene Answers.ask_rules Answers.taken_rows Answers.brings
    Answers.is_accepted Answers.newer Answers.ok_answer Answers.answer Changes.administration_fails Changes.administered Changes.put_group Changes.takes_group Changes.group_stamp
    Changes.group_now Answers.concerning Same.group_before Changes.take_group Changes.take_groups Acts.with_groups Acts.synced_groups Acts.synced Acts.asked Acts.step Acts.run Acts.reply_to
    Acts.replies_to Arrival.is_made_at Arrival.is_welcome Arrival.has_event Arrival.counts Arrival.counted Passing.moved Arrival.handed_in Scene.first_rule Scene.holds_home Scene.holds_copy
    Scene.holds_tombstone Scene.sees Scene.sees_live Scene.own_row Scene.own_live Scene.is_usable Moments.last_stamp Moments.next_stamp Scene.written Scene.changed KeyFacts.uuid_at
    Adding.takes_uuid Adding.is_taken Adding.are_distinct Adding.is_place_of Adding.is_target_key Adding.place_in Adding.target_in_copy Adding.target_of Adding.part_version
    Adding.reference_key Adding.reference_version Adding.parts_written Adding.has_target Adding.uuids_of Adding.clashes Adding.has_unusable Adding.new_event Adding.event_written Edits.given
    Edits.edited Edits.at_attribute Edits.edited_event Edits.edited_object Edits.at_event Edits.at_object Edits.as_deleted Edits.at_tags Edits.tags_in Edits.untagged Edits.tagged
    Edits.has_tag Edits.at_publishing Rattle.misp_elem.specs.Fields.tags_size Rattle.misp_elem.specs.Contents.text_size Scene.is_too_long Scene.own_row_is Scene.is_at_limit Scene.changed_row
    Scene.wants_unusable Scene.is_newer_than Scene.bars Adding.object_is_there Adding.part_fits Adding.fits_parts Changing.is_reference_named Changing.own_reference Changing.row_passes
    Changing.edit_rules Changing.change_rules Changing.is_held_in Changing.let_out_row Changing.let_out Changing.as_published Changing.change_writes Statements.proposal_key
    Statements.sees_target Statements.propose_rules Statements.propose_writes Statements.sighting_key Statements.sight_rules Statements.sight_writes Statements.judged_at
    Statements.judged_place Statements.is_for_new Statements.proposal_row Statements.proposal_body Statements.accepted Statements.made Statements.body_seen Statements.acceptance
    Statements.judge_writes Statements.can_judge Statements.judge_rules Audience.allows Audience.carries Audience.known_group Audience.is_known_group Audience.group_passes
    Audience.label_opens Audience.is_open Levels.hop Levels.down Levels.lowering Levels.landed Audience.label_lets_out Audience.label_is_known Closed.cut_rows Closed.cut Erasure.cut_world Closed.keeps_reference
    Closed.cut_body Closed.is_empty Closed.where_kept Closed.erased_ask Erasure.erased_request Erasure.erased_command Erasure.erased_act Erasure.erase Version.has_path Version.is_published
    Version.is_handed_in KeyFacts.is_statement RowFacts.is_gone History.exportable History.without_local_tags Version.label_now History.content_now History.same_cell History.published_after
    History.released History.row_of History.is_newest History.newest_from History.newest History.tables RowOrder.spell_place RowOrder.spell_inst RowOrder.spell_name RowOrder.spell
    RowOrder.stands_before Kept.is_one_of Kept.joined Kept.keys_known Kept.keys_ever_known Kept.acceptance_in Kept.acceptance_of Kept.acceptances Kept.judged_by Kept.proposal_of
    Kept.with_parents Kept.with_made Kept.with_acceptances Kept.with_proposals Kept.kept_keys Kept.kept Kept.start Kept.erased Kept.replies Same.same_inst Same.same_org Same.same_event
    Same.same_elem Same.same_group SameKey.same_place SameKey.same_name SameKey.same_key Parents.event_of Parents.event_key Parents.above Parents.up_to Parents.parents SameKey.is_among
    Order.put Order.in_order Order.is_less Passing.lets_out Passing.sent_copy Passing.is_sent_owner Passing.element_passes Passing.passes_at Passing.passes_by Passing.passes
    Passing.known_there Passing.passing Pulling.pulled_groups Pulling.pulled_rows Pulling.pulled_events Pulling.pulled_part
    Manifests.pulled_manifest Manifests.is_asked_for Manifests.only_of Manifests.pulled_only
    Shown.order_of Shown.sorted Shown.is_shown Shown.shown_at Shown.is_plain_attribute Shown.is_attribute_of Shown.is_object Shown.is_reference_of
    Shown.is_proposal_on Shown.is_sighting_on Shown.is_verdict_on Shown.is_closed Shown.proposals_on Shown.sightings_on Shown.shown_attribute Shown.object_of Shown.shown_object Shown.creator
    Shown.form_of Shown.event_row Shown.shown Shown.is_chosen Shown.index View.is_row_of RowFacts.is_tombstone RowFacts.is_deleted View.has_copy View.has_home View.has_gone View.row_is_open
    View.has_open View.element_granted View.granted_somewhere View.granted_by View.granted View.is_known View.known View.is_live View.is_before View.first_of_all View.chosen View.is_least
    Fitting.body_fits Fitting.event_content_fits Fitting.event_fits Fitting.tags_of Fitting.wants_tags Fitting.attribute_body_fits Fitting.attribute_content_fits Fitting.attribute_fits
    Fitting.fits Fitting.attributes_of Fitting.hits Fitting.has_hit Fitting.whole_events Page.page_of Wishes.wants_text Wishes.wants_flag Wishes.wants_category Wishes.wants_org
    Wishes.wants_from Wishes.wants_to Wishes.wants_since
    count script asks no_links event_with event_of_two elem_id event org attribute add_one a b c route links syncs asks_at rule_number count_keys tell view publish stamps comment relabel propose accept
    first_references first_sightings inside group administers in_group add_levels asks_for wants any of_value second_page is_nothing
everything = tt

-- Beta sees one attribute of the first event, Gamma and Alpha see what is theirs
beta : map count (replies (org 2) no_links script) ≡ 300 ∷ 300 ∷ 1 ∷ 300 ∷ 300 ∷ []
unfolding everything
beta = refl

alpha : map count (replies (org 1) no_links script) ≡ 3 ∷ 3 ∷ 300 ∷ 300 ∷ 2 ∷ []
unfolding everything
alpha = refl

-- with what Beta was never granted left out, Beta is told the same
beta_erased : map count (replies (org 2) no_links (erased (org 2) no_links script)) ≡ 300 ∷ 300 ∷ 1 ∷ 300 ∷ 300 ∷ []
unfolding everything
beta_erased = refl

-- a connected event is pulled as one of the community, and pulled again as one of its holder alone
pulled_twice : List Act
pulled_twice =
    asks_at a 1 100 (add_one 11 Label.Connected) ∷ asks_at a 1 110 (publish 11) ∷ syncs Pull b (98 ∷ 97 ∷ []) ∷ asks_at b 2 120 (view 11)
    ∷ syncs Pull c (99 ∷ 98 ∷ []) ∷ asks_at c 3 130 (view 11) ∷ asks_at c 2 140 (view 11) ∷ []

each_hop_lowers_the_level : (map tell (replies (org 1) links pulled_twice) ≡ 2002 ∷ 2002 ∷ 0 ∷ 0 ∷ 0 ∷ 0 ∷ 0 ∷ [])
    × (map tell (replies (org 2) links pulled_twice) ≡ 0 ∷ 0 ∷ 0 ∷ 3101 ∷ 0 ∷ 0 ∷ 1009 ∷ [])
    × (map tell (replies (org 3) links pulled_twice) ≡ 0 ∷ 0 ∷ 0 ∷ 0 ∷ 0 ∷ 3100 ∷ 0 ∷ [])
unfolding everything pulled_twice
each_hop_lowers_the_level = (refl, refl, refl)

-- an edit holds its attribute alone, until the next publishing
edited_later : List Act
edited_later =
    asks_at a 1 100 (add_one 11 Label.Connected) ∷ asks_at a 1 110 (publish 11) ∷ syncs Pull b (98 ∷ 97 ∷ [])
    ∷ asks_at a 1 150 (comment 11 21) ∷ syncs Pull b (98 ∷ 97 ∷ []) ∷ asks_at b 2 155 (view 11)
    ∷ asks_at a 1 160 (publish 11) ∷ syncs Pull b (98 ∷ 97 ∷ []) ∷ asks_at b 2 165 (view 11) ∷ []

an_edit_is_held : (map stamps (replies (org 2) links edited_later) ≡ [] ∷ [] ∷ [] ∷ [] ∷ [] ∷ (2 ∷ 100 ∷ []) ∷ [] ∷ [] ∷ (2 ∷ 150 ∷ []) ∷ [])
    × (map tell (replies (org 1) links edited_later) ≡ 2002 ∷ 2002 ∷ 0 ∷ 2001 ∷ 0 ∷ 0 ∷ 2002 ∷ 0 ∷ 0 ∷ [])
unfolding everything edited_later
an_edit_is_held = (refl, refl)

-- a copy that came back is seen where the Home copy is hidden
came_back : List Act
came_back =
    asks_at a 1 100 (add_one 11 Label.All) ∷ asks_at a 1 110 (publish 11) ∷ syncs Pull b (98 ∷ 97 ∷ []) ∷ syncs Pull a (97 ∷ 118 ∷ [])
    ∷ asks_at a 1 120 (relabel 11 Label.Own) ∷ asks_at a 2 130 (view 11) ∷ []

a_copy_that_came_back_is_seen : map stamps (replies (org 2) links came_back) ≡ [] ∷ [] ∷ [] ∷ [] ∷ [] ∷ (3 ∷ 100 ∷ []) ∷ []
unfolding everything came_back
a_copy_that_came_back_is_seen = refl

-- a proposal travels to the Home copy, and its acceptance travels back
proposed : List Act
proposed =
    asks_at a 1 100 (add_one 11 Label.All) ∷ asks_at a 1 110 (publish 11) ∷ syncs Pull b (98 ∷ 97 ∷ []) ∷ asks_at b 2 120 (propose 11 21 9)
    ∷ syncs Pull a (97 ∷ 98 ∷ []) ∷ asks_at a 1 130 (accept 11 21 b 2 9) ∷ asks_at a 1 140 (publish 11) ∷ syncs Pull b (98 ∷ 97 ∷ [])
    ∷ asks_at a 1 150 (accept 11 21 b 2 9) ∷ asks_at b 2 160 (view 11) ∷ []

an_acceptance_travels_back : (map tell (replies (org 1) links proposed) ≡ 2002 ∷ 2002 ∷ 0 ∷ 0 ∷ 0 ∷ 2002 ∷ 2002 ∷ 0 ∷ 1020 ∷ 0 ∷ [])
    × (map stamps (replies (org 2) links proposed) ≡ [] ∷ [] ∷ [] ∷ [] ∷ [] ∷ [] ∷ [] ∷ [] ∷ [] ∷ (2 ∷ 130 ∷ []) ∷ [])
unfolding everything proposed
an_acceptance_travels_back = (refl, refl)

-- a deleted event leaves a tombstone; who may not change an event is told why
deleted : List Act
deleted =
    asks_at a 1 100 (add_one 11 Label.Connected) ∷ asks_at a 1 110 (publish 11) ∷ syncs Pull b (98 ∷ 97 ∷ []) ∷ asks_at a 2 111 (comment 11 21) ∷ asks_at b 2 112 (comment 11 21)
    ∷ asks_at a 1 113 (add_one 11 Label.All) ∷ asks_at b 2 120 (Ask.Change (DeleteEvent (event 11))) ∷ syncs Pull b (98 ∷ 97 ∷ []) ∷ asks_at b 2 130 (add_one 11 Label.All) ∷ []

a_tombstone_is_left : (map tell (replies (org 2) links deleted) ≡ 0 ∷ 0 ∷ 0 ∷ 1010 ∷ 1011 ∷ 0 ∷ 2001 ∷ 0 ∷ 1013 ∷ [])
    × (map tell (replies (org 1) links deleted) ≡ 2002 ∷ 2002 ∷ 0 ∷ 0 ∷ 0 ∷ 1012 ∷ 0 ∷ 0 ∷ 0 ∷ [])
unfolding everything deleted
a_tombstone_is_left = (refl, refl)

-- an event's own attribute, one of the community, one of a group and one that inherits, as Alpha, Beta and Gamma see them
levels : List Act
levels =
    administers a 90 1 true (group 1 (1 ∷ 2 ∷ []) false)
    ∷ asks_at a 1 100 (add_levels 11 Label.All (attribute 1 21 Label.Own ∷ attribute 2 22 Label.Community ∷ attribute 3 23 in_group ∷ attribute 4 24 Label.Inherit ∷ []))
    ∷ asks_at a 1 110 (view 11) ∷ asks_at a 2 110 (view 11) ∷ asks_at a 3 110 (view 11) ∷ []

labels_as_each_sees_them : (map tell (replies (org 1) links levels) ≡ 0 ∷ 2005 ∷ 3403 ∷ 0 ∷ 0 ∷ [])
    × (map tell (replies (org 2) links levels) ≡ 0 ∷ 0 ∷ 0 ∷ 3303 ∷ 0 ∷ [])
    × (map tell (replies (org 3) links levels) ≡ 0 ∷ 0 ∷ 0 ∷ 0 ∷ 3203 ∷ [])
unfolding everything levels
labels_as_each_sees_them = (refl, refl, refl)

-- a group that does not carry keeps its event back, and one that roams lets it out
carried : List Act
carried =
    administers a 90 1 true (group 1 (1 ∷ 2 ∷ []) false) ∷ asks_at a 1 100 (add_one 11 in_group) ∷ asks_at a 1 110 (publish 11)
    ∷ syncs Pull b (98 ∷ 97 ∷ []) ∷ asks_at b 2 120 (view 11) ∷ administers a 130 1 false (group 1 (1 ∷ 2 ∷ []) true)
    ∷ syncs Pull b (98 ∷ 97 ∷ []) ∷ asks_at b 2 140 (view 11) ∷ asks_at b 3 140 (view 11) ∷ []

a_roaming_group_lets_out : (map tell (replies (org 2) links carried) ≡ 0 ∷ 0 ∷ 0 ∷ 0 ∷ 1009 ∷ 0 ∷ 0 ∷ 3104 ∷ 0 ∷ [])
    × (map tell (replies (org 3) links carried) ≡ 0 ∷ 0 ∷ 0 ∷ 0 ∷ 0 ∷ 0 ∷ 0 ∷ 0 ∷ 1009 ∷ [])
unfolding everything carried
a_roaming_group_lets_out = (refl, refl)

object : Draft
object =
    record {
      number = 3;
      place = Place.Object (elem_id 31);
      label = Label.Community;
      content = Content.Object (record { name = 120 ∷ []; meta_category = []; description = []; comment = []; template_uuid = None; template_version = 0; deleted = false });
    }

-- a reference is shown where both its ends are; a sighting is shown to its reporter and to holders
ends : List Act
ends =
    asks_at a 1 100 (Ask.Change (AddEvent (record (event_with 11 Label.Community (attribute 1 20 Label.Inherit ∷ attribute 2 21 Label.Own ∷ object ∷ [])) {
      references = record { number = 4; object = elem_id 31; uuid = elem_id 41; referenced = elem_id 21; body = record { relationship_type = []; comment = []; deleted = false } } ∷ [];
    })))
    ∷ asks_at a 2 105 (Ask.Sight (event 11) (Place.Attribute (elem_id 20)) (record { uuid = elem_id 51; kind = 0; date = None; source = [] }))
    ∷ asks_at a 1 110 (view 11) ∷ asks_at a 2 110 (view 11) ∷ asks_at a 3 110 (view 11) ∷ []

both_ends_of_a_reference : (map inside (replies (org 1) links ends) ≡ 2 ∷ 0 ∷ 1011 ∷ 0 ∷ 0 ∷ [])
    × (map inside (replies (org 2) links ends) ≡ 0 ∷ 2 ∷ 0 ∷ 1001 ∷ 0 ∷ [])
    × (map inside (replies (org 3) links ends) ≡ 0 ∷ 0 ∷ 0 ∷ 0 ∷ 1000 ∷ [])
unfolding everything ends object
both_ends_of_a_reference = (refl, refl, refl)

-- of two statements of one uuid the one made at `a` stands before the one made at `ab`
named : List ℕ → Key
named i = Proposal (event 11) (record { target = Place.Event; at = i; by = org 500; uuid = elem_id 9 })

order : (is_less (order_of (named a)) (order_of (named (97 ∷ 98 ∷ []))) ≡ true) × (is_less (order_of (named (97 ∷ 98 ∷ []))) (order_of (named a)) ≡ false)
unfolding everything named
order = (refl, refl)

-- a pull that stopped after one package took that of the second event, since of the first nothing was taken
stopped : List Act
stopped =
    asks_at a 1 100 (add_one 11 Label.All) ∷ asks_at a 1 110 (publish 11) ∷ asks_at a 1 100 (add_one 12 Label.All) ∷ asks_at a 1 110 (publish 12)
    ∷ syncs Pull b (98 ∷ 97 ∷ []) ∷ asks_at a 1 150 (comment 12 21) ∷ asks_at a 1 160 (publish 12) ∷ syncs Pull b (98 ∷ 97 ∷ []) ∷ []

stopped_pull : map (λ row. row.stamp) (tables (run_partly links 0 start stopped (Whole ∷ Whole ∷ Whole ∷ Whole ∷ Whole ∷ Whole ∷ Whole ∷ Stopped true 1 ∷ [])).log b) ≡ 110 ∷ 100 ∷ 160 ∷ 150 ∷ []
unfolding everything stopped
stopped_pull = refl

-- a pull is answered with the event that is published, in one package of two rows; a held event is in no answer
pulled : List Act
pulled =
    asks_at a 1 100 (add_one 11 Label.All) ∷ asks_at a 1 110 (publish 11) ∷ asks_at a 1 120 (add_one 12 Label.All)
    ∷ asks_for b a 2 130 Ask.SyncEvents ∷ asks_for b a 2 130 (Ask.SyncPart (event 11) 0) ∷ asks_for b a 2 130 (Ask.SyncPart (event 11) 1)
    ∷ asks_for b a 2 130 (Ask.SyncPart (event 12) 0) ∷ asks_at a 2 130 Ask.SyncEvents ∷ asks_for b a 2 130 Ask.SyncGroups ∷ []

a_pull_is_answered : map tell (replies (org 2) links pulled) ≡ 0 ∷ 0 ∷ 0 ∷ 4001 ∷ 7102 ∷ 1009 ∷ 1009 ∷ 4000 ∷ 4000 ∷ []
unfolding everything pulled
a_pull_is_answered = refl

-- and with a manifest of its two keys, and with the wanted rows of the package: the event's own row is always there
by_manifest : List Act
by_manifest =
    asks_at a 1 100 (add_one 11 Label.All) ∷ asks_at a 1 110 (publish 11) ∷ asks_at a 1 120 (add_one 12 Label.Own)
    ∷ asks_for b a 2 130 Ask.SyncManifest ∷ asks_for b a 2 130 (wants 0 (Place.Attribute (elem_id 21) ∷ []))
    ∷ asks_for b a 2 130 (wants 0 (Place.Attribute (elem_id 22) ∷ [])) ∷ asks_for b a 2 130 (wants 1 (Place.Event ∷ [])) ∷ asks_at a 2 130 Ask.SyncManifest ∷ []

a_pull_by_manifest_is_answered : map tell (replies (org 2) links by_manifest) ≡ 0 ∷ 0 ∷ 0 ∷ 8102 ∷ 7102 ∷ 7101 ∷ 1009 ∷ 8000 ∷ []
unfolding everything by_manifest
a_pull_by_manifest_is_answered = refl

-- of the pulls of another organisation nothing is left, and nothing of an event that it never saw
left_of : ℕ → List Bool
left_of o = map (λ act. is_nothing act.command) (erased (org o) links by_manifest)

pulls_of_another_are_erased : (left_of 1 ≡ false ∷ false ∷ false ∷ true ∷ true ∷ true ∷ true ∷ true ∷ [])
    × (left_of 2 ≡ false ∷ false ∷ true ∷ false ∷ false ∷ false ∷ false ∷ false ∷ [])
unfolding everything by_manifest left_of
pulls_of_another_are_erased = (refl, refl)

-- a search finds what its caller sees: of four attributes Alpha finds all, on two pages, and Beta one
searched : List Act
searched =
    asks_at a 1 100 (Ask.Change (AddEvent (event_of_two 11 Label.Community))) ∷ asks_at a 1 100 (Ask.Change (AddEvent (event_of_two 12 Label.Own)))
    ∷ asks_at a 1 110 (Ask.Search any false) ∷ asks_at a 1 110 (Ask.Search second_page false) ∷ asks_at a 1 110 (Ask.Search (of_value 22) false) ∷ asks_at a 1 110 (Ask.Search any true)
    ∷ asks_at a 2 120 (Ask.Search any false) ∷ asks_at a 2 120 (Ask.Search second_page false) ∷ asks_at a 2 120 (Ask.Search (of_value 22) false) ∷ asks_at a 2 120 (Ask.Search any true)
    ∷ asks_at a 2 120 (Ask.Index (page_at 1 3)) ∷ []

what_a_search_finds : (map tell (replies (org 1) links searched) ≡ 2003 ∷ 2003 ∷ 4003 ∷ 4001 ∷ 4002 ∷ 4002 ∷ 0 ∷ 0 ∷ 0 ∷ 0 ∷ 0 ∷ [])
    × (map tell (replies (org 2) links searched) ≡ 0 ∷ 0 ∷ 0 ∷ 0 ∷ 0 ∷ 0 ∷ 4001 ∷ 4000 ∷ 4000 ∷ 4001 ∷ 4001 ∷ [])
unfolding everything searched
what_a_search_finds = (refl, refl)

-- with what Beta was never granted left out, and with it the searches of Alpha, Beta finds the same
erased_from_searches : (map (λ act. is_nothing act.command) (erased (org 2) links searched) ≡ false ∷ true ∷ true ∷ true ∷ true ∷ true ∷ false ∷ false ∷ false ∷ false ∷ false ∷ [])
    × (map tell (replies (org 2) links (erased (org 2) links searched)) ≡ 0 ∷ 0 ∷ 0 ∷ 0 ∷ 0 ∷ 0 ∷ 4001 ∷ 4000 ∷ 4000 ∷ 4001 ∷ 4001 ∷ [])
unfolding everything searched
erased_from_searches = (refl, refl)
