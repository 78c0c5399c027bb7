-- What is written nests no deeper than JSON may.
use Rattle.std.proofs.Common.{ℕ, ◌+◌, ◌≤◌, List, [], ◌∷◌, map, Option, Some, None, arith, codes, nat_cmp, Less, Equal, Greater}
use Rattle.std.specs.Ordering.{match_ordering}
use Rattle.serde_json.specs.Data.{depth, items_depth, members_depth}
use Rattle.misp_elem.specs.declared.key.ProposalName.{ProposalName}
use Rattle.misp_format.specs.Prelude.{AttributeBody, Content, Data, ElemId, EventBody, EventId, GroupNames, Items, KeyForm, Label, Members, ObjectBody, OrgId, Refusal, RowFields, Tag, Uid, VisibleAttribute, VisibleEvent, VisibleObject}
use Rattle.misp_format.specs.Prelude.{attribute_data, attribute_members, attribute_with, body_data, event_members, event_with, group_data, group_names, items_of, member, no_members, object, object_data, object_members, object_with}
use Rattle.misp_format.specs.Prelude.{optional_uuid_data, put, reference_data, slice_cmp, tag_data, with_group}
use Rattle.misp_format.specs.Fields.{moment_if_known, text_if_any, with_some}
use Rattle.misp_format.specs.Replies.{saved_data, taken_data, refusal_data}
use Rattle.misp_format.specs.Written.{reference_with, reference_of, proposal_with, proposal_of, proposal_data, sighting_with, sighting_of, sighting_data, attribute_rest, attribute_of, object_of, event_of, event_data}

-- at most so many levels
pub record Shallow (n : ℕ) (d : Data) : Type 0 where
  pub levels : depth d ≤ n

pub record ShallowItems (n : ℕ) (ds : Items) : Type 0 where
  pub levels : items_depth ds ≤ n

pub record ShallowMembers (n : ℕ) (ms : Members) : Type 0 where
  pub levels : members_depth ms ≤ n

pub shallow_items : {A : Type 0} (n : ℕ) (one : A → Data) → ((a : A) → Shallow n (one a)) → (xs : List A) → ShallowItems n (items_of (map one xs))
shallow_items n one h [] = record { levels = omega arith }
shallow_items n one h (x ∷ xs) =
    let here = h x in
    let others = shallow_items n one h xs in
    record { levels = omega arith }

shallow_member : (n : ℕ) (k : List ℕ) (d : Data) (ms : Members) → Shallow n d → ShallowMembers n ms → ShallowMembers n (member k d ms)
shallow_member n k d ms here others = record { levels = omega arith }

shallow_moment : (n : ℕ) (k : List ℕ) (m : Option ℕ) (ms : Members) → ShallowMembers n ms → ShallowMembers n (with_some k (moment_if_known m) ms)
shallow_moment n k None ms h = h
shallow_moment n k (Some m) ms h = shallow_member n k _ ms (record { levels = omega arith }) h

shallow_text : (n : ℕ) (k text : List ℕ) (ms : Members) → ShallowMembers n ms → ShallowMembers n (with_some k (text_if_any text) ms)
shallow_text n k [] ms h = h
shallow_text n k (b ∷ bs) ms h = shallow_member n k _ ms (record { levels = omega arith }) h

shallow_put : (n : ℕ) (k : List ℕ) (d : Data) (ms : Members) → Shallow n d → ShallowMembers n ms → ShallowMembers n (put k d ms)
shallow_put n k d no_members here h = shallow_member n k d no_members here h
shallow_put n k d (member l e ms) here h =
    let first : Shallow n e = record { levels = omega arith } in
    let others : ShallowMembers n ms = record { levels = omega arith } in
    let more : ShallowMembers n (put k d ms) = shallow_put n k d ms here others in
    elim (slice_cmp nat_cmp k l) as (λ o. ShallowMembers n (match_ordering o (member k d (member l e ms)) (member l d ms) (member l e (put k d ms)))) [
      | Less ↦ shallow_member n k d (member l e ms) here h
      | Equal ↦ shallow_member n l d ms here others
      | Greater ↦ shallow_member n l e (put k d ms) first more
    ]

shallow_group : (n : ℕ) (names : GroupNames) (label : Label) (ms : Members) → 1 ≤ n → ShallowMembers n ms → ShallowMembers n (with_group names label ms)
shallow_group n names (Label.Group group) ms le h = shallow_put n (codes "SharingGroup") (group_data names group) ms (record { levels = le }) h
shallow_group n names _ ms le h = h

shallow_object : (n : ℕ) (ms : Members) → ShallowMembers n ms → Shallow (n + 1) (object ms)
shallow_object n ms h = record { levels = omega arith }

shallow_uuid : (u : Option Uid) → Shallow 0 (optional_uuid_data u)
shallow_uuid None = record { levels = omega arith }
shallow_uuid (Some u) = record { levels = omega arith }

shallow_tag : (tag : Tag) → Shallow 1 (tag_data tag)
unfolding tag_data
shallow_tag tag = record { levels = omega arith }

-- ---- references and statements

shallow_reference_with : (stamp : ℕ) (referenced : Uid) (uuid : ElemId) (content : Content) → Shallow 1 (reference_with stamp referenced uuid content)
shallow_reference_with stamp referenced uuid (Content.Reference b) = record { levels = omega arith }
shallow_reference_with stamp referenced uuid _ = record { levels = omega arith }

shallow_reference_of : (stamp : ℕ) (key : KeyForm) (content : Content) → Shallow 1 (reference_of stamp key content)
shallow_reference_of stamp (KeyForm.Reference event owner target uuid) content = shallow_reference_with stamp _ uuid content
shallow_reference_of stamp _ content = record { levels = omega arith }

shallow_reference : (r : RowFields) → Shallow 1 (reference_data r)
unfolding reference_data
shallow_reference r = shallow_reference_of r.stamp r.key r.content

shallow_proposal_with : (stamp : ℕ) (name : ProposalName) (content : Content) → Shallow 2 (proposal_with stamp name content)
shallow_proposal_with stamp name (Content.Proposal b) = record { levels = omega arith }
shallow_proposal_with stamp name _ = record { levels = omega arith }

shallow_proposal_of : (stamp : ℕ) (key : KeyForm) (content : Content) → Shallow 2 (proposal_of stamp key content)
shallow_proposal_of stamp (KeyForm.Proposal event name) content = shallow_proposal_with stamp name content
shallow_proposal_of stamp _ content = record { levels = omega arith }

shallow_proposal : (r : RowFields) → Shallow 2 (proposal_data r)
unfolding proposal_data
shallow_proposal r = shallow_proposal_of r.stamp r.key r.content

shallow_sighting_with : (by : OrgId) (uuid : ElemId) (content : Content) → Shallow 2 (sighting_with by uuid content)
shallow_sighting_with by uuid (Content.Sighting b) = record { levels = omega arith }
shallow_sighting_with by uuid _ = record { levels = omega arith }

shallow_sighting_of : (key : KeyForm) (content : Content) → Shallow 2 (sighting_of key content)
shallow_sighting_of (KeyForm.Sighting event target at by uuid) content = shallow_sighting_with by uuid content
shallow_sighting_of _ content = record { levels = omega arith }

shallow_sighting : (r : RowFields) → Shallow 2 (sighting_data r)
unfolding sighting_data
shallow_sighting r = shallow_sighting_of r.key r.content

-- ---- attributes, objects and events

shallow_attribute_with : (names : GroupNames) (a : VisibleAttribute) (b : AttributeBody) → Shallow 4 (attribute_with names a b)
unfolding attribute_with
shallow_attribute_with names a b =
    let proposals = shallow_items 2 proposal_data shallow_proposal a.proposals in
    let sightings = shallow_items 2 sighting_data shallow_sighting a.sightings in
    let tags = shallow_items 1 tag_data shallow_tag b.tags in
    let rest : ShallowMembers 3 (attribute_rest a b) = record { levels = omega arith } in
    let seen = shallow_moment 3 (codes "first_seen") b.first_seen _ (shallow_moment 3 (codes "last_seen") b.last_seen _ (shallow_text 3 (codes "object_relation") b.object_relation (attribute_rest a b) rest)) in
    let members : ShallowMembers 3 (attribute_members a b) = record { levels = omega (arith, seen.levels) } in
    shallow_object 3 (with_group names a.row.label (attribute_members a b)) (shallow_group 3 names a.row.label (attribute_members a b) (omega arith) members)

shallow_attribute_of : (names : GroupNames) (a : VisibleAttribute) (content : Content) → Shallow 4 (attribute_of names a content)
shallow_attribute_of names a (Content.Attribute b) = shallow_attribute_with names a b
shallow_attribute_of names a _ = record { levels = omega arith }

pub shallow_attribute : (names : GroupNames) (a : VisibleAttribute) → Shallow 4 (attribute_data names a)
unfolding attribute_data
shallow_attribute names a = shallow_attribute_of names a a.row.content

shallow_object_with : (names : GroupNames) (o : VisibleObject) (b : ObjectBody) → Shallow 6 (object_with names o b)
unfolding object_with
shallow_object_with names o b =
    let attributes = shallow_items 4 (attribute_data names) (shallow_attribute names) o.attributes in
    let references = shallow_items 1 reference_data shallow_reference o.references in
    let template = shallow_uuid b.template_uuid in
    let members : ShallowMembers 5 (object_members names o b) = record { levels = omega arith } in
    shallow_object 5 (with_group names o.row.label (object_members names o b)) (shallow_group 5 names o.row.label (object_members names o b) (omega arith) members)

shallow_object_of : (names : GroupNames) (o : VisibleObject) (content : Content) → Shallow 6 (object_of names o content)
shallow_object_of names o (Content.Object b) = shallow_object_with names o b
shallow_object_of names o _ = record { levels = omega arith }

pub shallow_visible_object : (names : GroupNames) (o : VisibleObject) → Shallow 6 (object_data names o)
unfolding object_data
shallow_visible_object names o = shallow_object_of names o o.row.content

shallow_event_with : (names : GroupNames) (e : VisibleEvent) (b : EventBody) → Shallow 8 (event_with names e b)
unfolding event_with
shallow_event_with names e b =
    let attributes = shallow_items 4 (attribute_data names) (shallow_attribute names) e.attributes in
    let objects = shallow_items 6 (object_data names) (shallow_visible_object names) e.objects in
    let proposals = shallow_items 2 proposal_data shallow_proposal e.proposals in
    let tags = shallow_items 1 tag_data shallow_tag b.tags in
    let extends = shallow_uuid b.extends_uuid in
    let members : ShallowMembers 7 (event_members names e b) = record { levels = omega arith } in
    shallow_object 7 (with_group names e.row.label (event_members names e b)) (shallow_group 7 names e.row.label (event_members names e b) (omega arith) members)

shallow_event_of : (names : GroupNames) (e : VisibleEvent) (content : Content) → Shallow 8 (event_of names e content)
shallow_event_of names e (Content.Event b) = shallow_event_with names e b
shallow_event_of names e _ = record { levels = omega arith }

shallow_event : (names : GroupNames) (e : VisibleEvent) → Shallow 8 (event_data names e)
unfolding event_data
shallow_event names e = shallow_event_of names e e.row.content

pub shallow_body : (e : VisibleEvent) → Shallow 9 (body_data e)
shallow_body e =
    let event = shallow_event (group_names e.group_names) e in
    record { levels = omega arith }

-- ---- replies

pub shallow_saved : (elements : ℕ) (event : EventId) (stamp : ℕ) → Shallow 1 (saved_data elements event stamp)
unfolding saved_data
shallow_saved elements event stamp = record { levels = omega arith }

pub shallow_taken : (count : ℕ) → Shallow 1 (taken_data count)
unfolding taken_data
shallow_taken count = record { levels = omega arith }

pub shallow_refusal : (r : Refusal) → Shallow 1 (refusal_data r)
unfolding refusal_data
shallow_refusal r = record { levels = omega arith }
