-- What is written of an event is read to the same data: it has no number, and each object has its names in order.
use Rattle.std.proofs.Common.{◌≡◌, ℕ, suc, ◌≤◌, max, Bool, false, ◌||◌, List, [], ◌∷◌, map, Option, Some, None, option_and_then, refl, sym, ap, ap₂, ◌∙◌, arith, append-nil, codes, true}
use Rattle.std.proofs.lemmas.Bool.{or_parts}
use Rattle.json.specs.Token.{Token}
use Rattle.json.specs.Lex.{tokens}
use Rattle.json.specs.Tree.{json_tokens, HasNumbers, ItemsHaveNumbers, MembersHaveNumbers}
use Rattle.json.proofs.Printed.Tokens.{tokens-print}
use Rattle.json.proofs.Printed.Trees.{value-json_tokens, ArePrintable-json_tokens}
use Rattle.serde_json.specs.Data.{null, depth, items_depth, members_depth}
use Rattle.serde_json.specs.Read.{of_json, of_items, of_members, max_depth}
use Rattle.serde_json.specs.Written.{outline, items_outline, members_outline}
use Rattle.serde_json.proofs.Texts.{print-outline}
use Rattle.misp_elem.specs.declared.key.ProposalName.{ProposalName}
use Rattle.misp_format.specs.Prelude.{AttributeBody, Content, Data, ElemId, EventBody, GroupId, GroupNames, Items, KeyForm, Label, Members, ObjectBody, OrgId, RowFields, Tag, Uid, VisibleAttribute, VisibleEvent, VisibleObject, array}
use Rattle.misp_format.specs.Prelude.{attribute_data, attribute_members, attribute_with, body_data, boolean, compact_text, event_members, event_with, group_data, group_names, item, items_of, member, no_items, no_members, number, object}
use Rattle.misp_format.specs.Prelude.{object_data, object_members, object_with, optional_uuid_data, put, read, reference_data, string, tag_data, with_group}
use Rattle.misp_format.specs.Written.{reference_with, reference_of, proposal_with, proposal_of, proposal_data, sighting_with, sighting_of, sighting_data, attribute_of, object_of, event_of, event_data}
use Rattle.misp_format.proofs.Depths.{shallow_body}
use Rattle.json.specs.Json as json
use Rattle.json.specs.Tree as tree

-- ---- data without a number

abbrev mutual
  pub has_number : Data → Bool
  has_number null = false
  has_number (boolean b) = false
  has_number (number n) = true
  has_number (string s) = false
  has_number (array ds) = items_have_number ds
  has_number (object ms) = members_have_number ms

  pub items_have_number : Items → Bool
  items_have_number no_items = false
  items_have_number (item d ds) = has_number d || items_have_number ds

  pub members_have_number : Members → Bool
  members_have_number no_members = false
  members_have_number (member k d ms) = has_number d || members_have_number ms

mutual
  numbers_of : (d : Data) → has_number d ≡ false → HasNumbers (outline d)
  numbers_of null h = tt
  numbers_of (boolean b) h = tt
  numbers_of (number n) h = absurd cc
  numbers_of (string s) h = tt
  numbers_of (array ds) h = items_numbers ds h
  numbers_of (object ms) h = members_numbers ms h

  items_numbers : (ds : Items) → items_have_number ds ≡ false → ItemsHaveNumbers (items_outline ds)
  items_numbers no_items h = tt
  items_numbers (item d ds) h = let p = or_parts (has_number d) _ h in (numbers_of d p.0, items_numbers ds p.1)

  members_numbers : (ms : Members) → members_have_number ms ≡ false → MembersHaveNumbers (members_outline ms)
  members_numbers no_members h = tt
  members_numbers (member k d ms) h = let p = or_parts (has_number d) _ h in (numbers_of d p.0, members_numbers ms p.1)

-- ---- its text is read

mutual
  outline_depth : (d : Data) → tree.depth (outline d) ≡ depth d
  outline_depth (array ds) = ap suc (outline_items_depth ds)
  outline_depth (object ms) = ap suc (outline_members_depth ms)
  outline_depth _ = refl

  outline_items_depth : (ds : Items) → tree.items_depth (items_outline ds) ≡ items_depth ds
  outline_items_depth no_items = refl
  outline_items_depth (item d ds) = ap₂ max (outline_depth d) (outline_items_depth ds)

  outline_members_depth : (ms : Members) → tree.members_depth (members_outline ms) ≡ members_depth ms
  outline_members_depth no_members = refl
  outline_members_depth (member k d ms) = ap₂ max (outline_depth d) (outline_members_depth ms)

-- as JSON it has no number, and is the same data again
pub record Returns (d : Data) : Type 0 where
  pub no_number : has_number d ≡ false
  pub back : of_json (outline d) ≡ Some d

pub record ReturnItems (ds : Items) : Type 0 where
  pub no_number : items_have_number ds ≡ false
  pub back : of_items (items_outline ds) ≡ Some ds

record ReturnMembers (ms : Members) : Type 0 where
  no_number : members_have_number ms ≡ false
  back : of_members (members_outline ms) no_members ≡ Some ms

-- the data of what was read of the tokens
abbrev whole : Option (json.Json × List Token) → Option Data
whole o = option_and_then of_json (option_and_then (λ p. json.if_last p.0 p.1) o)

pub read_again : (d : Data) → HasNumbers (outline d) → of_json (outline d) ≡ Some d → depth d ≤ max_depth → read (compact_text d) ≡ Some d
read_again d numbers back shallow =
    let written : tokens (compact_text d) ≡ json_tokens (outline d) =
    ap tokens (sym (print-outline d)) ∙ tokens-print (json_tokens (outline d)) (ArePrintable-json_tokens (outline d) numbers) in
    ap whole (ap (json.value max_depth) (written ∙ sym (append-nil _)) ∙ value-json_tokens (outline d) max_depth [] (rw (outline_depth d) shallow)) ∙ back

pub returned : (d : Data) → Returns d → depth d ≤ max_depth → read (compact_text d) ≡ Some d
returned d h shallow = read_again d (numbers_of d h.no_number) h.back shallow

-- ---- lists, and the sharing group

pub return_items : {A : Type 0} (one : A → Data) → ((a : A) → Returns (one a)) → (xs : List A) → ReturnItems (items_of (map one xs))
return_items one h [] = record { no_number = refl; back = refl }
return_items one h (x ∷ xs) =
    let here = h x in
    let others = return_items one h xs in
    record { no_number = rw (here.no_number, others.no_number) refl; back = rw (here.back, others.back) refl }

return_object : (ms : Members) → ReturnMembers ms → Returns (object ms)
return_object ms h = record { no_number = h.no_number; back = rw h.back refl }

return_uuid : (u : Option Uid) → Returns (optional_uuid_data u)
return_uuid None = record { no_number = refl; back = refl }
return_uuid (Some u) = record { no_number = refl; back = refl }

-- members that are read back with a sharing group and without one are so at each label
by_label : (names : GroupNames) (label : Label) (ms : Members) → ReturnMembers ms
    → ((group : GroupId) → ReturnMembers (put (codes "SharingGroup") (group_data names group) ms)) → ReturnMembers (with_group names label ms)
by_label names (Label.Group group) ms without with_one = with_one group
by_label names _ ms without with_one = without

return_tag : (tag : Tag) → Returns (tag_data tag)
unfolding tag_data
return_tag tag = record { no_number = refl; back = refl }

-- ---- references and statements

return_reference_with : (stamp : ℕ) (referenced : Uid) (uuid : ElemId) (content : Content) → Returns (reference_with stamp referenced uuid content)
return_reference_with stamp referenced uuid (Content.Reference b) = record { no_number = refl; back = refl }
return_reference_with stamp referenced uuid _ = record { no_number = refl; back = refl }

return_reference_of : (stamp : ℕ) (key : KeyForm) (content : Content) → Returns (reference_of stamp key content)
return_reference_of stamp (KeyForm.Reference event owner target uuid) content = return_reference_with stamp _ uuid content
return_reference_of stamp _ content = record { no_number = refl; back = refl }

return_reference : (r : RowFields) → Returns (reference_data r)
unfolding reference_data
return_reference r = return_reference_of r.stamp r.key r.content

return_proposal_with : (stamp : ℕ) (name : ProposalName) (content : Content) → Returns (proposal_with stamp name content)
return_proposal_with stamp name (Content.Proposal b) = record { no_number = refl; back = refl }
return_proposal_with stamp name _ = record { no_number = refl; back = refl }

return_proposal_of : (stamp : ℕ) (key : KeyForm) (content : Content) → Returns (proposal_of stamp key content)
return_proposal_of stamp (KeyForm.Proposal event name) content = return_proposal_with stamp name content
return_proposal_of stamp _ content = record { no_number = refl; back = refl }

return_proposal : (r : RowFields) → Returns (proposal_data r)
unfolding proposal_data
return_proposal r = return_proposal_of r.stamp r.key r.content

return_sighting_with : (by : OrgId) (uuid : ElemId) (content : Content) → Returns (sighting_with by uuid content)
return_sighting_with by uuid (Content.Sighting b) = record { no_number = refl; back = refl }
return_sighting_with by uuid _ = record { no_number = refl; back = refl }

return_sighting_of : (key : KeyForm) (content : Content) → Returns (sighting_of key content)
return_sighting_of (KeyForm.Sighting event target at by uuid) content = return_sighting_with by uuid content
return_sighting_of _ content = record { no_number = refl; back = refl }

return_sighting : (r : RowFields) → Returns (sighting_data r)
unfolding sighting_data
return_sighting r = return_sighting_of r.key r.content

-- ---- attributes, objects and events

-- with a sharing group and without one
abbrev ReturnBoth : GroupNames → Members → Type 0
ReturnBoth names ms = ReturnMembers ms × ((group : GroupId) → ReturnMembers (put (codes "SharingGroup") (group_data names group) ms))

module _ (names : GroupNames) (a : VisibleAttribute) (b : AttributeBody) where
  proposals : ReturnItems (items_of (map proposal_data a.proposals))
  proposals = return_items proposal_data return_proposal a.proposals

  sightings : ReturnItems (items_of (map sighting_data a.sightings))
  sightings = return_items sighting_data return_sighting a.sightings

  tags : ReturnItems (items_of (map tag_data b.tags))
  tags = return_items tag_data return_tag b.tags

  -- with each of the moments and of the part or without it
  seen_returns : (first last : Option ℕ) (relation : List ℕ) → ReturnBoth names (attribute_members a (record b { object_relation = relation; first_seen = first; last_seen = last }))
  seen_returns None None [] = (
    record { no_number = rw (proposals.no_number, sightings.no_number, tags.no_number) refl; back = rw (proposals.back, sightings.back, tags.back) refl },
    λ group. record { no_number = rw (proposals.no_number, sightings.no_number, tags.no_number) refl; back = rw (proposals.back, sightings.back, tags.back) refl },
  )
  seen_returns None None (c ∷ cs) = (
    record { no_number = rw (proposals.no_number, sightings.no_number, tags.no_number) refl; back = rw (proposals.back, sightings.back, tags.back) refl },
    λ group. record { no_number = rw (proposals.no_number, sightings.no_number, tags.no_number) refl; back = rw (proposals.back, sightings.back, tags.back) refl },
  )
  seen_returns None (Some n) [] = (
    record { no_number = rw (proposals.no_number, sightings.no_number, tags.no_number) refl; back = rw (proposals.back, sightings.back, tags.back) refl },
    λ group. record { no_number = rw (proposals.no_number, sightings.no_number, tags.no_number) refl; back = rw (proposals.back, sightings.back, tags.back) refl },
  )
  seen_returns None (Some n) (c ∷ cs) = (
    record { no_number = rw (proposals.no_number, sightings.no_number, tags.no_number) refl; back = rw (proposals.back, sightings.back, tags.back) refl },
    λ group. record { no_number = rw (proposals.no_number, sightings.no_number, tags.no_number) refl; back = rw (proposals.back, sightings.back, tags.back) refl },
  )
  seen_returns (Some m) None [] = (
    record { no_number = rw (proposals.no_number, sightings.no_number, tags.no_number) refl; back = rw (proposals.back, sightings.back, tags.back) refl },
    λ group. record { no_number = rw (proposals.no_number, sightings.no_number, tags.no_number) refl; back = rw (proposals.back, sightings.back, tags.back) refl },
  )
  seen_returns (Some m) None (c ∷ cs) = (
    record { no_number = rw (proposals.no_number, sightings.no_number, tags.no_number) refl; back = rw (proposals.back, sightings.back, tags.back) refl },
    λ group. record { no_number = rw (proposals.no_number, sightings.no_number, tags.no_number) refl; back = rw (proposals.back, sightings.back, tags.back) refl },
  )
  seen_returns (Some m) (Some n) [] = (
    record { no_number = rw (proposals.no_number, sightings.no_number, tags.no_number) refl; back = rw (proposals.back, sightings.back, tags.back) refl },
    λ group. record { no_number = rw (proposals.no_number, sightings.no_number, tags.no_number) refl; back = rw (proposals.back, sightings.back, tags.back) refl },
  )
  seen_returns (Some m) (Some n) (c ∷ cs) = (
    record { no_number = rw (proposals.no_number, sightings.no_number, tags.no_number) refl; back = rw (proposals.back, sightings.back, tags.back) refl },
    λ group. record { no_number = rw (proposals.no_number, sightings.no_number, tags.no_number) refl; back = rw (proposals.back, sightings.back, tags.back) refl },
  )

  return_attribute_with : Returns (attribute_with names a b)
  unfolding attribute_with
  return_attribute_with =
      let both = seen_returns b.first_seen b.last_seen b.object_relation in
      return_object (with_group names a.row.label (attribute_members a b)) (by_label names a.row.label (attribute_members a b) both.0 both.1)

return_attribute_of : (names : GroupNames) (a : VisibleAttribute) (content : Content) → Returns (attribute_of names a content)
return_attribute_of names a (Content.Attribute b) = return_attribute_with names a b
return_attribute_of names a _ = record { no_number = refl; back = refl }

return_attribute : (names : GroupNames) (a : VisibleAttribute) → Returns (attribute_data names a)
unfolding attribute_data
return_attribute names a = return_attribute_of names a a.row.content

return_object_with : (names : GroupNames) (o : VisibleObject) (b : ObjectBody) → Returns (object_with names o b)
unfolding object_with
return_object_with names o b =
    let attributes = return_items (attribute_data names) (return_attribute names) o.attributes in
    let references = return_items reference_data return_reference o.references in
    let template = return_uuid b.template_uuid in
    return_object (with_group names o.row.label (object_members names o b)) (by_label names o.row.label (object_members names o b)
    (record { no_number = rw (attributes.no_number, references.no_number, template.no_number) refl; back = rw (attributes.back, references.back, template.back) refl })
    (λ group. record { no_number = rw (attributes.no_number, references.no_number, template.no_number) refl; back = rw (attributes.back, references.back, template.back) refl }))

return_object_of : (names : GroupNames) (o : VisibleObject) (content : Content) → Returns (object_of names o content)
return_object_of names o (Content.Object b) = return_object_with names o b
return_object_of names o _ = record { no_number = refl; back = refl }

return_visible_object : (names : GroupNames) (o : VisibleObject) → Returns (object_data names o)
unfolding object_data
return_visible_object names o = return_object_of names o o.row.content

return_event_with : (names : GroupNames) (e : VisibleEvent) (b : EventBody) → Returns (event_with names e b)
unfolding event_with
return_event_with names e b =
    let attributes = return_items (attribute_data names) (return_attribute names) e.attributes in
    let objects = return_items (object_data names) (return_visible_object names) e.objects in
    let proposals = return_items proposal_data return_proposal e.proposals in
    let tags = return_items tag_data return_tag b.tags in
    let extends = return_uuid b.extends_uuid in
    return_object (with_group names e.row.label (event_members names e b)) (by_label names e.row.label (event_members names e b)
    (record { no_number = rw (attributes.no_number, objects.no_number, proposals.no_number, tags.no_number, extends.no_number) refl; back = rw (attributes.back, objects.back, proposals.back, tags.back, extends.back) refl })
    (λ group. record { no_number = rw (attributes.no_number, objects.no_number, proposals.no_number, tags.no_number, extends.no_number) refl; back = rw (attributes.back, objects.back, proposals.back, tags.back, extends.back) refl }))

return_event_of : (names : GroupNames) (e : VisibleEvent) (content : Content) → Returns (event_of names e content)
return_event_of names e (Content.Event b) = return_event_with names e b
return_event_of names e _ = record { no_number = refl; back = refl }

return_event : (names : GroupNames) (e : VisibleEvent) → Returns (event_data names e)
unfolding event_data
return_event names e = return_event_of names e e.row.content

pub body_returned : (e : VisibleEvent) → read (compact_text (body_data e)) ≡ Some (body_data e)
body_returned e =
    let event = return_event (group_names e.group_names) e in
    returned (body_data e) (record { no_number = rw event.no_number refl; back = rw event.back refl }) (omega (arith, (shallow_body e).levels))
