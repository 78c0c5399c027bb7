-- What is written of an event is read to what it brings.
use Rattle.std.proofs.Common.{◌≡◌, ℕ, ◌<◌, ◌≤◌, ◌^◌, true, false, List, [], ◌∷◌, length, map, Option, Some, None, Ok, refl, sym, ap, ◌∙◌, subst, arith, lit<, codes, unwrap_or, option_map, option_and_then, nat_lt, nat_le, ◌==◌, ◌&&◌, fold}
use Rattle.serde_json.specs.Find.{get, get_member}
use Rattle.misp_lists.proofs.Prelude.{and_parts, nat_tests}
use Rattle.misp_fields.specs.Fields.{present, flag_of, moment_of}
use Rattle.misp_elem.specs.Prelude.{IsAttributeBody, IsLabel, IsLabelBut, IsPlace, IsRow, IsUid, barred_labels, is_kept, list_any}
use Rattle.misp_elem.specs.declared.key.KeyForm.TheVariants.{Element, Reference}
use Rattle.misp_elem.specs.Contents.{IsObjectBody, IsEventBody}
use Rattle.misp_elem.specs.Visible.{place_in, IsAttributeOf, IsReferenceOf, IsObjectOf, IsWhole}
use Rattle.misp_format.specs.Prelude.{◌>>=◌, AllByRecursion, AttributeBody, Body, Content, Data, ElemId, EventBody, EventId, Gathered, GroupNames, Label, ObjectBody, Place, Reading, RowFields, Uid, VisibleAttribute, VisibleEvent}
use Rattle.misp_format.specs.Prelude.{VisibleObject, attribute_data, attribute_members, attribute_with, attributes_at, body_data, boolean, category_of, each, event_at, event_members, event_with, group_names, item_path, items_of, kept_of, label_at}
use Rattle.misp_format.specs.Prelude.{label_kind, list_data, list_of, made_uid, member, member_of, member_path, must_be, no_members, none_from, number_data, number_of, number_within, object, object_data, object_members, object_with}
use Rattle.misp_format.specs.Prelude.{objects_at, optional_uuid_data, optional_uuid_of, read, reference_data, some_date_of, some_text_of, string, tag_data, tags_at, text_of, uuid_data, uuid_of, with_group, with_part, with_reference}
use Rattle.misp_format.specs.Brought.{place_of, draft_of, reference_draft, owner_of, target_of, reference_body, and_attribute, and_reference, and_object, elements_of, event_draft, body_in, brought}
use Rattle.misp_format.specs.Elements.{unless_file, kind_at, no_file_at, value_at, kept_at, seen_at, attribute_at, next_attribute, reference_at, next_reference, references_at, object_at, object_and_others_at, next_object}
use Rattle.misp_format.specs.Gathered.{place}
use Rattle.misp_format.specs.Kinds.{other_category, category_name, is_file_type}
use Rattle.misp_format.specs.Readers.{is_long, text_within, is_file}
use Rattle.misp_format.specs.Rows.{row}
use Rattle.misp_format.specs.Tables.{submission_of, event_itself_at}
use Rattle.misp_format.specs.Written.{place_uuid, key_uuid, attribute_of, attribute_rest, reference_of, object_of, event_of, event_data}
use Rattle.misp_format.proofs.Back.{row_back, each_back, number_back, within_back, at_most_5, beside, found_beside, row_beside, label_back, uuid_back, optional_back, category_back, kept_back, no_file_type}
use Rattle.misp_elem.proofs.Sizes.{least_of}
use Rattle.misp_format.proofs.Moments.{past_all, first_row, last_row, part_row, never_early}
use Rattle.misp_format.proofs.RowFacts.{attribute_size, reference_size, object_size, event_size, attribute_of_row, object_of_row, reference_of_row, event_of_row, key_of_row, uuid_in_place}
use Rattle.misp_format.proofs.TagsBack.{tags_back}

some_bytes : (n : ℕ) → 1 ≤ n → nat_lt 0 n ≡ true
some_bytes n h = grind (arith, nat_tests)

upto_15 : (n : ℕ) → (nat_le 0 n && nat_le n 15) ≡ true → n ≤ 15
upto_15 n h = grind (arith, nat_tests, (and_parts (nat_le 0 n) (nat_le n 15) h).1)

-- ---- attributes

uuid_of_place : (event : EventId) (object : Option ElemId) (uuid : ElemId) → place_uuid event (place_in object uuid) ≡ uuid.0
uuid_of_place event None uuid = refl
uuid_of_place event (Some o) uuid = refl

attribute_shape : (names : GroupNames) (a : VisibleAttribute) (b : AttributeBody) → a.row.content ≡ Content.Attribute b → attribute_data names a ≡ object (with_group names a.row.label (attribute_members a b))
unfolding attribute_data attribute_with
attribute_shape names a b content = ap (attribute_of names a) content

-- what is found is there, if it is not null
later : {x y : Option Data} → x ≡ y → option_and_then present x ≡ option_and_then present y
later e = ap (λ o. option_and_then present o) e

attribute_read : (path : List ℕ) (names : GroupNames) (owner : Option ElemId) (word n : ℕ) (a : VisibleAttribute) (b : AttributeBody)
    → IsUid (key_uuid a.row.key) → IsLabel a.row.label → IsAttributeBody b
    → attribute_at path owner word n (object (with_group names a.row.label (attribute_members a b)))
    ≡ Ok (record { number = n; place = place_in owner (record { 0 = key_uuid a.row.key }); label = a.row.label; content = Content.Attribute b })
unfolding attribute_at seen_at
attribute_read path names owner word n a b wide labelled h =
    let ms = attribute_members a b in
    let plain : Body = record { path = path; value = object ms } in
    let it : Body = record { path = path; value = object (with_group names a.row.label ms) } in
    let room = h.1.1.1.1.1.1.0.1 in
    let rest = attribute_rest a b in
    let value_kept : is_kept b.kind b.value ≡ true = (and_parts _ _ h.1.1.1.1.1.0).1 in
    let long : is_long 1 100 b.kind ≡ true = (and_parts _ _ h.0).0 in
    let no_file : is_file_type b.kind ≡ false = no_file_type b.kind b.value value_kept in
    let uuid : row it (codes "uuid") uuid_of (Ok (made_uid word n)) ≡ Ok (key_uuid a.row.key) =
    row_beside path names a.row.label ms (codes "uuid") uuid_of (Ok (made_uid word n)) (key_uuid a.row.key) refl
    (row_back plain (codes "uuid") uuid_of (Ok (made_uid word n)) (uuid_data (key_uuid a.row.key)) (key_uuid a.row.key) (later (past_all (codes "uuid") b rest refl refl refl)) (uuid_back (key_uuid a.row.key) wide)) in
    let type : row it (codes "type") (text_within 1 100) must_be ≡ Ok b.kind = row_beside path names a.row.label ms (codes "type") (text_within 1 100) must_be b.kind refl
    (row_back plain (codes "type") (text_within 1 100) must_be (string b.kind) b.kind (later (past_all (codes "type") b rest refl refl refl)) (rw long refl)) in
    let kind : kind_at it ≡ Ok b.kind = rw (type, no_file) refl in
    let category : row it (codes "category") category_of (Ok other_category) ≡ Ok b.category =
    row_beside path names a.row.label ms (codes "category") category_of (Ok other_category) b.category refl
    (row_back plain (codes "category") category_of (Ok other_category) (string (category_name b.category)) b.category refl (category_back b.category (upto_15 b.category h.1.0))) in
    let to_ids : row it (codes "to_ids") flag_of (Ok false) ≡ Ok b.to_ids = row_beside path names a.row.label ms (codes "to_ids") flag_of (Ok false) b.to_ids refl
    (row_back plain (codes "to_ids") flag_of (Ok false) (boolean b.to_ids) b.to_ids (later (past_all (codes "to_ids") b rest refl refl refl)) refl) in
    let label : label_at it 5 5 ≡ Ok a.row.label = label_back path names a.row.label ms 5 5 (at_most_5 a.row.label) labelled refl in
    let comment : row it (codes "comment") text_of (Ok []) ≡ Ok b.comment = row_beside path names a.row.label ms (codes "comment") text_of (Ok []) b.comment refl refl in
    let deleted : row it (codes "deleted") flag_of (Ok false) ≡ Ok b.deleted = row_beside path names a.row.label ms (codes "deleted") flag_of (Ok false) b.deleted refl refl in
    let no_data : no_file_at it ≡ Ok tt = ap (λ o. unless_file it (codes "data") (unwrap_or (option_map is_file (option_and_then present o)) false)) (beside names a.row.label ms (codes "data") refl ∙ past_all (codes "data") b rest refl refl refl) in
    let text : row it (codes "value") text_of must_be ≡ Ok b.value = row_beside path names a.row.label ms (codes "value") text_of must_be b.value refl
    (row_back plain (codes "value") text_of must_be (string b.value) b.value (later (past_all (codes "value") b rest refl refl refl)) refl) in
    let value : value_at b.kind it ≡ Ok b.value = ap (λ (r : Reading (List ℕ)). r >>= λ text. kept_at it (kept_of b.kind text)) text ∙ ap (kept_at it) (kept_back b.kind b.value value_kept) in
    let first : row it (codes "first_seen") moment_of (Ok None) ≡ Ok b.first_seen =
    row_beside path names a.row.label ms (codes "first_seen") moment_of (Ok None) b.first_seen refl (first_row path ms rest b refl refl h.1.1.1.1.1.1.1.1.0) in
    let last : row it (codes "last_seen") moment_of (Ok None) ≡ Ok b.last_seen =
    row_beside path names a.row.label ms (codes "last_seen") moment_of (Ok None) b.last_seen refl (last_row path ms rest b refl refl h.1.1.1.1.1.1.1.1.1) in
    let seen : seen_at it (Ok None) ≡ Ok (record { first = b.first_seen; last = b.last_seen }) = rw (first, last, never_early b.first_seen b.last_seen h.1.1.1.1.1.1.1.1.1) refl in
    let relation : row it (codes "object_relation") text_of (Ok []) ≡ Ok b.object_relation = row_beside path names a.row.label ms (codes "object_relation") text_of (Ok []) b.object_relation refl (part_row path ms rest b refl refl) in
    let tags : tags_at it ≡ Ok b.tags = tags_back _ path it.value b.tags room (found_beside names a.row.label ms (codes "Tag") (list_data tag_data b.tags) refl refl) in
    rw (uuid, kind, category, to_ids, label, comment, deleted, no_data, value, seen, relation, tags, attribute_size b h) refl

-- the label of a row
label_in : (r : RowFields) → IsRow r → IsLabel r.label
label_in r row = row.1.1.1.0.1

attribute_back : (event : EventId) (owner : Option ElemId) (names : GroupNames) (path : List ℕ) (word n : ℕ) (a : VisibleAttribute) → IsAttributeOf event owner a
    → attribute_at path owner word n (attribute_data names a) ≡ Ok (draft_of n a.row)
attribute_back event owner names path word n a h =
    let is = attribute_of_row event owner h.uuid a.row h.row h.key in
    let b : AttributeBody = is.0 in
    let same : key_uuid a.row.key ≡ h.uuid.0 = ap key_uuid h.key ∙ uuid_of_place event owner h.uuid in
    let wide : IsUid (key_uuid a.row.key) = subst IsUid (sym same) (uuid_in_place owner h.uuid (key_of_row _ a.row h.row h.key).1.1) in
    let placed : place_in owner (record { 0 = key_uuid a.row.key }) ≡ place_of a.row.key = ap (λ (u : Uid). place_in owner (record { 0 = u })) same ∙ sym (ap place_of h.key) in
    ap (attribute_at path owner word n) (attribute_shape names a b is.1.0)
    ∙ attribute_read path names owner word n a b wide (label_in a.row h.row) is.1.1
    ∙ (λ i. Ok (record { number = n; place = placed i; label = a.row.label; content = sym is.1.0 i }))

attributes_back : (event : EventId) (owner : Option ElemId) (names : GroupNames) (word : ℕ) (path : List ℕ) (d : Data) (so_far : Gathered) (xs : List VisibleAttribute)
    → AllByRecursion (IsAttributeOf event owner) xs
    → member_of (codes "Attribute") d ≡ Some (list_data (attribute_data names) xs)
    → attributes_at word owner (record { path = path; value = d }) so_far ≡ Ok (fold and_attribute so_far xs)
unfolding attributes_at
attributes_back event owner names word path d so_far xs all here =
    let it : Body = record { path = path; value = d } in
    let at = member_path path (codes "Attribute") in
    let items = row_back it (codes "Attribute") list_of (Ok _) (list_data (attribute_data names) xs) (items_of (map (attribute_data names) xs)) here refl in
    ap (λ r. r >>= λ items. each (next_attribute word owner at) 0 so_far items) items
    ∙ each_back {Is = IsAttributeOf event owner} (next_attribute word owner at) (attribute_data names) and_attribute
    (λ n g a h. ap (λ r. r >>= λ attribute. Ok (with_part g attribute)) (attribute_back event owner names (item_path at n) word (place g) a h))
    0 so_far xs all

-- ---- references

target_wide : (event : EventId) (target : Place) → IsUid event.0 → IsPlace target → IsUid (place_uuid event target)
target_wide event Place.Event wide h = wide
target_wide event (Place.Object o) wide h = h
target_wide event (Place.Attribute a) wide h = h
target_wide event (Place.ObjectAttribute o a) wide h = h.1

reference_back : (event : EventId) (owner : ElemId) (path : List ℕ) (word n : ℕ) (r : RowFields) → IsReferenceOf event owner r
    → reference_at path owner word n (reference_data r) ≡ Ok (reference_draft n r)
unfolding reference_at reference_data
reference_back event owner path word n r h =
    let is = reference_of_row event owner h.target h.uuid r h.row h.key in
    let wide = key_of_row _ r h.row h.key in
    let target : IsUid (place_uuid event h.target) = target_wide event h.target wide.0 wide.1.1.0.1 in
    let shape : reference_of r.stamp r.key r.content ≡ reference_of r.stamp (Reference event owner h.target h.uuid) (Content.Reference is.0) = λ i. reference_of r.stamp (h.key i) (is.1.0 i) in
    ap (reference_at path owner word n) shape
    ∙ rw (uuid_back h.uuid.0 wide.1.1.1, uuid_back (place_uuid event h.target) target, reference_size is.0 is.1.1) refl
    ∙ (λ i. Ok (record { number = n; object = sym (ap owner_of h.key) i; uuid = record { 0 = sym (ap key_uuid h.key) i }; referenced = record { 0 = sym (ap target_of h.key) i }; body = sym (ap reference_body is.1.0) i }))

references_back : (event : EventId) (owner : ElemId) (word : ℕ) (path : List ℕ) (d : Data) (so_far : Gathered) (rs : List RowFields) → AllByRecursion (IsReferenceOf event owner) rs
    → member_of (codes "ObjectReference") d ≡ Some (list_data reference_data rs)
    → references_at word owner (record { path = path; value = d }) so_far ≡ Ok (fold and_reference so_far rs)
unfolding references_at
references_back event owner word path d so_far rs all here =
    let it : Body = record { path = path; value = d } in
    let at = member_path path (codes "ObjectReference") in
    let items = row_back it (codes "ObjectReference") list_of (Ok _) (list_data reference_data rs) (items_of (map reference_data rs)) here refl in
    ap (λ r. r >>= λ items. each (next_reference word owner at) 0 so_far items) items
    ∙ each_back {Is = IsReferenceOf event owner} (next_reference word owner at) reference_data and_reference
    (λ n g r h. ap (λ x. x >>= λ reference. Ok (with_reference g reference)) (reference_back event owner (item_path at n) word (place g) r h))
    0 so_far rs all

-- ---- objects

object_shape : (names : GroupNames) (o : VisibleObject) (b : ObjectBody) → o.row.content ≡ Content.Object b → object_data names o ≡ object (with_group names o.row.label (object_members names o b))
unfolding object_data object_with
object_shape names o b content = ap (object_of names o) content

-- an identifier that may be none is a text
optional_there : (name : List ℕ) (it : Body) (u : Option Uid) → get name it.value ≡ Some (optional_uuid_data u) → member_of name it.value ≡ Some (optional_uuid_data u)
optional_there name it None found = rw found refl
optional_there name it (Some u) found = rw found refl

object_itself_back : (names : GroupNames) (path : List ℕ) (uuid : ElemId) (n : ℕ) (o : VisibleObject) (b : ObjectBody) → IsLabel o.row.label → IsObjectBody b
    → object_at uuid n (record { path = path; value = object (with_group names o.row.label (object_members names o b)) }) ≡ Ok (record { number = n; place = Place.Object uuid; label = o.row.label; content = Content.Object b })
unfolding object_at
object_itself_back names path uuid n o b labelled h =
    let ms = object_members names o b in
    let plain : Body = record { path = path; value = object ms } in
    let it : Body = record { path = path; value = object (with_group names o.row.label ms) } in
    let name : row it (codes "name") some_text_of must_be ≡ Ok b.name =
    row_beside path names o.row.label ms (codes "name") some_text_of must_be b.name refl
    (row_back plain (codes "name") some_text_of must_be (string b.name) b.name refl (rw (some_bytes (length b.name) (least_of 1 _ b.name h.0)) refl)) in
    let meta_category : row it (codes "meta-category") text_of (Ok []) ≡ Ok b.meta_category = row_beside path names o.row.label ms (codes "meta-category") text_of (Ok []) b.meta_category refl refl in
    let description : row it (codes "description") text_of (Ok []) ≡ Ok b.description = row_beside path names o.row.label ms (codes "description") text_of (Ok []) b.description refl refl in
    let comment : row it (codes "comment") text_of (Ok []) ≡ Ok b.comment = row_beside path names o.row.label ms (codes "comment") text_of (Ok []) b.comment refl refl in
    let template : row it (codes "template_uuid") optional_uuid_of (Ok None) ≡ Ok b.template_uuid =
    row_beside path names o.row.label ms (codes "template_uuid") optional_uuid_of (Ok None) b.template_uuid refl
    (row_back plain (codes "template_uuid") optional_uuid_of (Ok None) (optional_uuid_data b.template_uuid) b.template_uuid
    (optional_there (codes "template_uuid") plain b.template_uuid refl) (optional_back b.template_uuid h.1.1.1.1.0)) in
    let version : row it (codes "template_version") number_of (Ok 0) ≡ Ok b.template_version =
    row_beside path names o.row.label ms (codes "template_version") number_of (Ok 0) b.template_version refl
    (row_back plain (codes "template_version") number_of (Ok 0) (number_data b.template_version) b.template_version refl (number_back b.template_version h.1.1.1.1.1.0)) in
    let label : label_at it 5 5 ≡ Ok o.row.label = label_back path names o.row.label ms 5 5 (at_most_5 o.row.label) labelled refl in
    let deleted : row it (codes "deleted") flag_of (Ok false) ≡ Ok b.deleted = row_beside path names o.row.label ms (codes "deleted") flag_of (Ok false) b.deleted refl refl in
    rw (name, meta_category, description, comment, template, version, label, deleted, object_size b h) refl

object_read : (event : EventId) (names : GroupNames) (word : ℕ) (path : List ℕ) (so_far : Gathered) (o : VisibleObject) (b : ObjectBody) (h : IsObjectOf event o)
    → IsUid h.uuid.0 → o.row.content ≡ Content.Object b → IsObjectBody b
    → object_and_others_at word path so_far (object (with_group names o.row.label (object_members names o b))) ≡ Ok (and_object so_far o)
unfolding object_and_others_at
object_read event names word path so_far o b h wide content fits =
    let ms = object_members names o b in
    let plain : Body = record { path = path; value = object ms } in
    let it : Body = record { path = path; value = object (with_group names o.row.label ms) } in
    let n = place so_far in
    let same : key_uuid o.row.key ≡ h.uuid.0 = ap key_uuid h.key in
    let uuid : row it (codes "uuid") uuid_of (Ok (made_uid word n)) ≡ Ok h.uuid.0 =
    row_beside path names o.row.label ms (codes "uuid") uuid_of (Ok (made_uid word n)) h.uuid.0 refl
    (row_back plain (codes "uuid") uuid_of (Ok (made_uid word n)) (uuid_data (key_uuid o.row.key)) h.uuid.0 refl (ap (λ (u : Uid). uuid_of (uuid_data u)) same ∙ uuid_back h.uuid.0 wide)) in
    let self : object_at h.uuid n it ≡ Ok (draft_of n o.row) =
    object_itself_back names path h.uuid n o b (label_in o.row h.row) fits ∙ (λ i. Ok (record { number = n; place = sym (ap place_of h.key) i; label = o.row.label; content = sym content i })) in
    let one = with_part so_far (draft_of n o.row) in
    let attributes : attributes_at word (Some h.uuid) it one ≡ Ok (fold and_attribute one o.attributes) =
    attributes_back event (Some h.uuid) names word path it.value one o.attributes h.attributes (found_beside names o.row.label ms (codes "Attribute") (list_data (attribute_data names) o.attributes) refl refl) in
    let references : references_at word h.uuid it (fold and_attribute one o.attributes) ≡ Ok (and_object so_far o) =
    references_back event h.uuid word path it.value (fold and_attribute one o.attributes) o.references h.references
    (found_beside names o.row.label ms (codes "ObjectReference") (list_data reference_data o.references) refl refl) in
    rw (uuid, self, attributes) references

object_back : (event : EventId) (names : GroupNames) (word : ℕ) (path : List ℕ) (so_far : Gathered) (o : VisibleObject) → IsObjectOf event o
    → object_and_others_at word path so_far (object_data names o) ≡ Ok (and_object so_far o)
object_back event names word path so_far o h =
    let is = object_of_row event h.uuid o.row h.row h.key in
    let b : ObjectBody = is.0 in
    let wide : IsUid h.uuid.0 = (key_of_row _ o.row h.row h.key).1.1 in
    ap (object_and_others_at word path so_far) (object_shape names o b is.1.0)
    ∙ object_read event names word path so_far o b h wide is.1.0 is.1.1

objects_back : (event : EventId) (names : GroupNames) (word : ℕ) (path : List ℕ) (d : Data) (so_far : Gathered) (os : List VisibleObject)
    → AllByRecursion (IsObjectOf event) os
    → member_of (codes "Object") d ≡ Some (list_data (object_data names) os)
    → objects_at word (record { path = path; value = d }) so_far ≡ Ok (fold and_object so_far os)
unfolding objects_at
objects_back event names word path d so_far os all here =
    let it : Body = record { path = path; value = d } in
    let at = member_path path (codes "Object") in
    let items = row_back it (codes "Object") list_of (Ok _) (list_data (object_data names) os) (items_of (map (object_data names) os)) here refl in
    ap (λ r. r >>= λ items. each (next_object word at) 0 so_far items) items
    ∙ each_back {Is = IsObjectOf event} (next_object word at) (object_data names) and_object
    (λ n g o h. object_back event names word (item_path at n) g o h)
    0 so_far os all

-- ---- events

event_shape : (names : GroupNames) (e : VisibleEvent) (b : EventBody) → e.row.content ≡ Content.Event b → event_data names e ≡ object (with_group names e.row.label (event_members names e b))
unfolding event_data event_with
event_shape names e b content = ap (event_of names e) content

below : (most n : ℕ) → nat_le n most ≡ true → most < 2 ^ 64 → n < 2 ^ 64
below most n h large =
    let le : n ≤ most = grind (arith, nat_tests) in
    omega arith

not_inherited : (label : Label) → list_any (λ kind. kind == label_kind label) (5 ∷ []) ≡ false → (label_kind label == 5) ≡ false
not_inherited Label.Inherit h = absurd cc
not_inherited _ h = refl

label_of_row : (event : EventId) (r : RowFields) → IsRow r → r.key ≡ Element event Place.Event → list_any (λ kind. kind == label_kind r.label) (5 ∷ []) ≡ false
label_of_row event r row key = (subst (λ k. IsLabelBut (barred_labels k) r.label) key row.1.1.1.0).0

at_most_4 : (label : Label) → (label_kind label == 5) ≡ false → label_kind label ≤ 4
at_most_4 Label.Inherit own = absurd cc
at_most_4 _ own = omega arith

event_itself_back : (names : GroupNames) (path : List ℕ) (e : VisibleEvent) (b : EventBody) → IsLabel e.row.label → (label_kind e.row.label == 5) ≡ false → IsEventBody b
    → event_itself_at (record { path = path; value = object (with_group names e.row.label (event_members names e b)) }) ≡ Ok (event_draft b, e.row.label)
unfolding event_itself_at
event_itself_back names path e b labelled own h =
    let ms = event_members names e b in
    let plain : Body = record { path = path; value = object ms } in
    let it : Body = record { path = path; value = object (with_group names e.row.label ms) } in
    let threat_level = h.1.1.0 in
    let analysis = h.1.1.1.0 in
    let extends = h.1.1.1.1.1.0 in
    let info : row it (codes "info") some_text_of must_be ≡ Ok b.info =
    row_beside path names e.row.label ms (codes "info") some_text_of must_be b.info refl
    (row_back plain (codes "info") some_text_of must_be (string b.info) b.info refl (rw (some_bytes (length b.info) (least_of 1 _ b.info h.0)) refl)) in
    let date : row it (codes "date") some_date_of (Ok None) ≡ Ok (Some b.date) =
    row_beside path names e.row.label ms (codes "date") some_date_of (Ok None) (Some b.date) refl (row_back plain (codes "date") some_date_of (Ok None) (string b.date) (Some b.date) refl (rw h.1.0 refl)) in
    let threat : row it (codes "threat_level_id") (number_within 1 4) (Ok 4) ≡ Ok b.threat_level_id =
    row_beside path names e.row.label ms (codes "threat_level_id") (number_within 1 4) (Ok 4) b.threat_level_id refl
    (row_back plain (codes "threat_level_id") (number_within 1 4) (Ok 4) (number_data b.threat_level_id) b.threat_level_id refl
    (within_back 1 4 b.threat_level_id threat_level (below 4 b.threat_level_id (and_parts _ _ threat_level).1 (lit< tt)))) in
    let level : row it (codes "analysis") (number_within 0 2) (Ok 0) ≡ Ok b.analysis =
    row_beside path names e.row.label ms (codes "analysis") (number_within 0 2) (Ok 0) b.analysis refl
    (row_back plain (codes "analysis") (number_within 0 2) (Ok 0) (number_data b.analysis) b.analysis refl (within_back 0 2 b.analysis analysis (below 2 b.analysis (and_parts _ _ analysis).1 (lit< tt)))) in
    let label : label_at it 4 0 ≡ Ok e.row.label = label_back path names e.row.label ms 4 0 (at_most_4 e.row.label own) labelled refl in
    let other : row it (codes "extends_uuid") optional_uuid_of (Ok None) ≡ Ok b.extends_uuid =
    row_beside path names e.row.label ms (codes "extends_uuid") optional_uuid_of (Ok None) b.extends_uuid refl
    (row_back plain (codes "extends_uuid") optional_uuid_of (Ok None) (optional_uuid_data b.extends_uuid) b.extends_uuid
    (optional_there (codes "extends_uuid") plain b.extends_uuid refl) (optional_back b.extends_uuid extends)) in
    let tags : tags_at it ≡ Ok b.tags = tags_back _ path it.value b.tags h.1.1.1.1.1.1.1.1.1 (found_beside names e.row.label ms (codes "Tag") (list_data tag_data b.tags) refl refl) in
    rw (info, date, threat, level, label, other, tags, event_size b h) refl

-- THE LAW: what is written of an event is read to what it brings
event_read : (word : ℕ) (names : GroupNames) (e : VisibleEvent) (b : EventBody) (h : IsWhole e) → IsUid h.event.0 → (label_kind e.row.label == 5) ≡ false
    → e.row.content ≡ Content.Event b → IsEventBody b
    → event_at word (object (member (codes "Event") (object (with_group names e.row.label (event_members names e b))) no_members)) ≡ Ok (brought e)
unfolding event_at
event_read word names e b h wide own content fits =
    let path = codes "Event" in
    let ms = event_members names e b in
    let plain : Body = record { path = path; value = object ms } in
    let it : Body = record { path = path; value = object (with_group names e.row.label ms) } in
    let same : key_uuid e.row.key ≡ h.event.0 = ap key_uuid h.key in
    let is_uid : IsUid (key_uuid e.row.key) = subst IsUid (sym same) wide in
    let uuid : row it (codes "uuid") uuid_of (Ok (made_uid word 0)) ≡ Ok (key_uuid e.row.key) =
    row_beside path names e.row.label ms (codes "uuid") uuid_of (Ok (made_uid word 0)) (key_uuid e.row.key) refl
    (row_back plain (codes "uuid") uuid_of (Ok (made_uid word 0)) (uuid_data (key_uuid e.row.key)) (key_uuid e.row.key) refl (uuid_back (key_uuid e.row.key) is_uid)) in
    let self = event_itself_back names path e b (label_in e.row h.row) own fits in
    let attributes : attributes_at word None it (none_from 1) ≡ Ok (fold and_attribute (none_from 1) e.attributes) =
    attributes_back h.event None names word path it.value (none_from 1) e.attributes h.attributes (found_beside names e.row.label ms (codes "Attribute") (list_data (attribute_data names) e.attributes) refl refl) in
    let objects : objects_at word it (fold and_attribute (none_from 1) e.attributes) ≡ Ok (elements_of e) =
    objects_back h.event names word path it.value (fold and_attribute (none_from 1) e.attributes) e.objects h.objects
    (found_beside names e.row.label ms (codes "Object") (list_data (object_data names) e.objects) refl refl) in
    rw (uuid, self, attributes, objects) (λ i. Ok (submission_of (record { 0 = key_uuid e.row.key }) (body_in (sym content i)) e.row.label (elements_of e)))

pub event_back : (word : ℕ) (e : VisibleEvent) → IsWhole e → event_at word (body_data e) ≡ Ok (brought e)
event_back word e h =
    let is = event_of_row h.event e.row h.row h.key h.content in
    let names = group_names e.group_names in
    let own : (label_kind e.row.label == 5) ≡ false = not_inherited e.row.label (label_of_row h.event e.row h.row h.key) in
    ap (λ d. event_at word (object (member (codes "Event") d no_members))) (event_shape names e is.0 is.1.0)
    ∙ event_read word names e is.0 h (key_of_row _ e.row h.row h.key).0 own is.1.0 is.1.1

-- what a written text is read to
pub text_back : (bytes : List ℕ) (e : VisibleEvent) → IsWhole e → read bytes ≡ Some (body_data e) → (d : Data) → read bytes ≡ Some d → (word : ℕ) → event_at word d ≡ Ok (brought e)
text_back bytes e h is d other word =
    let same : body_data e ≡ d = cc in
    subst (λ (x : Data). event_at word x ≡ Ok (brought e)) same (event_back word e h)
