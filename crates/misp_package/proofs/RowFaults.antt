-- The fault of a row is within its bytes.
use Rattle.std.proofs.Common.{◌≡◌, ℕ, zero, suc, ◌-◌, ◌≤◌, ◌==◌, Bool, true, false, cond, List, []}
use Rattle.std.proofs.Common.{length, Option, Result, Ok, Err, arith, min, w32, w64}
use Rattle.misp_elem.specs.Prelude.{◌>>=◌, Reading, barred_labels, is_after}
use Rattle.misp_elem.specs.Prelude.{label_kind, list_any, text_limit}
use Rattle.misp_elem.specs.Contents.{is_removal, least_kind}
use Rattle.misp_elem.specs.ContentReading.{attribute_body_at, colour_at, content_at, content_of, event_body_at, object_body_at, proposal_body_at}
use Rattle.misp_elem.specs.Fields.{earliest, tags_size}
use Rattle.misp_elem.specs.ContentReading.{proposed_value_at, reference_body_at, relation_at, removal_at, seen_at, sighting_body_at, tag_at, tag_name_at, tags_after, tags_at}
use Rattle.misp_elem.specs.Reading.{ended}
use Rattle.misp_elem.specs.Row.{fits, may_remove}
use Rattle.misp_elem.specs.RowReading.{flags_at, flags_of, group_at, label_at, label_of}
use Rattle.misp_elem.specs.WireReading.{carried_at, fields_on_wire, nobody_at, row_of_wire, row_on_wire}
use Rattle.misp_model.specs.Prelude.{Content, EventId, Key, Label}
use Rattle.misp_package.proofs.BoundedFields.{IsBounded, Within, before, between_bounded, byte_bounded, date_bounded, dropped, fault, final, flag_bounded, from_front}
use Rattle.misp_package.proofs.BoundedFields.{from_front, key_after_bounded, number_bounded, optional_bounded, optional_moment_bounded, org_bounded, stamp_bounded, tested, text_bounded, uid_bounded, value, value_bounded, within_if, within_then}

-- ---- contents

colour_bounded : IsBounded colour_at
unfolding colour_at
colour_bounded = record { within = λ n bytes le. within_if n _ _ _ (fault le) (value (dropped n 3 bytes le)) }

tag_name_bounded : (room : ℕ) (name : List ℕ) → IsBounded (tag_name_at room name)
unfolding tag_name_at
tag_name_bounded room name = tested (is_after name) (text_bounded 1 (min 255 room))

tag_bounded : (room : ℕ) (name : List ℕ) → IsBounded (tag_at room name)
unfolding tag_at
tag_bounded room name = before (tag_name_bounded room name) (λ t. before colour_bounded (λ c. final (λ f. record { name = t; colour = c; exportable = f }) flag_bounded))

tags_within : (n room count : ℕ) (name bytes : List ℕ) → length bytes ≤ n → Within n (tags_after room count name bytes)
unfolding tags_after
tags_within n room zero name bytes le = value le
tags_within n room (suc count) name bytes le =
    within_then n (tag_at room name bytes) _ ((tag_bounded room name).within n bytes le) (λ t h.
    within_then n (tags_after (room - length t.0.name) count t.0.name t.1) _ (tags_within n (room - length t.0.name) count t.0.name t.1 h) (λ others k. value k))

tags_bounded : (room : ℕ) → IsBounded (tags_at room)
unfolding tags_at
tags_bounded room = before (number_bounded w32) (λ count. record { within = λ n bytes le. tags_within n room count [] bytes le })

event_body_bounded : IsBounded event_body_at
unfolding event_body_at
event_body_bounded =
    before (text_bounded 1 text_limit) (λ info. before date_bounded (λ date. before (between_bounded 1 4) (λ threat. before (between_bounded 0 2) (λ analysis.
    before stamp_bounded (λ published. before optional_bounded (λ extends. before org_bounded (λ orgc. before (text_bounded 0 64) (λ name.
    final (λ ts. record { info = info; date = date; threat_level_id = threat; analysis = analysis; publish_stamp = published; extends_uuid = extends; orgc = orgc; orgc_name = name; tags = ts })
    (tags_bounded (text_limit - length info))))))))))

object_body_bounded : IsBounded object_body_at
unfolding object_body_at
object_body_bounded =
    before (text_bounded 1 text_limit) (λ name. before (text_bounded 0 (text_limit - length name)) (λ category.
    before (text_bounded 0 (text_limit - length name - length category)) (λ description.
    before (text_bounded 0 (text_limit - length name - length category - length description)) (λ comment.
    before optional_bounded (λ template. before (number_bounded w64) (λ version.
    final (λ deleted. record { name = name; meta_category = category; description = description; comment = comment; template_uuid = template; template_version = version; deleted = deleted })
    flag_bounded))))))

reference_body_bounded : IsBounded reference_body_at
unfolding reference_body_at
reference_body_bounded =
    before (text_bounded 0 text_limit) (λ kind. before (text_bounded 0 (text_limit - length kind)) (λ comment.
    final (λ deleted. record { relationship_type = kind; comment = comment; deleted = deleted }) flag_bounded))

removal_bounded : (may : Bool) → IsBounded (removal_at may)
unfolding removal_at
removal_bounded may = tested (is_removal may) flag_bounded

proposed_bounded_value : (remove : Bool) (room : ℕ) (kind : List ℕ) → IsBounded (proposed_value_at remove room kind)
unfolding proposed_value_at
proposed_bounded_value true room kind = record { within = (text_bounded 0 0).within }
proposed_bounded_value false room kind = record { within = (value_bounded room kind).within }

proposal_body_bounded : (may : Bool) → IsBounded (proposal_body_at may)
unfolding proposal_body_at
proposal_body_bounded may =
    before (removal_bounded may) (λ remove. before (text_bounded 0 64) (λ name. before (text_bounded (least_kind remove) 100) (λ kind.
    before (between_bounded 0 15) (λ category. before flag_bounded (λ to_ids. before (text_bounded 0 (text_limit - length kind)) (λ comment.
    final (λ value. record { remove = remove; by_name = name; kind = kind; category = category; to_ids = to_ids; comment = comment; value = value })
    (proposed_bounded_value remove (text_limit - length kind - length comment) kind)))))))

sighting_body_bounded : IsBounded sighting_body_at
unfolding sighting_body_at
sighting_body_bounded =
    before (text_bounded 0 64) (λ name. before (between_bounded 0 2) (λ kind. before stamp_bounded (λ date.
    final (λ source. record { by_name = name; kind = kind; date = date; source = source }) (text_bounded 0 text_limit))))

-- an attribute in a form of rows of which its part of an object and its moments are read so
module _ (form : _) (relation : (room : ℕ) → IsBounded (relation_at form room)) (seen : (least : ℕ) → IsBounded (seen_at form least)) where
  attribute_body_bounded : IsBounded (attribute_body_at form)
  unfolding attribute_body_at
  attribute_body_bounded =
      before (text_bounded 1 100) (λ kind. before (between_bounded 0 15) (λ category. before flag_bounded (λ to_ids.
      before (text_bounded 0 (text_limit - length kind)) (λ comment. before flag_bounded (λ deleted.
      before (value_bounded (text_limit - length kind - length comment) kind) (λ value.
      before (tags_bounded (text_limit - length kind - length comment - length value)) (λ ts.
      before (relation (text_limit - length kind - length comment - length value - tags_size ts)) (λ object_relation. before (seen 0) (λ first.
      final (λ last.
      record {
        kind = kind;
        category = category;
        to_ids = to_ids;
        comment = comment;
        deleted = deleted;
        value = value;
        tags = ts;
        object_relation = object_relation;
        first_seen = first;
        last_seen = last;
      })
      (seen (earliest first)))))))))))

  content_within : (may : Bool) (n : ℕ) (bytes : List ℕ) (kind : ℕ) (rest : List ℕ) → length bytes ≤ n → length rest ≤ n → Within n (content_of form may bytes kind rest)
  content_within may n bytes kind rest le h =
      within_if n _ _ _ ((final (λ b. Content.Event b) event_body_bounded).within n rest h)
      (within_if n _ _ _ ((final (λ b. Content.Object b) object_body_bounded).within n rest h)
      (within_if n _ _ _ ((final (λ b. Content.Attribute b) attribute_body_bounded).within n rest h)
      (within_if n _ _ _ ((final (λ b. Content.Reference b) reference_body_bounded).within n rest h)
      (within_if n _ _ _ ((final (λ b. Content.Proposal b) (proposal_body_bounded may)).within n rest h)
      (within_if n _ _ _ ((final (λ b. Content.Verdict b) flag_bounded).within n rest h)
      (within_if n _ _ _ ((final (λ b. Content.Sighting b) sighting_body_bounded).within n rest h)
      (within_if n _ _ _ (value h) (fault le))))))))

  content_bounded : (k : Key) (label : ℕ) (flags : Bool × Bool) → IsBounded (content_at form k label flags)
  unfolding content_at
  content_bounded k label flags = from_front (λ bytes kind rest. cond (fits k label flags kind) (content_of form (may_remove k) bytes kind rest) (Err (length bytes))) byte_bounded
      (λ n bytes kind rest le h. within_if n _ _ _ (content_within (may_remove k) n bytes kind rest le h) (fault le))

-- ---- rows

group_bounded : IsBounded group_at
unfolding group_at
group_bounded = before org_bounded (λ creator. final (λ uuid. Label.Group (record { creator = creator; uuid = uuid })) uid_bounded)

label_bounded : (barred : List ℕ) → IsBounded (label_at barred)
unfolding label_at
label_bounded barred = from_front (λ bytes kind rest. cond (list_any (λ b. b == kind) barred) (Err (length bytes)) (label_of bytes kind rest)) byte_bounded
    (λ n bytes kind rest le h.
    within_if n _ _ _ (fault le)
    (within_if n (kind == 0) _ _ (value h) (within_if n (kind == 1) _ _ (value h) (within_if n (kind == 2) _ _ (value h) (within_if n (kind == 3) _ _ (value h)
    (within_if n (kind == 4) _ _ (group_bounded.within n rest h)
    (within_if n (kind == 5) _ _ (value h) (fault le))))))))

carried_bounded : IsBounded carried_at
unfolding carried_at flags_at
carried_bounded = tested _ (from_front flags_of byte_bounded (λ n bytes b rest le h.
    within_if n (b == 0) _ _ (value h) (within_if n (b == 1) _ _ (value h) (within_if n (b == 2) _ _ (value h) (within_if n (b == 3) _ _ (value h) (fault le))))))

nobody_bounded : IsBounded nobody_at
unfolding nobody_at
nobody_bounded = tested _ org_bounded

fields_bounded : (e : EventId) (k : Option Key) → IsBounded (fields_on_wire e k)
unfolding fields_on_wire relation_at seen_at
fields_bounded e k =
    before nobody_bounded (λ owner. before (key_after_bounded e k) (λ next. before stamp_bounded (λ s. before (label_bounded (barred_labels next)) (λ l. before carried_bounded (λ f.
    final (λ c. record { owner = owner; key = next; stamp = s; label = l; held = f.0; carried = f.1; content = c })
    (content_bounded _ (λ room. record { within = (text_bounded 0 room).within }) (λ least. record { within = (optional_moment_bounded least).within }) next (label_kind l) f))))))

-- where bytes that follow are at fault
left_is : {A : Type 0} (b : Bool) (a : A) (m left : ℕ) → ◌≡◌ {A = Result A ℕ} (cond b (Ok a) (Err m)) (Err left) → m ≡ left
left_is true a m left e = absurd cc
left_is false a m left e = cc

ended_within : {A : Type 0} (n : ℕ) (read : Reading A) (left : ℕ) → Within n read → (read >>= λ x. ended x) ≡ Err left → left ≤ n
ended_within n (Ok x) left h e = omega (arith, h.le, left_is (length x.1 == 0) x.0 (length x.1) left e)
ended_within n (Err m) left h e = let same : m ≡ left = cc in omega (arith, h.le)

-- the fault of a row on the wire is within its bytes
pub row_fault : (e : EventId) (k : Option Key) (bytes : List ℕ) (left : ℕ) → row_of_wire e k bytes ≡ Err left → left ≤ length bytes
unfolding row_of_wire row_on_wire
row_fault e k bytes left h =
    let row = before (between_bounded 2 2) (λ form. fields_bounded e k) in
    ended_within (length bytes) (row_on_wire e k bytes) left (row.within (length bytes) bytes (omega arith)) h
