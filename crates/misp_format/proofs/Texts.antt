-- What is put down member by member is put down whole.
use Rattle.std.proofs.Common.{◌≡◌, ℕ, List, [], ◌∷◌, ◌++◌, refl, sym, ap, ◌∙◌, append_assoc, append-nil, Option, Some, None, codes}
use Rattle.json.specs.Print.{print}
use Rattle.json.specs.Token.{Token}
use Rattle.json.specs.Tree.{json_tokens, items_tokens, members_tokens}
use Rattle.serde_json.specs.Written.{outline, items_outline, members_outline}
use Rattle.serde_json.proofs.Texts.{print-outline}
use Rattle.misp_format.specs.Prelude.{AttributeBody, Data, EventBody, GroupNames, Items, Label, Members, ObjectBody, VisibleAttribute, VisibleEvent, VisibleObject, array, attribute_with, compact_text, event_members}
use Rattle.misp_format.specs.Prelude.{event_with, item, member, no_items, no_members, object, object_members, object_with, put_member, uuid_data, with_group}
use Rattle.misp_elem.specs.Parents.{event_of}
use Rattle.misp_format.specs.Fields.{moment_if_known, text_if_any, with_some}
use Rattle.misp_format.specs.Found.{hit_texts, hit_with}
use Rattle.misp_format.specs.Tokens.{PutDown, behind, push, with, put_value, put_members, put_some, put_attribute_lists, put_seen_and_part, put_object_lists, put_event_lists}
use Rattle.misp_format.specs.Written.{attribute_rest, attribute_texts, with_attribute_front, with_attribute_lists, with_seen_and_part, object_texts, event_texts}
use Rattle.json.specs.Token as tokens

-- one list of tokens after another
with_both : (one two : List Token) (was : PutDown) → with (one ++ two) was ≡ with two (with one was)
with_both [] two was = refl
with_both (token ∷ one) two was = with_both one two (push token was)

-- ---- objects

members_put : (ms : Members) (was : PutDown) → with (members_tokens (members_outline ms)) was ≡ push tokens.end_object (put_members ms was)
unfolding put_member put_value
members_put no_members was = refl
members_put (member name d ms) was = with_both (json_tokens (outline d)) (members_tokens (members_outline ms)) (push (tokens.key name) was) ∙ members_put ms (put_member name d was)

pub object_put : (ms : Members) (was : PutDown) → put_value (object ms) was ≡ push tokens.end_object (put_members ms (push tokens.begin_object was))
unfolding put_value
object_put ms was = members_put ms (push tokens.begin_object was)

-- ---- lists

-- the values one after another, and the bracket
abbrev pub put_items : Items → PutDown → PutDown
put_items no_items was = push tokens.end_array was
put_items (item d ds) was = put_items ds (put_value d was)

items_put : (ds : Items) (was : PutDown) → with (items_tokens (items_outline ds)) was ≡ put_items ds was
unfolding put_value
items_put no_items was = refl
items_put (item d ds) was = with_both (json_tokens (outline d)) (items_tokens (items_outline ds)) was ∙ items_put ds (put_value d was)

pub array_put : (ds : Items) (was : PutDown) → put_value (array ds) was ≡ put_items ds (push tokens.begin_array was)
unfolding put_value
array_put ds was = items_put ds (push tokens.begin_array was)

-- ---- elements

some_put : (name : List ℕ) (o : Option Data) (ms : Members) (was : PutDown) → put_members (with_some name o ms) was ≡ put_members ms (put_some name o was)
some_put name None ms was = refl
some_put name (Some d) ms was = refl

seen_and_part_put : (b : AttributeBody) (ms : Members) (was : PutDown) → put_members (with_seen_and_part b ms) was ≡ put_members ms (put_seen_and_part b was)
seen_and_part_put b ms was =
    some_put (codes "first_seen") (moment_if_known b.first_seen) _ was
    ∙ some_put (codes "last_seen") (moment_if_known b.last_seen) _ (put_some (codes "first_seen") (moment_if_known b.first_seen) was)
    ∙ some_put (codes "object_relation") (text_if_any b.object_relation) ms _

pub attribute_texts_put : (a : VisibleAttribute) (b : AttributeBody) (was : PutDown)
    → put_members (attribute_texts a b) was ≡ put_members (attribute_rest a b) (put_seen_and_part b (put_members (with_attribute_front a b no_members) was))
attribute_texts_put a b was = seen_and_part_put b (attribute_rest a b) _

pub hit_texts_put : (a : VisibleAttribute) (b : AttributeBody) (was : PutDown)
    → put_members (hit_texts a b) was ≡ put_members (attribute_rest a b) (put_seen_and_part b (put_member (codes "event_uuid") (uuid_data (event_of a.row.key).0) (put_members (with_attribute_front a b no_members) was)))
hit_texts_put a b was = seen_and_part_put b (attribute_rest a b) _

-- its lists and the sharing group, and these members behind them
grouped_attribute : (names : GroupNames) (label : Label) (a : VisibleAttribute) (b : AttributeBody) (ms : Members) (was : PutDown)
    → put_members (with_group names label (with_attribute_lists a b ms)) was ≡ put_members ms (put_attribute_lists names label a b was)
grouped_attribute names (Label.Group group) a b ms was = refl
grouped_attribute names _ a b ms was = refl

whole_attribute : (names : GroupNames) (a : VisibleAttribute) (b : AttributeBody) (ms : Members) (was : PutDown)
    → put_value (object (with_group names a.row.label (with_attribute_lists a b ms))) was ≡ push tokens.end_object (put_members ms (put_attribute_lists names a.row.label a b (push tokens.begin_object was)))
whole_attribute names a b ms was =
    object_put (with_group names a.row.label (with_attribute_lists a b ms)) was ∙ ap (push tokens.end_object) (grouped_attribute names a.row.label a b ms (push tokens.begin_object was))

pub attribute_put : (names : GroupNames) (a : VisibleAttribute) (b : AttributeBody) (was : PutDown)
    → put_value (attribute_with names a b) was ≡ push tokens.end_object (put_members (attribute_texts a b) (put_attribute_lists names a.row.label a b (push tokens.begin_object was)))
unfolding attribute_with
attribute_put names a b was = whole_attribute names a b (attribute_texts a b) was

pub hit_put : (names : GroupNames) (a : VisibleAttribute) (b : AttributeBody) (was : PutDown)
    → put_value (hit_with names a b) was ≡ push tokens.end_object (put_members (hit_texts a b) (put_attribute_lists names a.row.label a b (push tokens.begin_object was)))
unfolding hit_with
hit_put names a b was = whole_attribute names a b (hit_texts a b) was

grouped_object : (names : GroupNames) (label : Label) (o : VisibleObject) (b : ObjectBody) (was : PutDown)
    → put_members (with_group names label (object_members names o b)) was ≡ put_members (object_texts o b) (put_object_lists names label o was)
grouped_object names (Label.Group group) o b was = refl
grouped_object names _ o b was = refl

pub visible_object_put : (names : GroupNames) (o : VisibleObject) (b : ObjectBody) (was : PutDown)
    → put_value (object_with names o b) was ≡ push tokens.end_object (put_members (object_texts o b) (put_object_lists names o.row.label o (push tokens.begin_object was)))
unfolding object_with
visible_object_put names o b was =
    object_put (with_group names o.row.label (object_members names o b)) was ∙ ap (push tokens.end_object) (grouped_object names o.row.label o b (push tokens.begin_object was))

grouped_event : (names : GroupNames) (label : Label) (e : VisibleEvent) (b : EventBody) (was : PutDown)
    → put_members (with_group names label (event_members names e b)) was ≡ put_members (event_texts e b) (put_event_lists names label e b was)
grouped_event names (Label.Group group) e b was = refl
grouped_event names _ e b was = refl

pub event_put : (names : GroupNames) (e : VisibleEvent) (b : EventBody) (was : PutDown)
    → put_value (event_with names e b) was ≡ push tokens.end_object (put_members (event_texts e b) (put_event_lists names e.row.label e b (push tokens.begin_object was)))
unfolding event_with
event_put names e b was =
    object_put (with_group names e.row.label (event_members names e b)) was ∙ ap (push tokens.end_object) (grouped_event names e.row.label e b (push tokens.begin_object was))

-- ---- texts

put_tokens : (tokens : List Token) (was : PutDown) → (with tokens was).tokens ≡ was.tokens ++ tokens
unfolding push
put_tokens [] was = sym (append-nil was.tokens)
put_tokens (token ∷ tokens) was = put_tokens tokens (push token was) ∙ append_assoc was.tokens (token ∷ []) tokens

put_before : (tokens : List Token) (was : PutDown) → (with tokens was).before ≡ was.before
unfolding push
put_before [] was = refl
put_before (token ∷ tokens) was = put_before tokens (push token was)

-- a value that is put down whole after a text
pub printed : (text : List ℕ) (d : Data) → (put_value d (behind text)).before ++ print (put_value d (behind text)).tokens ≡ text ++ compact_text d
unfolding put_value
printed text d = rw (put_before (json_tokens (outline d)) (behind text), put_tokens (json_tokens (outline d)) (behind text), print-outline d) refl
