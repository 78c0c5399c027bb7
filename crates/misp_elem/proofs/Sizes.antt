-- The texts of an element together are no longer than an element's may be.
use Rattle.std.proofs.Common.{◌≡◌, ℕ, ◌-◌, ◌≤◌, min, Bool, true, false, ◌&&◌, List, [], ◌∷◌, length, arith, nat_le}
use Rattle.std.proofs.lemmas.List.Sums.{sum_by-cons}
use Rattle.misp_lists.proofs.Prelude.{and_parts, nat_tests}
use Rattle.misp_elem.specs.Fields.{AreTagsAfter, IsText, is_text, is_after, tags_size, text_limit}
use Rattle.misp_elem.specs.Contents.{IsContent, IsProposed, least_kind, text_size}
use Rattle.misp_elem.specs.declared.content.Content.{Content}
use Rattle.misp_elem.specs.declared.content.Tag.{Tag}

upto : (n m : ℕ) → nat_le n m ≡ true → n ≤ m
upto n m h = grind (arith, nat_tests)

pub most_of : (least most : ℕ) (text : List ℕ) → IsText least most text → length text ≤ most
most_of least most text h =
    let lengths : (nat_le least (length text) && nat_le (length text) most) ≡ true = (and_parts _ _ h).0 in
    upto (length text) most (and_parts _ _ lengths).1

pub least_of : (least most : ℕ) (text : List ℕ) → IsText least most text → least ≤ length text
least_of least most text h =
    let lengths : (nat_le least (length text) && nat_le (length text) most) ≡ true = (and_parts _ _ h).0 in
    upto least (length text) (and_parts _ _ lengths).0

pub tags_room : (room : ℕ) (before : List ℕ) (ts : List Tag) → AreTagsAfter room before ts → tags_size ts ≤ room
unfolding tags_size
tags_room room before [] h = omega arith
tags_room room before (t ∷ ts) h =
    let name : length t.name ≤ min 255 room = most_of 1 (min 255 room) t.name (and_parts (is_text 1 (min 255 room) t.name) (is_after before t.name) h.0.0).0 in
    let others : tags_size ts ≤ room - length t.name = tags_room (room - length t.name) t.name ts h.1 in
    omega (arith, sum_by-cons (λ (u : Tag). length u.name) t ts)

proposed_room : (remove : Bool) (room : ℕ) (kind value : List ℕ) → IsProposed remove room kind value → length value ≤ room
proposed_room true room kind value h = let none = most_of 0 0 value h in omega arith
proposed_room false room kind value h = most_of 0 room value (and_parts _ _ h).0

pub size_within : (may : Bool) (c : Content) → IsContent may c → text_size c ≤ text_limit
unfolding text_size
size_within may (Content.Event b) h =
    let info = most_of 1 text_limit b.info h.0 in
    let tags = tags_room (text_limit - length b.info) [] b.tags h.1.1.1.1.1.1.1.1.1 in
    omega arith
size_within may (Content.Object b) h =
    let name = most_of 1 text_limit b.name h.0 in
    let meta_category = most_of 0 (text_limit - length b.name) b.meta_category h.1.0 in
    let description = most_of 0 (text_limit - length b.name - length b.meta_category) b.description h.1.1.0 in
    let comment = most_of 0 (text_limit - length b.name - length b.meta_category - length b.description) b.comment h.1.1.1.0 in
    omega arith
size_within may (Content.Attribute b) h =
    let kind = most_of 1 100 b.kind h.0 in
    let comment = most_of 0 (text_limit - length b.kind) b.comment h.1.1.1.0 in
    let value = most_of 0 (text_limit - length b.kind - length b.comment) b.value (and_parts _ _ h.1.1.1.1.1.0).0 in
    let tags = tags_room (text_limit - length b.kind - length b.comment - length b.value) [] b.tags h.1.1.1.1.1.1.0.1 in
    let relation = most_of 0 (text_limit - length b.kind - length b.comment - length b.value - tags_size b.tags) b.object_relation h.1.1.1.1.1.1.1.0 in
    omega arith
size_within may (Content.Reference b) h =
    let relationship = most_of 0 text_limit b.relationship_type h.0 in
    let comment = most_of 0 (text_limit - length b.relationship_type) b.comment h.1.0 in
    omega arith
size_within may (Content.Proposal b) h =
    let kind = most_of (least_kind b.remove) 100 b.kind h.1.1.0 in
    let comment = most_of 0 (text_limit - length b.kind) b.comment h.1.1.1.1.1.0 in
    let value = proposed_room b.remove (text_limit - length b.kind - length b.comment) b.kind b.value h.1.1.1.1.1.1 in
    omega arith
size_within may (Content.Verdict b) h = omega arith
size_within may (Content.Sighting b) h = most_of 0 text_limit b.source h.1.1.1
size_within may Content.Gone h = omega arith
