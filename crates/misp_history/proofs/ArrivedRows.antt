-- What arrives of rows are rows.
use Rattle.std.proofs.Common.{◌≡◌, ℕ, ◌≤◌, ◌-◌, arith, List, true, min, nat_le, length, [], ◌∷◌, Bool, false, suc, refl, sym, ap, ◌∙◌, subst, ◌&&◌, leb-true, le-leb, Contains, filter}
use Rattle.misp_history.proofs.Prelude.{AreRows, Content, Element, Group, IsContent, IsRow, IsTable, IsUid, Key, Label, Place, Route, Row, Tag, and_from, and_parts, arrived, arriving_rows, cond_both, content_kind, exportable, false≢true}
use Rattle.misp_history.proofs.Prelude.{fits, here, is_gone, is_known, is_tombstone, known, label_kind, map_from, may_remove, of_part, passes, passing_rows, there, without_local_tags}
use Rattle.misp_lists.proofs.Orders.{bytes_on}
use Rattle.misp_levels.specs.Levels.{down, landed, lowering}
use Rattle.misp_ids.specs.declared.label.Way.{Way}
use Rattle.misp_elem.specs.Prelude.{AreTags, AreTagsAfter, IsLabelBut, IsText, barred_labels, is_after, is_text, is_utf8, text_limit}
use Rattle.misp_elem.specs.Fields.{tags_size}
use Rattle.misp_lists.proofs.Prelude.{sum_by-cons}
use Rattle.misp_history.proofs.Passed.{is_row, no_tombstone_passes}

-- ---- tags
more_room : (least room more : ℕ) (text : List ℕ) → room ≤ more → is_text least (min 255 room) text ≡ true → is_text least (min 255 more) text ≡ true
more_room least room more text le h =
    let two : ((nat_le least (length text) && nat_le (length text) (min 255 room)) ≡ true) × (is_utf8 text ≡ true) = and_parts _ _ h in
    let one : (nat_le least (length text) ≡ true) × (nat_le (length text) (min 255 room) ≡ true) = and_parts _ _ two.0 in
    and_from _ _ (and_from _ _ one.0 (wider one.1)) two.1
  where
    wider : nat_le (length text) (min 255 room) ≡ true → nat_le (length text) (min 255 more) ≡ true
    wider e = let a : length text ≤ min 255 room = leb-true (length text) (min 255 room) e in le-leb (length text) (min 255 more) (omega arith)

-- tags of which some are left out, with more room, after an earlier name
tags_part : (room more : ℕ) (before earlier : List ℕ) (tags : List Tag) → room ≤ more → ((name : List ℕ) → is_after before name ≡ true → is_after earlier name ≡ true)
    → AreTagsAfter room before tags → AreTagsAfter more earlier (exportable tags)
unfolding exportable
tags_part room more before earlier [] le after a = tt
tags_part room more before earlier (t ∷ tags) le after a =
    let two = and_parts (is_text 1 (min 255 room) t.name) (is_after before t.name) a.0.0 in
    let kept = tags_part (room - length t.name) (more - length t.name) t.name t.name tags (omega arith) (λ name h. h) a.1 in
    let left = tags_part (room - length t.name) more t.name earlier tags (omega arith) (λ name h. after name (bytes_on before t.name name two.1 h)) a.1 in
    cond_both t.exportable _ _ (λ ts. AreTagsAfter more earlier ts) (λ e. ((and_from (is_text 1 (min 255 more) t.name) (is_after earlier t.name) (more_room 1 room more t.name le two.0) (after t.name two.1), a.0.1), kept)) (λ e. left)

fewer : (tags : List Tag) → length (exportable tags) ≤ length tags
unfolding exportable
fewer [] = omega arith
fewer (t ∷ tags) = let le = fewer tags in cond_both t.exportable (t ∷ exportable tags) (exportable tags) (λ ts. length ts ≤ suc (length tags)) (λ e. omega arith) (λ e. omega arith)

tags_stay : (room : ℕ) (tags : List Tag) → AreTags room tags → AreTags room (exportable tags)
tags_stay room tags a = let le = fewer tags in let lt = a.0 in (omega arith, tags_part room room [] [] tags (omega arith) (λ name h. h) a.1)

-- ---- the text after the tags
tags_left : (tags : List Tag) → tags_size (exportable tags) ≤ tags_size tags
unfolding exportable tags_size
tags_left [] = omega arith
tags_left (t ∷ tags) =
    let le = tags_left tags in
    let all = sum_by-cons (λ (u : Tag). length u.name) t tags in
    cond_both t.exportable (t ∷ exportable tags) (exportable tags) (λ ts. tags_size ts ≤ tags_size (t ∷ tags))
    (λ e. omega (arith, all, le, sum_by-cons (λ (u : Tag). length u.name) t (exportable tags))) (λ e. omega (arith, all, le))

text_stays : (room more : ℕ) (text : List ℕ) → room ≤ more → IsText 0 room text → IsText 0 more text
text_stays room more text le h =
    let two = and_parts (nat_le 0 (length text) && nat_le (length text) room) (is_utf8 text) h in
    let one = and_parts (nat_le 0 (length text)) (nat_le (length text) room) two.0 in
    let a : length text ≤ room = leb-true (length text) room one.1 in
    and_from _ _ (and_from _ _ one.0 (le-leb (length text) more (omega arith))) two.1

-- ---- contents and labels
content_stays : (may : Bool) (c : Content) → IsContent may c → IsContent may (without_local_tags c)
unfolding without_local_tags
content_stays may (Content.Event b) i = (i.0, (i.1.0, (i.1.1.0, (i.1.1.1.0, (i.1.1.1.1.0, (i.1.1.1.1.1.0, (i.1.1.1.1.1.1.0, (i.1.1.1.1.1.1.1.0, tags_stay (text_limit - length b.info) b.tags i.1.1.1.1.1.1.1.1))))))))
content_stays may (Content.Attribute b) i = (i.0, (i.1.0, (tt, (i.1.1.1.0, (tt, (i.1.1.1.1.1.0, (tags_stay (text_limit - length b.kind - length b.comment - length b.value) b.tags i.1.1.1.1.1.1.0, (relation_stays, i.1.1.1.1.1.1.1.1))))))))
  where
    room : ℕ
    room = text_limit - length b.kind - length b.comment - length b.value

    relation_stays : IsText 0 (room - tags_size (exportable b.tags)) b.object_relation
    relation_stays = let le = tags_left b.tags in text_stays (room - tags_size b.tags) (room - tags_size (exportable b.tags)) b.object_relation (omega arith) i.1.1.1.1.1.1.1.0
content_stays may _ i = i

kind_stays : (c : Content) → content_kind (without_local_tags c) ≡ content_kind c
unfolding without_local_tags
kind_stays Content.Gone = refl
kind_stays c = refl

-- a content that is no tombstone fits whatever the label and the flags
fits_on : (k : Key) (l m : ℕ) (f g : Bool × Bool) (c : Content) → (content_kind c ≡ 7 → ⊥) → fits k l f (content_kind c) ≡ true → fits k m g (content_kind c) ≡ true
fits_on (Element e Place.Event) l m f g (Content.Event b) n h = refl
fits_on (Element e Place.Event) l m f g Content.Gone n h = absurd (n refl)
fits_on (Element e Place.Event) l m f g _ n h = absurd (false≢true h)
fits_on _ l m f g c n h = h

not_seven : (c : Content) → is_gone c ≡ false → content_kind c ≡ 7 → ⊥
unfolding is_gone
not_seven Content.Gone h e = false≢true (sym h)
not_seven _ h e = absurd (omega arith)

-- a label that a row of the key can have is one after a hop
label_hops : (k : Key) (l : Label) → IsLabelBut (barred_labels k) l → IsLabelBut (barred_labels k) (down l 1)
unfolding down
label_hops (Element e Place.Event) Label.Community h = (refl, tt)
label_hops (Element e p) Label.Community h = (refl, tt)
label_hops _ Label.Community h = absurd (false≢true (sym h.0))
label_hops (Element e Place.Event) Label.Connected h = (refl, tt)
label_hops (Element e p) Label.Connected h = (refl, tt)
label_hops _ Label.Connected h = absurd (false≢true (sym h.0))
label_hops k _ h = h

-- and so is one as a way leaves it
label_lands : (way : Way) (k : Key) (l : Label) → IsLabelBut (barred_labels k) l → IsLabelBut (barred_labels k) (landed way l)
unfolding landed lowering down
label_lands Way.Pull k l h = label_hops k l h
label_lands Way.Push k l h = label_hops k l h
label_lands Way.Internal k Label.Own h = h
label_lands Way.Internal k Label.Community h = h
label_lands Way.Internal k Label.Connected h = h
label_lands Way.Internal k Label.All h = h
label_lands Way.Internal k (Label.Group g) h = h
label_lands Way.Internal k Label.Inherit h = h

-- ---- rows
pub arrived_row : (route : Route) (row : Row) → IsUid route.holder.0 → IsRow row → is_tombstone row ≡ false → IsRow (arrived route row)
unfolding arrived is_tombstone
arrived_row route row u i n =
    let fit : fits row.key (label_kind (landed route.way row.label)) (false, true) (content_kind (without_local_tags row.content)) ≡ true =
    ap (fits row.key (label_kind (landed route.way row.label)) (false, true)) (kind_stays row.content)
    ∙ fits_on row.key (label_kind row.label) (label_kind (landed route.way row.label)) (row.held, row.carried) (false, true) row.content (not_seven row.content n) i.1.1.1.1.1.0 in
    (u, (i.1.0, (i.1.1.0, (label_lands route.way row.key row.label i.1.1.1.0, (tt, (fit, content_stays (may_remove row.key) row.content i.1.1.1.1.1.1))))))

all_rows : (xs : List Row) → ((x : Row) → Contains xs x → IsRow x) → AreRows xs
all_rows [] h = tt
all_rows (x ∷ xs) h = (h x (here x xs), all_rows xs (λ y m. h y (there x xs y m)))

pub arriving_are_rows : (rows : List Row) (groups : List Group) (route : Route) → IsTable rows → AreRows rows → IsUid route.holder.0 → AreRows (arriving_rows rows groups route)
unfolding arriving_rows passing_rows known
arriving_are_rows rows groups route table are u = all_rows (arriving_rows rows groups route) (λ x m.
    let f = map_from (arrived route) (filter (passes (known rows groups route.from route.«for») groups route) (known rows groups route.from route.«for»)) x m in
    let a = of_part (passes (known rows groups route.from route.«for») groups route) (known rows groups route.from route.«for») f.0 f.1.0 in
    let b = of_part (is_known rows groups route.from route.«for») rows f.0 a.1 in
    subst IsRow f.1.1 (arrived_row route f.0 u (is_row rows groups route table are rows f.0 are b.1) (no_tombstone_passes rows groups route table are f.0 b.1 a.0)))
