-- Tags are read as they are written.
use Rattle.std.proofs.Common.{◌≡◌, ℕ, zero, suc, ◌-◌, ◌<◌, ◌≤◌, ◌^◌, Bool, false, ltb, All, List, [], ◌∷◌, ◌++◌, length, take, drop, Ok, refl, sym, ap, subst, ◌∙◌, append_assoc, arith, min, flat_map, w32, ltb-false, le-ltb, take_at}
use Rattle.std.proofs.Common.{drop_at, take-append-drop, length-append, length-take}
use Rattle.std.proofs.Math.Nat.{min-le_left}
use Rattle.std.proofs.lemmas.Bool.{and_parts, and_from}
use Rattle.std.proofs.lemmas.List.Concat.{flat_map-cons}
use Rattle.std.proofs.lemmas.List.Elements.{All-from_recursion}
use Rattle.misp_lists.proofs.Bytes.{IsBytes, IsBytes-take, IsBytes-drop, wide32}
use Rattle.misp_elem.specs.Prelude.{◌>>=◌, AllByRecursion, AreTags, AreTagsAfter, IsTag, IsTagName, Tag, is_after, to_be_bytes}
use Rattle.misp_elem.specs.Fields.{IsColour}
use Rattle.misp_elem.specs.Spelling.{text, flag, tag, tags}
use Rattle.misp_elem.specs.ContentReading.{colour_at, tag_name_at, tag_at, tags_after, tags_at}
use Rattle.misp_elem.proofs.Exact.{bind_ok, guard_ok, ok_is, Takes, Takes-then, IsField, IsMade, last, first, whole, tested, under}
use Rattle.misp_elem.proofs.Numbers.{number_field, length-text_le, text_field, flag_field}

colour_takes : (bytes colour rest : List ℕ) → IsBytes bytes → colour_at bytes ≡ Ok (colour, rest) → IsColour colour × Takes bytes colour rest
unfolding colour_at
colour_takes bytes colour rest fits e =
    let made : List ℕ × List ℕ = (take 3 bytes, drop 3 bytes) in
    let g = guard_ok (ltb (length bytes) 3) (length bytes) (Ok made) (colour, rest) e in
    let long : 3 ≤ length bytes = ltb-false _ _ g.0 in
    subst (λ (x : List ℕ × List ℕ). IsColour x.0 × Takes bytes x.0 x.1) (ok_is made (colour, rest) g.1)
    ((omega (arith, length-take 3 bytes), IsBytes-take 3 bytes fits), record { parts = sym (take-append-drop 3 bytes); rest_fits = IsBytes-drop 3 bytes fits })

colour_again : (colour rest : List ℕ) → IsColour colour → colour_at (colour ++ rest) ≡ Ok (colour, rest)
unfolding colour_at
colour_again colour rest h =
    let long : ltb (length (colour ++ rest)) 3 ≡ false = le-ltb _ _ (omega (arith, h.0, length-append colour rest)) in
    rw (long, take_at colour rest 3 h.0, drop_at colour rest 3 h.0) refl

colour_field : IsField IsColour (λ c. c) colour_at
colour_field = record { takes = colour_takes; again = colour_again }

tag_name_field : (room : ℕ) (before : List ℕ) → IsField (IsTagName room before) text (tag_name_at room before)
unfolding tag_name_at
tag_name_field room before =
    let short : min 255 room < 2 ^ 32 = omega (arith, min-le_left 255 room) in
    under (IsTagName room before) (λ name h. and_from _ _ h.0 h.1) (λ name h. and_parts _ _ h) (tested (is_after before) (text_field 1 (min 255 room) short))

tag_made : (room : ℕ) (before : List ℕ)
    → IsMade (λ (p : List ℕ × (List ℕ × Bool)). IsTagName room before p.0 × (IsColour p.1.0 × Unit {0})) (λ p. record { name = p.0; colour = p.1.0; exportable = p.1.1 })
    (λ p. text p.0 ++ (p.1.0 ++ flag p.1.1)) (tag_at room before)
unfolding tag_at
tag_made room before = first (tag_name_field room before) (λ name. first colour_field (λ colour. last (λ exportable. record { name = name; colour = colour; exportable = exportable }) flag_field))

tag_field : (room : ℕ) (before : List ℕ) → IsField (IsTag room before) tag (tag_at room before)
tag_field room before = whole (λ t. (t.name, (t.colour, t.exportable))) (IsTag room before) tag (λ t. refl) (λ t h. h) (λ p h. h) (λ p h. refl) (tag_made room before)

tags_take : (room n : ℕ) (before bytes : List ℕ) (ts : List Tag) (rest : List ℕ) → IsBytes bytes → tags_after room n before bytes ≡ Ok (ts, rest)
    → ((length ts ≡ n) × AreTagsAfter room before ts) × Takes bytes (flat_map tag ts) rest
unfolding tags_after
tags_take room zero before bytes ts rest fits e =
    let made : List Tag × List ℕ = ([], bytes) in
    subst (λ (x : List Tag × List ℕ). ((length x.0 ≡ 0) × AreTagsAfter room before x.0) × Takes bytes (flat_map tag x.0) x.1) (ok_is made (ts, rest) e) ((refl, tt), record { parts = refl; rest_fits = fits })
tags_take room (suc n) before bytes ts rest fits e =
    let a = bind_ok (tag_at room before bytes) (λ one. tags_after (room - length one.0.name) n one.0.name one.1 >>= λ others. Ok (one.0 ∷ others.0, others.1)) (ts, rest) e in
    let b = bind_ok (tags_after (room - length a.0.0.name) n a.0.0.name a.0.1) (λ others. Ok (a.0.0 ∷ others.0, others.1)) (ts, rest) a.2 in
    let one = (tag_field room before).takes bytes a.0.0 a.0.1 fits a.1 in
    let others = tags_take (room - length a.0.0.name) n a.0.0.name a.0.1 b.0.0 b.0.1 one.1.rest_fits b.1 in
    let both = Takes-then bytes (tag a.0.0) a.0.1 (flat_map tag b.0.0) b.0.1 one.1 others.1 in
    let made : List Tag × List ℕ = (a.0.0 ∷ b.0.0, b.0.1) in
    subst (λ (x : List Tag × List ℕ). ((length x.0 ≡ suc n) × AreTagsAfter room before x.0) × Takes bytes (flat_map tag x.0) x.1) (ok_is made (ts, rest) b.2) ((ap suc others.0.0, (one.0, others.0.1)), rw flat_map-cons both)

tags_again : (room n : ℕ) (before : List ℕ) (ts : List Tag) (rest : List ℕ) → (length ts ≡ n) × AreTagsAfter room before ts → tags_after room n before (flat_map tag ts ++ rest) ≡ Ok (ts, rest)
unfolding tags_after
tags_again room zero before [] rest h = refl
tags_again room zero before (t ∷ ts) rest h = absurd (omega (arith, h.0))
tags_again room (suc n) before [] rest h = absurd (omega (arith, h.0))
tags_again room (suc n) before (t ∷ ts) rest h =
    let regrouped : flat_map tag (t ∷ ts) ++ rest ≡ tag t ++ (flat_map tag ts ++ rest) = ap (λ (x : List ℕ). x ++ rest) (flat_map-cons tag t ts) ∙ append_assoc (tag t) (flat_map tag ts) rest in
    ap (tags_after room (suc n) before) regrouped ∙ rw ((tag_field room before).again t (flat_map tag ts ++ rest) h.1.0, tags_again (room - length t.name) n t.name ts rest (omega (arith, h.0), h.1.1)) refl

counted_made : (room n : ℕ) → IsMade (λ (ts : List Tag). (length ts ≡ n) × AreTagsAfter room [] ts) (λ ts. ts) (λ ts. flat_map tag ts) (tags_after room n [])
counted_made room n = record {
  takes = λ bytes ts rest fits e. let t = tags_take room n [] bytes ts rest fits e in (ts, refl, t.0, t.1);
  again = λ ts rest h. tags_again room n [] ts rest h;
}

tags_made : (room : ℕ) → IsMade (λ (p : ℕ × List Tag). (p.0 < 2 ^ 32) × ((length p.1 ≡ p.0) × AreTagsAfter room [] p.1)) (λ p. p.1) (λ p. to_be_bytes w32 p.0 ++ flat_map tag p.1) (tags_at room)
unfolding tags_at
tags_made room = first (number_field w32 (2 ^ 32) wide32) (λ n. counted_made room n)

pub tags_field : (room : ℕ) → IsField (AreTags room) tags (tags_at room)
unfolding tags
tags_field room = whole (λ ts. (length ts, ts)) (AreTags room) tags (λ ts. refl) (λ ts h. (h.0, (refl, h.1))) (λ p h. (omega (arith, h.0, h.1.0), h.1.1)) (λ p h. ap (λ (n : ℕ). to_be_bytes w32 n ++ flat_map tag p.1) h.1.0) (tags_made room)

names_short : (room : ℕ) (before : List ℕ) (ts : List Tag) → AreTagsAfter room before ts → AllByRecursion (λ t. length t.name < 2 ^ 32) ts
names_short room before [] h = tt
names_short room before (t ∷ ts) h =
    let len = length-text_le 1 (min 255 room) t.name (and_parts _ _ h.0.0).0 in
    (omega (arith, len, min-le_left 255 room), names_short (room - length t.name) t.name ts h.1)

-- the names of tags are short, each of them
pub name_short : (room : ℕ) (ts : List Tag) → AreTags room ts → All (λ t. length t.name < 2 ^ 32) ts
name_short room ts h = All-from_recursion (λ t. length t.name < 2 ^ 32) ts (names_short room [] ts h.1)
