-- Reading tags one after the other, as a loop does.
use Rattle.std.proofs.Common.{◌≡◌, ℕ, suc, ◌-◌, ◌+◌, ◌≤◌, ◌<◌, List, [], ◌∷◌, ◌++◌, length, Some, Ok, Err, refl, sym, ap, ◌∙◌, append_assoc, arith, slice_get, append-nil, length-append}
use Rattle.std.proofs.lemmas.List.{get_or_push}
use Rattle.std.proofs.lemmas.Option.{slice_get_read}
use Rattle.misp_elem.specs.declared.content.Tag.{Tag}
use Rattle.misp_elem.specs.declared.fault.Stop.{Stop}
use Rattle.misp_elem.specs.Fields.{last_name, name_or_nothing}
use Rattle.misp_elem.specs.Reading.{Reading, ◌>>=◌, Fails}
use Rattle.misp_elem.specs.ContentReading.{tag_at, tags_after}

-- what was read before, and what is still read
abbrev pub with_front : List Tag → Reading (List Tag) → Reading (List Tag)
with_front front read = read >>= λ x. Ok (front ++ x.0, x.1)

regroup : (front : List Tag) (t : Tag) (read : Reading (List Tag)) → with_front front (read >>= λ x. Ok (t ∷ x.0, x.1)) ≡ with_front (front ++ t ∷ []) read
regroup front t (Ok x) = ap (λ (ts : List Tag). Ok (ts, x.1)) (simp append_assoc)
regroup front t (Err left) = refl

last_name-push : (ts : List Tag) (t : Tag) → last_name (ts ++ t ∷ []) ≡ t.name
last_name-push ts t =
    let len : length (ts ++ t ∷ []) - 1 ≡ length ts = omega (arith, length-append ts (t ∷ [])) in
    let here = get_or_push ts t t (length ts) refl in
    let at : slice_get (ts ++ t ∷ []) (length ts) ≡ Some t = slice_get_read (ts ++ t ∷ []) (length (ts ++ t ∷ [])) (length ts) t refl (omega (arith, length-append ts (t ∷ []))) (sym here) in
    ap (λ i. name_or_nothing (slice_get (ts ++ t ∷ []) i)) len ∙ ap name_or_nothing at

pub goes_on : (front : List Tag) (room count i : ℕ) (bytes : List ℕ) (t : Tag) (after : List ℕ) (total : Reading (List Tag)) (before : List ℕ) → i < count → before ≡ last_name front → tag_at room before bytes ≡ Ok (t, after)
    → with_front front (tags_after room (count - i) (last_name front) bytes) ≡ total
    → with_front (front ++ t ∷ []) (tags_after (room - length t.name) (count - (i + 1)) (last_name (front ++ t ∷ [])) after) ≡ total
unfolding tags_after
goes_on front room count i bytes t after total before lt is h so_far =
    let k : count - i ≡ suc (count - (i + 1)) = omega arith in
    let one : with_front front (tags_after room (count - i) (last_name front) bytes) ≡ with_front (front ++ t ∷ []) (tags_after (room - length t.name) (count - (i + 1)) t.name after) =
    rw (k, ← is, h) (regroup front t (tags_after (room - length t.name) (count - (i + 1)) t.name after)) in
    rw (last_name-push front t) (sym one ∙ so_far)

pub stops_at : (e : Stop) (front : List Tag) (room count i : ℕ) (bytes : List ℕ) (total : Reading (List Tag)) (before : List ℕ) → i < count → before ≡ last_name front → Fails e (tag_at room before bytes)
    → with_front front (tags_after room (count - i) (last_name front) bytes) ≡ total → Fails e total
unfolding tags_after
stops_at Stop.NoMemory front room count i bytes total before lt is h so_far = tt
stops_at (Stop.Bad bad) front room count i bytes total before lt is h so_far =
    let k : count - i ≡ suc (count - (i + 1)) = omega arith in
    let one : with_front front (tags_after room (count - i) (last_name front) bytes) ≡ Err bad.left = rw (k, ← is, h) refl in
    sym so_far ∙ one

pub is_done : (front : List Tag) (room count i : ℕ) (bytes : List ℕ) (total : Reading (List Tag)) → count ≤ i → with_front front (tags_after room (count - i) (last_name front) bytes) ≡ total → total ≡ Ok (front, bytes)
unfolding tags_after
is_done front room count i bytes total le so_far =
    let k : count - i ≡ 0 = omega arith in
    let one : with_front front (tags_after room (count - i) (last_name front) bytes) ≡ Ok (front, bytes) = rw k (ap (λ (ts : List Tag). Ok (ts, bytes)) (append-nil front)) in
    sym so_far ∙ one
