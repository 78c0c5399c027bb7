-- Rows on the wire, one at a place.
use Rattle.std.proofs.Common.{◌≡◌, ℕ, zero, suc, ◌<◌, ◌≤◌, ◌+◌, true, take, List, [], ◌∷◌, ◌++◌, Bor, length, get_or, map, ap, sym, ◌∙◌, arith, subst}
use Rattle.std.proofs.lemmas.Bool.{not-true}
use Rattle.std.proofs.lemmas.List.{length-take-le, take_more}
use Rattle.misp_ids.specs.declared.label.Way.{Way}
use Rattle.misp_model.proofs.Prelude.{AllByRecursion, AreRows, EventId, IsRow, Row, and_parts, are_rows_push, length-map, list_all, map-append}
use Rattle.misp_model.specs.declared.package.PackageFields.{PackageFields as Package}
use Rattle.misp_history.specs.Merging.{arrived}
use Rattle.misp_history.proofs.ArrivedRows.{arrived_row}
use Rattle.misp_model.specs.Package.{nobody}
use Rattle.misp_package.specs.Packing.{AreNumberedFrom, is_whole, on_wire, rows_in}

-- a row that is no tombstone is one on the wire
pub wired_row : (way : Way) (row : Row) → IsRow row → is_whole row ≡ true → IsRow (on_wire way row)
unfolding on_wire is_whole arrived
wired_row way row i w = arrived_row (record { way = way; from = []; «for» = nobody; dest = []; into = []; holder = nobody }) row (omega arith) i (not-true _ w)

pub whole_at : (xs : List (Bor Row)) (i : ℕ) (x : Bor Row) → i < length xs → x ≡ get_or xs i x → list_all is_whole (map (λ r. r.now) xs) ≡ true → is_whole x.now ≡ true
whole_at [] i x lt e a = absurd (omega arith)
whole_at (y ∷ ys) zero x lt e a = ap (λ (r : Bor Row). is_whole r.now) e ∙ (and_parts _ _ a).0
whole_at (y ∷ ys) (suc i) x lt e a = whole_at ys i x (omega arith) e (and_parts (is_whole y.now) (list_all is_whole (map (λ r. r.now) ys)) a).1

-- one row more on the wire
one_more : (way : Way) (own : Row) (xs : List (Bor Row)) (i : ℕ) → i < length xs → (x : Bor Row) → x ≡ get_or xs i x
    → map (on_wire way) (own ∷ map (λ r. r.now) (take i xs)) ++ on_wire way x.now ∷ [] ≡ map (on_wire way) (own ∷ map (λ r. r.now) (take (i + 1) xs))
one_more way own xs i lt x e =
    sym (ap (λ (l : List (Bor Row)). map (on_wire way) (own ∷ map (λ r. r.now) l)) (take_more xs i x lt)
    ∙ ap (λ (l : List Row). map (on_wire way) (own ∷ l)) (map-append (λ (r : Bor Row). r.now) (take i xs) (get_or xs i x ∷ []))
    ∙ map-append (on_wire way) (own ∷ map (λ r. r.now) (take i xs)) ((get_or xs i x).now ∷ [])
    ∙ ap (λ (r : Bor Row). map (on_wire way) (own ∷ map (λ r. r.now) (take i xs)) ++ on_wire way r.now ∷ []) (sym e))

pub wire_more : (way : Way) (own : Row) (xs : List (Bor Row)) (i : ℕ) (x : Bor Row) (y : Row) (done : List Row) → i < length xs → x ≡ get_or xs i x → done ≡ map (on_wire way) (own ∷ map (λ r. r.now) (take i xs)) → y ≡ on_wire way x.now
    → done ++ y ∷ [] ≡ map (on_wire way) (own ∷ map (λ r. r.now) (take (i + 1) xs))
wire_more way own xs i x y done lt e h k = (λ j. h j ++ k j ∷ []) ∙ one_more way own xs i lt x e

pub wired_more : (way : Way) (own : Row) (xs : List (Bor Row)) (i : ℕ) (x : Bor Row) → i < length xs → x ≡ get_or xs i x → AreRows (map (on_wire way) (own ∷ map (λ r. r.now) (take i xs))) → IsRow (on_wire way x.now)
    → AreRows (map (on_wire way) (own ∷ map (λ r. r.now) (take (i + 1) xs)))
wired_more way own xs i x lt e h k = subst AreRows (one_more way own xs i lt x e) (are_rows_push (map (on_wire way) (own ∷ map (λ r. r.now) (take i xs))) (on_wire way x.now) h k)

pub part_at : (P : List Row → Type 0) (parts : List (Bor (List (Bor Row)))) (i : ℕ) (part : Bor (List (Bor Row))) → i < length parts → part ≡ get_or parts i part →
    AllByRecursion P (rows_in parts) → P (map (λ r. r.now) part.now)
part_at P [] i part lt e a = absurd (omega arith)
part_at P (x ∷ xs) zero part lt e a = subst (λ (r : Bor (List (Bor Row))). P (map (λ r. r.now) r.now)) (sym e) a.0
part_at P (x ∷ xs) (suc i) part lt e a = part_at P xs i part (omega arith) e a.1

-- one package more
pub numbered_more : (n : ℕ) (e : EventId) (count : ℕ) (ps : List Package) (p : Package) → AreNumberedFrom n e count ps →
    p.event ≡ e → p.part ≡ n + length ps → p.parts ≡ count → AreNumberedFrom n e count (ps ++ p ∷ [])
unfolding AreNumberedFrom
numbered_more n e count [] p a f g h = ((f, (g ∙ omega arith, h)), tt)
numbered_more n e count (q ∷ ps) p a f g h = (a.0, numbered_more (suc n) e count ps p a.1 f (g ∙ omega arith) h)

-- ---- one part more

module _ {X : Type 0} (f : List Row → X) (parts : List (Bor (List (Bor Row)))) (i : ℕ) where
  pub rows_more : (part : Bor (List (Bor Row))) (done : List X) (rows : X) → i < length parts → part ≡ get_or parts i part →
      done ≡ map f (rows_in (take i parts)) → rows ≡ f (map (λ r. r.now) part.now) → done ++ rows ∷ [] ≡ map f (rows_in (take (i + 1) parts))
  rows_more part done rows lt e h k =
      (λ j. h j ++ (k ∙ ap (λ (r : Bor (List (Bor Row))). f (map (λ r. r.now) r.now)) e) j ∷ [])
      ∙ sym (map-append f (rows_in (take i parts)) (rows_in (get_or parts i part ∷ [])))
      ∙ ap (map f) (sym (map-append (λ (r : Bor (List (Bor Row))). map (λ r. r.now) r.now) (take i parts) (get_or parts i part ∷ [])))
      ∙ ap (λ l. map f (rows_in l)) (sym (take_more parts i part lt))

module _ (f : List Row → List Row) (parts : List (Bor (List (Bor Row)))) (i : ℕ) where
  pub count_done : (ps : List Package) → i ≤ length parts → map (λ p. p.rows) ps ≡ map f (rows_in (take i parts)) → length ps ≡ i
  count_done ps le h =
      sym (length-map ps (λ (p : Package). p.rows)) ∙ ap length h ∙ length-map (rows_in (take i parts)) f ∙ length-map (take i parts) (λ (r : Bor (List (Bor Row))). map (λ r. r.now) r.now)
      ∙ length-take-le i parts le
