-- Packages are read as they are written.
use Rattle.std.proofs.Common.{◌≡◌, ℕ, zero, suc, ◌<◌, ◌^◌, List, [], ◌∷◌, ◌++◌, length, Option, Some, None, Ok, refl, sym, ap, subst, ◌∙◌, append_assoc, arith, flat_map, leb, leb-true}
use Rattle.std.proofs.lemmas.List.Concat.{flat_map-cons}
use Rattle.misp_lists.proofs.Prelude.{IsBytes, and_parts}
use Rattle.misp_ids.specs.Uid.{IsUid}
use Rattle.misp_elem.specs.Prelude.{◌>>=◌, IsBetween}
use Rattle.misp_elem.specs.Spelling.{uid}
use Rattle.misp_elem.proofs.Exact.{bind_ok, ok_is, Takes, Takes-then, IsField, IsMade, last, first, whole, all_takes, all_again}
use Rattle.misp_elem.proofs.Keys.{event_field}
use Rattle.misp_model.specs.Package.{IsPackage}
use Rattle.misp_model.specs.Prelude.{EventId, Key, Row}
use Rattle.misp_model.specs.declared.package.PackageFields.{PackageFields}
use Rattle.misp_package.specs.Spelling.{form, framed_row, framed_rows, number, spell_package}
use Rattle.misp_package.specs.PackageReading.{framed_row_at, framed_rows_at, package_at, package_of_bytes, rows_after}
use Rattle.misp_package.proofs.OnWire.{AreOnWire, ArePacked, are_on_wire, are_packed}
use Rattle.misp_package.proofs.PackageFields.{count_field, form_field, framed_field, number_field_32, parts_field}

-- ---- rows

rows_take : (e : EventId) (before : Option Key) (n : ℕ) (bytes : List ℕ) (rs : List Row) (rest : List ℕ) → IsBytes bytes → rows_after e before n bytes ≡ Ok (rs, rest)
    → ((length rs ≡ n) × AreOnWire e before rs) × Takes bytes (flat_map framed_row rs) rest
unfolding rows_after
rows_take e before zero bytes rs rest fits h =
    let made : List Row × List ℕ = ([], bytes) in
    subst (λ (x : List Row × List ℕ). ((length x.0 ≡ 0) × AreOnWire e before x.0) × Takes bytes (flat_map framed_row x.0) x.1) (ok_is made (rs, rest) h)
    ((refl, tt), record { parts = refl; rest_fits = fits })
rows_take e before (suc n) bytes rs rest fits h =
    let a = bind_ok (framed_row_at e before bytes) (λ one. rows_after e (Some one.0.key) n one.1 >>= λ others. Ok (one.0 ∷ others.0, others.1)) (rs, rest) h in
    let b = bind_ok (rows_after e (Some a.0.0.key) n a.0.1) (λ others. Ok (a.0.0 ∷ others.0, others.1)) (rs, rest) a.2 in
    let one = (framed_field e before).takes bytes a.0.0 a.0.1 fits a.1 in
    let others = rows_take e (Some a.0.0.key) n a.0.1 b.0.0 b.0.1 one.1.rest_fits b.1 in
    let both = Takes-then bytes (framed_row a.0.0) a.0.1 (flat_map framed_row b.0.0) b.0.1 one.1 others.1 in
    let made : List Row × List ℕ = (a.0.0 ∷ b.0.0, b.0.1) in
    subst (λ (x : List Row × List ℕ). ((length x.0 ≡ suc n) × AreOnWire e before x.0) × Takes bytes (flat_map framed_row x.0) x.1) {x = made} (ok_is made (rs, rest) b.2)
    ((ap suc others.0.0, (one.0, others.0.1)), rw flat_map-cons both)

rows_again : (e : EventId) (before : Option Key) (n : ℕ) (rs : List Row) (rest : List ℕ) → (length rs ≡ n) × AreOnWire e before rs
    → rows_after e before n (flat_map framed_row rs ++ rest) ≡ Ok (rs, rest)
unfolding rows_after
rows_again e before zero [] rest h = refl
rows_again e before zero (r ∷ rs) rest h = absurd (omega (arith, h.0))
rows_again e before (suc n) [] rest h = absurd (omega (arith, h.0))
rows_again e before (suc n) (r ∷ rs) rest h =
    let regrouped : flat_map framed_row (r ∷ rs) ++ rest ≡ framed_row r ++ (flat_map framed_row rs ++ rest) =
    ap (λ (x : List ℕ). x ++ rest) (flat_map-cons framed_row r rs) ∙ append_assoc (framed_row r) (flat_map framed_row rs) rest in
    ap (rows_after e before (suc n)) regrouped
    ∙ rw ((framed_field e before).again r (flat_map framed_row rs ++ rest) h.1.0, rows_again e (Some r.key) n rs rest (omega (arith, h.0), h.1.1)) refl

counted_made : (e : EventId) (n : ℕ) → IsMade (λ (rs : List Row). (length rs ≡ n) × AreOnWire e None rs) (λ rs. rs) (λ rs. flat_map framed_row rs) (rows_after e None n)
counted_made e n = record {
  takes = λ bytes rs rest fits h. let t = rows_take e None n bytes rs rest fits h in (rs, refl, t.0, t.1);
  again = λ rs rest h. rows_again e None n rs rest h;
}

framed_rows_made : (e : EventId)
    → IsMade (λ (p : ℕ × List Row). ((p.0 < 2 ^ 32) × IsBetween 1 65 p.0) × ((length p.1 ≡ p.0) × AreOnWire e None p.1))
    (λ p. p.1) (λ p. number p.0 ++ flat_map framed_row p.1) (framed_rows_at e)
unfolding framed_rows_at
framed_rows_made e = first (count_field 1 65) (λ n. counted_made e n)

-- so few can be counted in four bytes
few : (n : ℕ) → IsBetween 1 65 n → n < 2 ^ 32
few n h = omega (arith, leb-true n 65 (and_parts (leb 1 n) (leb n 65) h).1)

framed_rows_field : (e : EventId) → IsField (λ rs. IsBetween 1 65 (length rs) × AreOnWire e None rs) framed_rows (framed_rows_at e)
framed_rows_field e =
    whole (λ rs. (length rs, rs)) (λ rs. IsBetween 1 65 (length rs) × AreOnWire e None rs) framed_rows (λ rs. refl) (λ rs h. ((few (length rs) h.0, h.0), (refl, h.1)))
    (λ p h. (subst (IsBetween 1 65) (sym h.1.0) h.0.1, h.1.1)) (λ p h. ap (λ (n : ℕ). number n ++ flat_map framed_row p.1) h.1.0) (framed_rows_made e)

-- ---- packages

package_made : IsMade
    (λ (p : Unit {0} × (EventId × (ℕ × (ℕ × List Row)))). Unit {0}
    × (IsUid p.1.0.0
    × ((p.1.1.0 < 2 ^ 32) × (((p.1.1.1.0 < 2 ^ 32) × (p.1.1.0 < p.1.1.1.0)) × (IsBetween 1 65 (length p.1.1.1.1) × AreOnWire p.1.0 None p.1.1.1.1)))))
    (λ p. record { event = p.1.0; part = p.1.1.0; parts = p.1.1.1.0; rows = p.1.1.1.1 })
    (λ p. form ++ (uid p.1.0.0 ++ (number p.1.1.0 ++ (number p.1.1.1.0 ++ framed_rows p.1.1.1.1))))
    package_at
unfolding package_at
package_made =
    first (form_field form) (λ begun. first event_field (λ e. first number_field_32 (λ part. first (parts_field part) (λ parts.
    last (λ rows. record { event = e; part = part; parts = parts; rows = rows }) (framed_rows_field e)))))

packed : (p : PackageFields) → IsPackage p → ArePacked p.event p.rows
packed p h = record { first = h.first; packed = h.packed; ascend = h.ascend; rows = h.rows }

package_field : IsField IsPackage spell_package package_at
package_field =
    whole (λ p. (tt, (p.event, (p.part, (p.parts, p.rows))))) IsPackage spell_package (λ p. refl)
    (λ p h. (tt, (h.event, (omega (arith, h.part, h.parts), ((h.parts, h.part), (h.count, are_on_wire p.event p.rows (packed p h)))))))
    (λ p h.
    let rows = are_packed p.1.0 p.1.1.1.1 h.1.1.1.1.0 h.1.1.1.1.1 in
    record { event = h.1.0; part = h.1.1.1.0.1; parts = h.1.1.1.0.0; count = h.1.1.1.1.0; first = rows.first; packed = rows.packed; ascend = rows.ascend; rows = rows.rows })
    (λ p h. refl) package_made

pub package_of_bytes_takes : (bytes : List ℕ) (p : PackageFields) → IsBytes bytes → package_of_bytes bytes ≡ Ok p → IsPackage p × (bytes ≡ spell_package p)
unfolding package_of_bytes
package_of_bytes_takes bytes p fits h = all_takes package_field bytes p fits h

pub package_of_bytes_again : (p : PackageFields) → IsPackage p → package_of_bytes (spell_package p) ≡ Ok p
unfolding package_of_bytes
package_of_bytes_again p h = all_again package_field p h
