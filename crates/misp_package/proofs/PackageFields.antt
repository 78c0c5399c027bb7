-- Each field of a package is read as it is written.
use Rattle.std.proofs.Common.{◌≡◌, ℕ, ◌+◌, ◌<◌, ◌≤◌, ◌^◌, true, false, ◌&&◌, cond, eqb, ltb, leb, List, ◌++◌, length, take}
use Rattle.std.proofs.Common.{drop, Option, Result, Ok, Err, refl, sym, ap, subst, ◌∙◌, append_assoc, arith, w32, ltb-false, ltb-true, lt-ltb, le-ltb}
use Rattle.std.proofs.Common.{take_at, drop_at, take-append-drop, length-append, length-take}
use Rattle.std.specs.List.{starts_with}
use Rattle.std.proofs.lemmas.Bool.Decides.{Decides-eqb}
use Rattle.std.proofs.lemmas.Slice.Eq.{starts_is}
use Rattle.misp_lists.proofs.Bytes.{IsBytes, IsBytes-take, IsBytes-drop, wide32}
use Rattle.misp_elem.specs.Prelude.{IsBetween, IsRow}
use Rattle.misp_elem.specs.Reading.{number_at}
use Rattle.misp_elem.specs.Spelling.{row, text}
use Rattle.misp_elem.specs.WireReading.{IsOnWire, row_of_wire}
use Rattle.misp_elem.proofs.Exact.{bind_ok, guard_ok, keep_ok, no_error, ok_is, Takes, Takes-then, IsField, tested, under}
use Rattle.misp_elem.proofs.Numbers.{number_field}
use Rattle.misp_elem.proofs.Wire.{row_of_wire_takes, row_of_wire_again}
use Rattle.misp_model.specs.Prelude.{EventId, Key, Row}
use Rattle.misp_package.specs.Spelling.{framed_row, number}
use Rattle.misp_package.specs.PackageReading.{before_others, count_at, form_at, framed_row_at, parts_at, row_of_length}
use Rattle.misp_package.proofs.RowSizes.{row_short}

-- ---- what it begins with

form_takes : (form bytes : List ℕ) (a : Unit {0}) (rest : List ℕ) → IsBytes bytes → form_at form bytes ≡ Ok (a, rest) → Unit {0} × Takes bytes form rest
unfolding form_at
form_takes form bytes a rest fits e =
    let k = keep_ok (starts_with eqb bytes form) (length bytes) (tt, drop (length form) bytes) (a, rest) e in
    let parts : bytes ≡ form ++ drop (length form) bytes = (starts_is Decides-eqb bytes form (starts_with eqb bytes form) refl).0 k.0 in
    (tt, subst (λ (x : Unit {0} × List ℕ). Takes bytes form x.1) k.1 (record { parts = parts; rest_fits = IsBytes-drop (length form) bytes fits }))

form_again : (form : List ℕ) (a : Unit {0}) (rest : List ℕ) → Unit {0} → form_at form (form ++ rest) ≡ Ok (a, rest)
unfolding form_at
form_again form a rest h =
    let begins : starts_with eqb (form ++ rest) form ≡ true = (starts_is Decides-eqb (form ++ rest) form (starts_with eqb (form ++ rest) form) refl).1 rest refl in
    ap (λ b. cond b (Ok (tt, drop (length form) (form ++ rest))) (Err (length (form ++ rest)))) begins ∙ ap (λ (r : List ℕ). Ok (tt, r)) (drop_at form rest (length form) refl)

pub form_field : (form : List ℕ) → IsField {A = Unit {0}} (λ _. Unit {0}) (λ _. form) (form_at form)
form_field form = record { takes = form_takes form; again = form_again form }

-- ---- numbers

pub number_field_32 : IsField (λ n. n < 2 ^ 32) number (number_at w32)
unfolding number
number_field_32 = number_field w32 (2 ^ 32) wide32

pub parts_field : (part : ℕ) → IsField (λ parts. (parts < 2 ^ 32) × (part < parts)) number (parts_at part)
unfolding number parts_at
parts_field part =
    under (λ parts. (parts < 2 ^ 32) × (part < parts)) (λ n h. (h.0, ltb-true part n h.1)) (λ n h. (h.0, lt-ltb part n h.1))
    (tested (λ n. ltb part n) (number_field w32 (2 ^ 32) wide32))

pub count_field : (least most : ℕ) → IsField (λ n. (n < 2 ^ 32) × IsBetween least most n) number (count_at least most)
unfolding number count_at
count_field least most = tested (λ n. leb least n && leb n most) number_field_32

-- ---- rows

-- what was read before others
others_ok : {A : Type 0} (rest : List ℕ) (read : Result A ℕ) (y : A × List ℕ) → before_others rest read ≡ Ok y → (read ≡ Ok y.0) × (rest ≡ y.1)
others_ok {A} rest (Ok x) y e =
    let made : A × List ℕ = (x, rest) in
    let is = ok_is made y e in
    (ap (λ (p : A × List ℕ). Ok p.0) is, ap (λ (p : A × List ℕ). p.1) is)
others_ok rest (Err left) y e = absurd (no_error (left + length rest) y e)

framed_takes : (e : EventId) (before : Option Key) (bytes : List ℕ) (r : Row) (rest : List ℕ) → IsBytes bytes → framed_row_at e before bytes ≡ Ok (r, rest)
    → (IsRow r × IsOnWire e before r) × Takes bytes (framed_row r) rest
unfolding framed_row_at text number
framed_takes e before bytes r rest fits h =
    let b = bind_ok (number_at w32 bytes) (λ len. row_of_length e before bytes len.0 len.1) (r, rest) h in
    let len = b.0.0 in
    let after = b.0.1 in
    let n = number_field_32.takes bytes len after fits b.1 in
    let g = guard_ok (ltb (length after) len) (length bytes) (before_others (drop len after) (row_of_wire e before (take len after))) (r, rest) b.2 in
    let o = others_ok (drop len after) (row_of_wire e before (take len after)) (r, rest) g.1 in
    let t = row_of_wire_takes e before (take len after) r (IsBytes-take len after n.1.rest_fits) o.0 in
    let long : len ≤ length after = ltb-false _ _ g.0 in
    let size : length (row r) ≡ len = omega (arith, ap length t.1, length-take len after) in
    let parts : after ≡ row r ++ rest = sym (take-append-drop len after) ∙ ap (λ (x : List ℕ). x ++ drop len after) t.1 ∙ ap (λ (x : List ℕ). row r ++ x) o.1 in
    let second : Takes after (row r) rest = record { parts = parts; rest_fits = subst IsBytes o.1 (IsBytes-drop len after n.1.rest_fits) } in
    let both = Takes-then bytes (number len) after (row r) rest n.1 second in
    (t.0, subst (λ (m : ℕ). Takes bytes (number m ++ row r) rest) (sym size) both)

framed_again : (e : EventId) (before : Option Key) (r : Row) (rest : List ℕ) → IsRow r × IsOnWire e before r → framed_row_at e before (framed_row r ++ rest) ≡ Ok (r, rest)
unfolding framed_row_at text number
framed_again e before r rest h =
    let long : ltb (length (row r ++ rest)) (length (row r)) ≡ false = le-ltb _ _ (omega (arith, length-append (row r) rest)) in
    let read : number_at w32 ((number (length (row r)) ++ row r) ++ rest) ≡ Ok (length (row r), row r ++ rest) =
    ap (number_at w32) (append_assoc (number (length (row r))) (row r) rest) ∙ number_field_32.again (length (row r)) (row r ++ rest) (row_short r h.0) in
    let again : row_of_wire e before (row r) ≡ Ok r = row_of_wire_again e before r h.0 h.1 in
    rw (read, long, take_at (row r) rest (length (row r)) refl, again, drop_at (row r) rest (length (row r)) refl) refl

pub framed_field : (e : EventId) (before : Option Key) → IsField (λ r. IsRow r × IsOnWire e before r) framed_row (framed_row_at e before)
framed_field e before = record { takes = framed_takes e before; again = framed_again e before }
