-- What a manifest says of packages fits, and is what the packages are on the wire.
use Rattle.std.proofs.Common.{◌≡◌, ℕ, zero, suc, ◌+◌, ◌<◌, ◌≤◌, true, List, [], ◌∷◌, ◌++◌, Bor, get_or, length, map, take, Option, Some, None, refl, ap, sym, subst, ◌∙◌, arith}
use Rattle.std.proofs.lemmas.List.{take_more}
use Rattle.misp_lists.proofs.All.{all_last}
use Rattle.misp_lists.proofs.Lists.{map_twice}
use Rattle.misp_ids.specs.declared.label.Way.{Way}
use Rattle.misp_elem.specs.Fields.{IsBetween}
use Rattle.misp_manifest.specs.Manifest.{AreStampedAfter, IsKeysOfPart, key_stamp, manifest_event, said_of}
use Rattle.misp_manifest.specs.declared.manifest.KeyStamp.{KeyStamp}
use Rattle.misp_model.proofs.Prelude.{AllByRecursion, AreRows, EventId, IsRow, Key, Row, and_parts, are_rows_push, length-map, list_all, map-append}
use Rattle.misp_history.specs.Merging.{cut, onto}
use Rattle.misp_package.specs.Packing.{IsPart, is_whole, on_wire, rows_in}
use Rattle.misp_package.proofs.OnWire.{AreOnWire, are_on_wire}
use Rattle.misp_package.proofs.Packages.{part_wired, whole_rows}
use Rattle.misp_package.proofs.Wired.{wired_row}

-- ---- the keys of one package

-- on the wire a row has the key and the stamp that it had
on_wire_keys : (way : Way) (rows : List Row) → map key_stamp (map (on_wire way) rows) ≡ map key_stamp rows
unfolding on_wire
on_wire_keys way rows = map_twice (on_wire way) key_stamp key_stamp (λ row. refl) rows

wired_all : (way : Way) (rows : List Row) → AreRows rows → list_all is_whole rows ≡ true → AreRows (map (on_wire way) rows)
wired_all way [] are whole = tt
wired_all way (r ∷ rows) are whole =
    let p = and_parts (is_whole r) (list_all is_whole rows) whole in
    (wired_row way r are.0 p.0, wired_all way rows are.1 p.1)

stamped : (e : EventId) (before : Option Key) (rows : List Row) → AreOnWire e before rows → AreStampedAfter e before (map key_stamp rows)
stamped e before [] h = tt
stamped e before (r ∷ rows) h = (((h.0.0.1.0, h.0.1.1.0), h.0.0.1.1.0), stamped e (Some r.key) rows h.1)

listed_part : (e : EventId) (own : Row) (others : List Row) → IsPart e (own ∷ others) → AreRows (own ∷ others) → IsKeysOfPart e (map key_stamp (own ∷ others))
listed_part e own others part are =
    let wired = wired_all Way.Pull (own ∷ others) are (whole_rows e (own ∷ others) part.packable.each) in
    let is = part_wired Way.Pull e own others part wired in
    let stands = are_on_wire e (map (on_wire Way.Pull) (own ∷ others)) (record { first = is.first; packed = is.packed; ascend = is.ascend; rows = wired }) in record {
      count = subst (IsBetween 1 65) (sym (length-map (own ∷ others) key_stamp)) part.count;
      stamped = subst (AreStampedAfter e None) (on_wire_keys Way.Pull (own ∷ others)) (stamped e None (map (on_wire Way.Pull) (own ∷ others)) stands);
    }

-- a row more of the part
module _ (own : Row) (xs : List (Bor Row)) (i : ℕ) (x : Bor Row) (lt : i < length xs) (at : x ≡ get_or xs i x) where
  one_more : (own ∷ map (λ r. r.now) (take i xs)) ++ x.now ∷ [] ≡ own ∷ map (λ r. r.now) (take (i + 1) xs)
  one_more =
      sym (ap (λ (l : List (Bor Row)). own ∷ map (λ r. r.now) l) (take_more xs i x lt)
      ∙ ap (λ (l : List Row). own ∷ l) (map-append (λ (r : Bor Row). r.now) (take i xs) (get_or xs i x ∷ []))
      ∙ ap (λ (r : Bor Row). (own ∷ map (λ r. r.now) (take i xs)) ++ r.now ∷ []) (sym at))

  pub key_more : (keys : List KeyStamp) → keys ≡ map key_stamp (own ∷ map (λ r. r.now) (take i xs)) → keys ++ key_stamp x.now ∷ [] ≡ map key_stamp (own ∷ map (λ r. r.now) (take (i + 1) xs))
  key_more keys so =
      ap (λ l. l ++ key_stamp x.now ∷ []) so ∙ sym (map-append key_stamp (own ∷ map (λ r. r.now) (take i xs)) (x.now ∷ [])) ∙ ap (map key_stamp) one_more

  pub row_more : AreRows (own ∷ map (λ r. r.now) (take i xs)) → IsRow x.now → AreRows (own ∷ map (λ r. r.now) (take (i + 1) xs))
  row_more are is = subst AreRows one_more (are_rows_push (own ∷ map (λ r. r.now) (take i xs)) x.now are is)

-- ---- all packages

-- a part more
pub part_more : (P : List Row → Type 0) (parts : List (Bor (List (Bor Row)))) (i : ℕ) (part : Bor (List (Bor Row))) → i < length parts → part ≡ get_or parts i part
    → AllByRecursion P (rows_in (take i parts)) → P (map (λ r. r.now) part.now) → AllByRecursion P (rows_in (take (i + 1) parts))
part_more P parts i part lt at all is =
    subst (AllByRecursion P)
    (sym (ap rows_in (take_more parts i part lt) ∙ map-append (λ (r : Bor (List (Bor Row))). map (λ r. r.now) r.now) (take i parts) (get_or parts i part ∷ []) ∙ ap (λ (r : Bor (List (Bor Row))). rows_in (take i parts) ++ map (λ r. r.now) r.now ∷ []) (sym at)))
    (all_last P (rows_in (take i parts)) (map (λ r. r.now) part.now) all is)

pub listed_parts : (e : EventId) (own : Row) (parts : List (List Row)) → AllByRecursion (λ part. IsPart e (own ∷ part)) parts → AllByRecursion (λ part. AreRows (own ∷ part)) parts
    → AllByRecursion (IsKeysOfPart e) (map (λ part. map key_stamp (own ∷ part)) parts)
listed_parts e own [] fit are = tt
listed_parts e own (part ∷ parts) fit are = (listed_part e own part fit.0 are.0, listed_parts e own parts fit.1 are.1)

-- the keys of parts are those of the packages
pub said_parts : (own : Row) (parts : List (List Row)) → map (λ part. map key_stamp (own ∷ part)) parts ≡ map (map key_stamp) (map (λ part. own ∷ part) parts)
said_parts own parts = sym (map_twice (λ part. own ∷ part) (map key_stamp) (λ part. map key_stamp (own ∷ part)) (λ part. refl) parts)

-- and of the packages on the wire
pub said_on_wire : (way : Way) (own : Row) (parts : List (List Row)) → map (map key_stamp) (map (λ part. map (on_wire way) (own ∷ part)) parts) ≡ map (map key_stamp) (map (λ part. own ∷ part) parts)
said_on_wire way own parts =
    map_twice (λ part. map (on_wire way) (own ∷ part)) (map key_stamp) (λ part. map key_stamp (own ∷ part)) (λ part. on_wire_keys way (own ∷ part)) parts
    ∙ said_parts own parts

-- ---- something is said

module _ {X : Type 0} where
  some_onto : (x : X) (cs : List (List X)) → 1 ≤ length (onto x cs)
  some_onto x [] = omega arith
  some_onto x (c ∷ cs) = omega arith

  pub some_cut : (n : ℕ) (xs : List X) → 1 ≤ length (cut n xs)
  unfolding cut
  some_cut n [] = omega arith
  some_cut zero (x ∷ xs) = omega arith
  some_cut (suc n) (x ∷ xs) = some_onto x (cut n xs)

-- of an event that is carried in packages the manifest says what they are
pub said_some : (e : EventId) (packages : List (List Row)) → 1 ≤ length packages → manifest_event e packages ≡ Some (said_of e packages)
said_some e [] some = absurd (omega (arith, some))
said_some e (p ∷ ps) some = refl
