-- Packages and wanted lists are spelled by no more bytes than a body may have.
use Rattle.std.proofs.Common.{◌≡◌, ◌+◌, ◌*◌, ◌≤◌, ℕ, true, leb, leb-true, le-leb, List, [], ◌∷◌, length, flat_map, length-append, refl, arith}
use Rattle.misp_elem.specs.Prelude.{EventId}
use Rattle.misp_elem.specs.Spelling.{key, uid}
use Rattle.misp_manifest.specs.Wanted.{AreOwnAfter, IsWanted}
use Rattle.misp_manifest.specs.declared.wanted.WantedFields.{WantedFields as Wanted}
use Rattle.misp_model.proofs.Prelude.{AreRows, Key, and_parts}
use Rattle.misp_model.specs.declared.package.PackageFields.{PackageFields as Package}
use Rattle.misp_package.specs.Spelling.{number, spell_package}
use Rattle.misp_package.proofs.FieldSizes.{key_size, number_size, pieces_size, text_size, uid_size}
use Rattle.misp_package.proofs.PackageSizes.{package_size}
use Rattle.misp_wanted.specs.ManifestSpelling.{framed_key, spell_wanted, wanted_form}
use Rattle.misp_client.specs.Calling.{is_short}

-- ---- the keys of a wanted list

keys_size : (e : EventId) (keys : List Key) (before : _) → AreOwnAfter e before keys → length (flat_map framed_key keys) ≤ 204 * length keys
keys_size e [] before are = omega arith
keys_size e (k ∷ keys) before are =
    omega (
      arith,
      length-append (framed_key k) (flat_map framed_key keys),
      text_size (key k),
      key_size k are.0.0,
      keys_size e keys _ are.1,
    )

-- ---- what is called with them

-- a package of at most 65 rows
pub package_short : (p : Package) → AreRows p.rows → length p.rows ≤ 65 → is_short (spell_package p) ≡ true
package_short p are few = le-leb (length (spell_package p)) 8_388_608 (omega (arith, few, package_size p are))

pub wanted_short : (w : Wanted) → IsWanted w → is_short (spell_wanted w) ≡ true
wanted_short w is =
    let keys : List ℕ = flat_map framed_key w.keys in
    let front : length wanted_form ≡ 4 = refl in
    le-leb (length (spell_wanted w)) 8_388_608
    (omega (
      arith,
      front,
      leb-true (length w.keys) 65 (and_parts (leb 1 (length w.keys)) (leb (length w.keys) 65) is.count).1,
      pieces_size wanted_form (uid w.event.0 ∷ number w.part ∷ number (length w.keys) ∷ keys ∷ []),
      uid_size w.event.0,
      number_size w.part,
      number_size (length w.keys),
      keys_size w.event w.keys _ is.keys,
    ))
