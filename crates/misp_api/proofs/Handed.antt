-- What a body brings as a package, and as a wanted list.
use Rattle.std.proofs.Common.{◌≡◌, ℕ, zero, suc, Bool, true, false, List, [], ◌∷◌, codes, Result, Ok, Err, refl, arith, if◌then◌else◌}
use Rattle.std.proofs.lemmas.Bool.{and_from, and_parts, lt-ltb, ltb-true}
use Rattle.misp_lists.proofs.Bytes.{IsBytes, IsBytes-rest}
use Rattle.misp_lists.proofs.Prelude.{list_all}
use Rattle.misp_lists.proofs.Readings.{ok_keeps}
use Rattle.misp_elem.specs.Reading.{answer}
use Rattle.misp_elem.specs.declared.fault.DecodeFault.TheVariants.{BadRow}
use Rattle.misp_model.specs.Package.{IsPackage}
use Rattle.misp_model.specs.declared.package.PackageFields.{PackageFields}
use Rattle.misp_manifest.specs.declared.wanted.WantedFields.{WantedFields}
use Rattle.misp_format.specs.Prelude.{Need}
use Rattle.misp_package.specs.PackageReading.{package_of_bytes}
use Rattle.misp_package.proofs.SpelledPackages.{package_of_bytes_takes}
use Rattle.misp_core.specs.Answers.{IsBuilt}
use Rattle.misp_core.specs.Prelude.{Ask, FormatFault}
use Rattle.misp_wanted.specs.ManifestReading.{wanted_of_bytes}
use Rattle.misp_api.specs.Request.{asked_rows, handed, is_byte, no_package, package_in, wanted_in}

-- ---- bytes

pub listed_bytes : (bytes : List ℕ) → IsBytes bytes → list_all is_byte bytes ≡ true
listed_bytes [] fits = refl
listed_bytes (b ∷ bytes) fits = and_from (is_byte b) (list_all is_byte bytes) (lt-ltb b 256 (fits 0)) (listed_bytes bytes (IsBytes-rest b bytes fits))

bytes_listed : (bytes : List ℕ) → list_all is_byte bytes ≡ true → IsBytes bytes
bytes_listed [] all i = omega arith
bytes_listed (b ∷ bytes) all zero = ltb-true b 256 (and_parts (is_byte b) (list_all is_byte bytes) all).0
bytes_listed (b ∷ bytes) all (suc i) = bytes_listed bytes (and_parts (is_byte b) (list_all is_byte bytes) all).1 i

-- ---- what is read of a body

module _ (body : List ℕ) (fits : IsBytes body) where
  by_reading : package_in body ≡ handed (package_of_bytes body)
  by_reading = rw (listed_bytes body fits) refl

  read_as : (read : Result PackageFields ℕ) (p : PackageFields) → answer body read ≡ Ok p → handed read ≡ Ok (Ask.TakePart p)
  read_as (Ok q) p is = let same : q ≡ p = cc in rw same refl
  read_as (Err left) p is = absurd cc

  read_as_none : (read : Result PackageFields ℕ) (place : ℕ) → answer body read ≡ Err (BadRow place) → handed read ≡ Err no_package
  read_as_none (Ok q) place is = absurd cc
  read_as_none (Err left) place is = refl

  -- the package that is found is handed in
  pub found : (p : PackageFields) → answer body (package_of_bytes body) ≡ Ok p → package_in body ≡ Ok (Ask.TakePart p)
  found p is = rw by_reading (read_as (package_of_bytes body) p is)

  -- and what is none is refused
  pub not_found : (place : ℕ) → answer body (package_of_bytes body) ≡ Err (BadRow place) → package_in body ≡ Err no_package
  not_found place is = rw by_reading (read_as_none (package_of_bytes body) place is)

-- ---- it is built

built_of : (read : Result PackageFields ℕ) → ((p : PackageFields) → read ≡ Ok p → IsPackage p) → (a : Ask) → handed read ≡ Ok a → IsBuilt a
built_of (Ok p) is a h = ok_keeps IsBuilt (Ask.TakePart p) (is p refl) a h
built_of (Err left) is a h = absurd cc

built_if : (body : List ℕ) (all : Bool) → list_all is_byte body ≡ all → (a : Ask) → (if all then handed (package_of_bytes body) else Err no_package) ≡ Ok a → IsBuilt a
built_if body true all a h = built_of (package_of_bytes body) (λ p read. (package_of_bytes_takes body p (bytes_listed body all) read).0) a h
built_if body false all a h = absurd cc

-- the package of a body is one
pub package_built : (body : List ℕ) (a : Ask) → package_in body ≡ Ok a → IsBuilt a
package_built body a h = built_if body (list_all is_byte body) refl a h

-- ---- wanted lists

module _ (body : List ℕ) where
  wanted_as : (read : Result WantedFields ℕ) (w : WantedFields) → answer body read ≡ Ok w → asked_rows read ≡ Ok (Ask.SyncRows w)
  wanted_as (Ok q) w is = let same : q ≡ w = cc in rw same refl
  wanted_as (Err left) w is = absurd cc

  wanted_as_none : (read : Result WantedFields ℕ) (place : ℕ) → answer body read ≡ Err (BadRow place) → asked_rows read ≡ Err (FormatFault.BadField (codes "wanted") Need.Row)
  wanted_as_none (Ok q) place is = absurd cc
  wanted_as_none (Err left) place is = refl

  -- the rows of the list that is found are asked for
  pub wanted_found : (w : WantedFields) → answer body (wanted_of_bytes body) ≡ Ok w → wanted_in body ≡ Ok (Ask.SyncRows w)
  wanted_found w is = wanted_as (wanted_of_bytes body) w is

  -- and what is none is refused
  pub wanted_not_found : (place : ℕ) → answer body (wanted_of_bytes body) ≡ Err (BadRow place) → wanted_in body ≡ Err (FormatFault.BadField (codes "wanted") Need.Row)
  wanted_not_found place is = wanted_as_none (wanted_of_bytes body) place is

rows_built : (read : Result WantedFields ℕ) (a : Ask) → asked_rows read ≡ Ok a → IsBuilt a
rows_built (Ok w) a h = ok_keeps IsBuilt (Ask.SyncRows w) tt a h
rows_built (Err left) a h = absurd cc

-- it is built
pub wanted_built : (body : List ℕ) (a : Ask) → wanted_in body ≡ Ok a → IsBuilt a
wanted_built body a h = rows_built (wanted_of_bytes body) a h
