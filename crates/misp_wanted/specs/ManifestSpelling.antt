-- The one spelling of a manifest, and of a wanted list.
use Rattle.std.specs.Prelude.{ℕ, List, ◌++◌, codes, length, flat_map}
use Rattle.misp_elem.specs.Spelling as spelling
use Rattle.misp_model.specs.Prelude.{Key}
use Rattle.misp_manifest.specs.declared.manifest.KeyStamp.{KeyStamp}
use Rattle.misp_manifest.specs.declared.manifest.ManifestFields.{ManifestFields}
use Rattle.misp_manifest.specs.declared.wanted.WantedFields.{WantedFields}
use Rattle.misp_package.specs.Spelling.{number}

-- four bytes of length, and the key
abbrev pub framed_key : Key → List ℕ
framed_key k = spelling.text (spelling.key k)

-- ---- manifests

-- what a manifest begins with
abbrev pub manifest_form : List ℕ
manifest_form = codes "MSP2"

-- the key of a row, and its stamp
abbrev pub spell_key_stamp : KeyStamp → List ℕ
spell_key_stamp k = framed_key k.key ++ spelling.stamp k.stamp

-- the keys of a package: four bytes of their number, and each
abbrev pub spell_keys : List KeyStamp → List ℕ
spell_keys keys = number (length keys) ++ flat_map spell_key_stamp keys

-- the event, four bytes of the number of its packages, and the keys of each
abbrev pub spell_event : ManifestFields → List ℕ
spell_event m =
    spelling.uid m.event.0 ++ (number (length m.parts) ++ flat_map spell_keys m.parts)

-- MANIFEST: four bytes of the number of events, and each
abbrev pub spell_manifest : List ManifestFields → List ℕ
spell_manifest ms = manifest_form ++ (number (length ms) ++ flat_map spell_event ms)

-- ---- wanted lists

-- what a wanted list begins with
abbrev pub wanted_form : List ℕ
wanted_form = codes "MSP3"

-- WANTED: the event, the number of the package, that of the keys, and each
abbrev pub spell_wanted : WantedFields → List ℕ
spell_wanted w =
    wanted_form
    ++ (spelling.uid w.event.0
    ++ (number w.part
    ++ (number (length w.keys) ++ flat_map framed_key w.keys)))
