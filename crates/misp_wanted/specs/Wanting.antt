-- Which rows of a package are wanted, and the package with these alone.
use Rattle.std.specs.Prelude.{Bool, not, leb, ◌&&◌, ◌||◌, List, filter, map}
use Rattle.misp_model.specs.Prelude.{BTreeSet, EventId, Inst, Key, OrgId, Row, event_key, is_row_of, list_any, same_key}
use Rattle.misp_model.specs.Manifests.{only_of}
use Rattle.misp_model.specs.declared.package.PackageFields.{PackageFields}
use Rattle.misp_copies.specs.Copies.{copy_state, takes}
use Rattle.misp_copies.specs.declared.states.CopyState.{CopyState}
use Rattle.misp_manifest.specs.Manifest.{key_stamp}
use Rattle.misp_manifest.specs.declared.manifest.KeyStamp.{KeyStamp}
use Rattle.misp_package.specs.Stamps.{is_as_new, stamp_at}
use Rattle.misp_package.specs.declared.landing.Landing.{Landing}

-- ---- what is wanted

-- of an event whose rows are held so the owner wants a row of this key and stamp: its copy takes
-- the row, and it holds none of the key that is as new
unfoldable pub is_wanted : Inst → List Row → OrgId → EventId → KeyStamp → Bool
is_wanted i held w e k =
    takes (copy_state held w e) k.key i
    && not (list_any (λ row. is_row_of w k.key row && leb k.stamp row.stamp) held)

-- the keys of a package that are wanted, in their order
abbrev pub wanted_keys : Inst → List Row → OrgId → EventId → List KeyStamp → List Key
wanted_keys i held w e keys = map (λ k. k.key) (filter (is_wanted i held w e) keys)

-- the same where the owner's copy has this state
unfoldable pub is_wanted_at : Inst → CopyState → List Row → OrgId → KeyStamp → Bool
is_wanted_at i state held w k =
    takes state k.key i
    && not (list_any (λ row. is_row_of w k.key row && leb k.stamp row.stamp) held)

-- the same by a landing
unfoldable pub is_wanted_by : Landing → KeyStamp → Bool
is_wanted_by l k =
    takes l.state k.key l.here && not (is_as_new (stamp_at l.newest k.key) k.stamp)

-- of a package what the owner wants
abbrev pub wanted_of : Inst → List Row → OrgId → PackageFields → PackageFields
wanted_of i held w p = only_of (wanted_keys i held w p.event (map key_stamp p.rows)) p

-- ---- keys in a set

-- the key is among these
unfoldable pub has_key : BTreeSet Key → Key → Bool
has_key set k = list_any (same_key k) set.keys

-- the row is the event's own, or its key is among these
unfoldable pub is_kept_by : BTreeSet Key → EventId → Row → Bool
is_kept_by set e row = same_key row.key (event_key e) || has_key set row.key
