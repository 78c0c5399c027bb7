-- Rows of items, so that a wrong place or number in the specs does not check.
use Rattle.std.proofs.Common.{◌≡◌, ℕ, true, false, List, [], ◌∷◌, ◌++◌, map, Option, None, Some, refl, codes, replicate}
use Rattle.misp_ids.specs.declared.uid.OrgId.{OrgId}
use Rattle.misp_orgs.specs.declared.role.Role.{Role}
use Rattle.misp_elem.specs.Reading.{between_at, flag_at, inst_at, text_at}
use Rattle.misp_elem.specs.RowReading.{flags_at}
use Rattle.misp_elem.specs.Spelling.{text, uid}
use Rattle.misp_admins.specs.declared.item.Item.{Item}
use Rattle.misp_admin_rows.specs.Rows.{api_key_at, item_in, item_row, key_told_at, link_told_at, optional_inst_at, partner_at, role_at}

-- ---- organisations, and their sixteen bytes

abbrev beta : OrgId
beta = record { 0 = record { 0 = 0xbbbb_bbbb_0000_4000_8000_0000_0000_0002 } }

abbrev delta : OrgId
delta = record { 0 = record { 0 = 0xdddd_dddd_0000_4000_8000_0000_0000_0004 } }

abbrev beta_bytes : List ℕ
beta_bytes = 0xbb ∷ 0xbb ∷ 0xbb ∷ 0xbb ∷ 0 ∷ 0 ∷ 0x40 ∷ 0 ∷ 0x80 ∷ 0 ∷ 0 ∷ 0 ∷ 0 ∷ 0 ∷ 0 ∷ 2 ∷ []

abbrev delta_bytes : List ℕ
delta_bytes = 0xdd ∷ 0xdd ∷ 0xdd ∷ 0xdd ∷ 0 ∷ 0 ∷ 0x40 ∷ 0 ∷ 0x80 ∷ 0 ∷ 0 ∷ 0 ∷ 0 ∷ 0 ∷ 0 ∷ 4 ∷ []

-- ---- what is written

pub known_org : item_row (Item.Org (record { uuid = delta; name = codes "Delta" })) ≡ record { kind = 2; name = delta_bytes; bytes = 0 ∷ 0 ∷ 0 ∷ 5 ∷ codes "Delta" }
unfolding item_row uid text
known_org = refl

-- the key of a reader, and the revoked key of an instance
pub known_keys :
    map item_row
    (Item.Key (record { key = replicate 40 0x44; org = delta; role = Role.Reader; partner = None; revoked = false; internal = false })
    ∷ Item.Key (record { key = replicate 40 0x58; org = beta; role = Role.Sync; partner = Some (codes "b"); revoked = true; internal = false })
    ∷ [])
    ≡ record { kind = 3; name = replicate 40 0x44; bytes = delta_bytes ++ 0 ∷ 0 ∷ 0 ∷ [] }
    ∷ record { kind = 3; name = replicate 40 0x58; bytes = beta_bytes ++ 4 ∷ 1 ∷ 1 ∷ 1 ∷ codes "b" }
    ∷ []
unfolding item_row uid
known_keys = refl

pub known_link :
    item_row (Item.Link (record { name = codes "bz"; peer = codes "zz"; key = replicate 40 0x58; holder = beta; push_org = delta; on = true; internal = false }))
    ≡ record { kind = 4; name = codes "bz"; bytes = 2 ∷ codes "zz" ++ replicate 40 0x58 ++ beta_bytes ++ delta_bytes ++ 1 ∷ [] }
unfolding item_row uid
known_link = refl

-- ---- what is read

abbrev reads : ℕ → List ℕ → List ℕ → Option Item
reads kind name bytes = item_in (record { kind = kind; name = name; bytes = bytes })

-- rows that are no items: of other kinds, of organisations under a longer identifier and with a name
-- of 65 bytes, and of links under a name that begins with a digit, with unknown flags, and with a
-- byte behind them
pub known_others :
    reads 1 delta_bytes (0 ∷ 0 ∷ 0 ∷ 0 ∷ [])
    ∷ reads 5 delta_bytes (0 ∷ 0 ∷ 0 ∷ 0 ∷ [])
    ∷ reads 2 (delta_bytes ++ 0 ∷ []) (0 ∷ 0 ∷ 0 ∷ 0 ∷ [])
    ∷ reads 2 delta_bytes (0 ∷ 0 ∷ 0 ∷ 65 ∷ replicate 65 0x61)
    ∷ reads 4 (codes "1z") (2 ∷ codes "zz" ++ replicate 40 0x58 ++ beta_bytes ++ delta_bytes ++ 1 ∷ [])
    ∷ reads 4 (codes "bz") (2 ∷ codes "zz" ++ replicate 40 0x58 ++ beta_bytes ++ delta_bytes ++ 4 ∷ [])
    ∷ reads 4 (codes "bz") (2 ∷ codes "zz" ++ replicate 40 0x58 ++ beta_bytes ++ delta_bytes ++ 1 ∷ 0 ∷ [])
    ∷ []
    ≡ replicate 7 None
unfolding item_in text_at inst_at flags_at api_key_at link_told_at
known_others = refl

-- keys that are none: in an unknown role, for synchronisation without a partner, with one in another
-- role, and of 39 bytes
pub known_bad_keys :
    reads 3 (replicate 40 0x44) (delta_bytes ++ 6 ∷ 0 ∷ 0 ∷ [])
    ∷ reads 3 (replicate 40 0x44) (delta_bytes ++ 4 ∷ 0 ∷ 0 ∷ [])
    ∷ reads 3 (replicate 40 0x44) (delta_bytes ++ 1 ∷ 0 ∷ 1 ∷ 1 ∷ codes "b")
    ∷ reads 3 (replicate 39 0x44) (delta_bytes ++ 0 ∷ 0 ∷ 0 ∷ [])
    ∷ []
    ≡ replicate 4 None
unfolding item_in between_at flag_at flags_at inst_at api_key_at key_told_at optional_inst_at partner_at role_at
known_bad_keys = refl
