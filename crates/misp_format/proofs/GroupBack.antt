-- What is written of a whole group is read to the group.
use Rattle.std.proofs.Common.{◌≡◌, ℕ, ◌<◌, ◌≤◌, ◌^◌, Bool, true, List, [], ◌∷◌, length, map, Some, Ok, refl, ap, ◌∙◌, arith, lit<, le-leb, codes, nat_lt, nat_cmp}
use Rattle.misp_lists.proofs.Prelude.{nat_cmp_total, nat_list_cmp_total, nat_tests}
use Rattle.misp_groups.specs.Group.{by_org, by_server}
use Rattle.misp_fields.specs.Fields.{stamp_of}
use Rattle.misp_format.specs.Prelude.{◌>>=◌, AllByRecursion, Body, Data, Group, GroupOrg, GroupServer, IsGroup, IsOrg, IsServer, IsStrictlySortedBy, LAST_SECOND, Reading, each, items_of, list_data, list_of, member_of, member_path, must_be}
use Rattle.misp_format.specs.Prelude.{number_data, org_of, server_of, slice_cmp, some_text_of, string, uncarried, uuid_data, uuid_of, whole_group_data}
use Rattle.misp_format.specs.Groups.{OrgEntries, ServerEntries, org_at, organisation_at, with_org, next_org, orgs_at, server_name_at, server_at, with_server, next_server, servers_at, whole_group_at, group_body_at}
use Rattle.misp_format.specs.Rows.{row}
use Rattle.misp_format.specs.WholeGroup.{group_org_data, group_server_data}
use Rattle.misp_format.proofs.Ascending.{each_in_order}
use Rattle.misp_format.proofs.Back.{row_back, number_back, uuid_back}

some_bytes : (n : ℕ) → 1 ≤ n → nat_lt 0 n ≡ true
some_bytes n h = grind (arith, nat_tests)

-- ---- organisations

abbrev org_key : GroupOrg → ℕ
org_key o = o.org.0.0

abbrev org_value : GroupOrg → List ℕ × Bool
org_value o = (o.name, o.extend)

orgs_again : (os : List GroupOrg) → map org_of (map (λ o. (org_key o, org_value o)) os) ≡ os
orgs_again [] = refl
orgs_again (o ∷ os) = ap (λ xs. o ∷ xs) (orgs_again os)

org_back : (path : List ℕ) (n : ℕ) (so_far : OrgEntries) (o : GroupOrg) → IsOrg o → next_org path n so_far (group_org_data o) ≡ Ok (with_org so_far o)
unfolding group_org_data org_at organisation_at
org_back path n so_far o h = rw (uuid_back o.org.0 h.0) refl

orgs_back : (path : List ℕ) (d : Data) (os : List GroupOrg) → AllByRecursion IsOrg os → IsStrictlySortedBy by_org os
    → member_of (codes "SharingGroupOrg") d ≡ Some (list_data group_org_data os)
    → orgs_at (record { path = path; value = d }) ≡ Ok os
unfolding orgs_at
orgs_back path d os all up found =
    let it : Body = record { path = path; value = d } in
    let at = member_path path (codes "SharingGroupOrg") in
    let items = row_back it (codes "SharingGroupOrg") list_of (Ok _) (list_data group_org_data os) (items_of (map group_org_data os)) found refl in
    ap (λ r. r >>= λ items. each (next_org at) 0 [] items >>= λ entries. Ok (map org_of entries)) items
    ∙ ap (λ (r : Reading OrgEntries). r >>= λ entries. Ok (map org_of entries)) (each_in_order nat_cmp nat_cmp_total org_key org_value (next_org at) group_org_data (org_back at) 0 [] os all up)
    ∙ ap (λ os. Ok os) (orgs_again os)

-- ---- instances

abbrev server_key : GroupServer → List ℕ
server_key s = s.name

abbrev server_value : GroupServer → List ℕ × Bool
server_value s = (s.name, s.all_orgs)

servers_again : (ss : List GroupServer) → map server_of (map (λ s. (server_key s, server_value s)) ss) ≡ ss
servers_again [] = refl
servers_again (s ∷ ss) = ap (λ xs. s ∷ xs) (servers_again ss)

server_back : (path : List ℕ) (n : ℕ) (so_far : ServerEntries) (s : GroupServer) → IsServer s → next_server path n so_far (group_server_data s) ≡ Ok (with_server so_far s)
unfolding group_server_data server_at server_name_at
server_back path n so_far s h = rw h refl

servers_back : (path : List ℕ) (d : Data) (ss : List GroupServer) → AllByRecursion IsServer ss → IsStrictlySortedBy by_server ss
    → member_of (codes "SharingGroupServer") d ≡ Some (list_data group_server_data ss)
    → servers_at (record { path = path; value = d }) ≡ Ok ss
unfolding servers_at
servers_back path d ss all up found =
    let it : Body = record { path = path; value = d } in
    let at = member_path path (codes "SharingGroupServer") in
    let items = row_back it (codes "SharingGroupServer") list_of (Ok _) (list_data group_server_data ss) (items_of (map group_server_data ss)) found refl in
    ap (λ r. r >>= λ items. each (next_server at) 0 [] items >>= λ entries. Ok (map server_of entries)) items
    ∙ ap (λ (r : Reading ServerEntries). r >>= λ entries. Ok (map server_of entries)) (each_in_order (slice_cmp nat_cmp) nat_list_cmp_total server_key server_value (next_server at) group_server_data (server_back at) 0 [] ss all up)
    ∙ ap (λ ss. Ok ss) (servers_again ss)

-- ---- groups

stamp_back : (n : ℕ) → n ≤ LAST_SECOND → stamp_of (number_data n) ≡ Ok n
stamp_back n h =
    let large : LAST_SECOND < 2 ^ 64 = lit< tt in
    rw (number_back n (omega arith), le-leb n LAST_SECOND h) refl

pub whole_back : (g : Group) → IsGroup g → group_body_at (whole_group_data g) ≡ Ok (uncarried g)
unfolding whole_group_data whole_group_at
whole_back g h =
    let path = codes "SharingGroup" in
    let it : Body = record { path = path; value = whole_group_data g } in
    let uuid : row it (codes "uuid") uuid_of must_be ≡ Ok g.id.uuid = row_back it (codes "uuid") uuid_of must_be (uuid_data g.id.uuid) g.id.uuid refl (uuid_back g.id.uuid h.uuid) in
    let creator : row it (codes "organisation_uuid") uuid_of must_be ≡ Ok g.id.creator.0 = row_back it (codes "organisation_uuid") uuid_of must_be (uuid_data g.id.creator.0) g.id.creator.0 refl (uuid_back g.id.creator.0 h.creator) in
    let name : row it (codes "name") some_text_of must_be ≡ Ok g.name = row_back it (codes "name") some_text_of must_be (string g.name) g.name refl (rw (some_bytes (length g.name) h.named) refl) in
    let modified : row it (codes "modified") stamp_of (Ok 0) ≡ Ok g.modified = row_back it (codes "modified") stamp_of (Ok 0) (number_data g.modified) g.modified refl (stamp_back g.modified h.modified) in
    let orgs : orgs_at it ≡ Ok g.orgs = orgs_back path it.value g.orgs h.orgs h.orgs_ascend refl in
    let servers : servers_at it ≡ Ok g.servers = servers_back path it.value g.servers h.servers h.servers_ascend refl in
    rw (uuid, creator, name, modified, orgs, servers) refl
