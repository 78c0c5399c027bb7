-- The list of groups is read from its text.
use Rattle.std.proofs.Common.{◌≡◌, ℕ, ◌≤◌, List, [], ◌∷◌, map, Some, Ok, refl, sym, ap, ◌∙◌, arith, option_map, option_and_then}
use Rattle.std.specs.Result.{result_ok}
use Rattle.serde_json.specs.Data.{Data, array, depth, items_depth}
use Rattle.serde_json.specs.Read.{of_items, of_json}
use Rattle.serde_json.specs.View.{items_of}
use Rattle.serde_json.specs.Written.{items_outline, outline}
use Rattle.misp_lists.proofs.Prelude.{AllByRecursion, IsUtf8-from_is_utf8}
use Rattle.misp_lists.specs.Reading.{◌>>=◌}
use Rattle.misp_ids.proofs.NamesLemmas.{IsUtf8-inst_name}
use Rattle.misp_groups.specs.Group.{IsGroup, IsOrg, IsServer}
use Rattle.misp_groups.specs.declared.group.GroupFields.{GroupFields as Group}
use Rattle.misp_groups.specs.declared.group.GroupOrg.{GroupOrg}
use Rattle.misp_groups.specs.declared.group.GroupServer.{GroupServer}
use Rattle.misp_format.specs.Fields.{list_data}
use Rattle.misp_format.specs.GroupText.{group_in_text}
use Rattle.misp_format.specs.Groups.{group_body_at}
use Rattle.misp_format.specs.Json.{json_in}
use Rattle.misp_format.specs.Rows.{Reading}
use Rattle.misp_format.specs.WholeGroup.{group_org_data, group_server_data, group_text, groups_text, uncarried, whole_group_data}
use Rattle.misp_format.proofs.GroupTexts.{number_utf8, text_back, url_utf8, uuid_utf8}
use Rattle.misp_client.specs.Bodies.{groups_at, groups_from, groups_in}
use Rattle.misp_client.proofs.JsonTexts.{IsPlain, are_plain, plain_read}

-- ---- lists

items_back : {A : Type 0} {Is : A → Type 0} (one : A → Data) → ((a : A) → Is a → of_json (outline (one a)) ≡ Some (one a)) → (xs : List A) → AllByRecursion Is xs
    → of_items (items_outline (items_of (map one xs))) ≡ Some (items_of (map one xs))
items_back one h [] all = refl
items_back one h (x ∷ xs) all = rw (h x all.0, items_back one h xs all.1) refl

items_shallow : {A : Type 0} (n : ℕ) (one : A → Data) → ((a : A) → depth (one a) ≤ n) → (xs : List A) → items_depth (items_of (map one xs)) ≤ n
items_shallow n one h [] = omega arith
items_shallow n one h (x ∷ xs) =
    let here = h x in
    let others = items_shallow n one h xs in
    omega arith

-- ---- organisations and instances

org_plain : (o : GroupOrg) → IsOrg o → IsPlain (group_org_data o)
unfolding group_org_data
org_plain o h = (refl, ((refl, (IsUtf8-from_is_utf8 o.name h.1, (refl, (uuid_utf8 o.org.0, tt)))), (refl, (tt, tt))))

server_plain : (s : GroupServer) → IsServer s → IsPlain (group_server_data s)
unfolding group_server_data
server_plain s h =
    let name = IsUtf8-inst_name s.name h in
    (refl, ((refl, (name, (refl, (url_utf8 s.name name, tt)))), (refl, (tt, tt))))

org_back : (o : GroupOrg) → IsOrg o → of_json (outline (group_org_data o)) ≡ Some (group_org_data o)
unfolding group_org_data
org_back o h = refl

server_back : (s : GroupServer) → IsServer s → of_json (outline (group_server_data s)) ≡ Some (group_server_data s)
unfolding group_server_data
server_back s h = refl

org_shallow : (o : GroupOrg) → depth (group_org_data o) ≤ 2
unfolding group_org_data
org_shallow o = omega arith

server_shallow : (s : GroupServer) → depth (group_server_data s) ≤ 2
unfolding group_server_data
server_shallow s = omega arith

-- ---- a group

whole_plain : (g : Group) → IsGroup g → IsPlain (whole_group_data g)
unfolding whole_group_data
whole_plain g h =
    let orgs = are_plain group_org_data org_plain g.orgs h.orgs in
    let servers = are_plain group_server_data server_plain g.servers h.servers in
    let description = IsUtf8-from_is_utf8 g.description h.description in
    let modified = number_utf8 g.modified h.modified in
    let name = IsUtf8-from_is_utf8 g.name h.name in
    let creator = uuid_utf8 g.id.creator.0 in
    let releasability = IsUtf8-from_is_utf8 g.releasability h.releasability in
    let uuid = uuid_utf8 g.id.uuid in
    (refl, (orgs, (refl, (servers, (refl, (tt, (refl, (description, (refl, (modified, (refl, (name, (refl, (creator, (refl, (releasability, (refl, (tt, (refl, (uuid, tt))))))))))))))))))))

whole_back : (g : Group) → IsGroup g → of_json (outline (whole_group_data g)) ≡ Some (whole_group_data g)
unfolding whole_group_data
whole_back g h =
    let orgs = items_back group_org_data org_back g.orgs h.orgs in
    let servers = items_back group_server_data server_back g.servers h.servers in
    rw (orgs, servers) refl

whole_shallow : (g : Group) → depth (whole_group_data g) ≤ 4
unfolding whole_group_data
whole_shallow g =
    let orgs = items_shallow 2 group_org_data org_shallow g.orgs in
    let servers = items_shallow 2 group_server_data server_shallow g.servers in
    omega arith

-- ---- its text, and that of a list

group_read : (g : Group) → IsGroup g → json_in (group_text g) ≡ Ok (whole_group_data g)
group_read g h = plain_read (whole_group_data g) (whole_plain g h) (whole_back g h) (let shallow = whole_shallow g in omega arith)

list_read : (gs : List Group) → AllByRecursion IsGroup gs → json_in (groups_text gs) ≡ Ok (list_data whole_group_data gs)
list_read gs all =
    plain_read (list_data whole_group_data gs) (are_plain whole_group_data whole_plain gs all) (ap (λ o. option_map array o) (items_back whole_group_data whole_back gs all))
    (let shallow = items_shallow 4 whole_group_data whole_shallow gs in omega arith)

-- ---- THE LAW: groups are read from their list

data_back : (g : Group) → IsGroup g → group_body_at (whole_group_data g) ≡ Ok (uncarried g)
unfolding group_in_text
data_back g h = sym (ap (λ (r : Reading Data). r >>= group_body_at) (group_read g h)) ∙ text_back g h

all_back : (gs : List Group) → AllByRecursion IsGroup gs → groups_from (items_of (map whole_group_data gs)) ≡ Some (map uncarried gs)
unfolding groups_from
all_back [] all = refl
all_back (g ∷ gs) all =
    ap (λ (r : Reading Group). option_and_then (λ group. option_map (λ groups. group ∷ groups) (groups_from (items_of (map whole_group_data gs)))) (result_ok r)) (data_back g all.0)
    ∙ ap (λ o. option_map (λ groups. uncarried g ∷ groups) o) (all_back gs all.1)

pub groups_back : (gs : List Group) → AllByRecursion IsGroup gs → groups_in (groups_text gs) ≡ Some (map uncarried gs)
unfolding groups_in groups_at
groups_back gs all = ap (λ (r : Reading Data). option_and_then groups_at (result_ok r)) (list_read gs all) ∙ all_back gs all
