-- What is read of a group at a place in a list is what is read of it alone, but for the paths of faults.
use Rattle.std.proofs.Common.{◌≡◌, ℕ, ◌+◌, Bool, true, false, List, [], ◌∷◌, ◌++◌, codes, decimal, Result, Ok, Err, refl, sym, ap, subst, ◌∙◌, append_assoc, append-nil, is_some, if◌then◌else◌}
use Rattle.std.specs.Option.{option_map_or}
use Rattle.serde_json.specs.Data.{Data, Items, no_items, item}
use Rattle.serde_json.specs.Find.{as_object}
use Rattle.misp_fields.specs.declared.need.Need.{Need}
use Rattle.misp_fields.specs.Fields.{flag_of, list_of, member_of, stamp_of, text_of, uuid_of}
use Rattle.misp_format.specs.Body.{Body}
use Rattle.misp_format.specs.Groups.{OrgEntries, ServerEntries, group_body_at, named_organisation_at, named_server_at, next_org, next_server, org_at, organisation_at, orgs_at, server_at, server_name_at, servers_at, whole_group_at}
use Rattle.misp_format.specs.Path.{item_path, member_path}
use Rattle.misp_format.specs.Readers.{any_of, inst_name_of, some_text_of}
use Rattle.misp_format.specs.Rows.{◌>>=◌, Reading, at, body_at, each, must_be, row}
use Rattle.misp_format.specs.Tables.{unwrapped}
use Rattle.misp_api.specs.GroupList.{first_name, group_at, next_group}
use Rattle.misp_api.specs.Prelude.{FormatFault, Group}

-- ---- what moves

-- the same value, or the same fault as far behind another path
abbrev pub Moved : {A : Type 0} → List ℕ → List ℕ → Reading A → Reading A → Type 0
Moved p q (Ok x) moved = moved ≡ Ok x
Moved p q (Err (FormatFault.BadField path need)) moved =
    (rest : List ℕ) × (path ≡ p ++ rest) × (moved ≡ Err (FormatFault.BadField (q ++ rest) need))
Moved p q (Err FormatFault.NoJson) moved = ⊥
Moved p q (Err (FormatFault.BinaryType path)) moved = ⊥
Moved p q (Err FormatFault.NoMemory) moved = ⊥

-- step by step
moved_bind : {A B : Type 0} (p q : List ℕ) (r s : Reading A) (f g : A → Reading B) → Moved p q r s → ((x : A) → Moved p q (f x) (g x)) → Moved p q (r >>= f) (s >>= g)
moved_bind p q (Ok x) s f g same follows = subst (λ (t : Reading _). Moved p q (f x) (t >>= g)) (sym same) (follows x)
moved_bind p q (Err (FormatFault.BadField path need)) s f g same follows = (same.0, same.1, ap (λ (t : Reading _). t >>= g) same.2)
moved_bind p q (Err FormatFault.NoJson) s f g same follows = absurd same
moved_bind p q (Err (FormatFault.BinaryType path)) s f g same follows = absurd same
moved_bind p q (Err FormatFault.NoMemory) s f g same follows = absurd same

-- behind longer paths
moved_inner : {A : Type 0} (p q x longer other : List ℕ) → longer ≡ p ++ x → other ≡ q ++ x → (r s : Reading A) → Moved longer other r s → Moved p q r s
moved_inner p q x longer other ps qs (Ok y) s same = same
moved_inner p q x longer other ps qs (Err (FormatFault.BadField path need)) s same = (
  x ++ same.0,
  same.1 ∙ ap (λ t. t ++ same.0) ps ∙ append_assoc p x same.0,
  same.2 ∙ ap (λ t. Err (FormatFault.BadField t need)) (ap (λ t. t ++ same.0) qs ∙ append_assoc q x same.0),
)
moved_inner p q x longer other ps qs (Err FormatFault.NoJson) s same = absurd same
moved_inner p q x longer other ps qs (Err (FormatFault.BinaryType path)) s same = absurd same
moved_inner p q x longer other ps qs (Err FormatFault.NoMemory) s same = absurd same

moved_member : {A : Type 0} (p q name : List ℕ) (r s : Reading A) → Moved (member_path p name) (member_path q name) r s → Moved p q r s
moved_member p q name r s same = moved_inner p q (codes "." ++ name) _ _ (append_assoc p (codes ".") name) (append_assoc q (codes ".") name) r s same

item_split : (p : List ℕ) (n : ℕ) → item_path p n ≡ p ++ (codes "[" ++ (decimal n ++ codes "]"))
item_split p n = append_assoc (p ++ codes "[") (decimal n) (codes "]") ∙ append_assoc p (codes "[") (decimal n ++ codes "]")

moved_item : {A : Type 0} (p q : List ℕ) (n : ℕ) (r s : Reading A) → Moved (item_path p n) (item_path q n) r s → Moved p q r s
moved_item p q n r s same = moved_inner p q (codes "[" ++ (decimal n ++ codes "]")) _ _ (item_split p n) (item_split q n) r s same

-- ---- rows, bodies and lists

abbrev body : List ℕ → Data → Body
body path d = record { path = path; value = d }

moved_at : {A : Type 0} (p q name : List ℕ) (d : Data) (found : Result A Need) → Moved p q (at (body p d) name found) (at (body q d) name found)
moved_at p q name d (Ok x) = refl
moved_at p q name d (Err need) =
    (codes "." ++ name, append_assoc p (codes ".") name, ap (λ t. Err (FormatFault.BadField t need)) (append_assoc q (codes ".") name))

-- a row, and what follows it
moved_row : {A B : Type 0} (p q : List ℕ) (d : Data) (name : List ℕ) (reader : Data → Result A Need) (absent : Result A Need) (f g : A → Reading B)
    → ((x : A) → Moved p q (f x) (g x)) → Moved p q (row (body p d) name reader absent >>= f) (row (body q d) name reader absent >>= g)
moved_row p q d name reader absent f g follows =
    moved_bind p q (row (body p d) name reader absent) (row (body q d) name reader absent) f g (moved_at p q name d (option_map_or reader (member_of name d) absent)) follows

by_object : {A : Type 0} (p q : List ℕ) (d : Data) (there : Bool) (f : Body → Reading A) → Moved p q (f (body p d)) (f (body q d))
    → Moved p q ((if there then Ok (body p d) else Err (FormatFault.BadField p Need.Object)) >>= f) ((if there then Ok (body q d) else Err (FormatFault.BadField q Need.Object)) >>= f)
by_object p q d true f same = same
by_object p q d false f same = ([], sym (append-nil p), ap (λ t. Err (FormatFault.BadField t Need.Object)) (sym (append-nil q)))

-- an object, and what is read of it
moved_body : {A : Type 0} (p q : List ℕ) (d : Data) (f : Body → Reading A) → Moved p q (f (body p d)) (f (body q d)) → Moved p q (body_at p d >>= f) (body_at q d >>= f)
moved_body p q d f same = by_object p q d (is_some (as_object d)) f same

moved_each : {S : Type 0} (p q : List ℕ) (f g : ℕ → S → Data → Reading S) → ((n : ℕ) (s : S) (d : Data) → Moved p q (f n s d) (g n s d))
    → (n : ℕ) (s : S) (items : Items) → Moved p q (each f n s items) (each g n s items)
moved_each p q f g one n s no_items = refl
moved_each p q f g one n s (item d ds) = moved_bind p q (f n s d) (g n s d) (λ more. each f (n + 1) more ds) (λ more. each g (n + 1) more ds) (one n s d) (λ more. moved_each p q f g one (n + 1) more ds)

-- ---- organisations

organisation_moved : (p q : List ℕ) (d : Data) → Moved p q (organisation_at p d) (organisation_at q d)
unfolding organisation_at
organisation_moved p q d =
    moved_body p q d _ (moved_row p q d (codes "uuid") uuid_of must_be _ _ (λ uuid. moved_row p q d (codes "name") text_of (Ok []) _ _ (λ name. refl)))

named_organisation_moved : (p q : List ℕ) (d : Data) → Moved p q (named_organisation_at (body p d)) (named_organisation_at (body q d))
named_organisation_moved p q d = moved_row p q d (codes "Organisation") any_of must_be _ _ (λ value.
    moved_member p q (codes "Organisation") _ _ (organisation_moved (member_path p (codes "Organisation")) (member_path q (codes "Organisation")) value))

org_moved : (p q : List ℕ) (d : Data) → Moved p q (org_at p d) (org_at q d)
unfolding org_at
org_moved p q d =
    moved_body p q d _ (moved_bind p q (named_organisation_at (body p d)) (named_organisation_at (body q d)) _ _ (named_organisation_moved p q d) (λ organisation.
    moved_row p q d (codes "extend") flag_of (Ok false) _ _ (λ extend. refl)))

next_org_moved : (p q : List ℕ) (n : ℕ) (so_far : OrgEntries) (d : Data) → Moved p q (next_org p n so_far d) (next_org q n so_far d)
next_org_moved p q n so_far d =
    moved_bind p q (org_at (item_path p n) d) (org_at (item_path q n) d) _ _ (moved_item p q n _ _ (org_moved (item_path p n) (item_path q n) d)) (λ o. refl)

orgs_moved : (p q : List ℕ) (d : Data) → Moved p q (orgs_at (body p d)) (orgs_at (body q d))
unfolding orgs_at
orgs_moved p q d =
    let there : List ℕ = member_path p (codes "SharingGroupOrg") in
    let moved : List ℕ = member_path q (codes "SharingGroupOrg") in
    moved_row p q d (codes "SharingGroupOrg") list_of (Ok no_items) _ _ (λ items.
    moved_bind p q (each (next_org there) 0 [] items) (each (next_org moved) 0 [] items) _ _
    (moved_member p q (codes "SharingGroupOrg") _ _ (moved_each there moved (next_org there) (next_org moved) (next_org_moved there moved) 0 [] items)) (λ entries. refl))

-- ---- instances

server_name_moved : (p q : List ℕ) (d : Data) → Moved p q (server_name_at p d) (server_name_at q d)
unfolding server_name_at
server_name_moved p q d = moved_body p q d _ (moved_at p q (codes "name") d (option_map_or inst_name_of (member_of (codes "name") d) must_be))

named_server_moved : (p q : List ℕ) (d : Data) → Moved p q (named_server_at (body p d)) (named_server_at (body q d))
named_server_moved p q d = moved_row p q d (codes "Server") any_of must_be _ _ (λ value.
    moved_member p q (codes "Server") _ _ (server_name_moved (member_path p (codes "Server")) (member_path q (codes "Server")) value))

server_moved : (p q : List ℕ) (d : Data) → Moved p q (server_at p d) (server_at q d)
unfolding server_at
server_moved p q d =
    moved_body p q d _ (moved_bind p q (named_server_at (body p d)) (named_server_at (body q d)) _ _ (named_server_moved p q d) (λ name.
    moved_row p q d (codes "all_orgs") flag_of (Ok false) _ _ (λ all_orgs. refl)))

next_server_moved : (p q : List ℕ) (n : ℕ) (so_far : ServerEntries) (d : Data) → Moved p q (next_server p n so_far d) (next_server q n so_far d)
next_server_moved p q n so_far d =
    moved_bind p q (server_at (item_path p n) d) (server_at (item_path q n) d) _ _ (moved_item p q n _ _ (server_moved (item_path p n) (item_path q n) d)) (λ s. refl)

servers_moved : (p q : List ℕ) (d : Data) → Moved p q (servers_at (body p d)) (servers_at (body q d))
unfolding servers_at
servers_moved p q d =
    let there : List ℕ = member_path p (codes "SharingGroupServer") in
    let moved : List ℕ = member_path q (codes "SharingGroupServer") in
    moved_row p q d (codes "SharingGroupServer") list_of (Ok no_items) _ _ (λ items.
    moved_bind p q (each (next_server there) 0 [] items) (each (next_server moved) 0 [] items) _ _
    (moved_member p q (codes "SharingGroupServer") _ _ (moved_each there moved (next_server there) (next_server moved) (next_server_moved there moved) 0 [] items)) (λ entries. refl))

-- ---- groups

group_moved : (p q : List ℕ) (d : Data) → Moved p q (whole_group_at p d) (whole_group_at q d)
unfolding whole_group_at
group_moved p q d =
    moved_body p q d _ (
    moved_row p q d (codes "uuid") uuid_of must_be _ _ (λ uuid.
    moved_row p q d (codes "organisation_uuid") uuid_of must_be _ _ (λ creator.
    moved_row p q d (codes "name") some_text_of must_be _ _ (λ name.
    moved_row p q d (codes "description") text_of (Ok []) _ _ (λ description.
    moved_row p q d (codes "releasability") text_of (Ok []) _ _ (λ releasability.
    moved_row p q d (codes "active") flag_of (Ok true) _ _ (λ active.
    moved_row p q d (codes "roaming") flag_of (Ok false) _ _ (λ roaming.
    moved_row p q d (codes "modified") stamp_of (Ok 0) _ _ (λ modified.
    moved_bind p q (orgs_at (body p d)) (orgs_at (body q d)) _ _ (orgs_moved p q d) (λ orgs.
    moved_bind p q (servers_at (body p d)) (servers_at (body q d)) _ _ (servers_moved p q d) (λ servers. refl)))))))))))

module _ (place : ℕ) (d : Data) where
  listed : Moved first_name (item_path first_name place) (group_body_at d) (group_at place d)
  listed = group_moved first_name (item_path first_name place) (unwrapped first_name d)

  abbrev as_read : Reading Group → Type 0
  as_read read = Moved first_name (item_path first_name place) read (group_at place d)

  -- what is read is the same
  pub read_listed : (g : Group) → group_body_at d ≡ Ok g → group_at place d ≡ Ok g
  read_listed g is = subst as_read is listed

  -- and a fault is behind the path in the list
  pub fault_listed : (path text : List ℕ) (need : Need) → group_body_at d ≡ Err (FormatFault.BadField path need)
      → ((rest : List ℕ) → path ≡ first_name ++ rest → text ≡ item_path first_name place ++ rest) → group_at place d ≡ Err (FormatFault.BadField text need)
  fault_listed path text need is moves =
      let found = subst as_read is listed in
      found.2 ∙ ap (λ t. Err (FormatFault.BadField t need)) (sym (moves found.0 found.1))

  -- there is no other
  pub no_json_listed : group_body_at d ≡ Err FormatFault.NoJson → ⊥
  no_json_listed is = subst as_read is listed

  pub no_file_listed : (path : List ℕ) → group_body_at d ≡ Err (FormatFault.BinaryType path) → ⊥
  no_file_listed path is = subst as_read is listed

-- ---- lists

-- one more is read
pub next_listed : (n : ℕ) (groups : List Group) (d : Data) (ds : Items) (g : Group) → group_at n d ≡ Ok g
    → each next_group n groups (item d ds) ≡ each next_group (n + 1) (groups ++ g ∷ []) ds
next_listed n groups d ds g is = ap (λ (r : Reading Group). (r >>= (λ g. Ok (groups ++ g ∷ []))) >>= (λ more. each next_group (n + 1) more ds)) is
