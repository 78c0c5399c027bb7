-- What every description is.
use Rattle.std.proofs.Common.{◌≡◌, ℕ, ◌≤◌, true, false, not, List, [], ◌∷◌, length, map, Ok, refl, sym, ap, ◌∙◌, arith, nat_lt, codes, is_lt, bytes_eq}
use Rattle.std.specs.Prelude.{⊤}
use Rattle.toml.specs.Data.{Members}
use Rattle.misp_lists.proofs.Prelude.{AllByRecursion, all_in_order, and_from, and_parts, length-map, list_all, nat_tests, ok_keeps}
use Rattle.misp_lists.proofs.All.{all_true}
use Rattle.misp_lists.proofs.Distinct.{distinct_map}
use Rattle.misp_lists.proofs.Lists.{any_map, map_twice}
use Rattle.misp_lists.specs.Order.{sorted_by}
use Rattle.misp_orgs.specs.Org.{OrgFields}
use Rattle.misp_orgs.specs.declared.link.Link.{Link}
use Rattle.misp_orgs.specs.Admin.{by_name}
use Rattle.misp_script.specs.declared.description.Description.{Description}
use Rattle.misp_script.specs.declared.description.Host.{Host}
use Rattle.misp_script.specs.declared.description.HostKey.{HostKey}
use Rattle.misp_script.specs.declared.description.HostLink.{HostLink}
use Rattle.misp_script.specs.Limits.{org_limit, instance_limit}
use Rattle.misp_script.specs.Entries.{each}
use Rattle.misp_script.specs.Tables.{next_org, next_host, next_key, next_link}
use Rattle.misp_script.specs.Names.{names_of, is_to_another, links_to_others, IsNet}
use Rattle.misp_script.specs.Network.{all_known, within_limits, at_most, entries_at, links_of, instance_of, instances_of, network_at, document_at, description_at}
use Rattle.misp_script.proofs.Parts.{all_own}
use Rattle.misp_script.proofs.Steps.{bind_keeps, not_bad}
use Rattle.misp_script.proofs.Distinct.{is_apart, hosts_distinct, hosts_counted, links_read}

-- ---- limits

hosts_few : (ms : Members) (x : ⊤) → within_limits ms ≡ Ok x → length (entries_at (codes "instance") ms) ≤ instance_limit
hosts_few ms x h =
    let P : ⊤ → Type 0 = λ y. length (entries_at (codes "instance") ms) ≤ instance_limit in
    bind_keeps P (at_most org_limit (codes "org") (entries_at (codes "org") ms)) _ (λ orgs is1.
    bind_keeps P (at_most instance_limit (codes "instance") (entries_at (codes "instance") ms)) _ (λ hosts is2 y rest.
    let few : nat_lt instance_limit (length (entries_at (codes "instance") ms)) ≡ false = not_bad _ _ _ hosts is2 in
    grind (arith, nat_tests))) x h

-- ---- peers

abbrev host_names : List Host → List (List ℕ)
host_names hosts = map (λ h. h.name) hosts

-- the links of an instance are to others
peers_of : (hosts : List Host) (links : List HostLink) (name : List ℕ) → AllByRecursion (λ l. is_apart hosts l ≡ true) links
    → list_all (is_to_another (host_names hosts) name) (sorted_by by_name (links_of links name)) ≡ true
peers_of hosts links name apart =
    let P : Link → Type 0 = λ l. is_to_another (host_names hosts) name l ≡ true in
    let each_one : (l : HostLink) → l.at ≡ name → is_apart hosts l ≡ true → P l.link = λ l here is.
    and_from _ _ (any_map (λ h. h.name) (λ n. bytes_eq n l.link.peer) hosts ∙ (and_parts _ _ is).0) (ap (λ n. not (bytes_eq l.link.peer n)) (sym here) ∙ (and_parts _ _ is).1) in
    all_true (is_to_another (host_names hosts) name) _ (all_in_order P (λ a b. not (is_lt (by_name b a))) (links_of links name)
    (all_own (λ l. l.at) (λ l. l.link) name P (λ l. is_apart hosts l ≡ true) each_one links apart))

peers_all : (names : List (List ℕ)) (orgs : List OrgFields) (keys : List HostKey) (links : List HostLink) → ((name : List ℕ) → list_all (is_to_another names name) (sorted_by by_name (links_of links name)) ≡ true)
    → (hosts : List Host) → list_all (links_to_others names) (instances_of orgs keys links hosts) ≡ true
peers_all names orgs keys links each_one [] = refl
peers_all names orgs keys links each_one (h ∷ hs) = and_from _ _ (each_one h.name) (peers_all names orgs keys links each_one hs)

-- ---- the whole

net_of : (ms : Members) (orgs : List OrgFields) (hosts : List Host) (keys : List HostKey) (links : List HostLink) → length (entries_at (codes "instance") ms) ≤ instance_limit
    → each (next_host orgs) 0 [] (entries_at (codes "instance") ms) ≡ Ok hosts → AllByRecursion (λ l. is_apart hosts l ≡ true) links
    → IsNet (record { instances = instances_of orgs keys links hosts })
net_of ms orgs hosts keys links few of_hosts apart =
    let names : names_of (record { instances = instances_of orgs keys links hosts }) ≡ host_names hosts =
    map_twice (instance_of orgs keys links) (λ entry. entry.name) (λ h. h.name) (λ h. refl) hosts in
    record {
      few = omega (arith, length-map hosts (instance_of orgs keys links), hosts_counted orgs 0 [] (entries_at (codes "instance") ms) hosts of_hosts);
      names = rw names (distinct_map (λ h. h.name) (λ a b. bytes_eq a.name b.name) bytes_eq (λ a b apart. apart) hosts (hosts_distinct orgs (entries_at (codes "instance") ms) hosts of_hosts));
      peers = rw names (peers_all (host_names hosts) orgs keys links (λ name. peers_of hosts links name apart) hosts);
    }

network_net : (ms : Members) (d : Description) → network_at ms ≡ Ok d → IsNet d
unfolding network_at
network_net ms d h =
    bind_keeps IsNet (all_known ms) _ (λ known is1.
    bind_keeps IsNet (within_limits ms) _ (λ few is2.
    bind_keeps IsNet (each next_org 0 [] (entries_at (codes "org") ms)) _ (λ orgs is3.
    bind_keeps IsNet (each (next_host orgs) 0 [] (entries_at (codes "instance") ms)) _ (λ hosts is4.
    bind_keeps IsNet (each (next_key orgs hosts) 0 [] (entries_at (codes "key") ms)) _ (λ keys is5.
    bind_keeps IsNet (each (next_link orgs hosts) 0 [] (entries_at (codes "link") ms)) _ (λ links is6.
    ok_keeps IsNet _ (net_of ms orgs hosts keys links (hosts_few ms few is2) is4 (links_read orgs hosts (entries_at (codes "link") ms) links is6).1))))))) d h

pub is_net : (bytes : List ℕ) (d : Description) → description_at bytes ≡ Ok d → IsNet d
unfolding description_at
is_net bytes d h = bind_keeps IsNet (document_at bytes) network_at (λ ms is. network_net ms) d h
