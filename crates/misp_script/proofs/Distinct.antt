-- Entries of which no two are equal.
use Rattle.std.proofs.Common.{◌≡◌, ℕ, ◌+◌, Bool, true, false, not, ◌&&◌, ◌||◌, List, [], ◌∷◌, length, Some, None, Ok, refl, sym, ap, ◌∙◌, inl, inr, arith, codes, bytes_eq, length-append}
use Rattle.toml.specs.Data.{Data}
use Rattle.misp_lists.proofs.Prelude.{AllByRecursion, IsDistinct, and_from, cases_Bool, ok_keeps, option_map_or}
use Rattle.misp_lists.proofs.All.{all_last}
use Rattle.misp_lists.proofs.Distinct.{distinct_last, distinct_none}
use Rattle.misp_orgs.specs.Org.{OrgFields}
use Rattle.misp_orgs.specs.Admin.{AreDistinct, same_uuid, same_key, same_name}
use Rattle.misp_script.specs.declared.description.Host.{Host}
use Rattle.misp_script.specs.declared.description.HostKey.{HostKey}
use Rattle.misp_script.specs.declared.description.HostLink.{HostLink}
use Rattle.misp_script.specs.declared.fault.DescNeed.{DescNeed}
use Rattle.misp_script.specs.Entries.{Body, entry_of, text_at, text_or_none_at, said, flag_or_at, refused_if, no_other, each}
use Rattle.misp_script.specs.Tables.{org_name_at, uuid_at, has_name, has_number, org_at, next_org, host_name_at, has_host, host_at, next_host, host_of, has_key, known_host_at, known_org_at, known_org_or_none_at, internal_at, key_internal_at, api_key_at, role_at, partner_at, key_at}
use Rattle.misp_script.specs.Tables.{next_key, has_link, host_in, is_taken, link_at, next_link}
use Rattle.misp_script.specs.Network.{keys_of, links_of}
use Rattle.misp_script.proofs.Parts.{bytes_eq-refl, distinct_own}
use Rattle.misp_script.proofs.Steps.{bind_keeps, not_bad, each_keeps, adds_keep, or_bad_is, text_is}

-- ---- organisations

org_new : (before : List OrgFields) (it : Body) (o : OrgFields) → org_at before it ≡ Ok o → has_number before o.uuid.0.0 ≡ false
unfolding org_at
org_new before it o h =
    let P : OrgFields → Type 0 = λ o. has_number before o.uuid.0.0 ≡ false in
    bind_keeps P (org_name_at it) _ (λ name is1.
    bind_keeps P (refused_if (has_name before name) it (codes "name") DescNeed.Distinct) _ (λ new_name is2.
    bind_keeps P (uuid_at it) _ (λ uuid is3.
    bind_keeps P (refused_if (has_number before uuid.0) it (codes "uuid") DescNeed.Distinct) _ (λ new_uuid is4.
    bind_keeps P (no_other it (codes "name" ∷ codes "uuid" ∷ [])) _ (λ no_more is5.
    ok_keeps P _ (not_bad (has_number before uuid.0) _ _ new_uuid is4)))))) o h

orgs_distinct : (ds : List Data) (orgs : List OrgFields) → each next_org 0 [] ds ≡ Ok orgs → IsDistinct same_uuid orgs
orgs_distinct ds orgs h =
    each_keeps next_org (IsDistinct same_uuid) (λ n s d t p is. adds_keep (org_at s (entry_of (codes "org") n d)) s (IsDistinct same_uuid)
    (λ o read. distinct_last same_uuid s o p (org_new s (entry_of (codes "org") n d) o read)) t is) 0 [] ds orgs (distinct_none same_uuid) h

-- ---- instances

abbrev pub same_host : Host → Host → Bool
same_host a b = bytes_eq a.name b.name

host_new : (orgs : List OrgFields) (before : List Host) (it : Body) (x : Host) → host_at orgs before it ≡ Ok x → has_host before x.name ≡ false
unfolding host_at
host_new orgs before it x h =
    let P : Host → Type 0 = λ x. has_host before x.name ≡ false in
    bind_keeps P (host_name_at it) _ (λ name is1.
    bind_keeps P (refused_if (has_host before name) it (codes "name") DescNeed.Distinct) _ (λ new is2.
    bind_keeps P (text_or_none_at it (codes "address")) _ (λ address is3.
    bind_keeps P (known_org_or_none_at orgs it (codes "host")) _ (λ org is4.
    bind_keeps P (no_other it (codes "name" ∷ codes "address" ∷ codes "host" ∷ [])) _ (λ no_more is5.
    ok_keeps P _ (not_bad (has_host before name) _ _ new is2)))))) x h

pub hosts_distinct : (orgs : List OrgFields) (ds : List Data) (hosts : List Host) → each (next_host orgs) 0 [] ds ≡ Ok hosts → IsDistinct same_host hosts
hosts_distinct orgs ds hosts h =
    each_keeps (next_host orgs) (IsDistinct same_host) (λ n s d t p is. adds_keep (host_at orgs s (entry_of (codes "instance") n d)) s (IsDistinct same_host)
    (λ x read. distinct_last same_host s x p (host_new orgs s (entry_of (codes "instance") n d) x read)) t is) 0 [] ds hosts (distinct_none same_host) h

pub hosts_counted : (orgs : List OrgFields) (n : ℕ) (s : List Host) (ds : List Data) (hosts : List Host) → each (next_host orgs) n s ds ≡ Ok hosts → length hosts ≡ length s + length ds
hosts_counted orgs n s [] hosts h = ok_keeps (λ t. length t ≡ length s + 0) s (omega arith) hosts h
hosts_counted orgs n s (d ∷ ds) hosts h =
    let P : List Host → Type 0 = λ t. length t ≡ length s + length (d ∷ ds) in
    bind_keeps P (next_host orgs n s d) (λ more. each (next_host orgs) (n + 1) more ds) (λ more is y rest.
    let longer : length more ≡ length s + 1 = adds_keep (host_at orgs s (entry_of (codes "instance") n d)) s (λ t. length t ≡ length s + 1) (λ x read. length-append s (x ∷ [])) more is in
    omega (arith, longer, hosts_counted orgs (n + 1) more ds y rest)) hosts h

-- ---- keys

abbrev same_host_key : HostKey → HostKey → Bool
same_host_key a b = same_key a.key b.key && bytes_eq a.at b.at

key_new : (orgs : List OrgFields) (hosts : List Host) (before : List HostKey) (it : Body) (k : HostKey) → key_at orgs hosts before it ≡ Ok k → has_key before k.at k.key.key ≡ false
unfolding key_at
key_new orgs hosts before it k h =
    let P : HostKey → Type 0 = λ k. has_key before k.at k.key.key ≡ false in
    bind_keeps P (known_host_at hosts it (codes "instance")) _ (λ at is1.
    bind_keeps P (api_key_at it) _ (λ key is2.
    bind_keeps P (refused_if (has_key before at key) it (codes "key") DescNeed.Distinct) _ (λ new is3.
    bind_keeps P (known_org_at orgs it (codes "org")) _ (λ org is4.
    bind_keeps P (role_at it) _ (λ role is5.
    bind_keeps P (partner_at hosts it role) _ (λ partner is6.
    bind_keeps P (key_internal_at hosts it at partner) _ (λ internal is7.
    bind_keeps P (no_other it (codes "instance" ∷ codes "key" ∷ codes "org" ∷ codes "role" ∷ codes "partner" ∷ codes "internal" ∷ [])) _ (λ no_more is8.
    ok_keeps P _ (not_bad (has_key before at key) _ _ new is3))))))))) k h

keys_distinct : (orgs : List OrgFields) (hosts : List Host) (ds : List Data) (keys : List HostKey) → each (next_key orgs hosts) 0 [] ds ≡ Ok keys → IsDistinct same_host_key keys
keys_distinct orgs hosts ds keys h =
    each_keeps (next_key orgs hosts) (IsDistinct same_host_key) (λ n s d t p is. adds_keep (key_at orgs hosts s (entry_of (codes "key") n d)) s (IsDistinct same_host_key)
    (λ k read. distinct_last same_host_key s k p (key_new orgs hosts s (entry_of (codes "key") n d) k read)) t is) 0 [] ds keys (distinct_none same_host_key) h

-- ---- links

abbrev pub same_host_link : HostLink → HostLink → Bool
same_host_link a b = same_name a.link b.link && bytes_eq a.at b.at

-- the peer is listed, and is another than the one whose link it is
abbrev pub is_apart : List Host → HostLink → Bool
is_apart hosts l = has_host hosts l.link.peer && not (bytes_eq l.link.peer l.at)

or_true : (a : Bool) → (a || true) ≡ true
or_true true = refl
or_true false = refl

host_is : (hosts : List Host) (text name : List ℕ) → host_of hosts text ≡ Some name → has_host hosts name ≡ true
host_is [] text name h = absurd cc
host_is (x ∷ xs) text name h = elim (cases_Bool (bytes_eq x.name text)) [
  | inl hit ↦
      let found : Some x.name ≡ Some name = rw hit at h in
      let same : x.name ≡ name = cc in
      rw (ap (bytes_eq x.name) (sym same) ∙ bytes_eq-refl x.name) refl
  | inr miss ↦
      let more : has_host xs name ≡ true = host_is xs text name (rw miss at h) in
      rw more (or_true (bytes_eq x.name name))
]

host_read : (hosts : List Host) (it : Body) (member name : List ℕ) → known_host_at hosts it member ≡ Ok name → host_in hosts it member ≡ Some name
host_read hosts it member name h =
    bind_keeps (λ x. host_in hosts it member ≡ Some x) (text_at it member) (λ text. said it member DescNeed.Known (host_of hosts text))
    (λ text is x read. ap (λ o. option_map_or (host_of hosts) o None) (text_is it member text is) ∙ or_bad_is _ DescNeed.Known (host_of hosts text) x read) name h

host_there : (hosts : List Host) (it : Body) (member name : List ℕ) → known_host_at hosts it member ≡ Ok name → has_host hosts name ≡ true
host_there hosts it member name h =
    bind_keeps (λ x. has_host hosts x ≡ true) (text_at it member) (λ text. said it member DescNeed.Known (host_of hosts text))
    (λ text is x read. host_is hosts text x (or_bad_is _ DescNeed.Known (host_of hosts text) x read)) name h

link_new : (orgs : List OrgFields) (hosts : List Host) (before : List HostLink) (it : Body) (l : HostLink) → link_at orgs hosts before it ≡ Ok l
    → (has_link before l.at l.link.name ≡ false) × (is_apart hosts l ≡ true)
unfolding link_at
link_new orgs hosts before it l h =
    let P : HostLink → Type 0 = λ l. (has_link before l.at l.link.name ≡ false) × (is_apart hosts l ≡ true) in
    bind_keeps P (host_name_at it) _ (λ name is1.
    bind_keeps P (refused_if (is_taken hosts before it name) it (codes "name") DescNeed.Distinct) _ (λ new is2.
    bind_keeps P (known_host_at hosts it (codes "at")) _ (λ at is3.
    bind_keeps P (known_host_at hosts it (codes "to")) _ (λ peer is4.
    bind_keeps P (refused_if (bytes_eq peer at) it (codes "to") DescNeed.Distinct) _ (λ other is5.
    bind_keeps P (api_key_at it) _ (λ key is6.
    bind_keeps P (known_org_at orgs it (codes "holder")) _ (λ holder is7.
    bind_keeps P (known_org_at orgs it (codes "push_org")) _ (λ push_org is8.
    bind_keeps P (flag_or_at it (codes "on") true) _ (λ on is9.
    bind_keeps P (internal_at hosts it at peer) _ (λ internal is10.
    bind_keeps P (no_other it (codes "name" ∷ codes "at" ∷ codes "to" ∷ codes "key" ∷ codes "holder" ∷ codes "push_org" ∷ codes "on" ∷ codes "internal" ∷ [])) _ (λ no_more is11.
    let fresh : has_link before at name ≡ false = ap (λ o. option_map_or (λ at. has_link before at name) o false) (sym (host_read hosts it (codes "at") at is3)) ∙ not_bad (is_taken hosts before it name) _ _ new is2 in
    let apart : not (bytes_eq peer at) ≡ true = ap not (not_bad (bytes_eq peer at) _ _ other is5) in
    ok_keeps P _ (fresh, and_from _ _ (host_there hosts it (codes "to") peer is4) apart)))))))))))) l h

pub links_read : (orgs : List OrgFields) (hosts : List Host) (ds : List Data) (links : List HostLink) → each (next_link orgs hosts) 0 [] ds ≡ Ok links
    → IsDistinct same_host_link links × AllByRecursion (λ l. is_apart hosts l ≡ true) links
links_read orgs hosts ds links h =
    let P : List HostLink → Type 0 = λ s. IsDistinct same_host_link s × AllByRecursion (λ l. is_apart hosts l ≡ true) s in
    each_keeps (next_link orgs hosts) P (λ n s d t p is. adds_keep (link_at orgs hosts s (entry_of (codes "link") n d)) s P
    (λ l read.
    let new = link_new orgs hosts s (entry_of (codes "link") n d) l read in
    (distinct_last same_host_link s l p.0 new.0, all_last (λ l. is_apart hosts l ≡ true) s l p.1 new.1)) t is) 0 [] ds links (distinct_none same_host_link, tt) h

-- ---- the lists of an instance

pub are_distinct : (os ks ls : List Data) (orgs : List OrgFields) (hosts : List Host) (keys : List HostKey) (links : List HostLink)
    → each next_org 0 [] os ≡ Ok orgs → each (next_key orgs hosts) 0 [] ks ≡ Ok keys → each (next_link orgs hosts) 0 [] ls ≡ Ok links
    → (name : List ℕ) → AreDistinct orgs (keys_of keys name) (links_of links name)
are_distinct os ks ls orgs hosts keys links of_orgs of_keys of_links name = record {
  uuids = orgs_distinct os orgs of_orgs;
  texts = distinct_own (λ k. k.at) (λ k. k.key) name same_key keys (keys_distinct orgs hosts ks keys of_keys);
  names = distinct_own (λ l. l.at) (λ l. l.link) name same_name links (links_read orgs hosts ls links of_links).0;
}
