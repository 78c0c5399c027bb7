-- What is read of a group is one.
use Rattle.std.proofs.Common.{◌≡◌, ℕ, Bool, List, [], ◌∷◌, ◌++◌, map, refl, sym, ap, ◌∙◌, nat_cmp, Ordering, Less, Equal, Greater}
use Rattle.std.specs.Map.{keys_of}
use Rattle.std.specs.Ordering.{match_ordering}
use Rattle.std.proofs.lemmas.Map.Lookups.{exact_bytes}
use Rattle.misp_groups.specs.Group.{by_org, by_server}
use Rattle.misp_format.specs.Prelude.{AllByRecursion, GroupOrg, GroupServer, IsOrg, IsServer, IsStrictlySortedBy, insert_entry, org_of, server_of, slice_cmp}
use Rattle.misp_format.specs.Groups.{OrgEntries, ServerEntries}
use Rattle.misp_format.specs.Entries.{IsSpelled}

-- ---- one more

pub orgs_and : (os : List GroupOrg) (o : GroupOrg) → AllByRecursion IsOrg os → IsOrg o → AllByRecursion IsOrg (os ++ o ∷ [])
orgs_and [] o all here = (here, tt)
orgs_and (first ∷ os) o all here = (all.0, orgs_and os o all.1 here)

pub servers_and : (ss : List GroupServer) (s : GroupServer) → AllByRecursion IsServer ss → IsServer s → AllByRecursion IsServer (ss ++ s ∷ [])
servers_and [] s all here = (here, tt)
servers_and (first ∷ ss) s all here = (all.0, servers_and ss s all.1 here)

-- an equal key is the same
spelled_at : (e : List ℕ × (List ℕ × Bool)) (es more : ServerEntries) (key name : List ℕ) (all_orgs : Bool) (o : Ordering) → key ≡ name → slice_cmp nat_cmp key e.0 ≡ o
    → AllByRecursion IsSpelled (e ∷ es) → AllByRecursion IsSpelled more
    → AllByRecursion IsSpelled (match_ordering o ((key, (name, all_orgs)) ∷ e ∷ es) ((e.0, (name, all_orgs)) ∷ es) (e ∷ more))
spelled_at e es more key name all_orgs Less is same all others = (is, all)
spelled_at e es more key name all_orgs Equal is same all others = (sym (exact_bytes key e.0 same) ∙ is, all.1)
spelled_at e es more key name all_orgs Greater is same all others = (all.0, others)

pub spelled_with : (es : ServerEntries) (key name : List ℕ) (all_orgs : Bool) → key ≡ name → AllByRecursion IsSpelled es → AllByRecursion IsSpelled (insert_entry (slice_cmp nat_cmp) es key (name, all_orgs))
spelled_with [] key name all_orgs is all = (is, tt)
spelled_with (e ∷ es) key name all_orgs is all = spelled_at e es _ key name all_orgs (slice_cmp nat_cmp key e.0) is refl all (spelled_with es key name all_orgs is all.1)

-- ---- the order

below_orgs : (k : ℕ) (name : List ℕ) (extend : Bool) (es : OrgEntries) → AllByRecursion (λ y. nat_cmp k y ≡ Less) (keys_of es) → AllByRecursion (λ y. by_org (org_of (k, (name, extend))) y ≡ Less) (map org_of es)
below_orgs k name extend [] h = tt
below_orgs k name extend (e ∷ es) h = (h.0, below_orgs k name extend es h.1)

pub orgs_ascend : (es : OrgEntries) → IsStrictlySortedBy nat_cmp (keys_of es) → IsStrictlySortedBy by_org (map org_of es)
unfolding IsStrictlySortedBy
orgs_ascend [] h = tt
orgs_ascend (e ∷ es) h = (below_orgs e.0 e.1.0 e.1.1 es h.0, orgs_ascend es h.1)

below_servers : (k : List ℕ) (s : GroupServer) (es : ServerEntries) → k ≡ s.name → AllByRecursion IsSpelled es → AllByRecursion (λ y. slice_cmp nat_cmp k y ≡ Less) (keys_of es) → AllByRecursion (λ y. by_server s y ≡ Less) (map server_of es)
below_servers k s [] is all h = tt
below_servers k s (e ∷ es) is all h = (ap (λ a. slice_cmp nat_cmp a e.1.0) (sym is) ∙ ap (slice_cmp nat_cmp k) (sym all.0) ∙ h.0, below_servers k s es is all.1 h.1)

pub servers_ascend : (es : ServerEntries) → AllByRecursion IsSpelled es → IsStrictlySortedBy (slice_cmp nat_cmp) (keys_of es) → IsStrictlySortedBy by_server (map server_of es)
unfolding IsStrictlySortedBy
servers_ascend [] all h = tt
servers_ascend (e ∷ es) all h = (below_servers e.0 (server_of e) es all.0 all.1 h.0, servers_ascend es all.1 h.1)
