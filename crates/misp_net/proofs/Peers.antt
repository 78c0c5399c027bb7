-- The places of instances by name, and the net of their links.
use Rattle.std.proofs.Common.{◌≡◌, ℕ, zero, suc, ◌<◌, true, false, eqb, List, [], ◌∷◌, length, Option, Some, None, unwrap_or, refl, ◌∙◌, inl, inr, arith, bytes_eq}
use Rattle.std.proofs.lemmas.Bool.{cases_Bool}
use Rattle.std.proofs.lemmas.List.Quantifiers.{position-Some}
use Rattle.misp_ids.proofs.Same.{same_inst-refl}
use Rattle.misp_ids.specs.declared.label.Direction.{Direction}
use Rattle.misp_orgs.specs.declared.link.Link.{Link}
use Rattle.misp_script.proofs.Places.{first_place}
use Rattle.misp_core.specs.Prelude.{Group, Host, Inst, World, same_inst}
use Rattle.misp_sync.specs.Directions.{route_on}
use Rattle.misp_net.specs.Prelude.{AreDistinct, host_at}
use Rattle.misp_net.specs.Hosts.{nobody}
use Rattle.misp_net.specs.Links.{peer_place, place_named, place_of_peer, route_at, routes_of}

-- ---- instances by name

pub rest_apart : (h : Host) (hosts : List Host) → AreDistinct (h ∷ hosts) → AreDistinct hosts
rest_apart h hosts distinct p q p_in q_in same =
    let more : suc p ≡ suc q = distinct (suc p) (suc q) (omega (arith, p_in)) (omega (arith, q_in)) same in omega (arith, more)

-- none before it has its name
not_named : (h : Host) (hosts : List Host) (at : ℕ) → AreDistinct (h ∷ hosts) → at < length hosts → bytes_eq h.name (host_at at hosts).name ≡ false
unfolding same_inst
not_named h hosts at distinct lt = elim (cases_Bool (bytes_eq h.name (host_at at hosts).name)) [
  | inl yes_ ↦ let same : 0 ≡ suc at = distinct 0 (suc at) (omega arith) (omega (arith, lt)) yes_ in absurd (omega (arith, same))
  | inr no_ ↦ no_
]

-- the instance of the name of an instance is that instance
pub place_is : (hosts : List Host) (at : ℕ) → AreDistinct hosts → at < length hosts → place_named hosts (host_at at hosts).name ≡ Some at
unfolding same_inst
place_is [] at distinct lt = absurd (omega arith)
place_is (h ∷ hosts) zero distinct lt =
    let same : bytes_eq h.name h.name ≡ true = same_inst-refl h.name in first_place (λ (host : Host). bytes_eq host.name h.name) h hosts ∙ rw same refl
place_is (h ∷ hosts) (suc at) distinct lt =
    let name : Inst = (host_at at hosts).name in
    let other : bytes_eq h.name name ≡ false = not_named h hosts at distinct (omega (arith, lt)) in
    let rest : place_named hosts name ≡ Some at = place_is hosts at (rest_apart h hosts distinct) (omega (arith, lt)) in
    first_place (λ (host : Host). bytes_eq host.name name) h hosts ∙ rw (other, rest) refl

-- a place that is found is one of theirs
named_inside : (hosts : List Host) (at : ℕ) (name : Inst) → at < length hosts → (found : Option ℕ) → place_named hosts name ≡ found → unwrap_or found at < length hosts
named_inside hosts at name lt None is = lt
named_inside hosts at name lt (Some p) is = (position-Some (λ (host : Host). bytes_eq host.name name) hosts p nobody is).0

pub peer_inside : (hosts : List Host) (at : ℕ) (link : Option Link) → at < length hosts → peer_place hosts at link < length hosts
peer_inside hosts at None lt = lt
peer_inside hosts at (Some link) lt = named_inside hosts at link.peer lt (place_named hosts link.peer) refl

-- ---- the net

-- it has the routes of the place of an instance
pub route_there : (hosts : List Host) (direction : Direction) (at : ℕ) (link : Inst) (w : World) → AreDistinct hosts → at < length hosts
    → routes_of hosts direction (host_at at hosts).name link w.groups w.made ≡ route_at hosts direction at link (w.groups (host_at at hosts).name)
route_there hosts direction at link w distinct lt = rw (place_is hosts at distinct lt) refl

-- where the peer is another, that of the synchronisation with it, and else none
pub route_apart : (hosts : List Host) (direction : Direction) (at : ℕ) (link : Inst) (groups : List Group) → eqb (place_of_peer hosts at link) at ≡ false
    → route_at hosts direction at link groups ≡ route_on direction (host_at at hosts) link (host_at (place_of_peer hosts at link) hosts) groups
route_apart hosts direction at link groups other = rw other refl

pub no_route : (hosts : List Host) (direction : Direction) (at : ℕ) (link : Inst) (groups : List Group) → eqb (place_of_peer hosts at link) at ≡ true → route_at hosts direction at link groups ≡ None
no_route hosts direction at link groups same = rw same refl
