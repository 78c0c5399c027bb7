-- The peer of a wire before and after.
use Rattle.std.proofs.Common.{◌≡◌, Option, None, Some, refl}
use Rattle.misp_core.specs.Prelude.{Standing, host_of}
use Rattle.misp_sync.specs.Wire.{IsSamePeer, Meet, peer_of}

-- what holds where there is no peer, and of a peer that is the same, holds of both
pub by_peers : (Q : Option Standing → Option Standing → Type 0) (old new : Option Standing) → peer_of new ≡ peer_of old
    → Q None None → ((a b : Standing) → host_of b ≡ host_of a → Q (Some a) (Some b)) → Q old new
by_peers Q None None same none some = none
by_peers Q None (Some b) same none some = absurd cc
by_peers Q (Some a) None same none some = absurd cc
by_peers Q (Some a) (Some b) same none some = let is : host_of b ≡ host_of a = cc in some a b is

pub meets_itself : (peer : Option Standing) (P : Standing → Standing → Type 0) → ((s : Standing) → P s s) → Meet peer peer P
meets_itself None P h = tt
meets_itself (Some s) P h = h s

-- who was asked is the one that was
pub same_peer : (old new : Option Standing) → Meet old new IsSamePeer → peer_of new ≡ peer_of old
same_peer None None same = refl
same_peer None (Some new) same = absurd same
same_peer (Some old) None same = absurd same
same_peer (Some old) (Some new) same = (λ i. Some (record { name = same.host.name i; admin = same.host.admin i }))
