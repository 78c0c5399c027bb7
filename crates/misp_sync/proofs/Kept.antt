-- What a wire reports that keeps what is asked over it.
use Rattle.std.proofs.Common.{◌≡◌, ℕ, List, [], ◌∷◌, ◌++◌, append-nil, Option, None, Some, ap, ◌∙◌, inr, refl, arith}
use Rattle.std.proofs.lemmas.Grind.{flat_map-append}
use Rattle.misp_core.specs.Prelude.{Standing}
use Rattle.misp_dialogue.specs.Parties.{GrowsBy}
use Rattle.misp_sync.specs.Kept.{kept_trail, wire_ask, wire_ask_trail}
use Rattle.misp_sync.specs.Wire.{IsSamePeer, IsUnanswered, Meet}
use Rattle.misp_sync.specs.declared.keeping_wire.WireAsk.{WireAsk}
use Rattle.misp_sync.proofs.Peers.{meets_itself}

-- one more is kept
one_more : (old : List WireAsk) (ask : WireAsk) → kept_trail (old ++ ask ∷ []) ≡ kept_trail old ++ wire_ask_trail ask
one_more old ask = flat_map-append wire_ask_trail old (ask ∷ []) ∙ ap (λ trail. kept_trail old ++ trail) (append-nil (wire_ask_trail ask))

-- a request is kept that has no reply
pub kept_none : (old new : List WireAsk) (request : List ℕ) → new ≡ old ++ wire_ask request None ∷ [] → GrowsBy (Some (kept_trail old)) (Some (kept_trail new)) (IsUnanswered request)
kept_none old new request e = (request ∷ [], ap kept_trail e ∙ one_more old (wire_ask request None), inr refl)

-- a peer that was not asked is the same
pub same_itself : (peer : Option Standing) → Meet peer peer IsSamePeer
same_itself peer = meets_itself peer IsSamePeer (λ s. record { host = record { name = refl; admin = refl }; later = omega arith; silent = λ none. none })
