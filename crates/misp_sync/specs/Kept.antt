-- What a wire that keeps what is asked over it reports.
use Rattle.std.specs.Prelude.{ℕ, List, ◌∷◌, Option, option_to_list}
use Rattle.std.specs.List.{flat_map}
use Rattle.misp_sync.specs.declared.keeping_wire.WireAsk.{WireAsk}

abbrev pub wire_ask : List ℕ → Option (List ℕ) → WireAsk
wire_ask request reply = record { request = request; reply = reply }

-- the bytes of a request, and after them those of its reply, where it has one
abbrev pub wire_ask_trail : WireAsk → List (List ℕ)
wire_ask_trail ask = ask.request ∷ option_to_list ask.reply

-- those of all requests, in their order
abbrev pub kept_trail : List WireAsk → List (List ℕ)
kept_trail asks = flat_map wire_ask_trail asks
