-- What went over a dial, as the trail of a wire to one address.
use Rattle.std.specs.Prelude.{ℕ, Bool, List, [], ◌∷◌, bytes_eq, option_to_list, option_map, Option, if◌then◌else◌}
use Rattle.std.specs.List.{flat_map}
use Rattle.misp_outside.specs.Wires.{Asked}

-- the bytes of an ask, and after them those of its reply, where it has one
abbrev pub ask_trail : Asked → List (List ℕ)
ask_trail ask = ask.bytes ∷ option_to_list ask.reply

-- the ask went to this address
abbrev pub went_to : List ℕ → Asked → Bool
went_to address ask = bytes_eq ask.address address

-- What an ask adds to the trail of a wire to this address. One that went elsewhere adds two byte
-- strings without a byte. No request is one, and of two neighbours one stands for a request: so
-- where the trail has the stated requests, every ask went there
-- (`what_is_asked_goes_to_one_address`).
abbrev pub ask_trail_to : List ℕ → Asked → List (List ℕ)
ask_trail_to address ask =
    if went_to address ask then ask_trail ask else ([] ∷ [] ∷ [])

-- those of all asks, in their order
abbrev pub asks_trail : List ℕ → List Asked → List (List ℕ)
asks_trail address asks = flat_map (ask_trail_to address) asks

-- the trail of a wire to this address, where the dial tells its asks
abbrev pub trail_to : List ℕ → Option (List Asked) → Option (List (List ℕ))
trail_to address asks = option_map (asks_trail address) asks
