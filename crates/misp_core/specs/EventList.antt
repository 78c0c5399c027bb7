-- The list of the events that a pull brings, as JSON.
use Rattle.std.specs.Prelude.{ℕ, List, [], ◌∷◌, ◌++◌, codes, decimal, flat_map}
use Rattle.misp_ids.specs.Uid.{text_of}
use Rattle.misp_core.specs.declared.reply.EventParts.{EventParts}

-- an event with the number of its packages
unfoldable pub event_parts_text : EventParts → List ℕ
event_parts_text p =
    codes "{\"parts\":"
    ++ (decimal p.parts ++ (codes ",\"uuid\":\"" ++ (text_of p.event.0 ++ codes "\"}")))

-- such events after another one
abbrev pub others_text : List EventParts → List ℕ
others_text events = flat_map (λ p. codes "," ++ event_parts_text p) events

-- such events as a list
abbrev pub event_list_text : List EventParts → List ℕ
event_list_text [] = codes "[]"
event_list_text (p ∷ events) =
    codes "[" ++ (event_parts_text p ++ (others_text events ++ codes "]"))
