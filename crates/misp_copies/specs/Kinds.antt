-- Kinds of keys.
use Rattle.std.specs.Prelude.{Bool, true, false}
use Rattle.misp_model.specs.Prelude.{Element, Event, Key, Object}

-- the key is that of an event or of an object
unfoldable pub is_upper : Key → Bool
is_upper (Element e Event) = true
is_upper (Element e (Object x)) = true
is_upper _ = false

-- the key is that of a reference or of a statement, and so has a target
unfoldable pub is_link : Key → Bool
is_link (Element e p) = false
is_link _ = true
