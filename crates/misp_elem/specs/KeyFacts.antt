-- What one key says.
use Rattle.std.specs.Prelude.{ℕ, Bool, true, false}
use Rattle.misp_ids.specs.declared.uid.EventId.{EventId}
use Rattle.misp_elem.specs.declared.key.Place.{Place}
use Rattle.misp_elem.specs.declared.key.Place.TheVariants.{Event, Object, Attribute, ObjectAttribute}
use Rattle.misp_elem.specs.declared.key.KeyForm.{KeyForm}
use Rattle.misp_elem.specs.declared.key.KeyForm.TheVariants.{Element, Reference, Proposal, Verdict, Sighting}

-- proposals, verdicts and sightings are statements
unfoldable pub is_statement : KeyForm → Bool
is_statement (Element e p) = false
is_statement (Reference e x t u) = false
is_statement (Proposal e n) = true
is_statement (Verdict e n i o) = true
is_statement (Sighting e t i o u) = true

-- the number of what stands at a place of an event
unfoldable pub uuid_at : EventId → Place → ℕ
uuid_at e Event = e.0.0
uuid_at e (Object x) = x.0.0
uuid_at e (Attribute a) = a.0.0
uuid_at e (ObjectAttribute x a) = a.0.0
