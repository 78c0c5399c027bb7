-- What is written of the small replies.
use Rattle.std.specs.Prelude.{ℕ, codes}
use Rattle.misp_ids.specs.Refusal.{rule_name, rule_number}
use Rattle.misp_format.specs.Prelude.{Data, EventId, Refusal, member, no_members, number_data, object, string, uuid_data}
use Rattle.misp_format.specs.Fields.{count_data}

-- SAVED: how many elements were brought, in which event, and the stamp that they got
unfoldable pub saved_data : ℕ → EventId → ℕ → Data
saved_data elements event stamp = object (
    member (codes "elements") (count_data elements) (
    member (codes "event") (uuid_data event.0) (
    member (codes "timestamp") (number_data stamp)
    no_members)))

-- TAKEN: how many were taken
unfoldable pub taken_data : ℕ → Data
taken_data count = object (member (codes "taken") (count_data count) no_members)

-- REFUSAL: the rule's name and number, and what it says of the place
unfoldable pub refusal_data : Refusal → Data
refusal_data r = object (
    member (codes "name") (string (rule_name r.name)) (
    member (codes "place") (string r.place) (
    member (codes "rule") (count_data (rule_number r.name))
    no_members)))
