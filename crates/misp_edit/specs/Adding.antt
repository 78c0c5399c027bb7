-- Adding an event: what the caller has, brings and is refused.
use Rattle.std.specs.Prelude.{◌≡◌, ℕ, Bool, eqb, leb, not, ◌||◌, List, [], ◌∷◌, ◌++◌, map, filter, Option, None, option_map, find}
use Rattle.misp_model.specs.Prelude.{EventId, Label, Row, Rule, Scene, Submission, change_rules, first_rule, in_order, is_taken, is_usable, list_any, uuid_at}
use Rattle.misp_model.specs.declared.change.Change.TheVariants.{AddEvent}
use Rattle.misp_model.specs.Adding.{event_written, has_target}
use Rattle.misp_history.specs.History.{fresh_row}

-- the rule that refuses to add the event, if there is one
abbrev pub refusing : Scene → Submission → Option Rule
refusing s b = first_rule (change_rules s (AddEvent b))

-- the uuids of the parts, and of the references that have a target, each with its place
-- in reading order
unfoldable pub numbered_uuids : Scene → Submission → List (ℕ × ℕ)
numbered_uuids s b =
    map (λ d. (d.number, uuid_at b.event d.place)) b.parts
    ++ map (λ r. (r.number, r.uuid.0.0)) (filter (has_target s b) b.references)

-- one place is not after another
abbrev pub is_read_before : ℕ × ℕ → ℕ × ℕ → Bool
is_read_before p q = leb p.0 q.0

-- these uuids in reading order
unfoldable pub read_uuids : Scene → Submission → List ℕ
read_uuids s b = map (λ p. p.1) (in_order is_read_before (numbered_uuids s b))

-- each of these numbers, with those that stand before it and these others
unfoldable pub with_those_before : List ℕ → List ℕ → List (List ℕ × ℕ)
with_those_before before [] = []
with_those_before before (u ∷ us) = (before, u) ∷ with_those_before (u ∷ before) us

-- the uuid is the event's own, or the own copy has it, or it stands before in the body
unfoldable pub is_clash : Scene → EventId → List ℕ × ℕ → Bool
is_clash s e p = is_taken s e p.1 || list_any (eqb p.1) p.0

-- the first such uuid, in reading order
unfoldable pub first_clash : Scene → Submission → Option ℕ
first_clash s b =
    option_map (λ p. p.1) (find (is_clash s b.event) (with_those_before [] (read_uuids s b)))

-- the labels of a body, the event's before those of the parts
unfoldable pub labels_of : Submission → List Label
labels_of b = b.label ∷ map (λ d. d.label) b.parts

-- the first label that is not usable
unfoldable pub first_unusable : Scene → Submission → Option Label
first_unusable s b = find (λ l. not (is_usable s l)) (labels_of b)

-- no rule refuses, and these are the rows of what is written
abbrev pub Adds : Scene → Submission → List Row → Type 0
Adds s b rows = (refusing s b ≡ None) × (rows ≡ map fresh_row (event_written s b))
