-- Reading keys.
use Rattle.std.specs.Prelude.{ℕ, List, [], length, Result, Ok, Err, ◌==◌, if◌then◌else◌}
use Rattle.std.specs.List.{list_any}
use Rattle.misp_elem.specs.declared.key.Place.{Place}
use Rattle.misp_elem.specs.declared.key.Place.TheVariants.{Event, Object, Attribute, ObjectAttribute}
use Rattle.misp_elem.specs.declared.key.ProposalName.{ProposalName}
use Rattle.misp_elem.specs.declared.key.KeyForm.{KeyForm}
use Rattle.misp_elem.specs.declared.key.KeyForm.TheVariants.{Element, Reference, Proposal, Verdict, Sighting}
use Rattle.misp_elem.specs.Key.{of_reference, of_proposal, of_sighting}
use Rattle.misp_elem.specs.Reading.{Reading, ◌>>=◌, ended, byte_at, elem_at, event_at, org_at, inst_at}

-- the place of this kind
abbrev pub place_of : List ℕ → ℕ → List ℕ → Reading Place
place_of bytes kind rest =
    if kind == 0 then Ok (Event, rest)
    else if kind == 1 then (do
      object ← elem_at rest
      Ok (Object object.0, object.1))
    else if kind == 2 then (do
      attribute ← elem_at rest
      Ok (Attribute attribute.0, attribute.1))
    else if kind == 3 then (do
      object ← elem_at rest
      attribute ← elem_at object.1
      Ok (ObjectAttribute object.0 attribute.0, attribute.1))
    else Err (length bytes)

-- a place of none of the barred kinds
unfoldable pub place_at : List ℕ → List ℕ → Reading Place
place_at barred bytes = do
  kind ← byte_at bytes
  if list_any (λ b. b == kind.0) barred then Err (length bytes) else place_of bytes kind.0 kind.1

unfoldable pub proposal_at : List ℕ → Reading ProposalName
proposal_at bytes = do
  target ← place_at of_proposal bytes
  at ← inst_at target.1
  by ← org_at at.1
  uuid ← elem_at by.1
  Ok (record { target = target.0; at = at.0; by = by.0; uuid = uuid.0 }, uuid.1)

unfoldable pub element_at : List ℕ → Reading KeyForm
element_at bytes = do
  event ← event_at bytes
  place ← place_at [] event.1
  Ok (Element event.0 place.0, place.1)

unfoldable pub reference_at : List ℕ → Reading KeyForm
reference_at bytes = do
  event ← event_at bytes
  object ← elem_at event.1
  target ← place_at of_reference object.1
  uuid ← elem_at target.1
  Ok (Reference event.0 object.0 target.0 uuid.0, uuid.1)

unfoldable pub proposed_at : List ℕ → Reading KeyForm
proposed_at bytes = do
  event ← event_at bytes
  name ← proposal_at event.1
  Ok (Proposal event.0 name.0, name.1)

unfoldable pub verdict_at : List ℕ → Reading KeyForm
verdict_at bytes = do
  event ← event_at bytes
  name ← proposal_at event.1
  at ← inst_at name.1
  judge ← org_at at.1
  Ok (Verdict event.0 name.0 at.0 judge.0, judge.1)

unfoldable pub sighting_at : List ℕ → Reading KeyForm
sighting_at bytes = do
  event ← event_at bytes
  target ← place_at of_sighting event.1
  at ← inst_at target.1
  by ← org_at at.1
  uuid ← elem_at by.1
  Ok (Sighting event.0 target.0 at.0 by.0 uuid.0, uuid.1)

-- the key of this kind
abbrev pub key_of_kind : List ℕ → ℕ → List ℕ → Reading KeyForm
key_of_kind bytes kind rest =
    if kind == 0 then element_at rest
    else if kind == 1 then reference_at rest
    else if kind == 2 then proposed_at rest
    else if kind == 3 then verdict_at rest
    else if kind == 4 then sighting_at rest
    else Err (length bytes)

unfoldable pub key_at : List ℕ → Reading KeyForm
key_at bytes = do
  kind ← byte_at bytes
  key_of_kind bytes kind.0 kind.1

unfoldable pub key_of : List ℕ → Result KeyForm ℕ
key_of bytes = key_at bytes >>= λ k. ended k
