-- When two keys are the same.
use Rattle.std.specs.Prelude.{Bool, true, false, ◌&&◌, List, [], ◌∷◌}
use Rattle.misp_ids.specs.Same.{same_elem, same_inst, same_org, same_event}
use Rattle.misp_elem.specs.declared.key.Place.{Place}
use Rattle.misp_elem.specs.declared.key.Place.TheVariants.{Event, Object, Attribute, ObjectAttribute}
use Rattle.misp_elem.specs.declared.key.ProposalName.{ProposalName}
use Rattle.misp_elem.specs.declared.key.KeyForm.{KeyForm as Key}
use Rattle.misp_elem.specs.declared.key.KeyForm.TheVariants.{Element, Reference, Proposal, Verdict, Sighting}

-- two places of one event are the same
unfoldable pub same_place : Place → Place → Bool
same_place Event Event = true
same_place (Object x) (Object y) = same_elem x y
same_place (Attribute a) (Attribute b) = same_elem a b
same_place (ObjectAttribute x a) (ObjectAttribute y b) = same_elem x y && same_elem a b
same_place _ _ = false

-- two proposals are the same
unfoldable pub same_name : ProposalName → ProposalName → Bool
same_name a b =
    same_place a.target b.target && same_inst a.at b.at
    && same_org a.by b.by && same_elem a.uuid b.uuid

-- two keys are the same
unfoldable pub same_key : Key → Key → Bool
same_key (Element e p) (Element f q) = same_event e f && same_place p q
same_key (Reference e x t u) (Reference f y s v) =
    same_event e f && same_elem x y && same_place t s && same_elem u v
same_key (Proposal e n) (Proposal f m) = same_event e f && same_name n m
same_key (Verdict e n i o) (Verdict f m j w) =
    same_event e f && same_name n m && same_inst i j && same_org o w
same_key (Sighting e t i o u) (Sighting f s j w v) =
    same_event e f && same_place t s && same_inst i j && same_org o w && same_elem u v
same_key _ _ = false

-- a key is among these
unfoldable pub is_among : Key → List Key → Bool
is_among k [] = false
is_among k (j ∷ js) = elim (same_key k j) [ true ↦ true | false ↦ is_among k js ]
